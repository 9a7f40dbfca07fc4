-- The texts of a JSON document: what a string stands for, and a name.
use Rattle.std.specs.Prelude.{ℕ, ◌≤◌, List, length, IsUtf8}

-- a text within the limits
abbrev pub IsText : List ℕ → Type 0
IsText content = IsUtf8 content × (length content ≤ 1_048_576)

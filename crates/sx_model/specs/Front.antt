-- A string at the front of a text, whatever follows it.
use Rattle.std.specs.Prelude.{ℕ, ◌≡◌, ◌+◌, List, ◌∷◌, length}
use Rattle.sx_model.specs.Strings.{TextAt}

-- The first bytes of the text, this many, are a string that stands for the content.
abbrev pub IsStringFront : List ℕ → List ℕ → ℕ → Type 0
IsStringFront text content used = (inside : List ℕ) × (left : List ℕ) × (text ≡ 34 ∷ inside) × TextAt inside content left × (used + length left ≡ length text)

abbrev pub NoStringFront : List ℕ → Type 0
NoStringFront text = (content : List ℕ) (used : ℕ) → IsStringFront text content used → ⊥

-- What a line of a script is.
use Rattle.std.specs.Prelude.{ℕ, ◌≡◌, ◌≤◌, ◌<◌, ◌==◌, ◌||◌, ◌⊎◌, Bool, false, IsTrue, if◌then◌else◌, List, [], ◌∷◌, length, Option}
use Rattle.std.specs.List.{list_all}
use Rattle.sx_run.specs.Client.{Asks, whose}
use Rattle.sx_run.specs.Spelling.{SpellsCommand, SpellsFault}
use Rattle.sx_run.specs.declared.line.Command.{Command}
use Rattle.sx_run.specs.declared.line.Line.{Line}
use Rattle.sx_run.specs.declared.line.Line.TheVariants as lines
use Rattle.sx_tree.specs.declared.json_fault.JsonFault.{JsonFault}

-- bytes of a line, without its line feed
abbrev pub line_limit : ℕ
line_limit = 8388608

-- one carriage return before the end is dropped
abbrev pub without_return : List ℕ → List ℕ
without_return [] = []
without_return (byte ∷ []) = if byte == 13 then [] else byte ∷ []
without_return (byte ∷ next ∷ bytes) = byte ∷ without_return (next ∷ bytes)

abbrev pub is_comment : List ℕ → Bool
is_comment [] = false
is_comment (byte ∷ bytes) = byte == 35

-- it is empty, has only spaces and tabs, or begins with `#`
abbrev pub is_skipped : List ℕ → Bool
is_skipped line = is_comment line || list_all (λ byte. byte == 32 || byte == 9) line

-- The text is no command, nor one but for its JSON text.
abbrev pub SpellsNone : Option ℕ → List ℕ → Type 0
SpellsNone client text = ((said : Command) → SpellsCommand client text said → ⊥) × ((fault : JsonFault) → SpellsFault client text fault → ⊥)

-- what a line within the limit, without its carriage return, says
abbrev pub SaysShort : List ℕ → Line → Type 0
SaysShort line lines.Skip = IsTrue (is_skipped line)
SaysShort line (lines.Refused client) =
    (is_skipped line ≡ false) × (named : Option ℕ) × (text : List ℕ) × Asks line named text × (client ≡ whose named) × SpellsNone named text
SaysShort line (lines.BadJson client fault) =
    (named : Option ℕ) × (text : List ℕ) × Asks line named text × (client ≡ whose named) × SpellsFault named text fault
SaysShort line (lines.Command client said) =
    (named : Option ℕ) × (text : List ℕ) × Asks line named text × (client ≡ whose named) × SpellsCommand named text said

-- A line above the limit is no command, and the writer's.
abbrev pub Says : List ℕ → Line → Type 0
Says line said = ((length line ≤ line_limit) × SaysShort (without_return line) said) ⊎ ((line_limit < length line) × (said ≡ lines.Refused 0))

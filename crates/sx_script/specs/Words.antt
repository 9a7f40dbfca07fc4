-- Words of a text, and what a client says by one.
use Rattle.std.specs.Prelude.{ℕ, ℤ, ◌≡◌, ◌==◌, if◌then◌else◌, List, [], ◌∷◌, FitsSigned, Option}
use Rattle.std.specs.Fmt.{signed_decimal}
use Rattle.std.specs.Int.{w64}
use Rattle.sx_run.specs.Client.{whose}
use Rattle.sx_run.specs.Line.{SpellsNone}
use Rattle.sx_run.specs.Spelling.{Heads, HeadsNumbered, HeadsPlace, IsNumbered, SpellsCommand, SpellsFault, place_node, place_word}
use Rattle.sx_run.specs.declared.line.Line.{Line}
use Rattle.sx_run.specs.declared.line.Line.TheVariants as lines
use Rattle.sx_tree.specs.declared.edit.Place.{Place}

-- the bytes before the first such byte, all of them where there is none
abbrev pub front_of : ℕ → List ℕ → List ℕ
front_of end [] = []
front_of end (byte ∷ bytes) = if byte == end then [] else byte ∷ front_of end bytes

-- a number, a space, and the rest
abbrev pub BeginsNumbered : List ℕ → ℕ → List ℕ → Type 0
BeginsNumbered bytes n rest = (number : List ℕ) × IsNumbered number n × Heads bytes number rest

-- a place, a space, and the rest
abbrev pub BeginsPlace : List ℕ → Place → List ℕ → Type 0
BeginsPlace bytes place rest = HeadsNumbered bytes (place_word place) (place_node place) rest

-- no number stands behind the word
abbrev pub HeadsNoNumber : List ℕ → List ℕ → Type 0
HeadsNoNumber text word = (n : ℕ) (rest : List ℕ) → HeadsNumbered text word n rest → ⊥

abbrev pub BeginsNoPlace : List ℕ → Type 0
BeginsNoPlace bytes = (place : Place) (rest : List ℕ) → BeginsPlace bytes place rest → ⊥

-- no place stands behind the word
abbrev pub HeadsNoPlace : List ℕ → List ℕ → Type 0
HeadsNoPlace text word = (place : Place) (rest : List ℕ) → HeadsPlace text word place rest → ⊥

abbrev pub IsNoMoment : List ℕ → Type 0
IsNoMoment digits = (t : ℤ) → FitsSigned w64 t → digits ≡ signed_decimal t → ⊥

-- what the client says by the text behind its name
abbrev pub SaysText : Option ℕ → List ℕ → Line → Type 0
SaysText named text lines.Skip = ⊥
SaysText named text (lines.Refused client) = (client ≡ whose named) × SpellsNone named text
SaysText named text (lines.BadJson client fault) = (client ≡ whose named) × SpellsFault named text fault
SaysText named text (lines.Command client said) = (client ≡ whose named) × SpellsCommand named text said

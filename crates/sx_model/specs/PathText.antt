-- How a text spells the steps of a path.
use Rattle.std.specs.Prelude.{ℕ, ◌≡◌, ◌≤◌, ◌⊎◌, List, [], ◌∷◌, ◌++◌, length}
use Rattle.sx_tree.specs.declared.steps.PathStep.{PathStep}
use Rattle.sx_tree.specs.declared.steps.PathStep.TheVariants.{Name, Item, Anywhere}
use Rattle.sx_tree.specs.Text.{IsText}
use Rattle.sx_model.specs.Strings.{TextAt}

-- an ASCII letter or _
abbrev pub IsLetter : ℕ → Type 0
IsLetter byte = ((65 ≤ byte) × (byte ≤ 90)) ⊎ ((97 ≤ byte) × (byte ≤ 122)) ⊎ (byte ≡ 95)

-- an ASCII letter, a digit, _ or -
abbrev pub IsWordByte : ℕ → Type 0
IsWordByte byte = IsLetter byte ⊎ ((48 ≤ byte) × (byte ≤ 57)) ⊎ (byte ≡ 45)

abbrev pub AreWordBytes : List ℕ → Type 0
AreWordBytes [] = Unit {0}
AreWordBytes (byte ∷ bytes) = IsWordByte byte × AreWordBytes bytes

-- a word, which begins with a letter or _
abbrev pub IsWord : List ℕ → Type 0
IsWord [] = ⊥
IsWord (byte ∷ bytes) = IsLetter byte × AreWordBytes bytes

-- a word begins with these bytes
abbrev pub BeginsWord : List ℕ → Type 0
BeginsWord [] = ⊥
BeginsWord (byte ∷ bytes) = IsLetter byte

-- no word goes on with these bytes
abbrev pub EndsWord : List ℕ → Type 0
EndsWord [] = Unit {0}
EndsWord (byte ∷ bytes) = IsWordByte byte → ⊥

-- a whole word at the front of the bytes, and what is left behind it
abbrev pub WordAt : List ℕ → List ℕ → List ℕ → Type 0
WordAt bytes name left = IsWord name × IsText name × EndsWord left × (bytes ≡ name ++ left)

-- a JSON string at the front of the bytes (RFC 8259, section 7), what it stands for, and what is left behind it
abbrev pub QuotedAt : List ℕ → List ℕ → List ℕ → Type 0
QuotedAt bytes name left = (inside : List ℕ) × (bytes ≡ 34 ∷ inside) × TextAt inside name left

-- a name as a word or as a string
abbrev pub NameAt : List ℕ → List ℕ → List ℕ → Type 0
NameAt bytes name left = WordAt bytes name left ⊎ QuotedAt bytes name left

-- `/NAME`, `[]` or `//NAME` at the front of the bytes
abbrev pub StepAt : List ℕ → PathStep → List ℕ → Type 0
StepAt bytes (Name name) left = (rest : List ℕ) × (bytes ≡ 47 ∷ rest) × NameAt rest name left
StepAt bytes Item left = bytes ≡ 91 ∷ 93 ∷ left
StepAt bytes (Anywhere name) left = (rest : List ℕ) × (bytes ≡ 47 ∷ 47 ∷ rest) × NameAt rest name left

-- these steps and nothing else, with no space between them
abbrev pub SpellsSteps : List ℕ → List PathStep → Type 0
SpellsSteps bytes [] = bytes ≡ []
SpellsSteps bytes (step ∷ steps) = (left : List ℕ) × StepAt bytes step left × SpellsSteps left steps

-- `.`, or 1 to 256 steps, with or without a `.` before them
abbrev pub SpellsPath : List ℕ → List PathStep → Type 0
SpellsPath text steps =
    ((length steps ≤ 256) × ((rest : List ℕ) × (text ≡ 46 ∷ rest) × SpellsSteps rest steps))
    ⊎ ((1 ≤ length steps) × (length steps ≤ 256) × SpellsSteps text steps)

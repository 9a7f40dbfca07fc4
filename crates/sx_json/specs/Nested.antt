-- What stands in an array or an object, step by step: for the reader's own functions.
use Rattle.std.specs.Prelude.{ℕ, ◌≡◌, ◌<◌, ◌⊎◌, List, [], ◌∷◌, length, Contains, IsUtf8}
use Rattle.sx_model.specs.Grammar.{BeginsOther}
use Rattle.sx_model.specs.StringFaults.{unexpected}
use Rattle.sx_model.specs.Faults.{Next, NewName, WholeAt, ElementsFault, MembersFault, ValueFault}
use Rattle.sx_tree.specs.declared.json_fault.JsonFault.{JsonFault}
use Rattle.sx_tree.specs.declared.json_fault.JsonFault.TheVariants.{DuplicateName}
use Rattle.sx_tree.specs.Value.{Value}
use Rattle.sx_model.specs.Strings.{TextAt}
use Rattle.sx_json.specs.Reading.{GoesOn}
use Rattle.sx_json.specs.declared.reader.Step.{Step}
use Rattle.sx_json.specs.declared.reader.Step.TheVariants.{More, Closed}

-- This byte, white space about it, and these bytes.
abbrev pub MarkThen : ℕ → List ℕ → List ℕ → Type 0
MarkThen mark bytes next = Next (λ b. (rest : List ℕ) × (b ≡ mark ∷ rest) × Next (λ d. d ≡ next) rest) bytes

-- The closing byte behind white space, and these bytes.
abbrev pub CloseThen : ℕ → List ℕ → List ℕ → Type 0
CloseThen closing bytes left = Next (λ b. b ≡ closing ∷ left) bytes

abbrev pub IsStep : ℕ → List ℕ → Step → Type 0
IsStep closing bytes (More next) = MarkThen 44 bytes next.now × IsUtf8 next.now × (length next.now < length bytes)
IsStep closing bytes (Closed left) = CloseThen closing bytes left.now × GoesOn bytes left.now

-- Neither a comma nor the closing byte.
abbrev pub NoStep : ℕ → ℕ → List ℕ → JsonFault → Type 0
NoStep end closing bytes f = Next (λ b. BeginsOther 44 b × BeginsOther closing b × (f ≡ unexpected end b)) bytes

-- A name between its quotes, and these bytes.
abbrev pub QuotedAt : List ℕ → List ℕ → List ℕ → Type 0
QuotedAt name bytes after = (inside : List ℕ) × (bytes ≡ 34 ∷ inside) × TextAt inside name after

abbrev pub NoColon : ℕ → List ℕ → JsonFault → Type 0
NoColon end bytes f = Next (λ b. BeginsOther 58 b × (f ≡ unexpected end b)) bytes

-- The value of a member behind its name.
abbrev pub MemberAt : Value → ℕ → List ℕ → List ℕ → Type 0
MemberAt v room bytes after = (rest : List ℕ) × MarkThen 58 bytes rest × WholeAt v room rest after

abbrev pub BehindNameFault : ℕ → ℕ → List ℕ → JsonFault → Type 0
BehindNameFault end room bytes f = NoColon end bytes f ⊎ ((rest : List ℕ) × MarkThen 58 bytes rest × ValueFault end room rest f)

-- The name that stands at this place is one of these.
abbrev pub IsTaken : List (List ℕ) → List ℕ → ℕ → JsonFault → Type 0
IsTaken names name at f = Contains names name × (f ≡ DuplicateName at)

-- The name is one of these, or the fault is the one that was found behind it.
abbrev pub IsFirstFault : List (List ℕ) → List ℕ → ℕ → JsonFault → JsonFault → Type 0
IsFirstFault names name at found f = IsTaken names name at f ⊎ ((Contains names name → ⊥) × (f ≡ found))

-- A name that is none of these, its colon, and these bytes.
abbrev pub IsName : List (List ℕ) → List ℕ → List ℕ → List ℕ → Type 0
IsName names name bytes rest = NewName names name (λ d. d ≡ rest) bytes

-- behind the opening bracket of an array
abbrev pub ArrayFault : ℕ → ℕ → List ℕ → JsonFault → Type 0
ArrayFault end room bytes f = (count : ℕ) × Next (λ b. BeginsOther 93 b × ElementsFault end room (ValueFault end room) count b f) bytes

-- behind the opening brace of an object
abbrev pub ObjectFault : ℕ → ℕ → List ℕ → JsonFault → Type 0
ObjectFault end room bytes f = (count : ℕ) × Next (λ b. BeginsOther 125 b × MembersFault end room (ValueFault end room) count [] b f) bytes

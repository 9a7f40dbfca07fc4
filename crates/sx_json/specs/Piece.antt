-- How a string goes on, by a run of bytes that stand for themselves and by one piece.
use Rattle.std.specs.Prelude.{ℕ, ◌≡◌, ◌<◌, ◌≤◌, List, [], ◌∷◌, ◌++◌, length}
use Rattle.sx_model.specs.Strings.{IsPlain}
use Rattle.sx_model.specs.StringFaults.{PieceAt}
use Rattle.sx_tree.specs.declared.json_fault.JsonFault.{JsonFault}
use Rattle.sx_tree.specs.declared.json_fault.JsonFault.TheVariants.{StringTooLong}
use Rattle.sx_json.specs.declared.strings.Piece.{Piece}
use Rattle.sx_json.specs.declared.strings.Piece.TheVariants.{Closed, More}

abbrev pub ArePlain : List ℕ → Type 0
ArePlain [] = Unit {0}
ArePlain (byte ∷ bytes) = IsPlain byte × ArePlain bytes

-- The run is added to the content, within the limit.
abbrev pub IsRun : List ℕ → List ℕ → List ℕ → List ℕ → Type 0
IsRun bytes old new left = (run : List ℕ) × ArePlain run × (bytes ≡ run ++ left) × (new ≡ old ++ run) × (length new ≤ 1_048_576)

abbrev pub IsPiece : List ℕ → List ℕ → List ℕ → Piece → Type 0
IsPiece bytes old new (Closed after) = (new ≡ old) × (bytes ≡ 34 ∷ after.now)
IsPiece bytes old new (More after) = (begun : List ℕ) × (new ≡ old ++ begun) × PieceAt bytes begun after.now × (length after.now < length bytes)

-- The content of the string whose opening quote stands at `start` is above the limit.
abbrev pub IsTooLong : ℕ → List ℕ → JsonFault → Type 0
IsTooLong start content f = (f ≡ StringTooLong start) × (1_048_576 < length content)

-- The way from a path up to the document, over records of paths, and the text of a path.
use Rattle.std.specs.Prelude.{ℕ, ◌≡◌, ◌+◌, ◌≤◌, ◌⊎◌, Bool, true, false, List, [], ◌∷◌, ◌++◌, length, Option, None, Some, is_some, option_map, IfSome}
use Rattle.std.specs.FinMap as fin
use Rattle.sx_bytes.specs.declared.damage.Damage.{Damage}
use Rattle.sx_tree.specs.declared.record.PathRecord.{PathRecord}
use Rattle.sx_tree.specs.declared.record.Step.{Step}
use Rattle.sx_model.specs.Records.{PathRow}
use Rattle.sx_model.specs.State.{State}
use Rattle.sx_model.specs.WrittenPath.{path_text_of}
use Rattle.sx_view.specs.Records.{RecordMap}
use Rattle.sx_paths.specs.Load.{IsBrokenPath}
use Rattle.sx_paths.specs.OfState.{ShowsPaths, path_at}
use Rattle.sx_paths.specs.Table.{row_of}

-- These are the last steps of the path of one number: the first of them is its own last step, and so on from parent to
-- parent, up to the path of the other number.
abbrev pub Climbs : RecordMap PathRecord → ℕ → List Step → ℕ → Type 0
Climbs records from [] to = from ≡ to
Climbs records from (step ∷ steps) to =
    (row : PathRow)
    × ((option_map row_of (fin.get records from) ≡ Some row) × (row.step ≡ step) × Climbs records row.parent steps to)

-- True: the steps lead up to the document, and behind what was there before stands the text of the path that they are.
-- False: there is no such path, and nothing is written.
abbrev pub IsWritten : RecordMap PathRecord → ℕ → List ℕ → List ℕ → Bool → Type 0
IsWritten records p before after true =
    (path : List Step) × ((1 ≤ p) × Climbs records p path 0 × (after ≡ before ++ path_text_of path))
IsWritten records p before after false = ((p ≡ 0) ⊎ (fin.get records p ≡ None)) × (after ≡ before)

-- there is the path of this number, and these are its last steps, behind the path of the other one
abbrev pub ClimbsFrom : Option (RecordMap PathRecord) → ℕ → List Step → ℕ → Type 0
ClimbsFrom o p steps to = IfSome o (λ records. (is_some (fin.get records p) ≡ true) × Climbs records p steps to)

-- a path that is broken, on the way up from the one of this number
abbrev pub HasBrokenAbove : Option (RecordMap PathRecord) → ℕ → Damage → Type 0
HasBrokenAbove o p damage =
    (at : ℕ) × ((steps : List Step) × (ClimbsFrom o p steps at × (1 ≤ at) × IsBrokenPath o at damage))

-- ---- over the records of a state

-- True: there is the path of this number, and behind what was there before stands its text. False: there is none.
abbrev pub Answers : List (List Step) → ℕ → List ℕ → List ℕ → Bool → Type 0
Answers listed p before after true =
    (path : List Step) × ((path_at listed p ≡ Some path) × (after ≡ before ++ path_text_of path))
Answers listed p before after false = (path_at listed p ≡ None) × (after ≡ before)

-- The same of each state whose records these are.
unfoldable pub IsPathText : Option (RecordMap PathRecord) → ℕ → List ℕ → List ℕ → Bool → Type 0
IsPathText o p before after there = (state : State) → ShowsPaths state o → Answers state.paths p before after there

-- Over the records of a state, where there is this path, each path on the way up from it was read once.
unfoldable pub ReadsOnce : Option (RecordMap PathRecord) → ℕ → ℕ → ℕ → Type 0
ReadsOnce o p old new =
    (state : State) → ShowsPaths state o → (path : List Step) → path_at state.paths p ≡ Some path → new ≤ old + length path

-- Records of paths that are those of a state, and the table of them.
use Rattle.std.specs.Prelude.{ℕ, zero, suc, ◌≡◌, ◌≤◌, List, length, slice_get, Option, None, Some, option_map}
use Rattle.std.specs.FinMap as fin
use Rattle.sx_tree.specs.declared.record.PathRecord.{PathRecord}
use Rattle.sx_tree.specs.declared.record.Step.{Step}
use Rattle.sx_model.specs.Paths.{count_on}
use Rattle.sx_model.specs.Records.{PathRow, entry}
use Rattle.sx_model.specs.State.{State}
use Rattle.sx_view.specs.Records.{RecordMap}
use Rattle.sx_paths.specs.Listed.{AreListed, rows_of_paths}
use Rattle.sx_paths.specs.Table.{row_of}

-- the records are told, and show the entries of this state and no others
abbrev pub HoldsPaths : Option (RecordMap PathRecord) → State → Type 0
HoldsPaths None state = ⊥
HoldsPaths (Some records) state = (p : ℕ) → option_map row_of (fin.get records p) ≡ entry state p

-- The records are those of the paths of this state, which are listed each behind the one from which it goes on.
pub record ShowsPaths (state : State) (o : Option (RecordMap PathRecord)) : Type 0 where
  pub holds : HoldsPaths o state
  pub listed : AreListed state.paths

-- The records are those of no state that has so many paths.
unfoldable pub AreNoPaths : Option (RecordMap PathRecord) → ℕ → Type 0
AreNoPaths o count = (state : State) → ShowsPaths state o → count ≤ length state.paths → ⊥

-- the rows of all paths of a state
abbrev pub path_rows : State → List PathRow
path_rows state = rows_of_paths (λ path. count_on path state.trees) state.paths

-- These are the rows of each state whose records these are, where so many paths are all.
unfoldable pub AreRows : Option (RecordMap PathRecord) → ℕ → List PathRow → Type 0
AreRows o count rows = (state : State) → ShowsPaths state o → count ≡ length state.paths → rows ≡ path_rows state

-- the path of this number, where there is one
abbrev pub path_at : List (List Step) → ℕ → Option (List Step)
path_at listed zero = None
path_at listed (suc place) = slice_get listed place

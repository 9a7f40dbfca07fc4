-- What an edit answers over the records of a state, with its table of paths.
use Rattle.std.specs.Prelude.{◌≡◌, ℕ, ◌+◌, ◌≤◌, ◌<◌, All, List, Option, Some, Result, Ok, Err, length}
use Rattle.sx_tree.specs.declared.edit.Edited.{Edited}
use Rattle.sx_tree.specs.declared.record.NodeRecord.{NodeRecord}
use Rattle.sx_view.specs.Records.{RecordMap}
use Rattle.sx_model.specs.Edit.{Edit, apply, told_of}
use Rattle.sx_model.specs.Paths.{count_on, number_of, paths_in}
use Rattle.sx_model.specs.Records.{PathRow}
use Rattle.sx_model.specs.State.{State}
use Rattle.sx_model.specs.Tree.{IsWellFormed, Spot, numbers, size, spot}
use Rattle.sx_edit.specs.declared.fault.EditFault.{EditFault}
use Rattle.sx_edit.specs.declared.fault.EditFault.TheVariants.{Refused, Failed, Damaged, OutOfMemory}
use Rattle.sx_edit.specs.Told.{Holds}
use Rattle.sx_edit.specs.Edited.{rows_in}
use Rattle.sx_edit.specs.Pathways.{HasAll, Kept, Lists}

-- The records are those of the state, whose next new node takes this number. Its document is well formed, its numbers are below
-- the next one, and so are there no more nodes than that.
pub record AreOf (state : State) (next : ℕ) (records : Option (RecordMap NodeRecord)) : Type 0 where
  pub holds : Holds records (rows_in (number_of state.paths) state.trees)
  pub next_is : state.next ≡ next
  pub well_formed : IsWellFormed state.trees
  pub below_next : All (λ k. k < next) (numbers state.trees)
  pub few : size state.trees ≤ next

-- The table is that of the state, which lists each path on which a value stands, and no more paths than there may be.
pub record IsTableOf (state : State) (table : List PathRow) : Type 0 where
  pub lists : Lists table state.paths (λ path. count_on path state.trees)
  pub listed : HasAll state.paths (paths_in state.trees)

-- Over the records and the table of the state the answer is that of the state: its refusal, or else they are those of the new state.
abbrev pub Answers : Edit → State → Kept → Result Edited EditFault → Type 0
Answers edit state after (Ok edited) =
    (new : State) × (apply edit state ≡ Ok new) × (edited ≡ told_of edit state new)
    × Holds after.told (rows_in (number_of new.paths) new.trees) × IsTableOf new after.table
Answers edit state after (Err (Refused refusal)) = apply edit state ≡ Err refusal
Answers edit state after (Err Failed) = Unit {0}
Answers edit state after (Err (Damaged damage)) = ⊥
Answers edit state after (Err OutOfMemory) = Unit {0}

-- The same of every state whose records and table these were.
unfoldable pub AnswersEach : Edit → ℕ → Kept → Kept → Result Edited EditFault → Type 0
AnswersEach edit next before after result =
    (state : State) → AreOf state next before.told → IsTableOf state before.table → Answers edit state after result

-- Over the records of a state so many gets were made at most: one of the node, and one of each node above it.
unfoldable pub GetsFew : ℕ → ℕ → Option (RecordMap NodeRecord) → ℕ → ℕ → Type 0
GetsFew k next before old new = (state : State) → AreOf state next before → (q : Spot) → spot k state.trees ≡ Some q → new ≤ old + (length q.above + 1)

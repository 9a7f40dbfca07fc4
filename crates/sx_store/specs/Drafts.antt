-- A draft that is made of a revision.
use Rattle.std.specs.Prelude.{◌≡◌, ◌≤◌, length, Result, Ok, Err, Some}
use Rattle.sx_edit.specs.Answers.{AreOf, IsTableOf}
use Rattle.sx_edit.specs.Edited.{rows_in}
use Rattle.sx_edit.specs.Told.{Holds}
use Rattle.sx_edit.specs.declared.fault.EditFault.{EditFault}
use Rattle.sx_edit.specs.declared.fault.EditFault.TheVariants as edits
use Rattle.sx_model.specs.Edit.{Edit, apply, told_of}
use Rattle.sx_tree.specs.declared.edit.Edited.{Edited}
use Rattle.sx_edit.specs.Pathways.{HasAll}
use Rattle.sx_model.specs.Paths.{number_of, paths_in}
use Rattle.sx_model.specs.Sound.{IsSound}
use Rattle.sx_model.specs.State.{State}
use Rattle.sx_model.specs.Tree.{size}
use Rattle.sx_paths.specs.Listed.{AreListed}
use Rattle.sx_root.specs.declared.root.RevisionRoot.{RevisionRoot}
use Rattle.sx_store.specs.Shows.{records_of}
use Rattle.sx_store.specs.declared.draft.Draft.{Draft}
use Rattle.sx_view.specs.declared.fault.Fault.{Fault}
use Rattle.sx_view.specs.declared.fault.Fault.TheVariants.{Failed, Damaged, OutOfMemory}

-- a state to which accepted edits lead
pub record IsReached (state : State) : Type 0 where
  pub sound : IsSound state
  pub few : size state.trees ≤ state.next
  pub listed : AreListed state.paths
  pub all : HasAll state.paths (paths_in state.trees)

-- the root has the numbers of the state
pub record IsRootOf (state : State) (root : RevisionRoot) : Type 0 where
  pub reached : IsReached state
  pub next : root.next ≡ state.next
  pub nodes : root.nodes ≡ size state.trees
  pub paths : root.paths ≡ length state.paths

-- the draft is the state's document
pub record ShowsDraft (state : State) (draft : Draft) : Type 0 where
  pub records : AreOf state draft.next (Some (records_of draft))
  pub table : IsTableOf state draft.paths.paths

abbrev pub GivesDraft : State → Result Draft Fault → Type 0
GivesDraft state (Ok draft) = ShowsDraft state draft
GivesDraft state (Err Failed) = Unit {0}
GivesDraft state (Err (Damaged damage)) = ⊥
GivesDraft state (Err OutOfMemory) = Unit {0}

-- An accepted edit makes the draft that of the new state. A refused one has its refusal, and damage is told of no state.
abbrev pub AnswersDraft : Edit → State → Draft → Result Edited EditFault → Type 0
AnswersDraft edit state draft (Ok edited) =
    (after : State) × (apply edit state ≡ Ok after) × (edited ≡ told_of edit state after) × (draft.next ≡ edited.next)
    × Holds (Some (records_of draft)) (rows_in (number_of after.paths) after.trees) × IsTableOf after draft.paths.paths
AnswersDraft edit state draft (Err (edits.Refused refusal)) = apply edit state ≡ Err refusal
AnswersDraft edit state draft (Err edits.Failed) = Unit {0}
AnswersDraft edit state draft (Err (edits.Damaged damage)) = ⊥
AnswersDraft edit state draft (Err edits.OutOfMemory) = Unit {0}

-- What a selection answers over the records of a document.
use Rattle.std.specs.Prelude.{◌≡◌, ◌+◌, ◌≤◌, ℕ, List, Option}
use Rattle.sx_tree.specs.declared.record.Kind.{Kind}
use Rattle.sx_tree.specs.declared.record.NodeRecord.{NodeRecord}
use Rattle.sx_tree.specs.declared.record.Step.{Step}
use Rattle.sx_tree.specs.declared.steps.PathStep.{PathStep}
use Rattle.sx_view.specs.Records.{RecordMap}
use Rattle.sx_model.specs.Selection.{selected}
use Rattle.sx_model.specs.Tree.{Forest, size}
use Rattle.sx_cursor.specs.Told.{Shows}

-- These are the nodes that the steps select in each document whose records these are.
unfoldable pub Selects : Option (RecordMap NodeRecord) → List PathStep → List ℕ → Type 0
Selects o steps listed = (local : Kind → List ℕ → ℕ) (number : List Step → ℕ) (trees : Forest) → Shows local number trees o → listed ≡ selected steps trees

-- Over the records of a document, no node was visited twice.
unfoldable pub VisitsEachOnce : Option (RecordMap NodeRecord) → ℕ → ℕ → Type 0
VisitsEachOnce o old new = (local : Kind → List ℕ → ℕ) (number : List Step → ℕ) (trees : Forest) → Shows local number trees o → new ≤ old + size trees

-- What a walk along an axis lists of the documents whose records it reads.
use Rattle.std.specs.Prelude.{◌≡◌, ℕ, List, Option, Some}
use Rattle.sx_tree.specs.declared.query.Axis.{Axis}
use Rattle.sx_tree.specs.declared.record.Kind.{Kind}
use Rattle.sx_tree.specs.declared.record.NodeRecord.{NodeRecord}
use Rattle.sx_tree.specs.declared.record.Step.{Step}
use Rattle.sx_view.specs.Records.{RecordMap}
use Rattle.sx_model.specs.Axes.{axis}
use Rattle.sx_model.specs.Tree.{Forest}
use Rattle.sx_cursor.specs.Told.{Shows}

-- These are the numbers on the axis of the node in each document whose records these are.
unfoldable pub AreOnAxis : Option (RecordMap NodeRecord) → Axis → ℕ → List ℕ → Type 0
AreOnAxis o a k found =
    (local : Kind → List ℕ → ℕ) (number : List Step → ℕ) (trees : Forest) → Shows local number trees o → axis a k trees ≡ Some found

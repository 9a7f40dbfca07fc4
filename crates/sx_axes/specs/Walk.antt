-- What walks list of the documents whose records they read, and what each step leaves.
use Rattle.std.specs.Prelude.{◌≡◌, ◌+◌, ◌≤◌, ◌<◌, ℕ, List, Option, None, Some, Result}
use Rattle.sx_outside.specs.Faults.{Rose}
use Rattle.sx_tree.specs.declared.query.Axis.{Axis}
use Rattle.sx_tree.specs.declared.query.Axis.TheVariants.{Ancestor}
use Rattle.sx_tree.specs.declared.record.Kind.{Kind}
use Rattle.sx_tree.specs.declared.record.NodeRecord.{NodeRecord}
use Rattle.sx_tree.specs.declared.record.Step.{Step}
use Rattle.sx_view.specs.Records.{Explains, RecordMap}
use Rattle.sx_view.specs.declared.fault.Fault.{Fault}
use Rattle.sx_view.specs.declared.records.Records.{Ghosts}
use Rattle.sx_model.specs.Axes.{axis}
use Rattle.sx_model.specs.Tree.{Forest, size}
use Rattle.sx_cursor.specs.Told.{Shows}
use Rattle.sx_axes.specs.Broken.{IsBroken}
use Rattle.sx_axes.specs.Course.{HasEnded, IsLeft, reads_left, visits_on}
use Rattle.sx_axes.specs.Gives.{Gives, IfFault}
use Rattle.sx_axes.specs.declared.course.Course.{Course}

-- The numbers on the axis of the node are left of the course, and take a visit each, with those above the node where the axis goes
-- by them: fewer than the document has nodes.
pub record HasAxis (m : RecordMap NodeRecord) (a : Axis) (k : ℕ) (trees : Forest) (course : Course) : Type 0 where
  pub listed : List ℕ
  pub above : List ℕ
  pub listed_are : axis a k trees ≡ Some listed
  pub above_are : axis Ancestor k trees ≡ Some above
  pub left : IsLeft m course listed (visits_on a listed above)
  pub few : visits_on a listed above < size trees

-- The same of each document whose records these are.
unfoldable pub Starts : Option (RecordMap NodeRecord) → Axis → ℕ → Course → Type 0
Starts o a k course =
    (m : RecordMap NodeRecord) → o ≡ Some m → (local : Kind → List ℕ → ℕ) (number : List Step → ℕ) (trees : Forest) → Shows local number trees o → HasAxis m a k trees course

-- No document whose records these are has the node.
unfoldable pub HasNoAxis : Option (RecordMap NodeRecord) → Axis → ℕ → Type 0
HasNoAxis o a k = (local : Kind → List ℕ → ℕ) (number : List Step → ℕ) (trees : Forest) → Shows local number trees o → axis a k trees ≡ None

-- A step of a walk over records, from one course to another. Faults have their causes; no more is read than the visits that it takes may take.
pub record Walks {N : Type 0} (g : Ghosts N NodeRecord) (old new : N) (from : Course) (given : Option (Result ℕ Fault)) (to : Course) : Type 0 where
  pub gives : Gives (g.told old) from given to
  pub fault : IfFault (Explains (g.damages old) (Rose (g.faults old) (g.faults new)) (IsBroken (g.told old) from.count)) given
  pub ended : HasEnded from → given ≡ None
  pub count : to.count ≡ from.count
  pub keeps : g.keeps old new
  pub never_falls : g.faults old ≤ g.faults new
  pub reads : g.gets new + reads_left to ≤ g.gets old + reads_left from

-- Rules that records of nodes break where a walk reads them.
use Rattle.std.specs.Prelude.{◌≡◌, ◌+◌, ◌≤◌, ◌⊎◌, ℕ, Option, Some}
use Rattle.sx_bytes.specs.declared.damage.Damage.{Damage}
use Rattle.sx_tree.specs.declared.record.NodeRecord.{NodeRecord}
use Rattle.sx_view.specs.Records.{RecordMap}
use Rattle.sx_model.specs.Records.{NodeRow}
use Rattle.sx_cursor.specs.Damage.{IsBrokenLink, endless}
use Rattle.sx_cursor.specs.Told.{Tells}
use Rattle.sx_axes.specs.declared.course.Course.{Course}

-- a link of this row leads to the node
abbrev pub HasLink : NodeRow → ℕ → Type 0
HasLink w to = (w.parent ≡ Some to) ⊎ ((w.left ≡ Some to) ⊎ ((w.right ≡ Some to) ⊎ ((w.first ≡ Some to) ⊎ (w.last ≡ Some to))))

-- the records tell of the first node a link that leads to the second
abbrev pub LeadsTo : Option (RecordMap NodeRecord) → ℕ → ℕ → Type 0
LeadsTo o from to = (w : NodeRow) × (Tells o from (Some w) × HasLink w to)

-- what is told breaks one of the rules: a link leads to a node that has no record, or links lead on after so many nodes
abbrev pub IsBroken : Option (RecordMap NodeRecord) → ℕ → Damage → Type 0
IsBroken o count damage = ((from : ℕ) × ((to : ℕ) × (LeadsTo o from to × IsBrokenLink o from to damage))) ⊎ (damage ≡ endless count)

-- A walk may go on: the links along which it goes are those of a node that is told, and there is room for its counts.
pub record IsReady (o : Option (RecordMap NodeRecord)) (course : Course) : Type 0 where
  pub room : course.levels + course.left ≤ course.count
  pub next : (to : ℕ) → course.next ≡ Some to → LeadsTo o course.from to
  pub up : (to : ℕ) → course.up ≡ Some to → LeadsTo o course.from to

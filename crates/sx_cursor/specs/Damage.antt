-- The rules that records of nodes keep, and what tells of one that is broken.
use Rattle.std.specs.Prelude.{ℕ, ◌≡◌, ◌+◌, ◌≤◌, ◌⊎◌, Option, None, Some}
use Rattle.sx_bytes.specs.Damage.{number_damage}
use Rattle.sx_bytes.specs.declared.damage.Damage.{Damage}
use Rattle.sx_outside.specs.Faults.{Rose}
use Rattle.sx_tree.specs.declared.record.Kind.TheVariants.{Key}
use Rattle.sx_tree.specs.declared.record.NodeRecord.{NodeRecord}
use Rattle.sx_view.specs.Records.{ExplainsFault, RecordMap}
use Rattle.sx_view.specs.declared.fault.Fault.{Fault}
use Rattle.sx_view.specs.declared.fault.Fault.TheVariants.{Failed, Damaged, OutOfMemory}
use Rattle.sx_view.specs.declared.records.Records.{Ghosts}
use Rattle.sx_model.specs.Records.{NodeRow}
use Rattle.sx_cursor.specs.declared.damage.TheConstants.{BROKEN_LINK, ENDLESS, MISPLACED}
use Rattle.sx_cursor.specs.Told.{Tells}

-- a link from one node to another that has no record
abbrev pub broken_link : ℕ → ℕ → Damage
broken_link from to = number_damage 0 BROKEN_LINK from to

-- links that lead on after so many nodes
abbrev pub endless : ℕ → Damage
endless count = number_damage 0 ENDLESS count (count + 1)

-- a child with the byte of its kind, which cannot stand where it does; or a Key, and 0, since it has no child
abbrev pub misplaced : ℕ → ℕ → Damage
misplaced node byte = number_damage 0 MISPLACED node byte

-- The fault is that of one get of the records, after which they are such: Failed comes only where the faults of the object below rose in it.
pub record IsOfGet {N : Type 0} (g : Ghosts N NodeRecord) (old : N) (fault : Fault) : Type 0 where
  pub after : N
  pub keeps : g.keeps old after
  pub gets : g.gets after ≤ g.gets old + 1
  pub never_falls : g.faults old ≤ g.faults after
  pub cause : ExplainsFault (g.damages old) (Rose (g.faults old) (g.faults after)) fault

-- the node linked to has no record
abbrev pub IsBrokenLink : Option (RecordMap NodeRecord) → ℕ → ℕ → Damage → Type 0
IsBrokenLink o from to damage = Tells o to None × (damage ≡ broken_link from to)

-- ---- rules that are broken

-- the node has this first child, or this sibling behind it
abbrev pub IsLinked : Option (RecordMap NodeRecord) → ℕ → ℕ → Type 0
IsLinked o from to = (w : NodeRow) × (Tells o from (Some w) × ((w.first ≡ Some to) ⊎ (w.right ≡ Some to)))

-- a link from a node to one that has no record
abbrev pub HasBrokenLink : Option (RecordMap NodeRecord) → Damage → Type 0
HasBrokenLink o damage = (from : ℕ) × ((to : ℕ) × (IsLinked o from to × IsBrokenLink o from to damage))

-- a Key without a child
abbrev pub HasBareKey : Option (RecordMap NodeRecord) → Damage → Type 0
HasBareKey o damage = (k : ℕ) × ((w : NodeRow) × (Tells o k (Some w) × (w.kind ≡ Key) × (w.first ≡ None) × (damage ≡ misplaced k 0)))

-- Where a cursor stands, and what a move leaves.
use Rattle.std.specs.Prelude.{◌≡◌, ℕ, Bool, true, false, List, Option, None, Some}
use Rattle.sx_bytes.specs.declared.damage.Damage.{Damage}
use Rattle.sx_tree.specs.declared.record.Kind.{Kind}
use Rattle.sx_tree.specs.declared.record.NodeRecord.{NodeRecord}
use Rattle.sx_tree.specs.declared.record.Step.{Step}
use Rattle.sx_view.specs.Records.{RecordMap}
use Rattle.sx_view.specs.Rows.{row_of}
use Rattle.sx_model.specs.Records.{NodeRow}
use Rattle.sx_model.specs.Tree.{Forest}
use Rattle.sx_cursor.specs.Damage.{IsBrokenLink}
use Rattle.sx_cursor.specs.Told.{Tells, Shows}

-- a node's number, and its row
pub record Place : Type 0 where
  pub at : ℕ
  pub row : NodeRow

abbrev pub place_of : ℕ → NodeRecord → Place
place_of at r = record { at = at; row = row_of r }

-- the records tell this row of the node
abbrev pub Stands : Option (RecordMap NodeRecord) → Place → Type 0
Stands o place = Tells o place.at (Some place.row)

-- True: the place is the node of this number. False: the records tell of none, and the place is as it was.
abbrev pub IsMovedTo : ℕ → Option (RecordMap NodeRecord) → Place → Place → Bool → Type 0
IsMovedTo k o old new true = (new.at ≡ k) × Stands o new
IsMovedTo k o old new false = Tells o k None × (new ≡ old)

-- The same of the node to which a link leads, where there is such a link.
abbrev pub IsMoved : (NodeRow → Option ℕ) → Option (RecordMap NodeRecord) → Place → Place → Bool → Type 0
IsMoved link o old new true = (link old.row ≡ Some new.at) × Stands o new
IsMoved link o old new false = (link old.row ≡ None) × (new ≡ old)

-- the link leads to a node that has no record
abbrev pub BreaksOff : (NodeRow → Option ℕ) → Option (RecordMap NodeRecord) → Place → Damage → Type 0
BreaksOff link o old damage = (to : ℕ) × ((link old.row ≡ Some to) × IsBrokenLink o old.at to damage)

-- There is no such place in the records of a document.
unfoldable pub IsNoPlace : Option (RecordMap NodeRecord) → Place → Type 0
IsNoPlace o place =
    (local : Kind → List ℕ → ℕ) (number : List Step → ℕ) (trees : Forest) → Shows local number trees o → Stands o place → ⊥

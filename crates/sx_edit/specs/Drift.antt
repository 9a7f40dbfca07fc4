-- How far the table of paths is from that before the edit, and what of a path is known meanwhile.
use Rattle.std.specs.Prelude.{◌≡◌, ℕ, ◌+◌, ◌<◌, ◌≤◌, ◌⊎◌, true, List, Option, None, Some}
use Rattle.sx_tree.specs.declared.record.NodeRecord.{NodeRecord}
use Rattle.sx_view.specs.Records.{RecordMap}
use Rattle.sx_model.specs.Edit.{path_limit}
use Rattle.sx_model.specs.Records.{PathRow}
use Rattle.sx_model.specs.Tree.{is_value}
use Rattle.sx_paths.specs.Table.{row_at}
use Rattle.sx_edit.specs.Damage.{NeedsPathOf, Reach}
use Rattle.sx_edit.specs.Links.{IsNear, IsRecord, times}

-- A row of this number has the parent that it had, at most so many values more, and at most as many fewer as it is among the paths that
-- were left. One that came has its parent before it, no greater number than there may be, and at most so many values.
abbrev pub DriftsAt : ℕ → List ℕ → ℕ → Option PathRow → Option PathRow → Type 0
DriftsAt plus minus number None None = Unit {0}
DriftsAt plus minus number None (Some row) = (row.parent < number) × (number ≤ path_limit) × (row.count ≤ plus)
DriftsAt plus minus number (Some was) None = ⊥
DriftsAt plus minus number (Some was) (Some row) = (row.parent ≡ was.parent) × (row.count ≤ was.count + plus) × (was.count ≤ row.count + times number minus)

-- So it is with each row of the table, and none went.
unfoldable pub Drifts : ℕ → List ℕ → List PathRow → List PathRow → Type 0
Drifts plus minus old new = (number : ℕ) → DriftsAt plus minus number (row_at old number) (row_at new number)

-- the table has a path of this number
abbrev pub IsThere : List PathRow → ℕ → Type 0
IsThere table path = row_at table path ≡ None → ⊥

-- the table has the path, or the node needs it as that of a record
abbrev pub IsKnown : Option (RecordMap NodeRecord) → Reach → ℕ → List PathRow → ℕ → Type 0
IsKnown o reach node table path = IsThere table path ⊎ NeedsPathOf o reach node path

-- what another path stands on: none, or one that is known
abbrev pub IsBase : Option (RecordMap NodeRecord) → Reach → ℕ → List PathRow → ℕ → Type 0
IsBase o reach node table path = (path ≡ 0) ⊎ IsKnown o reach node table path

-- the path is that of the node, or of its parent
abbrev pub IsPathNear : Option (RecordMap NodeRecord) → ℕ → ℕ → Type 0
IsPathNear o node path = (k : ℕ) × ((r : NodeRecord) × (IsRecord o k r × (r.path ≡ path) × IsNear o node k))

-- the path is that of the node, a value
abbrev pub IsPathOn : Option (RecordMap NodeRecord) → ℕ → ℕ → Type 0
IsPathOn o node path = (r : NodeRecord) × (IsRecord o node r × (is_value r.kind ≡ true) × (r.path ≡ path))

-- the table has the path, or it is that of the node that is named
abbrev pub IsKnownOn : Option (RecordMap NodeRecord) → Reach → List PathRow → ℕ → Type 0
IsKnownOn o reach table path = IsThere table path ⊎ IsPathOn o reach.node path

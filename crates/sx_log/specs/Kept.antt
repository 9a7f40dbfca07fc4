-- What is kept in memory of groups.
use Rattle.std.specs.Prelude.{ℕ, ◌≡◌, ◌+◌, ◌*◌, List, [], ◌∷◌}
use Rattle.sx_layout.specs.FrameGroup.{FrameGroup, gate_behind, group_size}
use Rattle.sx_log.specs.declared.log.GroupRow.{GroupRow}
use Rattle.sx_log.specs.declared.log.Groups.{Groups}
use Rattle.sx_log.specs.declared.log.Log.{Log}
use Rattle.sx_root.specs.declared.root.RevisionRoot.{RevisionRoot}

-- the groups of the list
abbrev pub listed : Groups → List GroupRow
listed groups = groups.rows.items

-- the row of a group at this place
abbrev pub row_at : ℕ → FrameGroup → GroupRow
row_at place group = record { root = group.root; place = place; table = group.table }

-- the rows of groups, the first at this place
abbrev pub rows_from : ℕ → List FrameGroup → List GroupRow
rows_from place [] = []
rows_from place (group ∷ groups) = row_at place group ∷ rows_from (place + group_size group.root.frames group.root.body) groups

-- where the first group stands, if there is one
abbrev pub first_place : ℕ
first_place = 174

-- The log keeps the rows of these groups, and the place of the gate that ends them.
pub record IsLogOf (log : Log) (groups : List FrameGroup) : Type 0 where
  pub rows : listed log.groups ≡ rows_from first_place groups
  pub end : log.end ≡ gate_behind groups

-- the root of the last row, or this one where there is none
abbrev pub root_behind : RevisionRoot → List GroupRow → RevisionRoot
root_behind root [] = root
root_behind root (row ∷ rows) = root_behind row.root rows

-- the bytes that opening reads of groups: heads, tables, digests and gates
abbrev pub rows_size : List GroupRow → ℕ
rows_size [] = 0
rows_size (row ∷ rows) = (81 + 36 * row.root.frames) + rows_size rows

-- the bytes that opening reads: those of the birth part with the first gate, and those of each group
abbrev pub opened_size : Log → ℕ
opened_size log = 174 + rows_size (listed log.groups)

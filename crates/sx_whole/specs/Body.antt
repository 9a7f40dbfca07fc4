-- The bytes of a whole document.
use Rattle.std.specs.Prelude.{◌≡◌, ℕ, ◌+◌, ◌<◌, ◌≤◌, ◌^◌, List, [], ◌∷◌, ◌++◌, length, map, flat_map, Option, None, Some}
use Rattle.std.specs.Int.{w32, to_be_bytes}
use Rattle.std.specs.List.{AllByRecursion, enumerate_from}
use Rattle.std.specs.FinMap as fin
use Rattle.sx_tree.specs.Text.{IsText}
use Rattle.sx_tree.specs.declared.record.NodeRecord.{NodeRecord}
use Rattle.sx_tree.specs.declared.record.PathRecord.{PathRecord}
use Rattle.sx_model.specs.Records.{PathRow}
use Rattle.sx_record.specs.Spelling.{PathFields, path_bytes, step_byte, step_name, node_bytes, node_fields, IsNode}
use Rattle.sx_view.specs.Records.{RecordMap}
use Rattle.sx_paths.specs.Table.{row_of}

-- the number of a node in four bytes, and its record
abbrev pub node_entry : ℕ × NodeRecord → List ℕ
node_entry e = to_be_bytes w32 e.0 ++ node_bytes (node_fields e.1)

abbrev pub row_fields : PathRow → PathFields
row_fields row = record { parent = row.parent; step = step_byte row.step; count = row.count; name = step_name row.step }

-- the record of a path
abbrev pub path_entry : PathRow → List ℕ
path_entry row = path_bytes (row_fields row)

-- the number of nodes in four bytes, and each node; the number of paths in four bytes, and each path
unfoldable pub body_bytes : List (ℕ × NodeRecord) → List PathRow → List ℕ
body_bytes nodes paths =
    to_be_bytes w32 (length nodes) ++ (flat_map node_entry nodes ++ (to_be_bytes w32 (length paths)
    ++ flat_map path_entry paths))

-- The numbers ascend from this one on, below 2^30, and each record is one.
abbrev pub AscendFrom : ℕ → List (ℕ × NodeRecord) → Type 0
AscendFrom least [] = Unit {0}
AscendFrom least (e ∷ es) = (least ≤ e.0) × (e.0 < 1_073_741_824) × IsNode e.1 × AscendFrom (e.0 + 1) es

-- the least number that may follow
abbrev pub after_last : ℕ → List (ℕ × NodeRecord) → ℕ
after_last least [] = least
after_last least (e ∷ es) = after_last (e.0 + 1) es

-- each number is below 2^30
abbrev pub AreBelow : List (ℕ × NodeRecord) → Type 0
AreBelow es = AllByRecursion (λ e. e.0 < 1_073_741_824) es

-- each record is one
abbrev pub AreNodes : List (ℕ × NodeRecord) → Type 0
AreNodes es = AllByRecursion (λ e. IsNode e.1) es

-- the numbers of a path fit, and its name is a text
abbrev pub IsRow : PathRow → Type 0
IsRow row = (row.parent < 1_073_741_824) × (row.count < 2 ^ 32) × IsText (step_name row.step)

abbrev pub AreRows : List PathRow → Type 0
AreRows rows = AllByRecursion IsRow rows

-- the records that are told, in ascending order of their numbers
abbrev pub listed : {R : Type 0} → Option (RecordMap R) → List (ℕ × R)
listed None = []
listed (Some records) = fin.entries records

-- the rows of the paths that are told, in ascending order of their numbers
abbrev pub rows_of : Option (RecordMap PathRecord) → List PathRow
rows_of o = map (λ e. row_of e.1) (listed o)

-- The records have the numbers 1, 2, and so on.
abbrev pub AreNumbered : {R : Type 0} → Option (RecordMap R) → Type 0
AreNumbered o = listed o ≡ enumerate_from 1 (map (λ e. e.1) (listed o))

-- These nodes and paths can stand in a body.
pub record AreWhole (nodes : List (ℕ × NodeRecord)) (rows : List PathRow) : Type 0 where
  pub ascend : AscendFrom 0 nodes
  pub are_rows : AreRows rows
  pub fit : length rows < 2 ^ 32

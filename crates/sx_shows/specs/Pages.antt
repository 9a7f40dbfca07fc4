-- The bytes of frames: fragments, and pages of references.
use Rattle.std.specs.Prelude.{ℕ, zero, suc, ◌^◌, Bool, true, false, if◌then◌else◌, List, [], ◌∷◌, ◌++◌, length, flat_map, sum_by}
use Rattle.std.specs.Int.{to_be_bytes, w32, w64}
use Rattle.sx_tree.specs.Record.{kind_byte}
use Rattle.sx_record.specs.Spelling.{link_number, node_bytes, path_bytes, step_byte, step_name}
use Rattle.sx_model.specs.Records.{NodeRow, PathRow}
use Rattle.sx_shows.specs.Fragments.{Absent, Fragment, Record, Slot, Tombstone, is_record, is_tombstone, slots}
use Rattle.sx_shows.specs.Seats.{Nodes, Paths, Side}

-- the spelling of the record with this row
abbrev pub node_spelling : NodeRow → List ℕ
node_spelling row =
    node_bytes (
    record {
      kind = kind_byte row.kind;
      parent = link_number row.parent;
      left = link_number row.left;
      right = link_number row.right;
      first = link_number row.first;
      last = link_number row.last;
      children = row.children;
      descendants = row.descendants;
      hash = row.hash;
      path = row.path;
      label = row.label;
    }
    )

abbrev pub path_spelling : PathRow → List ℕ
path_spelling row = path_bytes (record { parent = row.parent; step = step_byte row.step; count = row.count; name = step_name row.step })

-- the kind of the frame of a seat: 1 for node fragments, 2 for path fragments, 3 for the lowest pages and 4 for those above
abbrev pub kind_at : Side → ℕ → ℕ
kind_at Nodes zero = 1
kind_at Paths zero = 2
kind_at side (suc zero) = 3
kind_at side (suc (suc level)) = 4

-- bit s, which is worth 2^s, stands for slot s
abbrev pub bits : (ℕ → Bool) → ℕ
bits has = sum_by (λ s. if has s then 2 ^ s else 0) slots

-- ---- fragments

abbrev pub record_part : {Row : Type 0} → (Row → List ℕ) → Slot Row → List ℕ
record_part spelling Absent = []
record_part spelling Tombstone = []
record_part spelling (Record row) = spelling row

-- the leaf (4 bytes), the slots with records and those with tombstones (8 bytes each), and the records in ascending slots
abbrev pub fragment_body : {Row : Type 0} → (Row → List ℕ) → ℕ → Fragment Row → List ℕ
fragment_body spelling l f =
    to_be_bytes w32 l ++ (to_be_bytes w64 (bits (λ s. is_record (f s))) ++ (to_be_bytes w64 (bits (λ s. is_tombstone (f s)))
    ++ flat_map (λ s. record_part spelling (f s)) slots))

-- the newest of the fragments of a leaf
abbrev pub newest_body : {Row : Type 0} → (Row → List ℕ) → ℕ → List (Fragment Row) → List ℕ
newest_body spelling l [] = []
newest_body spelling l (f ∷ older) = fragment_body spelling l f

-- ---- pages

-- a lowest page counts the references of a slot in one byte
abbrev pub counted : ℕ → ℕ → List ℕ
counted zero count = []
counted (suc zero) count = count ∷ []
counted (suc (suc level)) count = []

-- the references in a slot (4 bytes each), newest first, where there are some
abbrev pub reference_part : ℕ → List ℕ → List ℕ
reference_part level [] = []
reference_part level (frame ∷ frames) = counted level (length (frame ∷ frames)) ++ flat_map (to_be_bytes w32) (frame ∷ frames)

abbrev pub is_filled : List ℕ → Bool
is_filled [] = false
is_filled (frame ∷ frames) = true

-- the level (1 byte), the index (4), the slots with references (8), and the references in ascending slots
abbrev pub page_body : ℕ → ℕ → (ℕ → List ℕ) → List ℕ
page_body level index row =
    level ∷ (to_be_bytes w32 index ++ (to_be_bytes w64 (bits (λ s. is_filled (row s))) ++ flat_map (λ s. reference_part level (row s)) slots))

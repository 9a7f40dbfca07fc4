-- A table that was written is read again.
use Rattle.std.proofs.Common.{◌≡◌, ◌∙◌, ℕ, suc, ◌*◌, List, [], ◌∷◌, ◌++◌, length, take, drop, refl, ap, append_assoc, length-append, arith}
use Rattle.std.specs.Int.{to_be_bytes, from_be_bytes, w32}
use Rattle.std.proofs.lemmas.List.{take_at, drop_at}
use Rattle.std.proofs.lemmas.Nat.{from_be_bytes-to_be_bytes_4}
use Rattle.sx_frame.specs.declared.table.FrameRow.{FrameRow}
use Rattle.sx_layout.specs.FrameGroup.{AreRows, IsRow, row_bytes, rows_at, table_bytes}

length-row : (row : FrameRow) → IsRow row → length (row_bytes row) ≡ 36
length-row row is = omega (arith, length-append (to_be_bytes w32 row.bytes) row.digest, is.1)

pub length-table_bytes : (rows : List FrameRow) → AreRows rows → length (table_bytes rows) ≡ 36 * length rows
length-table_bytes [] are = refl
length-table_bytes (row ∷ rows) are =
    let rest = length-table_bytes rows are.1 in omega (arith, length-row row are.0, rest, length-append (row_bytes row) (table_bytes rows))

row_again : (row : FrameRow) (rest : List ℕ) → IsRow row → rows_at 1 (row_bytes row ++ rest) ≡ row ∷ []
row_again row rest is =
    let grouped = append_assoc (to_be_bytes w32 row.bytes) row.digest rest in
    let number : from_be_bytes w32 (take 4 (row_bytes row ++ rest)) ≡ row.bytes =
    ap (λ (b : List ℕ). from_be_bytes w32 (take 4 b)) grouped ∙ ap (λ (b : List ℕ). from_be_bytes w32 b) (take_at (to_be_bytes w32 row.bytes) (row.digest ++ rest) 4 refl) ∙ from_be_bytes-to_be_bytes_4 row.bytes is.0 in
    let digest : take 32 (drop 4 (row_bytes row ++ rest)) ≡ row.digest =
    ap (λ (b : List ℕ). take 32 (drop 4 b)) grouped ∙ ap (λ (b : List ℕ). take 32 b) (drop_at (to_be_bytes w32 row.bytes) (row.digest ++ rest) 4 refl) ∙ take_at row.digest rest 32 is.1 in
    ap (λ (n : ℕ). record { bytes = n; digest = take 32 (drop 4 (row_bytes row ++ rest)) } ∷ []) number ∙ ap (λ (d : List ℕ). record { bytes = row.bytes; digest = d } ∷ []) digest

pub rows_again : (rows : List FrameRow) (rest : List ℕ) → AreRows rows → rows_at (length rows) (table_bytes rows ++ rest) ≡ rows
rows_again [] rest are = refl
rows_again (row ∷ rows) rest are =
    let grouped = append_assoc (row_bytes row) (table_bytes rows) rest in
    let first = row_again row (table_bytes rows ++ rest) are.0 in
    let behind : drop 36 (row_bytes row ++ (table_bytes rows ++ rest)) ≡ table_bytes rows ++ rest = drop_at (row_bytes row) (table_bytes rows ++ rest) 36 (length-row row are.0) in
    ap (λ (b : List ℕ). rows_at (suc (length rows)) b) grouped
    ∙ ap (λ (b : List ℕ). rows_at 1 (row_bytes row ++ (table_bytes rows ++ rest)) ++ rows_at (length rows) b) behind
    ∙ ap (λ (f : List FrameRow). f ++ rows_at (length rows) (table_bytes rows ++ rest)) first
    ∙ ap (λ (more : List FrameRow). row ∷ more) (rows_again rows rest are.1)

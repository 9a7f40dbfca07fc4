-- Paths that are read one behind another.
use Rattle.std.proofs.Common.{◌≡◌, ℕ, ◌+◌, ◌<◌, List, [], ◌∷◌, ◌++◌, length, map, Some, refl, sym, ap, ◌∙◌, arith, subst}
use Rattle.std.specs.Prelude.{flat_map}
use Rattle.std.specs.List.{AllByRecursion, enumerate_from}
use Rattle.std.specs.FinMap as fin
use Rattle.std.proofs.lemmas.List.{length-append, length-map, map-append}
use Rattle.sx_tree.specs.declared.record.PathRecord.{PathRecord}
use Rattle.sx_model.specs.Records.{PathRow}
use Rattle.sx_record.specs.Spelling.{IsPath, path_bytes, path_fields}
use Rattle.sx_view.specs.Records.{RecordMap}
use Rattle.sx_paths.specs.Table.{row_of}
use Rattle.sx_whole.specs.Body.{AreRows, IsRow, path_entry}
use Rattle.sx_whole.specs.Broken.{HasNoPath}
use Rattle.sx_whole.proofs.Lists.{read_more, entries-put, entries-none, enumerate_more, enumerate_below}

-- each row is that of a record
pub no_path : (bytes : List ℕ) → ((r : PathRecord) (rest : List ℕ) → IsPath r → bytes ≡ path_bytes (path_fields r) ++ rest → ⊥) → HasNoPath bytes
no_path bytes none row rest is same =
    let r : PathRecord = record { parent = row.parent; step = row.step; count = row.count; parent_fits = is.0; count_fits = is.1 } in
    none r rest is.2 same

rows-more : (rows : List PathRow) (row : PathRow) → AreRows rows → IsRow row → AreRows (rows ++ row ∷ [])
rows-more [] row are is = (is, tt)
rows-more (r ∷ rows) row are is = (are.0, rows-more rows row are.1 is)

abbrev row_in : ℕ × PathRecord → PathRow
row_in e = row_of e.1

abbrev record_in : ℕ × PathRecord → PathRecord
record_in e = e.1

-- These paths were read from the bytes, and these bytes are left; so many there are.
pub record PathsRead (bytes left : List ℕ) (paths : List (ℕ × PathRecord)) (count : ℕ) : Type 0 where
  pub bytes_are : bytes ≡ flat_map path_entry (map (λ e. row_of e.1) paths) ++ left
  pub are_rows : AreRows (map (λ e. row_of e.1) paths)
  pub numbered : paths ≡ enumerate_from 1 (map (λ e. e.1) paths)
  pub count_is : length paths ≡ count

pub paths-start : (bytes : List ℕ) (new : RecordMap PathRecord) → Some new ≡ Some fin.empty → PathsRead bytes bytes (fin.entries new) 0
paths-start bytes new told =
    let P : List (ℕ × PathRecord) → Type 0 = λ paths. PathsRead bytes bytes paths 0 in
    subst P (sym (entries-none new told)) (record { bytes_are = refl; are_rows = tt; numbered = refl; count_is = refl })

pub paths-more : (bytes left rest : List ℕ) (old new : RecordMap PathRecord) (path : PathRecord) (count : ℕ) → PathsRead bytes left (fin.entries old) count
    → left ≡ path_entry (row_of path) ++ rest → IsRow (row_of path) → Some new ≡ Some (fin.insert old (count + 1) path)
    → PathsRead bytes rest (fin.entries new) (count + 1)
paths-more bytes left rest old new path count before next is told =
    let P : List (ℕ × PathRecord) → Type 0 = λ paths. PathsRead bytes rest paths (count + 1) in
    let es = fin.entries old in
    let number : 1 + length (map record_in es) ≡ count + 1 = let n = length-map es record_in in let m = before.count_is in omega arith in
    let below : AllByRecursion (λ e. e.0 < count + 1) es =
    let Q : List (ℕ × PathRecord) → Type 0 = λ l. AllByRecursion (λ e. e.0 < count + 1) l in
    let N : ℕ → Type 0 = λ n. AllByRecursion (λ e. e.0 < n) (enumerate_from 1 (map record_in es)) in
    subst Q (sym before.numbered) (subst N number (enumerate_below 1 (map record_in es))) in
    let rows : map row_in (es ++ (count + 1, path) ∷ []) ≡ map row_in es ++ row_of path ∷ [] = map-append row_in es ((count + 1, path) ∷ []) in
    let records : map record_in (es ++ (count + 1, path) ∷ []) ≡ map record_in es ++ path ∷ [] = map-append record_in es ((count + 1, path) ∷ []) in
    subst P (sym (entries-put old new (count + 1) path told below))
    (record {
      bytes_are = read_more path_entry (map row_in es) (row_of path) bytes left rest before.bytes_are next ∙ ap (λ (l : List PathRow). flat_map path_entry l ++ rest) (sym rows);
      are_rows = subst AreRows (sym rows) (rows-more (map row_in es) (row_of path) before.are_rows is);
      numbered = ap (λ (l : List (ℕ × PathRecord)). l ++ (count + 1, path) ∷ []) before.numbered
          ∙ ap (λ (n : ℕ). enumerate_from 1 (map record_in es) ++ (n, path) ∷ []) (sym number)
          ∙ sym (enumerate_more 1 (map record_in es) path) ∙ ap (enumerate_from 1) (sym records);
      count_is = length-append es ((count + 1, path) ∷ []) ∙ ap (λ (n : ℕ). n + 1) before.count_is;
    })

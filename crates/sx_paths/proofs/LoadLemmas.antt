-- The paths that records tell, one after another.
use Rattle.std.proofs.Common.{◌≡◌, ℕ, suc, ◌+◌, List, [], ◌∷◌, ◌++◌, length, Option, Some, None, subst, arith, IfSome}
use Rattle.std.specs.Option.{option_map}
use Rattle.std.specs.FinMap as fin
use Rattle.sx_tree.specs.declared.record.PathRecord.{PathRecord}
use Rattle.sx_model.specs.Records.{PathRow}
use Rattle.sx_view.specs.Records.{RecordMap}
use Rattle.sx_paths.specs.Load.{TellsFrom}
use Rattle.sx_paths.specs.Table.{row_of}

TellsFrom-push : (records : RecordMap PathRecord) (n : ℕ) (rows : List PathRow) (row : PathRow) → TellsFrom records n rows
    → option_map row_of (fin.get records (n + length rows)) ≡ Some row → TellsFrom records n (rows ++ row ∷ [])
TellsFrom-push records n [] row tells is = let e : n + 0 ≡ n = omega arith in (subst (λ (k : ℕ). option_map row_of (fin.get records k) ≡ Some row) e is, tt)
TellsFrom-push records n (x ∷ rows) row tells is =
    let e : n + suc (length rows) ≡ n + 1 + length rows = omega arith in
    (tells.0, TellsFrom-push records (n + 1) rows row tells.1 (subst (λ (k : ℕ). option_map row_of (fin.get records k) ≡ Some row) e is))

pub loaded : (o : Option (RecordMap PathRecord)) (rows : List PathRow) (before : ℕ) (path : PathRecord) → length rows ≡ before
    → IfSome o (λ told. TellsFrom told 1 rows) → IfSome o (λ told. option_map row_of (fin.get told (before + 1)) ≡ Some (row_of path))
    → IfSome o (λ told. TellsFrom told 1 (rows ++ row_of path ∷ []))
loaded None rows before path len tells found = tt
loaded (Some told) rows before path len tells found =
    let e : before + 1 ≡ 1 + length rows = omega (arith, len) in
    TellsFrom-push told 1 rows (row_of path) tells (subst (λ (k : ℕ). option_map row_of (fin.get told k) ≡ Some (row_of path)) e found)

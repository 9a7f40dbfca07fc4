-- What the entries of a table stand for.
use Rattle.std.specs.Prelude.{ℕ, ◌≡◌, ◌<◌, ◌≤◌, if◌then◌else◌, nat_eq, List, length, map, take, Option, None, Some, Bool, false}
use Rattle.std.specs.List.{AllByRecursion}
use Rattle.std.specs.Option.{ForSome, option_map, option_or}
use Rattle.sx_tree.specs.declared.record.PathRecord.{PathRecord}
use Rattle.sx_tree.specs.declared.record.Step.{Step}
use Rattle.sx_model.specs.Records.{PathRow}
use Rattle.sx_paths.specs.declared.entry.Entry.{Entry}
use Rattle.sx_paths.specs.declared.index.Index.{Index}
use Rattle.sx_paths.specs.Table.{Table, goes_on, number_in, row_of}
use Rattle.sx_paths.specs.Words.{IsIndex, given_at, number_by}

-- the paths
abbrev pub rows_of : List Entry → List PathRow
rows_of = map (λ entry. row_of entry.path)

-- the path at the mark of this stamp
abbrev pub row_before : ℕ → Entry → PathRow
row_before stamp entry = record (row_of entry.path) { count = if nat_eq entry.stamp stamp then entry.before else entry.path.count }

-- the table: the mark has this stamp, and there were so many paths at it
abbrev pub table_of : ℕ → Option ℕ → List Entry → Table
table_of stamp mark entries = record {
  paths = rows_of entries;
  marked = option_map (λ count. map (row_before stamp) (take count entries)) mark;
}

-- the index has the numbers of these paths
pub record IsIndexOf (i : Index) (paths : List PathRow) : Type 0 where
  pub index : IsIndex i
  pub numbers : (parent : ℕ) (step : Step) → number_by i parent step ≡ number_in paths parent step

-- whether this number was found
abbrev pub is_number : ℕ → Option ℕ → Bool
is_number number None = false
is_number number (Some found) = nat_eq found number

-- no stamp is later than this one
abbrev pub AreStamped : ℕ → List Entry → Type 0
AreStamped stamp entries = AllByRecursion (λ entry. entry.stamp ≤ stamp) entries

pub record IsTable (stamp : ℕ) (mark : Option ℕ) (entries : List Entry) (index : Index) : Type 0 where
  pub indexed : IsIndexOf index (rows_of entries)
  pub stamped : AreStamped stamp entries
  pub within : ForSome mark (λ count. count ≤ length entries)
  pub few : length entries < 4_294_967_296

-- the stamps
abbrev pub stamps_of : List Entry → List ℕ
stamps_of = map (λ entry. entry.stamp)

-- the numbers without the path, where it has this number
abbrev pub left_at : PathRecord → ℕ → (ℕ → Step → Option ℕ) → ℕ → Step → Option ℕ
left_at path number index parent step =
    if is_number number (index path.parent path.step) then given_at path.parent path.step None index parent step else index parent step

-- the numbers with the path, where it had none
abbrev pub noted_at : PathRecord → ℕ → (ℕ → Step → Option ℕ) → ℕ → Step → Option ℕ
noted_at path number index parent step = option_or (index parent step) (if goes_on parent step (row_of path) then Some number else None)

-- Records that show rows, and what one change of them does.
use Rattle.std.specs.Prelude.{◌≡◌, ℕ, ◌+◌, ◌^◌, ◌<◌, ◌≤◌, false, List, [], ◌∷◌, ◌++◌, map, Option, None, Some, option_map}
use Rattle.std.specs.List.{list_any}
use Rattle.std.specs.Ordering.{nat_cmp, eq_by_cmp}
use Rattle.std.specs.FinMap as fin
use Rattle.std.specs.FinMap.{find}
use Rattle.sx_tree.specs.declared.record.Kind.{Kind}
use Rattle.sx_tree.specs.declared.record.Step.{Step}
use Rattle.sx_tree.specs.declared.record.NodeRecord.{NodeRecord}
use Rattle.sx_view.specs.Records.{RecordMap}
use Rattle.sx_view.specs.Rows.{row_of}
use Rattle.sx_model.specs.Tree.{Forest, size}
use Rattle.sx_model.specs.Records.{NodeRow, PathRow, Around, first_of, rows}
use Rattle.sx_model.specs.Holes.{Frame, Shown}
use Rattle.sx_edit.specs.Pathways.{HasAll, Kept, Lists, ListsSome, Numbers, more_on, paths_under}
use Rattle.sx_edit.specs.Holes.{AreNew, IsShift, IsAlike, rows_above, top_shown, whole}

-- the records are told, and show these rows and no others
abbrev pub Holds : Option (RecordMap NodeRecord) → List (ℕ × NodeRow) → Type 0
Holds None entries = ⊥
Holds (Some records) entries = (q : ℕ) → option_map row_of (fin.get records q) ≡ find nat_cmp q entries

abbrev pub AreDistinct : List ℕ → Type 0
AreDistinct [] = Unit {0}
AreDistinct (k ∷ ks) = (list_any (eq_by_cmp nat_cmp k) ks ≡ false) × AreDistinct ks

abbrev pub numbers_of : List (ℕ × NodeRow) → List ℕ
numbers_of entries = map (λ e. e.0) entries

-- the records show these rows, which have distinct numbers
pub record Shows (o : Option (RecordMap NodeRecord)) (entries : List (ℕ × NodeRow)) : Type 0 where
  pub holds : Holds o entries
  pub distinct : AreDistinct (numbers_of entries)

-- The row that stood at the node is another now, and all else is as it was. Where nothing is told afterwards, it stood nowhere.
unfoldable pub IsChanged : Option (ℕ × NodeRow) → (NodeRow → NodeRow) → Option (RecordMap NodeRecord) → Option (RecordMap NodeRecord) → Type 0
IsChanged None change before after = (entries : List (ℕ × NodeRow)) → Shows before entries → Shows after entries
IsChanged (Some e) change before after =
    (xs ys : List (ℕ × NodeRow)) → Shows before (xs ++ e ∷ ys) → Shows after (xs ++ (e.0, change e.1) ∷ ys)

-- ---- trees that go

-- trees side by side, and what stands around them
abbrev pub Piece : Type 0
Piece = Around × Forest

-- each of the pieces begins with its number, and nothing stands to its right
abbrev pub BeginWith : List Piece → List ℕ → Type 0
BeginWith [] [] = Unit {0}
BeginWith [] (k ∷ ks) = ⊥
BeginWith (piece ∷ pieces) [] = ⊥
BeginWith (piece ∷ pieces) (k ∷ ks) = (first_of piece.1 ≡ Some k) × (piece.0.right ≡ None) × BeginWith pieces ks

abbrev pub sizes : List Piece → ℕ
sizes [] = 0
sizes (piece ∷ pieces) = size piece.1 + sizes pieces

abbrev pub piece_rows : (Kind → List ℕ → ℕ) → (List Step → ℕ) → List Piece → List (ℕ × NodeRow)
piece_rows local number [] = []
piece_rows local number (piece ∷ pieces) = rows local number piece.0 piece.1 ++ piece_rows local number pieces

-- These are the numbers of all trees that begin with these, one after the other, where they have so many nodes at most.
unfoldable pub IsWalked : List ℕ → ℕ → Option (RecordMap NodeRecord) → List ℕ → Type 0
IsWalked tops limit o walked =
    (local : Kind → List ℕ → ℕ) (number : List Step → ℕ) (pieces : List Piece) (xs ys : List (ℕ × NodeRow))
    → BeginWith pieces tops → sizes pieces ≤ limit
    → Shows o (xs ++ (piece_rows local number pieces ++ ys)) → walked ≡ numbers_of (piece_rows local number pieces)

-- the paths of the value nodes of pieces
abbrev pub piece_paths : List Piece → List (List Step)
piece_paths [] = []
piece_paths (piece ∷ pieces) = paths_under piece.0 piece.1 ++ piece_paths pieces

-- The records show these pieces among other rows, by the numbers of the listed paths, and each of their paths is listed.
pub record ShowsPieces (o : Option (RecordMap NodeRecord)) (tops : List ℕ) (limit : ℕ) (listed : List (List Step)) (pieces : List Piece) : Type 0 where
  pub local : Kind → List ℕ → ℕ
  pub number : List Step → ℕ
  pub front : List (ℕ × NodeRow)
  pub back : List (ℕ × NodeRow)
  pub begin : BeginWith pieces tops
  pub few : sizes pieces ≤ limit
  pub shows : Shows o (front ++ (piece_rows local number pieces ++ back))
  pub numbers_are : Numbers number listed
  pub listed_are : HasAll listed (piece_paths pieces)

-- The values of the trees that begin with these numbers are no longer counted, where they have so many nodes at most. Where there is
-- no table afterwards, there were no such trees.
unfoldable pub IsDiscounted : List ℕ → ℕ → Kept → Option (List PathRow) → Type 0
IsDiscounted tops limit before after =
    (listed : List (List Step)) (count : List Step → ℕ) (pieces : List Piece) → ShowsPieces before.told tops limit listed pieces
    → Lists before.table listed (more_on (piece_paths pieces) count) → ListsSome after listed count

-- ---- the nodes above

-- Where these are the rows above the hole, for the old trees in it, the records now hold the rows for the new ones, of which so many
-- nodes are more and so many fewer, and whose hashes are d more. Whatever rows stood above the hole before, all others are as they were.
unfoldable pub IsLifted : List (ℕ × NodeRow) → ℕ → ℕ → ℕ → Option (RecordMap NodeRecord) → Option (RecordMap NodeRecord) → Type 0
IsLifted seen plus minus d before after =
    (local : Kind → List ℕ → ℕ) (number : List Step → ℕ) (frames : List Frame) (was old new : Shown) (hole : List (ℕ × NodeRow))
    → AreNew frames → rows_above local number frames old ≡ seen → IsShift plus minus d old new → IsAlike old new
    → Holds before (whole local number frames was hole) → Holds after (whole local number frames new hole)

-- These are the rows above no hole in trees that leave room for so many nodes more and have so many to give.
unfoldable pub CannotLift : List (ℕ × NodeRow) → ℕ → ℕ → Type 0
CannotLift seen plus minus =
    (local : Kind → List ℕ → ℕ) (number : List Step → ℕ) (frames : List Frame) (old : Shown) → rows_above local number frames old ≡ seen
    → (top_shown local frames old).nodes + plus < 2 ^ 32 → minus ≤ old.nodes + plus → ⊥

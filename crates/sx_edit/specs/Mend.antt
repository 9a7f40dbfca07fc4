-- What a tree that takes the place of another does to what stands around it.
use Rattle.std.specs.Prelude.{◌≡◌, true, ℕ, ◌+◌, ◌-◌, ◌^◌, ◌<◌, ◌≤◌, List, [], ◌∷◌, ◌++◌, Option, None, Some, option_map}
use Rattle.std.specs.Option.{option_or}
use Rattle.sx_tree.specs.declared.record.Kind.{Kind}
use Rattle.sx_tree.specs.declared.record.Step.{Step}
use Rattle.sx_tree.specs.declared.record.NodeRecord.{NodeRecord}
use Rattle.sx_view.specs.Records.{RecordMap}
use Rattle.sx_model.specs.Tree.{Forest, beside, is_value, numbers, size}
use Rattle.sx_model.specs.Records.{NodeRow, PathRow, Around, at_top, around_children, first_of, last_of, rows}
use Rattle.sx_model.specs.Holes.{Frame, Shown, plug, shown, around_hole, rows_before, rows_behind}
use Rattle.sx_edit.specs.Pathways.{HasAll, IsPathAt, Kept, Lists, ListsSome, Numbers, more_on, own_of, paths_under}
use Rattle.sx_edit.specs.Holes.{first_entry, last_entry, rows_above}
use Rattle.sx_edit.specs.Seen.{entry_of, upward}
use Rattle.sx_edit.specs.Told.{Piece, Shows}
use Rattle.sx_edit.specs.declared.trees.Rim.{Rim}
use Rattle.sx_edit.specs.declared.trees.Gap.{Gap}
use Rattle.sx_edit.specs.declared.trees.Tree.{Tree}

abbrev pub number_of_tree : Option Tree → Option ℕ
number_of_tree None = None
number_of_tree (Some tree) = Some tree.number

abbrev pub trees_of_tree : Option Tree → ℕ
trees_of_tree None = 0
trees_of_tree (Some tree) = 1

abbrev pub nodes_of_tree : Option Tree → ℕ
nodes_of_tree None = 0
nodes_of_tree (Some tree) = tree.nodes

abbrev pub hash_of_tree : Option Tree → ℕ
hash_of_tree None = 0
hash_of_tree (Some tree) = tree.hash

-- what the tree shows, or none
abbrev pub shown_tree : Option Tree → Shown
shown_tree tree = record {
  first = number_of_tree tree;
  last = number_of_tree tree;
  trees = trees_of_tree tree;
  nodes = nodes_of_tree tree;
  hashes = hash_of_tree tree;
}

-- the end of a list of children: where nothing stands on this side of the gap, it is the other one now
abbrev pub end : Option ℕ → Option ℕ → Option ℕ → Option ℕ
end None other old = other
end (Some n) other old = old

-- the parent's row, once the new tree took the old one's place in the gap
abbrev pub adopted : Gap → Option Tree → Option Tree → NodeRow → NodeRow
adopted gap old new w = record w {
  first = end gap.left (option_or (number_of_tree new) gap.right) w.first;
  last = end gap.right (option_or (number_of_tree new) gap.left) w.last;
  children = w.children + trees_of_tree new - trees_of_tree old;
}

module _ (local : Kind → List ℕ → ℕ) (number : List Step → ℕ) where
  -- the rows of all trees, with the new ones' rows in the gap already, while all else is as it was with the old ones
  abbrev pub opened : List Frame → Frame → Forest → Forest → Forest → Forest → List (ℕ × NodeRow)
  opened frames frame before old new behind =
      let around : Around = around_children (around_hole frames) frame.node in
      let was : Shown = shown local (beside before (beside old behind)) in
      rows_before local number (frame ∷ frames) was
      ++ ((rows local number (record around { right = option_or (first_of old) (first_of behind) }) before
      ++ (rows local number (record around { left = last_of before; right = first_of behind }) new
      ++ rows local number (record around { left = option_or (last_of old) (last_of before) }) behind))
      ++ rows_behind local number (frame ∷ frames) was)

-- what was read around the gap is what stands there, with the old trees in it
pub record IsAround (local : Kind → List ℕ → ℕ) (number : List Step → ℕ) (frames : List Frame) (frame : Frame) (before olds behind : Forest) (rim : Rim) : Type 0 where
  pub left : option_map entry_of rim.left
      ≡ last_entry local number (record (around_children (around_hole frames) frame.node) { right = option_or (first_of olds) (first_of behind) }) before
  pub right : option_map entry_of rim.right
      ≡ first_entry local number (record (around_children (around_hole frames) frame.node) { left = option_or (last_of olds) (last_of before) }) behind
  pub above : rows_above local number (frame ∷ frames) (shown local (beside before (beside olds behind))) ≡ entry_of rim.parent ∷ upward rim.above.items

-- Where the new tree's rows stood in the gap already, the rows are those of the trees with the new tree in the old one's place, for
-- all trees of at most so many nodes, around which this was read. Where nothing is told afterwards, there were no such trees.
unfoldable pub IsMended : ℕ → Gap → Rim → Option Tree → Option Tree → Option (RecordMap NodeRecord) → Option (RecordMap NodeRecord) → Type 0
IsMended next gap rim old new o after =
    (local : Kind → List ℕ → ℕ) (number : List Step → ℕ) (frames : List Frame) (frame : Frame) (before olds news behind : Forest)
    → frame.node.number ≡ gap.parent → last_of before ≡ gap.left → first_of behind ≡ gap.right
    → shown local olds ≡ shown_tree old → shown local news ≡ shown_tree new
    → size (plug (frame ∷ frames) (beside before (beside olds behind))) ≤ next → next + nodes_of_tree new < 2 ^ 31
    → IsAround local number frames frame before olds behind rim
    → Shows o (opened local number frames frame before olds news behind)
    → Shows after (rows local number at_top (plug (frame ∷ frames) (beside before (beside news behind))))

-- These are the numbers of the trees below the node, which begin with this one, and its own.
unfoldable pub IsUprooted : ℕ → Option ℕ → ℕ → Option (RecordMap NodeRecord) → List ℕ → Type 0
IsUprooted k first limit o gone =
    (local : Kind → List ℕ → ℕ) (number : List Step → ℕ) (around : Around) (below : Forest) (w : NodeRow) (xs ys : List (ℕ × NodeRow))
    → first_of below ≡ first → around.right ≡ None → size below ≤ limit
    → Shows o (xs ++ (k, w) ∷ (rows local number around below ++ ys)) → gone ≡ numbers below ++ k ∷ []

-- The rows of the node and of the trees below it, which begin with this one, are gone, and all else is as it was. Where
-- nothing is
-- told afterwards, there were no such rows.
unfoldable pub IsTakenOut : ℕ → Option ℕ → ℕ → Option (RecordMap NodeRecord) → Option (RecordMap NodeRecord) → Type 0
IsTakenOut k first limit before after =
    (local : Kind → List ℕ → ℕ) (number : List Step → ℕ) (around : Around) (below : Forest) (w : NodeRow) (xs ys : List (ℕ × NodeRow))
    → first_of below ≡ first → around.right ≡ None → size below ≤ limit
    → Shows before (xs ++ (k, w) ∷ (rows local number around below ++ ys)) → Shows after (xs ++ ys)

-- The records show a node, and these trees below it, by the numbers of the listed paths.
pub record ShowsBelow (o : Option (RecordMap NodeRecord)) (k : ℕ) (first : Option ℕ) (limit : ℕ) (listed : List (List Step)) (piece : Piece) : Type 0 where
  pub local : Kind → List ℕ → ℕ
  pub number : List Step → ℕ
  pub own : NodeRow
  pub front : List (ℕ × NodeRow)
  pub back : List (ℕ × NodeRow)
  pub first_is : first_of piece.1 ≡ first
  pub last : piece.0.right ≡ None
  pub few : size piece.1 ≤ limit
  pub shows : Shows o (front ++ (k, own) ∷ (rows local number piece.0 piece.1 ++ back))
  pub numbers_are : Numbers number listed
  pub listed_are : HasAll listed (paths_under piece.0 piece.1)

-- The values of the node, whose record this is, and of the trees below it, are no longer counted. Where there is no table afterwards,
-- there were no such trees.
unfoldable pub IsLeftOut : ℕ → NodeRecord → ℕ → Kept → Option (List PathRow) → Type 0
IsLeftOut k entry limit before after =
    (listed : List (List Step)) (count : List Step → ℕ) (steps : List Step) (piece : Piece) → ShowsBelow before.told k entry.first limit listed piece
    → (is_value entry.kind ≡ true → IsPathAt listed steps entry.path)
    → Lists before.table listed (more_on (own_of entry.kind steps ++ paths_under piece.0 piece.1) count) → ListsSome after listed count

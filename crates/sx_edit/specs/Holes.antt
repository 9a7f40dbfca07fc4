-- What stands around a hole in trees, and how it follows what fills the hole.
use Rattle.std.specs.Prelude.{ℕ, ◌≡◌, false, ◌+◌, ◌-◌, ◌%◌, ◌^◌, Option, Some, None, List, [], ◌∷◌, ◌++◌}
use Rattle.std.specs.List.{list_any}
use Rattle.std.specs.Ordering.{nat_cmp, eq_by_cmp}
use Rattle.sx_tree.specs.declared.record.Kind.{Kind}
use Rattle.sx_tree.specs.declared.record.Step.{Step}
use Rattle.std.specs.Option.{option_or}
use Rattle.sx_model.specs.Tree.{Node, Forest, no_trees, tree_then, numbers}
use Rattle.sx_model.specs.Records.{Around, NodeRow, first_of, last_of, row, rows}
use Rattle.sx_model.specs.Holes.{Frame, Shown, around_hole, row_over, shown, shown_by, frame_row, rows_before, rows_behind}

-- the numbers in preorder, up to the hole
abbrev pub numbers_before : List Frame → List ℕ
numbers_before [] = []
numbers_before (frame ∷ frames) = numbers_before frames ++ (numbers frame.before ++ frame.node.number ∷ [])

-- no node above the hole has a number that stands before it
abbrev pub AreNew : List Frame → Type 0
AreNew [] = Unit {0}
AreNew (frame ∷ frames) = (list_any (eq_by_cmp nat_cmp frame.node.number) (numbers_before frames ++ numbers frame.before) ≡ false) × AreNew frames

-- the node above the hole
abbrev pub above : List Frame → Option ℕ
above [] = None
above (frame ∷ frames) = Some frame.node.number

-- the trees that show the second, where others showed the first, have so many nodes more and so many fewer, and hashes
-- that are more by d
pub record IsShift (plus : ℕ) (minus : ℕ) (d : ℕ) (old : Shown) (new : Shown) : Type 0 where
  pub nodes : new.nodes + minus ≡ old.nodes + plus
  pub hashes : new.hashes % 2 ^ 128 ≡ (old.hashes + d) % 2 ^ 128

-- the two show the same ends, and as many trees
pub record IsAlike (old : Shown) (new : Shown) : Type 0 where
  pub first : new.first ≡ old.first
  pub last : new.last ≡ old.last
  pub trees : new.trees ≡ old.trees

-- the row with so many descendants more and so many fewer, and a hash that is more by d
abbrev pub shifted : ℕ → ℕ → ℕ → NodeRow → NodeRow
shifted plus minus d r = record r { descendants = r.descendants + plus - minus; hash = (r.hash + d) % 2 ^ 128 }

module _ (local : Kind → List ℕ → ℕ) where
  -- what the trees at the top show
  abbrev pub top_shown : List Frame → Shown → Shown
  top_shown [] inside = inside
  top_shown (frame ∷ frames) inside = top_shown frames (shown_by local frame inside)

module _ (local : Kind → List ℕ → ℕ) (number : List Step → ℕ) where
  -- the rows with these in the hole, whose trees show this
  abbrev pub whole : List Frame → Shown → List (ℕ × NodeRow) → List (ℕ × NodeRow)
  whole frames inside hole = rows_before local number frames inside ++ (hole ++ rows_behind local number frames inside)

  -- the rows of the nodes above the hole, the nearest first, where the trees in it show this
  abbrev pub rows_above : List Frame → Shown → List (ℕ × NodeRow)
  rows_above [] inside = []
  rows_above (frame ∷ frames) inside = (frame.node.number, frame_row local number frames frame inside) ∷ rows_above frames (shown_by local frame inside)

  -- the rows of the frame's trees with these in the hole, whose trees show this
  abbrev pub frame_rows : List Frame → Frame → Shown → List (ℕ × NodeRow) → List (ℕ × NodeRow)
  frame_rows frames frame inside hole =
      rows local number (record (around_hole frames) { right = Some frame.node.number }) frame.before
      ++ (frame.node.number, frame_row local number frames frame inside)
      ∷ (hole ++ rows local number (record (around_hole frames) { left = Some frame.node.number }) frame.behind)

  -- the row of a node among trees in the hole
  abbrev pub own_row : List Frame → Forest → Node → Forest → Forest → NodeRow
  own_row frames before n below behind =
      row_over local number (record (around_hole frames) { left = last_of before; right = first_of behind }) n (shown local below)

  -- the rows before the node's own
  abbrev pub before_own : List Frame → Shown → Forest → ℕ → List (ℕ × NodeRow)
  before_own frames a before k = rows_before local number frames a ++ rows local number (record (around_hole frames) { right = Some k }) before

  -- the rows behind those of the trees below it
  abbrev pub behind_own : List Frame → Shown → ℕ → Forest → List (ℕ × NodeRow)
  behind_own frames a k behind = rows local number (record (around_hole frames) { left = Some k }) behind ++ rows_behind local number frames a

  -- the entry of the first of trees side by side, and of the last one
  abbrev pub first_entry : Around → Forest → Option (ℕ × NodeRow)
  first_entry around no_trees = None
  first_entry around (tree_then n below rest) = Some (n.number, row local number (record around { right = option_or (first_of rest) around.right }) n below)

  abbrev pub last_entry : Around → Forest → Option (ℕ × NodeRow)
  last_entry around no_trees = None
  last_entry around (tree_then n below no_trees) = Some (n.number, row local number (record around { right = option_or None around.right }) n below)
  last_entry around (tree_then n below (tree_then m inner rest)) = last_entry (record around { left = Some n.number }) (tree_then m inner rest)

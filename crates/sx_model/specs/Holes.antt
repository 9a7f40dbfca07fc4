-- Trees with a hole, and what is known of the nodes around it: their rows depend on what fills the hole only through what that
-- shows around it.
use Rattle.std.specs.Prelude.{ℕ, suc, ◌+◌, ◌*◌, ◌%◌, ◌^◌, List, [], ◌∷◌, ◌++◌, Option, Some, option_map}
use Rattle.std.specs.Option.{option_or}
use Rattle.sx_tree.specs.declared.record.Kind.{Kind}
use Rattle.sx_tree.specs.declared.record.Step.{Step}
use Rattle.sx_model.specs.Hash.{hashes}
use Rattle.sx_model.specs.Paths.{path_of}
use Rattle.sx_model.specs.Records.{NodeRow, Around, at_top, around_children, first_of, last_of, rows}
use Rattle.sx_model.specs.Tree.{Node, Forest, tree_then, beside, size, count}

-- ---- trees with a hole

-- a node with a hole below it, and the trees to both sides of it
pub record Frame : Type 0 where
  pub before : Forest
  pub node : Node
  pub behind : Forest

-- the trees where these stand below the frame's node
abbrev pub filled : Frame → Forest → Forest
filled frame inside = beside frame.before (tree_then frame.node inside frame.behind)

-- the same through frame after frame, the innermost first
abbrev pub plug : List Frame → Forest → Forest
plug [] inside = inside
plug (frame ∷ frames) inside = plug frames (filled frame inside)

-- ---- what trees show around them

-- the numbers of the first and the last of trees side by side, how many they are, how many nodes they have, and the sum of
-- their hashes
pub record Shown : Type 0 where
  pub first : Option ℕ
  pub last : Option ℕ
  pub trees : ℕ
  pub nodes : ℕ
  pub hashes : ℕ

abbrev pub join : Shown → Shown → Shown
join a b = record {
  first = option_or a.first b.first;
  last = option_or b.last a.last;
  trees = a.trees + b.trees;
  nodes = a.nodes + b.nodes;
  hashes = a.hashes + b.hashes;
}

-- what stands around the hole
abbrev pub around_hole : List Frame → Around
around_hole [] = at_top
around_hole (frame ∷ frames) = around_children (around_hole frames) frame.node

module _ (local : Kind → List ℕ → ℕ) where
  abbrev pub shown : Forest → Shown
  shown trees = record { first = first_of trees; last = last_of trees; trees = count trees; nodes = size trees; hashes = hashes local trees }

  -- the hash of a node from what is shown below it
  abbrev pub hash_over : Node → Shown → ℕ
  hash_over n below = (local n.kind n.label + 257 * below.hashes) % 2 ^ 128

  -- what the tree of a node shows
  abbrev pub shown_one : Node → Shown → Shown
  shown_one n below = record { first = Some n.number; last = Some n.number; trees = 1; nodes = suc below.nodes; hashes = hash_over n below }

  -- what the frame's trees show, where those in the hole show this
  abbrev pub shown_by : Frame → Shown → Shown
  shown_by frame inside = join (shown frame.before) (join (shown_one frame.node inside) (shown frame.behind))

module _ (local : Kind → List ℕ → ℕ) (number : List Step → ℕ) where
  -- the row of a node from what is shown below it
  abbrev pub row_over : Around → Node → Shown → NodeRow
  row_over around n below = record {
    kind = n.kind;
    label = n.label;
    parent = option_map (λ m. m.number) around.above;
    left = around.left;
    right = around.right;
    first = below.first;
    last = below.last;
    children = below.trees;
    descendants = below.nodes;
    hash = hash_over local n below;
    path = number (path_of around.above around.path n.label);
  }

  -- the row of the frame's node
  abbrev pub frame_row : List Frame → Frame → Shown → NodeRow
  frame_row frames frame inside =
      row_over
      (record (around_hole frames) {
        left = option_or (last_of frame.before) (around_hole frames).left;
        right = option_or (first_of frame.behind) (around_hole frames).right;
      })
      frame.node inside

  -- the rows in preorder, up to the hole
  abbrev pub rows_before : List Frame → Shown → List (ℕ × NodeRow)
  rows_before [] inside = []
  rows_before (frame ∷ frames) inside =
      rows_before frames (shown_by local frame inside)
      ++ (rows local number (record (around_hole frames) { right = Some frame.node.number }) frame.before
      ++ (frame.node.number, frame_row frames frame inside) ∷ [])

  -- the rows in preorder, from the hole on
  abbrev pub rows_behind : List Frame → Shown → List (ℕ × NodeRow)
  rows_behind [] inside = []
  rows_behind (frame ∷ frames) inside =
      rows local number (record (around_hole frames) { left = Some frame.node.number }) frame.behind
      ++ rows_behind frames (shown_by local frame inside)

-- What is known of each node and of each path of a document.
use Rattle.std.specs.Prelude.{ℕ, zero, suc, List, [], ◌∷◌, ◌++◌, Option, Some, None, option_map, option_and_then, slice_get}
use Rattle.std.specs.Option.{option_or}
use Rattle.std.specs.Ordering.{nat_cmp}
use Rattle.std.specs.FinMap.{find}
use Rattle.sx_tree.specs.declared.record.Kind.{Kind}
use Rattle.sx_tree.specs.declared.record.Step.{Step}
use Rattle.sx_model.specs.Hash.{hash_of, local_hash}
use Rattle.sx_model.specs.Paths.{path_of, number_of, count_on}
use Rattle.sx_model.specs.State.{State}
use Rattle.sx_model.specs.Tree.{Node, Forest, no_trees, tree_then, size, count}

-- the number of the first of trees side by side, and of the last one
abbrev pub first_of : Forest → Option ℕ
first_of no_trees = None
first_of (tree_then n below rest) = Some n.number

abbrev pub last_of : Forest → Option ℕ
last_of no_trees = None
last_of (tree_then n below rest) = option_or (last_of rest) (Some n.number)

-- ---- nodes

pub record NodeRow : Type 0 where
  pub kind : Kind
  pub label : List ℕ
  pub parent : Option ℕ
  -- the siblings to both sides
  pub left : Option ℕ
  pub right : Option ℕ
  -- the children at both ends
  pub first : Option ℕ
  pub last : Option ℕ
  pub children : ℕ
  pub descendants : ℕ
  pub hash : ℕ
  -- the number of the path
  pub path : ℕ

-- what stands around trees: the node above them, its path, and the siblings to both sides
pub record Around : Type 0 where
  pub above : Option Node
  pub path : List Step
  pub left : Option ℕ
  pub right : Option ℕ

-- the top of a document
abbrev pub at_top : Around
at_top = record { above = None; path = []; left = None; right = None }

-- what stands around the children of a node
abbrev pub around_children : Around → Node → Around
around_children around n = record { above = Some n; path = path_of around.above around.path n.label; left = None; right = None }

-- over what the hash of a kind and a label is, and which number a path has
module _ (local : Kind → List ℕ → ℕ) (number : List Step → ℕ) where
  abbrev pub row : Around → Node → Forest → NodeRow
  row around n below = record {
    kind = n.kind;
    label = n.label;
    parent = option_map (λ m. m.number) around.above;
    left = around.left;
    right = around.right;
    first = first_of below;
    last = last_of below;
    children = count below;
    descendants = size below;
    hash = hash_of local n below;
    path = number (path_of around.above around.path n.label);
  }

  -- the rows of all nodes in preorder, each by the node's number
  abbrev pub rows : Around → Forest → List (ℕ × NodeRow)
  rows around no_trees = []
  rows around (tree_then n below rest) =
      (n.number, row (record around { right = option_or (first_of rest) around.right }) n below)
      ∷ (rows (around_children around n) below ++ rows (record around { left = Some n.number }) rest)

-- all rows of a state's document
abbrev pub rows_of : State → List (ℕ × NodeRow)
rows_of state = rows local_hash (number_of state.paths) at_top state.trees

-- the row of a node, where it is in the document
abbrev pub node : State → ℕ → Option NodeRow
node state k = find nat_cmp k (rows_of state)

-- ---- paths

pub record PathRow : Type 0 where
  -- the number of the path without its last step
  pub parent : ℕ
  pub step : Step
  -- how many value nodes stand on it
  pub count : ℕ

abbrev pub path_row : State → List Step → Option PathRow
path_row state [] = None
path_row state (step ∷ steps) =
    Some (record { parent = number_of state.paths steps; step = step; count = count_on (step ∷ steps) state.trees })

-- the row of the path of this number, where there is one
abbrev pub entry : State → ℕ → Option PathRow
entry state zero = None
entry state (suc place) = option_and_then (path_row state) (slice_get state.paths place)

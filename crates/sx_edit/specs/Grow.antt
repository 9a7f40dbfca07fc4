-- The tree of a value, written below its top.
use Rattle.std.specs.Prelude.{◌≡◌, ℕ, suc, ◌+◌, ◌<◌, ◌%◌, ◌^◌, Bool, true, false, List, [], ◌∷◌, ◌++◌, Option, None, Some}
use Rattle.std.specs.Option.{option_or}
use Rattle.sx_tree.specs.declared.record.Kind.TheVariants.{Object, Array, Key}
use Rattle.sx_tree.specs.declared.record.NodeRecord.{NodeRecord}
use Rattle.sx_tree.specs.declared.record.Step.{Step}
use Rattle.sx_tree.specs.Value.{Value, scalar, array, object}
use Rattle.sx_view.specs.Records.{RecordMap}
use Rattle.sx_view.specs.Rows.{row_of}
use Rattle.sx_model.specs.Hash.{local_hash}
use Rattle.sx_model.specs.Numbered.{numbered_values, numbered_fields, scalar_node}
use Rattle.sx_model.specs.Tree.{Node, Forest, no_trees, tree_then}
use Rattle.sx_model.specs.Paths.{paths_below, with_paths}
use Rattle.sx_model.specs.Records.{NodeRow, PathRow, at_top, row, rows}
use Rattle.sx_model.specs.Holes.{Shown}
use Rattle.sx_edit.specs.declared.fault.EditFault.{EditFault}
use Rattle.sx_edit.specs.Pathways.{IsPathAt, Kept, Lists, Numbers, Stops, more_on}
use Rattle.sx_edit.specs.Told.{Holds, AreDistinct, numbers_of}
use Rattle.sx_edit.specs.declared.trees.Children.{Children}

-- Rows came, wherever they have numbers of their own, and all else is as it was.
unfoldable pub IsAdded : List (ℕ × NodeRow) → Option (RecordMap NodeRecord) → Option (RecordMap NodeRecord) → Type 0
IsAdded entries before after =
    (xs ys : List (ℕ × NodeRow)) → AreDistinct (numbers_of (xs ++ (entries ++ ys))) → Holds before (xs ++ ys) → Holds after (xs ++ (entries ++ ys))

-- the nodes of an array and of an object
abbrev pub array_node : ℕ → Node
array_node n = record { number = n; kind = Array; label = [] }

abbrev pub object_node : ℕ → Node
object_node n = record { number = n; kind = Object; label = [] }

-- the node at the top of a value's tree, and the trees below it
abbrev pub top_of : Value → ℕ → Node
top_of (scalar s) n = scalar_node n s
top_of (array vs) n = array_node n
top_of (object fs) n = object_node n

abbrev pub trees_below : Value → ℕ → Forest
trees_below (scalar s) n = no_trees
trees_below (array vs) n = numbered_values vs (suc n)
trees_below (object fs) n = numbered_fields fs (suc n)

-- the paths of all values of a value's tree, whose own path is this
abbrev pub value_paths : Value → ℕ → List Step → List (List Step)
value_paths v n steps = steps ∷ paths_below (Some (top_of v n)) steps (trees_below v n)

-- the rows of the first children of a node, which stands on this path, with a sibling to their right, or of all of them
abbrev pub child_rows : (List Step → ℕ) → Node → List Step → Option ℕ → Forest → List (ℕ × NodeRow)
child_rows number parent steps right trees = rows local_hash number (record { above = Some parent; path = steps; left = None; right = right }) trees

-- the paths and the rows of trees below a node, from its path
abbrev pub paths_under_node : Node → Forest → List Step → List (List Step)
paths_under_node parent trees steps = paths_below (Some parent) steps trees

abbrev pub rows_under_node : Node → Forest → (List Step → ℕ) → List Step → List (ℕ × NodeRow)
rows_under_node parent trees number steps = child_rows number parent steps None trees

-- the row of a node with these trees below it, but for its links to other nodes, where its path has this number
abbrev pub top_row : ℕ → Node → Forest → NodeRow
top_row path n below = row local_hash (λ steps. path) at_top n below

-- Rows came, and these paths were counted, and listed where they were not. The paths, and by the numbers of paths the rows, are told
-- from the path of this number.
unfoldable pub IsGrown : (List Step → List (List Step)) → ((List Step → ℕ) → List Step → List (ℕ × NodeRow)) → ℕ → Kept → Kept → Type 0
IsGrown paths entries path before after =
    (listed : List (List Step)) (count : List Step → ℕ) (steps : List Step) → Lists before.table listed count → IsPathAt listed steps path
    → Lists after.table (with_paths listed (paths steps)) (more_on (paths steps) count)
    × ((number : List Step → ℕ) → Numbers number (with_paths listed (paths steps)) → IsAdded (entries number steps) before.told after.told)

-- Where the counts have room for so many more, this stops for want of room or of memory alone. There were so many paths before the edit.
unfoldable pub StopsGrowing : (List Step → List (List Step)) → ℕ → ℕ → ℕ → List PathRow → EditFault → Type 0
StopsGrowing paths path more had before fault =
    (listed : List (List Step)) (count : List Step → ℕ) (steps : List Step) → Lists before listed count → IsPathAt listed steps path
    → ((other : List Step) → count other + more < 2 ^ 32) → Stops had listed (paths steps) fault

-- the same row with these links
abbrev pub linked : ℕ → Option ℕ → Option ℕ → NodeRow → NodeRow
linked parent left right w = record w { parent = Some parent; left = left; right = right }

-- the number, where the test holds
abbrev pub only_if : Bool → ℕ → Option ℕ
only_if true n = Some n
only_if false n = None

-- what is kept of children is what their trees show, with the sum of the hashes modulo 2^128
pub record IsKept (children : Children) (trees : Shown) : Type 0 where
  pub first : children.first ≡ trees.first
  pub last : children.last ≡ trees.last
  pub count : children.count ≡ trees.trees
  pub nodes : children.nodes ≡ trees.nodes
  pub hash : children.hash ≡ trees.hashes % 2 ^ 128

-- one more child, of this number, with so many nodes below it and this hash
pub record IsOneMore (old new : Children) (number descendants own : ℕ) : Type 0 where
  pub first : new.first ≡ option_or old.first (Some number)
  pub last : new.last ≡ Some number
  pub count : new.count ≡ old.count + 1
  pub nodes : new.nodes ≡ old.nodes + (descendants + 1)
  pub hash : new.hash ≡ (old.hash + own) % 2 ^ 128

-- the record of a Key over a value, the row of whose top is this, on the path of the value
abbrev pub IsKeyOver : ℕ → List ℕ → NodeRow → NodeRecord → Type 0
IsKeyOver number name w r =
    (path : ℕ) (v : Node) (below : Forest) → v.number ≡ suc number → w ≡ top_row path v below
    → row_of r ≡ top_row path (record { number = number; kind = Key; label = name }) (tree_then v below no_trees)

-- The paths of a document: which values stand alike.
use Rattle.std.specs.Prelude.{ℕ, Bool, false, true, if◌then◌else◌, List, [], ◌∷◌, ◌++◌, count_by, Option, None, Some, unwrap_or, bytes_eq}
use Rattle.std.specs.List.{list_any, position_from}
use lib.Pointwise.{pointwise}
use Rattle.sx_tree.specs.declared.record.Kind.{Kind}
use Rattle.sx_tree.specs.declared.record.Kind.TheVariants.{Document, Object, Array, Key, Str, Number, Bool as Truth, Null}
use Rattle.sx_tree.specs.declared.record.Step.{Step}
use Rattle.sx_tree.specs.declared.record.Step.TheVariants.{Top, Item, Name}
use Rattle.sx_model.specs.Tree.{Node, Forest, no_trees, tree_then, is_value}

-- A path is a list of steps, here with the last step first. Its first step is Top. The Document's path has no steps.

-- the path of a child of a node of this kind and path, where this is the child's label
abbrev pub path_below : Kind → List Step → List ℕ → List Step
path_below Document path label = Top ∷ []
path_below Object path label = Name label ∷ path
path_below Array path label = Item ∷ path
path_below Key path label = path
path_below Str path label = path
path_below Number path label = path
path_below Truth path label = path
path_below Null path label = path

-- the path of a node from the node above it, and that one's path
abbrev pub path_of : Option Node → List Step → List ℕ → List Step
path_of None path label = []
path_of (Some above) path label = path_below above.kind path label

-- the paths of the value nodes in preorder, below this node, which has this path
abbrev pub paths_below : Option Node → List Step → Forest → List (List Step)
paths_below above path no_trees = []
paths_below above path (tree_then n below rest) =
    (if is_value n.kind then path_of above path n.label ∷ [] else [])
    ++ (paths_below (Some n) (path_of above path n.label) below ++ paths_below above path rest)

-- those of a whole document
abbrev pub paths_in : Forest → List (List Step)
paths_in trees = paths_below None [] trees

-- ---- lists of paths

abbrev pub same_step : Step → Step → Bool
same_step Top Top = true
same_step Top Item = false
same_step Top (Name name) = false
same_step Item Top = false
same_step Item Item = true
same_step Item (Name name) = false
same_step (Name name) Top = false
same_step (Name name) Item = false
same_step (Name name) (Name other) = bytes_eq name other

abbrev pub same_path : List Step → List Step → Bool
same_path = pointwise same_step

-- the list with those of the paths behind it that it lacks, in their order, each once
abbrev pub with_paths : List (List Step) → List (List Step) → List (List Step)
with_paths listed [] = listed
with_paths listed (path ∷ paths) = with_paths (if list_any (same_path path) listed then listed else listed ++ path ∷ []) paths

-- the number of a path is its place in the list, counted from 1; the Document's, which is never there, is 0
abbrev pub number_of : List (List Step) → List Step → ℕ
number_of listed path = unwrap_or (position_from (same_path path) 1 listed) 0

-- how many value nodes stand on the path
abbrev pub count_on : List Step → Forest → ℕ
count_on path trees = count_by (same_path path) (paths_in trees)

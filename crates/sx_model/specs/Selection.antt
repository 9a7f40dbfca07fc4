-- What a path of steps selects in a document.
use Rattle.std.specs.Prelude.{ℕ, ◌==◌, ◌&&◌, Bool, false, List, [], ◌∷◌, filter, bytes_eq}
use Rattle.std.specs.List.{list_any}
use Rattle.sx_tree.specs.declared.steps.PathStep.{PathStep}
use Rattle.sx_tree.specs.declared.steps.PathStep.TheVariants.{Name, Item, Anywhere}
use Rattle.sx_model.specs.Tree.{Node, Forest, is_array, is_document, is_key, is_object}
use Rattle.sx_model.specs.Axes.{Stand, stands, numbers_of}

-- a set of nodes, by their numbers, has the node
abbrev pub has : List ℕ → Node → Bool
has set n = list_any (λ k. k == n.number) set

abbrev pub has_some : List ℕ → List Node → Bool
has_some set ns = list_any (has set) ns

-- Whether a step leads from a node of the set to the node with these above it: from an Object to the value of the Key of this
-- name, from an Array to its elements, and from any node to the value of each such Key below.
abbrev pub leads : PathStep → List ℕ → List Node → Bool
leads (Name name) set [] = false
leads (Name name) set (key ∷ []) = false
leads (Name name) set (key ∷ parent ∷ above) = is_key key.kind && bytes_eq key.label name && is_object parent.kind && has set parent
leads Item set [] = false
leads Item set (parent ∷ above) = is_array parent.kind && has set parent
leads (Anywhere name) set [] = false
leads (Anywhere name) set (key ∷ above) = is_key key.kind && bytes_eq key.label name && has_some set above

-- each step is taken from the whole set, and leads to nodes in preorder
abbrev pub selected_from : List PathStep → List ℕ → List Stand → List ℕ
selected_from [] set all = set
selected_from (step ∷ steps) set all = selected_from steps (numbers_of (filter (λ s. leads step set s.above) all)) all

abbrev pub is_child_of_document : List Node → Bool
is_child_of_document [] = false
is_child_of_document (parent ∷ above) = is_document parent.kind

-- what the steps select, from the Document's child on
abbrev pub selected : List PathStep → Forest → List ℕ
selected steps trees = selected_from steps (numbers_of (filter (λ s. is_child_of_document s.above) (stands trees))) (stands trees)

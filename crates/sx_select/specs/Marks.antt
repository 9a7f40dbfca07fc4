-- How far the steps of a path have led to the nodes of one level, and which nodes they select.
use Rattle.std.specs.Prelude.{◌&&◌, ◌||◌, ℕ, Bool, true, false, List, [], ◌∷◌, ◌++◌, bytes_eq}
use Rattle.sx_tree.specs.declared.record.Kind.{Kind}
use Rattle.sx_tree.specs.declared.steps.PathStep.{PathStep}
use Rattle.sx_tree.specs.declared.steps.PathStep.TheVariants.{Name, Item, Anywhere}
use Rattle.sx_model.specs.Tree.{Forest, no_trees, tree_then, is_array, is_document, is_key, is_object}
use Rattle.sx_select.specs.declared.mark.Mark.{Mark}

-- whether a step leads to the children of a node of this kind and label, on a level with this mark
abbrev pub leads_below : PathStep → Mark → Kind → List ℕ → Bool
leads_below (Name name) mark kind label = is_key kind && bytes_eq label name && mark.object
leads_below Item mark kind label = is_array kind && mark.here
leads_below (Anywhere name) mark kind label = is_key kind && bytes_eq label name && mark.above

-- the marks of the children of a node, where its own are these, and its children are in the first set or not
abbrev pub marks_below : List PathStep → List Mark → Kind → List ℕ → Bool → List Mark
marks_below [] marks kind label comes = []
marks_below (step ∷ steps) [] kind label comes = []
marks_below (step ∷ steps) (mark ∷ marks) kind label comes =
    record { here = comes; object = is_object kind && mark.here; above = mark.here || mark.above } ∷ marks_below steps marks kind label (leads_below step mark kind label)

-- whether the children are in the last set
abbrev pub last_below : List PathStep → List Mark → Kind → List ℕ → Bool → Bool
last_below [] marks kind label comes = comes
last_below (step ∷ steps) [] kind label comes = false
last_below (step ∷ steps) (mark ∷ marks) kind label comes = last_below steps marks kind label (leads_below step mark kind label)

-- nothing has led anywhere yet
abbrev pub no_marks : List PathStep → List Mark
no_marks [] = []
no_marks (step ∷ steps) = record { here = false; object = false; above = false } ∷ no_marks steps

-- the number of a node that is selected
abbrev pub listed_one : Bool → ℕ → List ℕ
listed_one true k = k ∷ []
listed_one false k = []

-- the numbers in preorder of the selected nodes of these trees, whose level has these marks and is in the last set or not
abbrev pub picked : List PathStep → List Mark → Bool → Forest → List ℕ
picked steps marks last no_trees = []
picked steps marks last (tree_then n below rest) =
    listed_one last n.number
    ++ (picked steps (marks_below steps marks n.kind n.label (is_document n.kind)) (last_below steps marks n.kind n.label (is_document n.kind)) below ++ picked steps marks last rest)

-- The canonical text of a node with all below it.
use Rattle.std.specs.Prelude.{ℕ, zero, suc, Bool, true, false, List, [], ◌∷◌, ◌++◌, codes, Option, option_map}
use Rattle.sx_tree.specs.declared.record.Kind.{Kind}
use Rattle.sx_tree.specs.declared.record.Kind.TheVariants.{Document, Object, Array, Key, Str, Number, Bool as Truth, Null}
use Rattle.sx_model.specs.Canonical.{string_text}
use Rattle.sx_model.specs.Tree.{Forest, no_trees, tree_then, spot}

-- the text of a boolean, from its label
abbrev pub truth_text : List ℕ → List ℕ
truth_text [] = codes "false"
truth_text (zero ∷ bytes) = codes "false"
truth_text (suc n ∷ bytes) = codes "true"

-- what a node's text begins with
abbrev pub opening : Kind → List ℕ → List ℕ
opening Document label = []
opening Object label = 123 ∷ []
opening Array label = 91 ∷ []
opening Key label = string_text label ++ 58 ∷ []
opening Str label = string_text label
opening Number label = label
opening Truth label = truth_text label
opening Null label = codes "null"

-- what it ends with
abbrev pub closing : Kind → List ℕ
closing Document = []
closing Object = 125 ∷ []
closing Array = 93 ∷ []
closing Key = []
closing Str = []
closing Number = []
closing Truth = []
closing Null = []

-- a comma, where a tree has come before
abbrev pub comma : Bool → List ℕ
comma true = 44 ∷ []
comma false = []

-- the texts of trees side by side, with a comma between each two
abbrev pub texts : Bool → Forest → List ℕ
texts begun no_trees = []
texts begun (tree_then n below rest) =
    comma begun ++ (opening n.kind n.label ++ (texts false below ++ (closing n.kind ++ texts true rest)))

-- the text of a document: nothing where the Document has no child
abbrev pub document_text : Forest → List ℕ
document_text trees = texts false trees

-- the text of the node of this number, where it is in the document
abbrev pub text_at : ℕ → Forest → Option (List ℕ)
text_at k trees = option_map (λ s. texts false (tree_then s.node s.below no_trees)) (spot k trees)

-- The paths of trees: side by side, in a hole, and of values.
use Rattle.std.proofs.Common.{◌≡◌, ℕ, ◌≤◌, Bool, true, false, cond, List, [], ◌∷◌, ◌++◌, length, Option, Some, refl, sym, ap, arith, append_assoc, append-nil}
use Rattle.std.proofs.lemmas.List.{length-append}
use Rattle.sx_tree.specs.declared.json.Scalar.{Scalar}
use Rattle.sx_tree.specs.declared.json.Scalar.TheVariants as scalars
use Rattle.sx_tree.specs.declared.record.Step.{Step}
use Rattle.sx_tree.specs.Value.{Value, scalar, array, object}
use Rattle.sx_model.specs.Holes.{Frame, around_hole, filled, plug}
use Rattle.sx_model.specs.Numbered.{numbered, scalar_node}
use Rattle.sx_model.specs.Paths.{path_below, path_of, paths_below, paths_in}
use Rattle.sx_model.specs.Tree.{Node, Forest, no_trees, tree_then, beside, is_value, size}
use Rattle.sx_edit.specs.Grow.{top_of, value_paths}
use Rattle.sx_edit.specs.Pathways.{own_of, own_path, paths_under}

pub paths-beside : (above : Option Node) (steps : List Step) (xs ys : Forest) → paths_below above steps (beside xs ys) ≡ paths_below above steps xs ++ paths_below above steps ys
paths-beside above steps no_trees ys = refl
paths-beside above steps (tree_then n below rest) ys = simp (paths-beside above steps rest ys, append_assoc)

pub own-few : (b : Bool) (steps : List Step) → length (cond b (steps ∷ []) []) ≤ 1
own-few true steps = omega arith
own-few false steps = omega arith

-- there are no more of them than nodes
pub paths-few : (above : Option Node) (steps : List Step) (trees : Forest) → length (paths_below above steps trees) ≤ size trees
paths-few above steps no_trees = omega arith
paths-few above steps (tree_then n below rest) =
    let here : List Step = path_of above steps n.label in
    let inner : List (List Step) = paths_below (Some n) here below in
    let others : List (List Step) = paths_below above steps rest in
    omega (
      arith,
      own-few (is_value n.kind) here,
      paths-few (Some n) here below,
      paths-few above steps rest,
      length-append (cond (is_value n.kind) (here ∷ []) []) (inner ++ others),
      length-append inner others,
    )

-- ---- values

scalar-value : (s : Scalar) (n : ℕ) → is_value (scalar_node n s).kind ≡ true
scalar-value (scalars.Str content) n = refl
scalar-value (scalars.Number literal) n = refl
scalar-value (scalars.Bool true) n = refl
scalar-value (scalars.Bool false) n = refl
scalar-value scalars.Null n = refl

-- a value has its own path and those of what is below it
pub paths-value : (v : Value) (n : ℕ) (m : Node) (steps : List Step) → paths_below (Some m) steps (numbered v n no_trees) ≡ value_paths v n (path_below m.kind steps (top_of v n).label)
paths-value (scalar s) n m steps = ap (λ b. cond b (path_below m.kind steps (scalar_node n s).label ∷ []) [] ++ []) (scalar-value s n)
paths-value (array vs) n m steps = ap (λ ps. path_below m.kind steps [] ∷ ps) (append-nil _)
paths-value (object fs) n m steps = ap (λ ps. path_below m.kind steps [] ∷ ps) (append-nil _)

-- ---- trees with a hole

-- the paths in preorder, up to the hole and from it on
abbrev pub paths_before : List Frame → List (List Step)
paths_before [] = []
paths_before (frame ∷ frames) = paths_before frames ++ (paths_under (around_hole frames) frame.before ++ own_of frame.node.kind (own_path (around_hole frames) frame.node))

abbrev pub paths_behind : List Frame → List (List Step)
paths_behind [] = []
paths_behind (frame ∷ frames) = paths_under (around_hole frames) frame.behind ++ paths_behind frames

pub paths-plug : (frames : List Frame) (inside : Forest) → paths_in (plug frames inside) ≡ paths_before frames ++ (paths_under (around_hole frames) inside ++ paths_behind frames)
paths-plug [] inside = sym (append-nil _)
paths-plug (frame ∷ frames) inside = simp (paths-plug frames (filled frame inside), paths-beside, append_assoc)

-- the same around trees that stand between others
abbrev pub paths_left : List Frame → Forest → List (List Step)
paths_left frames before = paths_before frames ++ paths_under (around_hole frames) before

abbrev pub paths_right : List Frame → Forest → List (List Step)
paths_right frames behind = paths_under (around_hole frames) behind ++ paths_behind frames

pub paths-among : (frames : List Frame) (before inside behind : Forest)
    → paths_in (plug frames (beside before (beside inside behind))) ≡ paths_left frames before ++ (paths_under (around_hole frames) inside ++ paths_right frames behind)
paths-among frames before inside behind = simp (paths-plug frames (beside before (beside inside behind)), paths-beside, append_assoc)

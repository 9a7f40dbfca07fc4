-- The paths of a state that an edit leaves.
use Rattle.std.proofs.Common.{◌≡◌, ℕ, ◌+◌, not, ◌&&◌, List, [], ◌∷◌, Option, Some, None, refl, subst}
use Rattle.std.specs.Prelude.{Ok, if◌then◌else◌, is_none, is_some, option_and_then}
use Rattle.sx_tree.specs.declared.edit.EditRefusal.{EditRefusal}
use Rattle.sx_tree.specs.declared.edit.EditRefusal.TheVariants.{NameMissing, NameUnasked}
use Rattle.sx_tree.specs.declared.edit.Place.{Place}
use Rattle.sx_tree.specs.declared.edit.Place.TheVariants.{Last}
use Rattle.sx_tree.specs.Value.{Value, nodes}
use Rattle.sx_model.specs.Edit.{Edit, apply, child_of, document_full, entering, if_place, if_there, insert, insert_at, insert_below, inserted, load, load_over, must_stay, name_taken, named_by, numbers_spent, other_keys, paths_spent, remove, rename, replace, replace_at, set_scalar, target, too_deep, unless, when, with_trees, wrong_kind}
use Rattle.sx_model.specs.Numbered.{numbered, scalar_node}
use Rattle.sx_model.specs.Paths.{paths_in, with_paths}
use Rattle.sx_model.specs.State.{State}
use Rattle.sx_model.specs.Tree.{Node, Forest, tree_then, Spot, change_at, is_key, is_object, is_scalar, is_value, spot, tops}
use Rattle.sx_model.proofs.Accepted.{place_ok, there_ok, unless_ok}

-- the new state has the paths of the old one, and those of its own trees
abbrev pub Adds : State → State → Type 0
Adds old new = new.paths ≡ with_paths old.paths (paths_in new.trees)

made : (old new : State) (more : ℕ) (trees : Forest) (refusals : List (Option EditRefusal)) → unless refusals (with_trees old more trees) ≡ Ok new → Adds old new
made old new more trees refusals is = subst (λ (s : State). s.paths ≡ with_paths old.paths (paths_in s.trees)) (unless_ok refusals (with_trees old more trees) new is).0 refl

insert-adds : (place : Place) (name : Option (List ℕ)) (v : Value) (old new : State) → insert_at place name v old ≡ Ok new → Adds old new
insert-adds place name v old new is =
    let there = there_ok (named_by place) (λ s. if_place s.node (insert_below place name v old) (target place s)) (spot (named_by place) old.trees) new is in
    let into = place_ok there.0.node (insert_below place name v old) (target place there.0) new there.2 in
    let more : ℕ = if is_object into.0.parent.kind then 1 + nodes v else nodes v in
    let trees : Forest = inserted place (entering name v old.next) old.trees in
    made old new more trees (
    option_and_then (λ asked. name_taken asked (tops into.0.children)) name
    ∷ document_full into.0.parent (tops into.0.children)
    ∷ too_deep (into.0.parent ∷ into.0.above) v
    ∷ numbers_spent old more
    ∷ when (is_object into.0.parent.kind && is_none name) NameMissing
    ∷ when (not (is_object into.0.parent.kind) && is_some name) NameUnasked
    ∷ paths_spent old (with_trees old more trees)
    ∷ []
    ) into.2

replace-adds : (k : ℕ) (v : Value) (old new : State) → replace_at k v old ≡ Ok new → Adds old new
replace-adds k v old new is =
    let trees : Forest = change_at k (λ n below rest. numbered v old.next rest) old.trees in
    let next : State = with_trees old (nodes v) trees in
    let refusals = λ (t : Spot). wrong_kind (not (is_value t.node.kind)) t.node ∷ too_deep t.above v ∷ numbers_spent old (nodes v) ∷ paths_spent old next ∷ [] in
    let there = there_ok k (λ t. unless (refusals t) next) (spot k old.trees) new is in
    made old new (nodes v) trees (refusals there.0) there.2

load-adds : (child : Option Node) (v : Value) (old new : State) → load_over child v old ≡ Ok new → Adds old new
load-adds None v old new is = insert-adds (Last 0) None v old new is
load-adds (Some child) v old new is = replace-adds child.number v old new is

-- an edit that makes no node
kept-adds : (k : ℕ) (trees : Forest) (refusals : Spot → List (Option EditRefusal)) (old new : State)
    → if_there k (λ t. unless (refusals t) (with_trees old 0 trees)) (spot k old.trees) ≡ Ok new → Adds old new
kept-adds k trees refusals old new is =
    let there = there_ok k (λ t. unless (refusals t) (with_trees old 0 trees)) (spot k old.trees) new is in
    made old new 0 trees (refusals there.0) there.2

pub apply-adds : (edit : Edit) (old new : State) → apply edit old ≡ Ok new → Adds old new
apply-adds (load v) old new is = load-adds (child_of old.trees) v old new is
apply-adds (insert place name v) old new is = insert-adds place name v old new is
apply-adds (set_scalar k s) old new is =
    let trees : Forest = change_at k (λ n below rest. tree_then (scalar_node k s) below rest) old.trees in
    kept-adds k trees (λ t. wrong_kind (not (is_scalar t.node.kind)) t.node ∷ paths_spent old (with_trees old 0 trees) ∷ []) old new is
apply-adds (replace k v) old new is = replace-adds k v old new is
apply-adds (rename k name) old new is =
    let trees : Forest = change_at k (λ n below rest. tree_then (record n { label = name }) below rest) old.trees in
    kept-adds k trees (λ t. wrong_kind (not (is_key t.node.kind)) t.node ∷ name_taken name (other_keys t) ∷ paths_spent old (with_trees old 0 trees) ∷ []) old new is
apply-adds (remove k) old new is =
    let trees : Forest = change_at k (λ n below rest. rest) old.trees in
    kept-adds k trees (λ t. wrong_kind (must_stay t.above) t.node ∷ paths_spent old (with_trees old 0 trees) ∷ []) old new is

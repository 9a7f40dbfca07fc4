-- A node of a state among the paths of the others.
use Rattle.std.proofs.Common.{◌≡◌, ℕ, true, List, [], ◌∷◌, ◌++◌, Option, Some, None, refl, sym, ap, subst, ◌∙◌, append-nil}
use Rattle.std.specs.Prelude.{IsTrue, cond}
use Rattle.sx_tree.specs.declared.record.Kind.{Kind}
use Rattle.sx_tree.specs.declared.record.Kind.TheVariants.{Document, Object, Array, Key, Str, Number, Bool as Truth, Null}
use Rattle.sx_tree.specs.declared.record.Step.{Step}
use Rattle.sx_tree.specs.declared.record.NodeRecord.{NodeRecord}
use Rattle.sx_view.specs.Records.{RecordMap}
use Rattle.sx_view.specs.Rows.{row_of}
use Rattle.sx_model.specs.Hash.{local_hash}
use Rattle.sx_model.specs.Holes.{Frame, around_hole, plug, filled}
use Rattle.sx_model.specs.Paths.{path_below, path_of, paths_in}
use Rattle.sx_model.specs.Records.{Around, NodeRow, PathRow, around_children}
use Rattle.sx_model.specs.State.{State}
use Rattle.sx_model.specs.Tree.{Node, Forest, no_trees, tree_then, beside, is_key, is_scalar, is_value, may_stand, may_stand_below, FitBelow}
use Rattle.sx_model.proofs.Plugging.{above, fit_back}
use Rattle.sx_edit.specs.Answers.{IsTableOf}
use Rattle.sx_edit.specs.Holes.{own_row}
use Rattle.sx_edit.specs.Pathways.{HasAll, IsPathAt, Lists, more_on, own_of, own_path, paths_under}
use Rattle.sx_edit.proofs.Looking.{IsSeen}
use Rattle.sx_edit.proofs.Pathing.{all-back, all-front}
use Rattle.sx_edit.proofs.Swapping.{counts_around, lists-around}
use Rattle.sx_edit.proofs.TreePaths.{paths-among, paths_left, paths_right}

pub fit_inside : (frames : List Frame) (inside : Forest) → FitBelow None (plug frames inside) → FitBelow (above frames) inside
fit_inside [] inside fit = fit
fit_inside (frame ∷ frames) inside fit = (fit_back (above frames) frame.before (tree_then frame.node inside frame.behind) (fit_inside frames (filled frame inside) fit)).3

-- a value's path has no name as its last step
value-path_below : (kind child : Kind) (path : List Step) (l m : List ℕ) → is_value child ≡ true → IsTrue (may_stand_below kind child) → path_below kind path l ≡ path_below kind path m
value-path_below Document child path l m value stands = refl
value-path_below Object child path l m value stands = absurd (no_key child value stands)
  where
    no_key : (child : Kind) → is_value child ≡ true → IsTrue (is_key child) → ⊥
    no_key Document value key = absurd cc
    no_key Object value key = absurd cc
    no_key Array value key = absurd cc
    no_key Key value key = absurd cc
    no_key Str value key = absurd cc
    no_key Number value key = absurd cc
    no_key Truth value key = absurd cc
    no_key Null value key = absurd cc
value-path_below Array child path l m value stands = refl
value-path_below Key child path l m value stands = refl
value-path_below Str child path l m value stands = refl
value-path_below Number child path l m value stands = refl
value-path_below Truth child path l m value stands = refl
value-path_below Null child path l m value stands = refl

pub value-path : (frames : List Frame) (kind : Kind) (l m : List ℕ) → is_value kind ≡ true → IsTrue (may_stand (above frames) kind)
    → path_of (around_hole frames).above (around_hole frames).path l ≡ path_of (around_hole frames).above (around_hole frames).path m
value-path [] kind l m value stands = refl
value-path (frame ∷ frames) kind l m value stands = value-path_below frame.node.kind kind (around_hole (frame ∷ frames)).path l m value stands

-- nothing is below a scalar
pub scalar-alone : (kind : Kind) (below : Forest) → is_scalar kind ≡ true → FitBelow (Some kind) below → below ≡ no_trees
scalar-alone kind no_trees scalar fit = refl
scalar-alone Document (tree_then n below rest) scalar fit = absurd cc
scalar-alone Object (tree_then n below rest) scalar fit = absurd cc
scalar-alone Array (tree_then n below rest) scalar fit = absurd cc
scalar-alone Key (tree_then n below rest) scalar fit = absurd cc
scalar-alone Str (tree_then n below rest) scalar fit = absurd (let none = fit.0 in cc)
scalar-alone Number (tree_then n below rest) scalar fit = absurd (let none = fit.0 in cc)
scalar-alone Truth (tree_then n below rest) scalar fit = absurd (let none = fit.0 in cc)
scalar-alone Null (tree_then n below rest) scalar fit = absurd (let none = fit.0 in cc)

pub scalar-value : (kind : Kind) → is_scalar kind ≡ true → is_value kind ≡ true
scalar-value Document is = absurd cc
scalar-value Object is = absurd cc
scalar-value Array is = absurd cc
scalar-value Key is = absurd cc
scalar-value Str is = refl
scalar-value Number is = refl
scalar-value Truth is = refl
scalar-value Null is = refl

-- The paths before the trees at a place, theirs, and those behind.
pub record IsSited (state : State) (table : List PathRow) (frames : List Frame) (left inside right : Forest) : Type 0 where
  pub paths_are : paths_in state.trees ≡ paths_left frames left ++ (paths_under (around_hole frames) inside ++ paths_right frames right)
  pub before : HasAll state.paths (paths_left frames left)
  pub here : HasAll state.paths (paths_under (around_hole frames) inside)
  pub behind : HasAll state.paths (paths_right frames right)
  pub lists : Lists table state.paths (more_on (paths_under (around_hole frames) inside) (counts_around (paths_left frames left) (paths_right frames right)))

pub sited : (state : State) (table : List PathRow) (frames : List Frame) (left inside right : Forest) → IsTableOf state table → state.trees ≡ plug frames (beside left (beside inside right))
    → IsSited state table frames left inside right
sited state table frames left inside right of_state stands =
    let paths_are = ap paths_in stands ∙ paths-among frames left inside right in
    let all = subst (HasAll state.paths) paths_are of_state.listed in
    let rest = all-back state.paths (paths_left frames left) _ all in
    record {
      paths_are = paths_are;
      before = all-front state.paths (paths_left frames left) _ all;
      here = all-front state.paths (paths_under (around_hole frames) inside) _ rest;
      behind = all-back state.paths (paths_under (around_hole frames) inside) _ rest;
      lists = lists-around table state.paths (paths_left frames left) (paths_under (around_hole frames) inside) (paths_right frames right) state.trees paths_are of_state.lists;
    }

-- the paths of a node's tree
pub paths-tree : (around : Around) (n : Node) (below : Forest) → paths_under around (tree_then n below no_trees) ≡ own_of n.kind (own_path around n) ++ paths_under (around_children around n) below
paths-tree around n below = ap (λ ps. own_of n.kind (own_path around n) ++ ps) (append-nil _)

-- a value's own path is listed, and its record has its number
pub own-listed : (k : ℕ) (state : State) (o : Option (RecordMap NodeRecord)) (r : NodeRecord) (table : List PathRow) (s : IsSeen k state o r)
    → IsSited state table s.at.around s.at.left (tree_then s.at.node s.at.below no_trees) s.at.right → is_value r.kind ≡ true → IsPathAt state.paths (own_path (around_hole s.at.around) s.at.node) r.path
own-listed k state o r table s site value =
    let n : Node = s.at.node in
    let path : List Step = own_path (around_hole s.at.around) n in
    let kind : is_value n.kind ≡ true = sym (ap (λ (w : NodeRow). is_value w.kind) s.row) ∙ value in
    let own : own_of n.kind path ≡ path ∷ [] = ap (λ b. cond b (path ∷ []) []) kind in
    let all = subst (HasAll state.paths) (paths-tree (around_hole s.at.around) n s.at.below) site.here in
    record {
      there = (subst (HasAll state.paths) own (all-front state.paths (own_of n.kind path) _ all)).0;
      is = ap (λ (w : NodeRow). w.path) s.row;
    }

-- the row of the node by any numbers, with the number of its own path
pub seen-row : (k : ℕ) (state : State) (o : Option (RecordMap NodeRecord)) (r : NodeRecord) (s : IsSeen k state o r) (number : List Step → ℕ)
    → row_of r ≡ record (own_row local_hash number s.at.around s.at.left s.at.node s.at.below s.at.right) { path = r.path }
seen-row k state o r s number = λ i. record (s.row i) { path = r.path }

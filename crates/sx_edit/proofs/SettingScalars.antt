-- What setting a scalar answers over the records of a state.
use Rattle.std.proofs.Common.{◌≡◌, ℕ, ◌+◌, ◌≤◌, Bool, true, false, cond, List, [], ◌∷◌, ◌++◌, Option, Some, None, refl, sym, ap, subst, ◌∙◌, arith}
use Rattle.std.specs.Prelude.{Ok, Err, not, length, reverse}
use Rattle.std.proofs.lemmas.List.{length-reverse}
use Rattle.std.specs.Option.{ForSome}
use Rattle.std.specs.FinMap as fin
use Rattle.sx_tree.specs.declared.edit.EditRefusal.TheVariants.{WrongKind}
use Rattle.sx_tree.specs.declared.json.Scalar.{Scalar}
use Rattle.sx_tree.specs.declared.json.Scalar.TheVariants as scalars
use Rattle.sx_tree.specs.declared.record.Kind.{Kind}
use Rattle.sx_tree.specs.declared.record.Step.{Step}
use Rattle.sx_tree.specs.declared.record.NodeRecord.{NodeRecord}
use Rattle.sx_view.specs.Records.{RecordMap}
use Rattle.sx_model.specs.Edit.{set_scalar, if_there, path_limit, unless, wrong_kind, paths_spent, with_trees}
use Rattle.sx_model.specs.Hash.{local_hash}
use Rattle.sx_model.specs.Numbered.{scalar_node}
use Rattle.sx_model.specs.Paths.{number_of, paths_below, paths_in, with_paths}
use Rattle.sx_model.specs.State.{State}
use Rattle.sx_model.specs.Tree.{Node, Forest, no_trees, tree_then, beside, is_scalar, is_value, change_at, FitBelow, Spot, size}
use Rattle.sx_model.specs.Holes.{Frame, around_hole, plug, shown}
use Rattle.sx_model.specs.Records.{Around, NodeRow, PathRow, around_children, rows}
use Rattle.sx_model.proofs.Holes.{rows-plug}
use Rattle.sx_model.proofs.Plugging.{above, fit_back}
use Rattle.sx_edit.specs.Room.{CountsLevels, nodes_of}
use Rattle.sx_edit.specs.declared.fault.EditFault.TheVariants.{Refused}
use Rattle.sx_edit.specs.Seen.{IsChain, entries_of, upward}
use Rattle.sx_edit.specs.Told.{Shows}
use Rattle.sx_edit.specs.declared.trees.Seen.{Seen}
use Rattle.sx_edit.specs.Edited.{Standing, labeled, rows_in, rows_with, trees_around, IsRelabeled}
use Rattle.sx_edit.specs.Answers.{AreOf, AnswersEach, GetsFew, IsTableOf}
use Rattle.sx_edit.specs.Pathways.{Kept, Lists, kept, more_on, own_of, own_path, paths_under}
use Rattle.sx_edit.proofs.Looking.{Looked, nowhere, somewhere, look, IsSeen}
use Rattle.sx_edit.proofs.Answering.{IsNoState}
use Rattle.sx_edit.proofs.Pathing.{with-all}
use Rattle.sx_edit.proofs.Sited.{fit_inside, scalar-alone, scalar-value, sited, value-path}
use Rattle.sx_edit.proofs.Climbing.{parent-around_hole}
use Rattle.sx_edit.proofs.Failing.{length-rows_above}
use Rattle.sx_edit.proofs.Relabeling.{deep-plug, standing-rows}
use Rattle.sx_edit.proofs.Standing.{new-whole, rows-own}
use Rattle.sx_edit.proofs.Swapping.{counts_around, state-paths, paths-room, table-around}
use Rattle.sx_edit.proofs.TreePaths.{paths-among, paths_left, paths_right}

-- the node of the record is there
pub seen : (k : ℕ) (state : State) (next : ℕ) (o : Option (RecordMap NodeRecord)) (r : NodeRecord) → AreOf state next o → ForSome o (λ m. fin.get m k ≡ Some r) → IsSeen k state o r
seen k state next o r are there = go (look k state next o (Some r) are (λ m e. sym (there m e)))
  where
    go : Looked k state o (Some r) → IsSeen k state o r
    go (nowhere none no_spot) = absurd cc
    go (somewhere s e seen) = subst (λ q. IsSeen k state o q) (let same : s ≡ r = cc in same) seen

pub length-nodes_of : (frames : List Frame) → length (nodes_of frames) ≡ length frames
length-nodes_of [] = refl
length-nodes_of (frame ∷ frames) = omega (arith, length-nodes_of frames)

scalar-kind_of : (s : Scalar) (n : ℕ) → is_scalar (scalar_node n s).kind ≡ true
scalar-kind_of (scalars.Str content) n = refl
scalar-kind_of (scalars.Number literal) n = refl
scalar-kind_of (scalars.Bool true) n = refl
scalar-kind_of (scalars.Bool false) n = refl
scalar-kind_of scalars.Null n = refl

spot_is : (p q : Spot) → Some p ≡ Some q → p ≡ q
spot_is p q is = cc

-- where the node of the record stands
abbrev pub standing : {k : ℕ} {state : State} {o : Option (RecordMap NodeRecord)} {r : NodeRecord} → IsSeen k state o r → Standing
standing s = record { frames = s.at.around; before = s.at.left; node = s.at.node; below = s.at.below; behind = s.at.right }

-- the rows of all trees, by those of what is below the node
pub rows-standing : (number : List Step → ℕ) (at : Standing) → rows_in number (trees_around at)
    ≡ rows_with number at (number (own_path (around_hole at.frames) at.node)) (rows local_hash number (around_children (around_hole at.frames) at.node) at.below)
rows-standing number at =
    let inside : Forest = beside at.before (tree_then at.node at.below at.behind) in
    rows-plug local_hash number at.frames inside ∙ rows-own local_hash number at.frames (shown local_hash inside) at.before at.node at.below at.behind

pub length_entries : (seens : List Seen) → length (entries_of seens) ≡ length seens
length_entries [] = refl
length_entries (seen ∷ seens) = omega (arith, length_entries seens)

pub length-upward : (seens : List Seen) → length (upward seens) ≡ length seens
length-upward seens = length_entries (reverse seens) ∙ length-reverse seens

-- so many nodes are above a node as were read
pub seen-length : (k : ℕ) (state : State) (next : ℕ) (o : Option (RecordMap NodeRecord)) (r : NodeRecord) (are : AreOf state next o) (s : IsSeen k state o r) (above : List Seen) → IsChain o r.parent (reverse above) → length above ≡ length s.at.around
seen-length k state next o r are s above chain =
    let number : List Step → ℕ = number_of state.paths in
    let at : Standing = standing s in
    let above_is = standing-rows number at r (ap (λ (w : NodeRow). w.parent) s.row) o _ _ above (subst (Shows o) (rows-standing number at) s.shows) chain in
    sym (length-upward above) ∙ sym (ap length above_is) ∙ length-rows_above local_hash number s.at.around _

module _ (k : ℕ) (scalar : Scalar) (next : ℕ) (r : NodeRecord) where
  abbrev scalar_set : State → State
  scalar_set state = with_trees state 0 (change_at k (λ n below rest. tree_then (scalar_node k scalar) below rest) state.trees)

  pub scalar-wrong : (before after : Kept) → ForSome before.told (λ m. fin.get m k ≡ Some r) → is_scalar r.kind ≡ false
      → AnswersEach (set_scalar k scalar) next before after (Err (Refused (WrongKind k r.kind)))
  unfolding AnswersEach
  scalar-wrong before after there wrong state are table =
      let s = seen k state next before.told r are there in
      let n : Node = s.at.node in
      let kind : r.kind ≡ n.kind = ap (λ (w : NodeRow). w.kind) s.row in
      let new : State = scalar_set state in
      ap (if_there k (λ q. unless (wrong_kind (not (is_scalar q.node.kind)) q.node ∷ paths_spent state new ∷ []) new)) s.at.spot
      ∙ ap (λ (b : Bool). unless (wrong_kind (not b) n ∷ paths_spent state new ∷ []) new) (ap is_scalar (sym kind) ∙ wrong)
      ∙ (λ i. Err (WrongKind (s.at.number i) (sym kind i)))

  -- the trees with the scalar have the paths that were there
  record IsSet (state : State) (table : List PathRow) (o : Option (RecordMap NodeRecord)) (s : IsSeen k state o r) (kind : Kind) (label : List ℕ) : Type 0 where
    trees_are : plug s.at.around (beside s.at.left (tree_then (record { number = s.at.node.number; kind = kind; label = label }) s.at.below s.at.right)) ≡ (scalar_set state).trees
    path_is : r.path ≡ number_of state.paths (own_path (around_hole s.at.around) (record { number = s.at.node.number; kind = kind; label = label }))
    below_is : s.at.below ≡ no_trees
    room : unless (paths_spent state (scalar_set state) ∷ []) (scalar_set state) ≡ Ok (scalar_set state)
    paths_are : (scalar_set state).paths ≡ state.paths
    of_state : IsTableOf (scalar_set state) table

  set-scalar : (state : State) (o : Option (RecordMap NodeRecord)) (table : List PathRow) (are : AreOf state next o) (s : IsSeen k state o r) (kind : Kind) (label : List ℕ) → IsTableOf state table
      → is_scalar r.kind ≡ true → is_scalar kind ≡ true → ((j : ℕ) → scalar_node j scalar ≡ record { number = j; kind = kind; label = label }) → IsSet state table o s kind label
  set-scalar state o table are s kind label of_state right new_right labels =
      let n : Node = s.at.node in
      let frames : List Frame = s.at.around in
      let m : Node = record { number = n.number; kind = kind; label = label } in
      let above_n : Around = around_hole frames in
      let kind_is : r.kind ≡ n.kind = ap (λ (w : NodeRow). w.kind) s.row in
      let scalar_n : is_scalar n.kind ≡ true = sym (ap is_scalar kind_is) ∙ right in
      let value_n : is_value n.kind ≡ true = scalar-value n.kind scalar_n in
      let value_m : is_value kind ≡ true = scalar-value kind new_right in
      let fit : FitBelow (above frames) (tree_then n s.at.below s.at.right) =
      fit_back (above frames) s.at.left (tree_then n s.at.below s.at.right) (fit_inside frames (beside s.at.left (tree_then n s.at.below s.at.right)) (subst (FitBelow None) s.at.stands are.well_formed.fit)) in
      let path_same : own_path above_n n ≡ own_path above_n m = value-path frames n.kind n.label label value_n fit.0 in
      let alone : s.at.below ≡ no_trees = scalar-alone n.kind s.at.below scalar_n fit.3 in
      let site = sited state table frames s.at.left (tree_then n s.at.below no_trees) s.at.right of_state s.at.stands in
      let own_is : own_of kind (own_path above_n m) ≡ own_of n.kind (own_path above_n n) =
      ap (λ b. cond b (own_path above_n m ∷ []) []) value_m ∙ (λ i. sym path_same i ∷ []) ∙ ap (λ b. cond b (own_path above_n n ∷ []) []) (sym value_n) in
      let mid_is : paths_under above_n (tree_then m s.at.below no_trees) ≡ paths_under above_n (tree_then n s.at.below no_trees) =
      (λ i. own_of kind (own_path above_n m) ++ (paths_below (Some m) (own_path above_n m) (alone i) ++ []))
      ∙ (λ i. own_is i ++ (paths_below (Some n) (own_path above_n n) (sym alone i) ++ [])) in
      let trees_are = ap (λ q. plug frames (beside s.at.left (tree_then q s.at.below s.at.right))) (sym (labels n.number) ∙ ap (λ j. scalar_node j scalar) s.at.number)
      ∙ sym (s.at.changed (λ n below rest. tree_then (scalar_node k scalar) below rest)) in
      let new_paths : paths_in (scalar_set state).trees ≡ paths_left frames s.at.left ++ (paths_under above_n (tree_then n s.at.below no_trees) ++ paths_right frames s.at.right) =
      ap paths_in (sym trees_are) ∙ paths-among frames s.at.left (tree_then m s.at.below no_trees) s.at.right ∙ ap (λ ps. paths_left frames s.at.left ++ (ps ++ paths_right frames s.at.right)) mid_is in
      let xs : List (List Step) = paths_left frames s.at.left in
      let mid : List (List Step) = paths_under above_n (tree_then n s.at.below no_trees) in
      let ys : List (List Step) = paths_right frames s.at.right in
      let with_is : with_paths state.paths mid ≡ state.paths = with-all state.paths mid site.here in
      record {
        trees_are = trees_are;
        path_is = ap (λ (w : NodeRow). w.path) s.row ∙ ap (number_of state.paths) path_same;
        below_is = alone;
        room = paths-room state 0 (scalar_set state).trees xs mid ys new_paths site.before site.behind (subst (λ (l : List (List Step)). length l ≤ path_limit) (sym with_is) of_state.lists.few);
        paths_are = state-paths state 0 (scalar_set state).trees xs mid ys new_paths site.before site.behind ∙ with_is;
        of_state = table-around state 0 (scalar_set state).trees xs mid ys new_paths site.before site.behind table (subst (λ (l : List (List Step)). Lists table l (more_on mid (counts_around xs ys))) (sym with_is) site.lists);
      }

  pub scalar-done : (kind : Kind) (label : List ℕ) (above : List Seen) (old read new : Option (RecordMap NodeRecord)) (table : List PathRow) → ForSome old (λ m. fin.get m k ≡ Some r) → is_scalar r.kind ≡ true
      → ((j : ℕ) → scalar_node j scalar ≡ record { number = j; kind = kind; label = label }) → read ≡ old → IsChain old r.parent (reverse above) → IsRelabeled k kind label r.path (upward above) read new
      → AnswersEach (set_scalar k scalar) next (kept old table) (kept new table) (Ok (record { first = None; next = next }))
  unfolding AnswersEach IsRelabeled
  scalar-done kind label above old read new table there right labels same chain relabeled state are of_state =
      let s = seen k state next old r are there in
      let n : Node = s.at.node in
      let number : List Step → ℕ = number_of state.paths in
      let kind_is : r.kind ≡ n.kind = ap (λ (w : NodeRow). w.kind) s.row in
      let new_state : State = scalar_set state in
      let set = set-scalar state old table are s kind label of_state right (sym (ap (λ (n : Node). is_scalar n.kind) (labels 0)) ∙ scalar-kind_of scalar 0) labels in
      let is_apply = ap (if_there k (λ q. unless (wrong_kind (not (is_scalar q.node.kind)) q.node ∷ paths_spent state new_state ∷ []) new_state)) s.at.spot
      ∙ ap (λ (b : Bool). unless (wrong_kind (not b) n ∷ paths_spent state new_state ∷ []) new_state) (ap is_scalar (sym kind_is) ∙ right) in
      let at : Standing = standing s in
      let now : Standing = labeled at kind label in
      let shows_read : Shows read (rows_in number (trees_around at)) = subst (λ o. Shows o (rows_in number (trees_around at))) (sym same) s.shows in
      let inner : List (ℕ × NodeRow) = rows local_hash number (around_children (around_hole at.frames) n) at.below in
      let above_is = standing-rows number at r (ap (λ (w : NodeRow). w.parent) s.row) old _ inner above (subst (Shows old) (rows-standing number at) s.shows) chain in
      let shows = relabeled number at (number (own_path (around_hole at.frames) n)) inner s.at.number above_is (subst (Shows read) (rows-standing number at) shows_read) in
      let inner_is : inner ≡ rows local_hash number (around_children (around_hole at.frames) now.node) at.below =
      (λ i. rows local_hash number (around_children (around_hole at.frames) n) (set.below_is i)) ∙ (λ i. rows local_hash number (around_children (around_hole at.frames) now.node) (sym set.below_is i)) in
      let rows_are : rows_with number now r.path inner ≡ rows_in number new_state.trees =
      (λ i. rows_with number now (set.path_is i) (inner_is i)) ∙ sym (rows-standing number now) ∙ ap (rows_in number) set.trees_are in
      let number_is : next ≡ state.next + 0 = omega (arith, are.next_is) in (
        new_state,
        is_apply ∙ set.room,
        (λ i. record { first = None; next = number_is i }),
        (subst (λ (l : List (List Step)). Shows new (rows_in (number_of l) new_state.trees)) (sym set.paths_are) (subst (Shows new) rows_are shows)).holds,
        set.of_state,
      )

  -- the node and those above it are got, each once
  pub scalar-gets : (above : List Seen) (old : Option (RecordMap NodeRecord)) (gets now after : ℕ) → ForSome old (λ m. fin.get m k ≡ Some r) → IsChain old r.parent (reverse above)
      → now ≤ gets + 1 → after ≤ now + length above → GetsFew k next old gets after
  unfolding GetsFew
  scalar-gets above old gets now after there chain once climbed state are q is =
      let s = seen k state next old r are there in
      let above_is : nodes_of s.at.around ≡ q.above = ap (λ (q : Spot). q.above) (spot_is _ _ (sym s.at.spot ∙ is)) in
      omega (arith, ap length above_is, length-nodes_of s.at.around, seen-length k state next old r are s above chain)

pub climb-cannot : (k next : ℕ) (r : NodeRecord) (before : Option (RecordMap NodeRecord)) → ForSome before (λ m. fin.get m k ≡ Some r) → CountsLevels r.parent next before None → IsNoState next before
unfolding IsNoState CountsLevels
climb-cannot k next r before there counts state are =
    let s = seen k state next before r are there in
    let number : List Step → ℕ = number_of state.paths in
    let inside : Forest = beside s.at.left (tree_then s.at.node s.at.below s.at.right) in
    let hole : List (ℕ × NodeRow) = rows local_hash number (around_hole s.at.around) inside in
    let few : size (plug s.at.around inside) ≤ next = subst (λ t. size t ≤ next) s.at.stands are.few in
    let all = subst (Shows before) (rows-plug local_hash number s.at.around inside) s.shows in
    let up = sym (ap (λ (w : NodeRow). w.parent) s.row ∙ parent-around_hole local_hash number s.at.around) in
    let none = counts local_hash number s.at.around (shown local_hash inside) hole (new-whole local_hash number s.at.around (shown local_hash inside) hole all.distinct) up (omega (arith, deep-plug s.at.around inside, few)) all.holds in
    cc

pub counts-there : (node at : Option ℕ) (limit : ℕ) (o now : Option (RecordMap NodeRecord)) (answer : Option ℕ) → node ≡ at → now ≡ o → CountsLevels at limit now answer → CountsLevels node limit o answer
counts-there node at limit o now answer is same counts = subst (λ q. CountsLevels q limit o answer) (sym is) (subst (λ q. CountsLevels at limit q answer) same counts)

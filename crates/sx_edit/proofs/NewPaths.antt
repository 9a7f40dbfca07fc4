-- A Key of a state that gets another name, with all below it on other paths.
use Rattle.std.proofs.Common.{◌≡◌, ℕ, ◌+◌, ◌≤◌, ◌<◌, true, List, [], ◌∷◌, ◌++◌, length, Option, Some, None, refl, sym, ap, subst, ◌∙◌, arith, append_assoc, append-nil}
use Rattle.std.specs.Prelude.{◌^◌, ◌-◌, IsTrue, Ok, Err, min, option_map, reverse}
use Rattle.std.specs.Option.{ForSome, option_or}
use Rattle.std.specs.FinMap as fin
use Rattle.sx_tree.specs.declared.record.Kind.{Kind}
use Rattle.sx_tree.specs.declared.record.Kind.TheVariants.{Document, Object, Array, Key, Str, Number, Bool as Truth, Null}
use Rattle.sx_tree.specs.declared.record.NodeRecord.{NodeRecord}
use Rattle.sx_tree.specs.declared.record.Step.{Step}
use Rattle.sx_tree.specs.declared.record.Step.TheVariants.{Name}
use Rattle.sx_view.specs.Records.{RecordMap}
use Rattle.sx_view.specs.Rows.{row_of}
use Rattle.sx_model.specs.Edit.{apply, paths_spent, rename, unless, with_trees}
use Rattle.sx_model.specs.Hash.{local_hash}
use Rattle.sx_model.specs.Holes.{Frame, around_hole, plug, shown}
use Rattle.sx_model.specs.Paths.{number_of, path_below, path_of, paths_below, paths_in, with_paths}
use Rattle.sx_model.specs.Records.{Around, NodeRow, PathRow, around_children, first_of, row, rows}
use Rattle.sx_model.specs.State.{State}
use Rattle.sx_model.specs.Tree.{Node, Forest, no_trees, tree_then, beside, change_at, is_key, may_stand_below, tops, FitBelow, HasChildren, size}
use Rattle.sx_model.proofs.Plugging.{above, fit_back}
use Rattle.sx_edit.specs.declared.fault.EditFault.{EditFault}
use Rattle.sx_edit.specs.Answers.{AreOf, AnswersEach, IsTableOf}
use Rattle.sx_edit.specs.Edited.{IsRelabeled, Standing, labeled, rows_in, rows_with, trees_around}
use Rattle.sx_edit.specs.Holes.{before_own, behind_own, own_row}
use Rattle.sx_edit.specs.Pathways.{HasAll, IsOnto, IsPathAt, IsStart, Kept, Lists, Numbers, StopsOnto, kept, more_on, own_of, own_path, paths_under}
use Rattle.sx_edit.specs.Repath.{Agree, BeginAll, Branch, IsRepathed, ShowsBranches, StopsRepathing, first_goals, new_paths, new_rows, old_paths, old_rows}
use Rattle.sx_edit.specs.Seen.{IsChain, entries_of, upward, with_records}
use Rattle.sx_edit.specs.Told.{Shows, numbers_of}
use Rattle.sx_edit.specs.declared.trees.Seen.{Seen}
use Rattle.sx_edit.proofs.Answering.{had-paths, stops-answers}
use Rattle.sx_edit.proofs.Batching.{shows-with}
use Rattle.sx_edit.proofs.Climbing.{numbers-rows, some_is}
use Rattle.sx_edit.proofs.Looking.{IsSeen}
use Rattle.sx_edit.proofs.NewNames.{kind-key}
use Rattle.sx_edit.proofs.Pathing.{all-back, all-front, listed-base, lists-here, numbers-back, own-numbers, path-with, with-twice}
use Rattle.sx_edit.proofs.Relabeling.{deep-plug, size-beside, standing-rows}
use Rattle.sx_edit.proofs.Repathing.{begin-branch, key-first, new-paths, new-rows, old-paths, old-rows, sizes-branch, with_branch}
use Rattle.sx_edit.proofs.SettingScalars.{rows-standing, seen, standing}
use Rattle.sx_edit.proofs.Sited.{fit_inside, sited}
use Rattle.sx_edit.proofs.Splicing.{parent-there}
use Rattle.sx_edit.proofs.Stopping.{stops-among, stops-same}
use Rattle.sx_edit.proofs.Swapping.{counts-room, counts_around, paths-full, paths-room, renumbered, state-paths, table-around}
use Rattle.sx_edit.proofs.TreePaths.{paths-among, paths_before, paths_left, paths_right}

-- Keys stand below Objects alone
object-above : (kind : Kind) → IsTrue (may_stand_below kind Key) → kind ≡ Object
object-above Document stands = absurd cc
object-above Object stands = refl
object-above Array stands = absurd cc
object-above Key stands = absurd cc
object-above Str stands = absurd cc
object-above Number stands = absurd cc
object-above Truth stands = absurd cc
object-above Null stands = absurd cc

-- rows show the node above only by its number, and by the paths that it gives
rows-moved : (number : List Step → ℕ) (here there : Around) (trees : Forest) → option_map (λ m. m.number) here.above ≡ option_map (λ m. m.number) there.above → here.left ≡ there.left → here.right ≡ there.right
    → ((label : List ℕ) → path_of here.above here.path label ≡ path_of there.above there.path label) → rows local_hash number here trees ≡ rows local_hash number there trees
rows-moved number here there no_trees up left right path = refl
rows-moved number here there (tree_then n below rest) up left right path =
    let inner = rows-moved number (around_children here n) (around_children there n) below refl refl refl (λ label. ap (λ p. path_below n.kind p label) (path n.label)) in
    let others = rows-moved number (record here { left = Some n.number }) (record there { left = Some n.number }) rest up refl right path in
    λ i. (n.number, record (row local_hash number here n below) { parent = up i; left = left i; right = option_or (first_of rest) (right i); path = number (path n.label i) }) ∷ (inner i ++ others i)

paths-moved : (n m : Node) (p q : List Step) (trees : Forest) → n.kind ≡ m.kind → p ≡ q → paths_below (Some n) p trees ≡ paths_below (Some m) q trees
paths-moved n m p q no_trees kind same = refl
paths-moved n m p q (tree_then v below rest) kind same =
    let path : path_below n.kind p v.label ≡ path_below m.kind q v.label = λ i. path_below (kind i) (same i) v.label in
    λ i. own_of v.kind (path i) ++ (paths_below (Some v) (path i) below ++ paths-moved n m p q rest kind same i)

agree-all : (number : List Step → ℕ) (listed more paths : List (List Step)) → Numbers number listed → HasAll listed paths → Agree number (with_paths listed more) paths
agree-all number listed more [] numbers all = tt
agree-all number listed more (path ∷ paths) numbers all =
    (path-with listed more path (number path) (record { there = all.0; is = numbers.listed_are path all.0 }), agree-all number listed more paths numbers all.1)

-- the path of a Key, from the node above it
pub record IsNamed (listed : List (List Step)) (around : Around) (parent_path : ℕ) : Type 0 where
  pub start : IsStart listed around.path parent_path
  pub name_is : (label : List ℕ) → path_of around.above around.path label ≡ Name label ∷ around.path

pub named-at : (listed : List (List Step)) (frames : List Frame) (left : Forest) (n : Node) (below right : Forest) (r p : NodeRecord) (parent : ℕ) (o : Option (RecordMap NodeRecord)) → row_of r ≡ own_row local_hash (number_of listed) frames left n below right
    → Shows o (rows_in (number_of listed) (plug frames (beside left (tree_then n below right)))) → n.kind ≡ Key → FitBelow None (plug frames (beside left (tree_then n below right))) → r.parent ≡ Some parent
    → ForSome o (λ m. fin.get m parent ≡ Some p) → HasAll listed (paths_left frames left) → IsNamed listed (around_hole frames) p.path
named-at listed [] left n below right r p parent o row shows key fit up there all = absurd (let none : r.parent ≡ None = ap (λ (w : NodeRow). w.parent) row in cc)
named-at listed (frame ∷ frames) left n below right r p parent o row shows key fit up there all =
    let above_is : r.parent ≡ Some frame.node.number = ap (λ (w : NodeRow). w.parent) row in
    let parent_is : parent ≡ frame.node.number = cc in
    let inside : Forest = beside left (tree_then n below right) in
    let path : List Step = (around_hole (frame ∷ frames)).path in
    let p_row = some_is _ _ (parent-there (number_of listed) frames frame inside (Some p) o shows (rw parent_is at there)) in
    let fit_here = fit_back (above (frame ∷ frames)) left (tree_then n below right) (fit_inside (frame ∷ frames) inside fit) in
    let object : frame.node.kind ≡ Object = object-above frame.node.kind (subst (λ kind. IsTrue (may_stand_below frame.node.kind kind)) key fit_here.0) in
    let own = all-back listed (paths_under (around_hole frames) frame.before) (own_of frame.node.kind path)
    (all-back listed (paths_before frames) _ (all-front listed (paths_before (frame ∷ frames)) (paths_under (around_hole (frame ∷ frames)) left) all)) in
    record {
      start = record { base = listed-base listed path (subst (λ kind. HasAll listed (own_of kind path)) object own).0; is = ap (λ (w : NodeRow). w.path) p_row };
      name_is = λ label. ap (λ kind. path_below kind path label) object;
    }

module _ (k : ℕ) (name : List ℕ) (next : ℕ) (r p : NodeRecord) (parent path had : ℕ) (o : Option (RecordMap NodeRecord)) (table mid : List PathRow) (there : ForSome o (λ m. fin.get m k ≡ Some r)) (key : is_key r.kind ≡ true) (up : r.parent ≡ Some parent)
    (there_p : ForSome o (λ m. fin.get m parent ≡ Some p)) (had_is : had ≡ min (length table) (2 ^ 32 - 1)) where
  abbrev renamed : State → State
  renamed state = with_trees state 0 (change_at k (λ n below rest. tree_then (record n { label = name }) below rest) state.trees)

  -- the Key among the paths of the others, and the paths below it under its new name
  record IsNaming (state : State) (s : IsSeen k state o r) : Type 0 where
    named : IsNamed state.paths (around_hole s.at.around) p.path
    key_is : s.at.node.kind ≡ Key
    fit_below : FitBelow (Some Key) s.at.below
    rest : List (List Step)
    new_are : paths_below (Some s.at.node) (Name name ∷ (around_hole s.at.around).path) s.at.below ++ [] ≡ (Name name ∷ (around_hole s.at.around).path) ∷ rest
    front : HasAll state.paths (paths_left s.at.around s.at.left)
    inner : HasAll state.paths (paths_under (around_children (around_hole s.at.around) s.at.node) s.at.below ++ [])
    back : HasAll state.paths (paths_right s.at.around s.at.right)
    lists : Lists table state.paths (more_on (paths_under (around_children (around_hole s.at.around) s.at.node) s.at.below ++ []) (counts_around (paths_left s.at.around s.at.left) (paths_right s.at.around s.at.right)))
    room : (other : List Step) → counts_around (paths_left s.at.around s.at.left) (paths_right s.at.around s.at.right) other + next < 2 ^ 32
    trees_are : plug s.at.around (beside s.at.left (tree_then (record s.at.node { label = name }) s.at.below s.at.right)) ≡ (renamed state).trees
    paths_are : paths_in (renamed state).trees ≡ paths_left s.at.around s.at.left ++ ((paths_below (Some s.at.node) (Name name ∷ (around_hole s.at.around).path) s.at.below ++ []) ++ paths_right s.at.around s.at.right)

  naming : (state : State) (are : AreOf state next o) (of_state : IsTableOf state table) (s : IsSeen k state o r) → next ≤ 2 ^ 30 → IsNaming state s
  naming state are of_state s fits =
      let frames : List Frame = s.at.around in
      let n : Node = s.at.node in
      let below : Forest = s.at.below in
      let around : Around = around_hole frames in
      let whole : Forest = plug frames (beside s.at.left (tree_then n below s.at.right)) in
      let fit : FitBelow None whole = subst (FitBelow None) s.at.stands are.well_formed.fit in
      let key_is : n.kind ≡ Key = sym (ap (λ (w : NodeRow). w.kind) s.row) ∙ kind-key r.kind key in
      let site = sited state table frames s.at.left (tree_then n below no_trees) s.at.right of_state s.at.stands in
      let named = named-at state.paths frames s.at.left n below s.at.right r p parent o s.row s.shows key_is fit up there_p site.before in
      let fit_here = fit_back (above frames) s.at.left (tree_then n below s.at.right) (fit_inside frames (beside s.at.left (tree_then n below s.at.right)) fit) in
      let fit_below : FitBelow (Some Key) below = subst (λ kind. FitBelow (Some kind) below) key_is fit_here.3 in
      let new : List Step = Name name ∷ around.path in
      let key_node : Node = record { number = n.number; kind = Key; label = n.label } in
      let first = key-first n.number n.label new below [] (subst (λ kind. HasChildren (Some kind) (tops below)) key_is fit_here.2) fit_below in
      let own_none : own_of n.kind (own_path around n) ≡ [] = ap (λ kind. own_of kind (own_path around n)) key_is in
      let mid_is : paths_under around (tree_then n below no_trees) ≡ paths_under (around_children around n) below ++ [] = ap (λ l. l ++ (paths_under (around_children around n) below ++ [])) own_none in
      let named_node : Node = record n { label = name } in
      let own_new : own_of n.kind (own_path around named_node) ≡ [] = ap (λ kind. own_of kind (own_path around named_node)) key_is in
      let new_mid : paths_under around (tree_then named_node below no_trees) ≡ paths_below (Some n) new below ++ [] =
      ap (λ l. l ++ (paths_below (Some named_node) (own_path around named_node) below ++ [])) own_new ∙ ap (λ l. l ++ []) (paths-moved named_node n (own_path around named_node) new below refl (named.name_is name)) in
      let trees_are = sym (s.at.changed (λ n below rest. tree_then (record n { label = name }) below rest)) in
      record {
        named = named;
        key_is = key_is;
        fit_below = fit_below;
        rest = first.0;
        new_are = ap (λ l. l ++ []) (paths-moved n key_node new new below key_is refl) ∙ first.1;
        front = site.before;
        inner = subst (HasAll state.paths) mid_is site.here;
        back = site.behind;
        lists = subst (λ ps. Lists table state.paths (more_on ps (counts_around (paths_left frames s.at.left) (paths_right frames s.at.right)))) mid_is site.lists;
        room = counts-room (paths_left frames s.at.left) _ (paths_right frames s.at.right) state.trees next next site.paths_are are.few (omega (arith, fits));
        trees_are = trees_are;
        paths_are = ap paths_in (sym trees_are) ∙ paths-among frames s.at.left (tree_then named_node below no_trees) s.at.right
            ∙ ap (λ ps. paths_left frames s.at.left ++ (ps ++ paths_right frames s.at.right)) new_mid;
      }

  -- where the new path of the Key stops it
  pub name-stops : (after : Kept) (e : EditFault) → next ≤ 2 ^ 30 → ((state : State) → AreOf state next o → apply (rename k name) state ≡ unless (paths_spent state (renamed state) ∷ []) (renamed state)) → StopsOnto p.path (Name name) had table e
      → AnswersEach (rename k name) next (kept o table) after (Err e)
  unfolding AnswersEach StopsOnto
  name-stops after e fits is_apply stops state are of_state =
      let s = seen k state next o r are there in
      let is = naming state are of_state s fits in
      let new : List Step = Name name ∷ (around_hole s.at.around).path in
      let all : List (List Step) = paths_below (Some s.at.node) new s.at.below ++ [] in
      stops-answers (rename k name) state after had all e (had-paths had table state had_is of_state)
      (λ many. is_apply state are ∙ paths-full state 0 (renamed state).trees (paths_left s.at.around s.at.left) all (paths_right s.at.around s.at.right) is.paths_are is.front is.back many)
      (stops-among had state.paths [] (new ∷ []) is.rest all e is.new_are (stops state.paths _ (around_hole s.at.around).path of_state.lists is.named.start))

  -- the rows of the trees with the Key, by other numbers
  key-shows : (state : State) (are : AreOf state next o) (of_state : IsTableOf state table) (s : IsSeen k state o r) (number : List Step → ℕ) → Numbers number state.paths
      → Shows o (rows_with number (standing s) (number (own_path (around_hole s.at.around) s.at.node)) (rows local_hash number (around_children (around_hole s.at.around) s.at.node) s.at.below))
  key-shows state are of_state s number numbers =
      let at : Standing = standing s in
      let fit = subst (FitBelow None) s.at.stands are.well_formed.fit in
      let shows = renumbered number table state.paths _ (trees_around at) o of_state.lists numbers fit (subst (λ t. HasAll state.paths (paths_in t)) s.at.stands of_state.listed) s.shows in
      subst (Shows o) (rows-standing number at) shows

  module _ (onto : IsOnto p.path (Name name) path table mid) where
    -- the branch below the Key, once its path is there
    record IsBranched (state : State) (s : IsSeen k state o r) : Type 0 where
      at : IsPathAt (with_paths state.paths ((Name name ∷ (around_hole s.at.around).path) ∷ [])) (Name name ∷ (around_hole s.at.around).path) path
      lists : Lists mid (with_paths state.paths ((Name name ∷ (around_hole s.at.around).path) ∷ []))
          (more_on (old_paths (with_branch (around_children (around_hole s.at.around) s.at.node) s.at.below (Name name ∷ (around_hole s.at.around).path) [])) (counts_around (paths_left s.at.around s.at.left) (paths_right s.at.around s.at.right)))
      with_is : with_paths (with_paths state.paths ((Name name ∷ (around_hole s.at.around).path) ∷ [])) (new_paths (with_branch (around_children (around_hole s.at.around) s.at.node) s.at.below (Name name ∷ (around_hole s.at.around).path) []))
          ≡ with_paths state.paths (paths_below (Some s.at.node) (Name name ∷ (around_hole s.at.around).path) s.at.below ++ [])

    branched : (state : State) (are : AreOf state next o) (of_state : IsTableOf state table) (s : IsSeen k state o r) → IsNaming state s → IsBranched state s
    unfolding IsOnto
    branched state are of_state s is =
        let around : Around = around_hole s.at.around in
        let inner : Around = around_children around s.at.node in
        let new : List Step = Name name ∷ around.path in
        let counts : List Step → ℕ = counts_around (paths_left s.at.around s.at.left) (paths_right s.at.around s.at.right) in
        let entered = onto state.paths _ around.path is.lists is.named.start in
        record {
          at = entered.1;
          lists = subst (λ ps. Lists mid (with_paths state.paths (new ∷ [])) (more_on ps counts)) (sym (old-paths inner s.at.below new [])) entered.0;
          with_is = ap (with_paths (with_paths state.paths (new ∷ []))) (new-paths inner s.at.below new [] ∙ is.new_are) ∙ with-twice state.paths new is.rest ∙ ap (with_paths state.paths) (sym is.new_are);
        }

    -- the records of the trees below the Key, before it has its name
    branch-shown : (state : State) (are : AreOf state next o) (of_state : IsTableOf state table) (s : IsSeen k state o r) (is : IsNaming state s) (on : IsBranched state s) (number : List Step → ℕ) → Numbers number state.paths
        → ShowsBranches o (first_goals Key path r.first) next (with_paths state.paths ((Name name ∷ (around_hole s.at.around).path) ∷ [])) (with_branch (around_children (around_hole s.at.around) s.at.node) s.at.below (Name name ∷ (around_hole s.at.around).path) [])
    branch-shown state are of_state s is on number numbers =
        let frames : List Frame = s.at.around in
        let n : Node = s.at.node in
        let below : Forest = s.at.below in
        let inner : Around = around_children (around_hole frames) n in
        let step : List Step = Name name ∷ (around_hole frames).path in
        let listed : List (List Step) = with_paths state.paths (step ∷ []) in
        let branches : List Branch = with_branch inner below step [] in
        let own = key-shows state are of_state s number numbers in
        let front : List (ℕ × NodeRow) = before_own local_hash number frames (shown local_hash (beside s.at.left (tree_then n below s.at.right))) s.at.left n.number in
        let back : List (ℕ × NodeRow) = behind_own local_hash number frames (shown local_hash (beside s.at.left (tree_then n below s.at.right))) n.number s.at.right in
        let own_here : ℕ × NodeRow = (n.number, record (own_row local_hash number frames s.at.left n below s.at.right) { path = number (own_path (around_hole frames) n) }) in
        let rows_are : old_rows local_hash number branches ≡ rows local_hash number inner below = old-rows local_hash number inner below step [] ∙ append-nil (rows local_hash number inner below) in
        let group : front ++ own_here ∷ (rows local_hash number inner below ++ back) ≡ (front ++ own_here ∷ []) ++ (rows local_hash number inner below ++ back) = simp append_assoc in
        let few : size (trees_around (standing s)) ≤ next = subst (λ t. size t ≤ next) s.at.stands are.few in
        let deep = deep-plug frames (beside s.at.left (tree_then s.at.node below s.at.right)) in
        let parts = size-beside s.at.left (tree_then s.at.node below s.at.right) in
        record {
          local = local_hash;
          number = number;
          front = front ++ own_here ∷ [];
          back = back;
          begin = subst (λ f. BeginAll listed branches (first_goals Key path f)) (sym (ap (λ (w : NodeRow). w.first) s.row))
              (begin-branch listed inner below step [] Key path [] (record { last = refl; kind_is = ap (λ q. Some q) is.key_is; at = on.at; fit = is.fit_below }) tt);
          few = omega (arith, sizes-branch inner below step []);
          shows = subst (λ l. Shows o ((front ++ own_here ∷ []) ++ (l ++ back))) (sym rows_are) (subst (Shows o) group own);
          numbers_are = subst (Agree number listed) (sym (old-paths inner below step [])) (agree-all number state.paths (step ∷ []) _ numbers is.inner);
        }

    pub repath-stops : (after : Kept) (e : EditFault) → next ≤ 2 ^ 30 → ((state : State) → AreOf state next o → apply (rename k name) state ≡ unless (paths_spent state (renamed state) ∷ []) (renamed state))
        → StopsRepathing (first_goals Key path r.first) next had (kept o mid) e → AnswersEach (rename k name) next (kept o table) after (Err e)
    unfolding AnswersEach StopsRepathing
    repath-stops after e fits is_apply stops state are of_state =
        let s = seen k state next o r are there in
        let is = naming state are of_state s fits in
        let on = branched state are of_state s is in
        let step : List Step = Name name ∷ (around_hole s.at.around).path in
        let all : List (List Step) = paths_below (Some s.at.node) step s.at.below ++ [] in
        let branches : List Branch = with_branch (around_children (around_hole s.at.around) s.at.node) s.at.below step [] in
        let shown_here = branch-shown state are of_state s is on (number_of state.paths) (own-numbers table state.paths _ of_state.lists) in
        let stopped = stops (with_paths state.paths (step ∷ [])) (counts_around (paths_left s.at.around s.at.left) (paths_right s.at.around s.at.right)) branches shown_here on.lists (λ other. omega (arith, is.room other, shown_here.few)) in
        stops-answers (rename k name) state after had all e (had-paths had table state had_is of_state)
        (λ many. is_apply state are ∙ paths-full state 0 (renamed state).trees (paths_left s.at.around s.at.left) all (paths_right s.at.around s.at.right) is.paths_are is.front is.back many)
        (stops-same had (with_paths state.paths (step ∷ [])) state.paths (new_paths branches) all e (ap length on.with_is) stopped)

    -- the Key got its name, and the nodes below it their paths
    pub record IsRenaming (label : List ℕ) (above : List Seen) (moved : List Seen) (now half after : Option (RecordMap NodeRecord)) : Type 0 where
      pub now_is : now ≡ o
      pub chain : IsChain o (Some parent) (reverse above)
      pub label_is : label ≡ name
      pub relabeled : IsRelabeled k Key label path (upward above) now half
      pub put : after ≡ option_map (with_records moved) half

    module _ (label : List ℕ) (above moved : List Seen) (now half told : Option (RecordMap NodeRecord)) (renaming : IsRenaming label above moved now half told) where
      -- the records once the Key has its name
      relabeled-shows : (state : State) (are : AreOf state next o) (of_state : IsTableOf state table) (s : IsSeen k state o r) (number : List Step → ℕ) → Numbers number state.paths
          → Shows half (rows_with number (labeled (standing s) Key name) path (rows local_hash number (around_children (around_hole s.at.around) s.at.node) s.at.below))
      unfolding IsRelabeled
      relabeled-shows state are of_state s number numbers =
          let at : Standing = standing s in
          let inner_rows : List (ℕ × NodeRow) = rows local_hash number (around_children (around_hole s.at.around) s.at.node) s.at.below in
          let own = key-shows state are of_state s number numbers in
          let seen_is = standing-rows number at r (ap (λ (w : NodeRow). w.parent) s.row) o (number (own_path (around_hole s.at.around) s.at.node)) inner_rows above own (subst (λ p. IsChain o p (reverse above)) (sym up) renaming.chain) in
          let here = subst (λ q. Shows q (rows_with number at (number (own_path (around_hole s.at.around) s.at.node)) inner_rows)) (sym renaming.now_is) own in
          subst (λ l. Shows half (rows_with number (labeled at Key l) path inner_rows)) renaming.label_is (renaming.relabeled number at _ inner_rows s.at.number seen_is here)

      -- the records and the table of the new state
      pub rename-done : (after : List PathRow) → next ≤ 2 ^ 30 → ((state : State) → AreOf state next o → apply (rename k name) state ≡ unless (paths_spent state (renamed state) ∷ []) (renamed state))
          → IsRepathed (first_goals Key path r.first) next (kept o mid) after (entries_of moved) → AnswersEach (rename k name) next (kept o table) (kept told after) (Ok (record { first = None; next = next }))
      unfolding AnswersEach IsRepathed branch-shown
      rename-done after fits is_apply repathed state are of_state =
          let s = seen k state next o r are there in
          let is = naming state are of_state s fits in
          let on = branched state are of_state s is in
          let around : Around = around_hole s.at.around in
          let inner : Around = around_children around s.at.node in
          let n : Node = s.at.node in
          let now_node : Node = record { number = n.number; kind = Key; label = name } in
          let step : List Step = Name name ∷ around.path in
          let all : List (List Step) = paths_below (Some n) step s.at.below ++ [] in
          let branches : List Branch = with_branch inner s.at.below step [] in
          let listed : List (List Step) = with_paths state.paths (step ∷ []) in
          let final : List (List Step) = with_paths state.paths all in
          let xs : List (List Step) = paths_left s.at.around s.at.left in
          let ys : List (List Step) = paths_right s.at.around s.at.right in
          let first = repathed listed (counts_around xs ys) branches (branch-shown state are of_state s is on (number_of state.paths) (own-numbers table state.paths _ of_state.lists)) on.lists in
          let lists : Lists after final (more_on all (counts_around xs ys)) =
          lists-here after _ final _ (more_on all (counts_around xs ys)) on.with_is (ap (λ ps. more_on ps (counts_around xs ys)) (new-paths inner s.at.below step [])) first.0 in
          let number : List Step → ℕ = number_of final in
          let numbers : Numbers number final = own-numbers after final _ lists in
          let moved_is = (repathed listed (counts_around xs ys) branches (branch-shown state are of_state s is on number (numbers-back number state.paths all numbers)) on.lists).1 number (subst (Numbers number) (sym on.with_is) numbers) in
          let moved_rows : List (ℕ × NodeRow) = rows local_hash number (record inner { path = step }) s.at.below in
          let rows_branch : new_rows local_hash number branches ≡ moved_rows = new-rows local_hash number inner s.at.below step [] ∙ append-nil moved_rows in
          let entries_are : entries_of moved ≡ moved_rows = moved_is ∙ rows_branch in
          let front_rows : List (ℕ × NodeRow) = before_own local_hash number s.at.around (shown local_hash (beside s.at.left (tree_then now_node s.at.below s.at.right))) s.at.left n.number in
          let back_rows : List (ℕ × NodeRow) = behind_own local_hash number s.at.around (shown local_hash (beside s.at.left (tree_then now_node s.at.below s.at.right))) n.number s.at.right in
          let own_here : ℕ × NodeRow = (n.number, record (own_row local_hash number s.at.around s.at.left now_node s.at.below s.at.right) { path = path }) in
          let inner_rows : List (ℕ × NodeRow) = rows local_hash number inner s.at.below in
          let group_in : front_rows ++ own_here ∷ (inner_rows ++ back_rows) ≡ (front_rows ++ own_here ∷ []) ++ (inner_rows ++ back_rows) = simp append_assoc in
          let group_out : (front_rows ++ own_here ∷ []) ++ (moved_rows ++ back_rows) ≡ front_rows ++ own_here ∷ (moved_rows ++ back_rows) = simp append_assoc in
          let half_shows = relabeled-shows state are of_state s number (numbers-back number state.paths all numbers) in
          let numbers_same : numbers_of inner_rows ≡ numbers_of (entries_of moved) =
          numbers-rows local_hash number inner s.at.below ∙ sym (numbers-rows local_hash number (record inner { path = step }) s.at.below) ∙ ap numbers_of (sym entries_are) in
          let with_moved = shows-with moved inner_rows (front_rows ++ own_here ∷ []) back_rows half numbers_same (subst (Shows half) group_in half_shows) in
          let shows : Shows told (rows_with number (labeled (standing s) Key name) path moved_rows) =
          subst (λ q. Shows q (rows_with number (labeled (standing s) Key name) path moved_rows)) (sym renaming.put)
          (subst (Shows (option_map (with_records moved) half)) group_out (subst (λ l. Shows (option_map (with_records moved) half) ((front_rows ++ own_here ∷ []) ++ (l ++ back_rows))) entries_are with_moved)) in
          let named_path : own_path around now_node ≡ step = is.named.name_is name in
          let rows_are : moved_rows ≡ rows local_hash number (around_children around now_node) s.at.below =
          rows-moved number (record inner { path = step }) (around_children around now_node) s.at.below refl refl refl (λ l. (λ i. path_below (is.key_is i) (sym named_path i) l)) in
          let at_path : path ≡ number step = (path-with listed (new_paths branches) step path on.at).is ∙ ap (λ (l : List (List Step)). number_of l step) on.with_is in
          let path_is : path ≡ number (own_path around now_node) = at_path ∙ ap number (sym named_path) in
          let node_is : now_node ≡ record n { label = name } = λ i. record { number = n.number; kind = sym is.key_is i; label = name } in
          let new_state : State = renamed state in
          let whole_is : rows_with number (labeled (standing s) Key name) path moved_rows ≡ rows_in number new_state.trees =
          (λ i. rows_with number (labeled (standing s) Key name) (path_is i) (rows_are i)) ∙ sym (rows-standing number (labeled (standing s) Key name))
          ∙ ap (rows_in number) (ap (λ m. plug s.at.around (beside s.at.left (tree_then m s.at.below s.at.right))) node_is ∙ is.trees_are) in
          let new_is : new_state.paths ≡ final = state-paths state 0 new_state.trees xs all ys is.paths_are is.front is.back in
          let number_is : next ≡ state.next + 0 = omega (arith, are.next_is) in (
            new_state,
            is_apply state are ∙ paths-room state 0 new_state.trees xs all ys is.paths_are is.front is.back lists.few,
            (λ i. record { first = None; next = number_is i }),
            (subst (λ (l : List (List Step)). Shows told (rows_in (number_of l) new_state.trees)) (sym new_is) (subst (Shows told) whole_is shows)).holds,
            table-around state 0 new_state.trees xs all ys is.paths_are is.front is.back after lists,
          )

-- What replacing a node answers over the records of a state.
use Rattle.std.proofs.Common.{◌≡◌, ℕ, suc, ◌+◌, ◌≤◌, ◌<◌, Bool, true, false, List, [], ◌∷◌, ◌++◌, length, Option, Some, None, Result, Ok, Err, refl, sym, ap, subst, ◌∙◌, arith, append_assoc}
use Rattle.std.specs.Prelude.{◌^◌, ◌-◌, All, IsErrAnd, IsTrue, min, not}
use Rattle.std.specs.Option.{option_or, ForSome}
use Rattle.std.specs.FinMap as fin
use Rattle.sx_tree.specs.declared.edit.Edited.{Edited}
use Rattle.sx_tree.specs.declared.edit.EditRefusal.TheVariants.{WrongKind}
use Rattle.sx_tree.specs.declared.record.Kind.{Kind}
use Rattle.sx_tree.specs.declared.record.Kind.TheVariants.{Document, Object, Array, Key, Str, Number, Bool as Truth, Null}
use Rattle.sx_tree.specs.declared.record.NodeRecord.{NodeRecord}
use Rattle.sx_tree.specs.declared.record.Step.{Step}
use Rattle.sx_tree.specs.Value.{Value, nodes}
use Rattle.sx_view.specs.Records.{RecordMap}
use Rattle.sx_view.specs.Rows.{row_of}
use Rattle.sx_model.specs.Edit.{replace, apply, if_there, unless, wrong_kind, too_deep, numbers_spent, paths_spent, with_trees}
use Rattle.sx_model.specs.Hash.{local_hash}
use Rattle.sx_model.specs.Holes.{Frame, Shown, plug, shown, around_hole}
use Rattle.sx_model.specs.Numbered.{numbered}
use Rattle.sx_model.specs.Paths.{number_of, paths_in}
use Rattle.sx_model.specs.Records.{NodeRow, PathRow, around_children, rows}
use Rattle.sx_model.specs.Sound.{AreBelow}
use Rattle.sx_model.specs.State.{State}
use Rattle.sx_model.specs.Tree.{Node, Forest, no_trees, tree_then, beside, is_document, is_value, change_at, numbers, FitBelow, size}
use Rattle.sx_model.proofs.Apart.{below_back, below_front, below_join}
use Rattle.sx_model.proofs.Holes.{rows-plug}
use Rattle.sx_model.proofs.Plugging.{above, fit_back}
use Rattle.sx_edit.specs.declared.fault.EditFault.{EditFault}
use Rattle.sx_edit.specs.declared.fault.EditFault.TheVariants.{Refused}
use Rattle.sx_edit.specs.declared.trees.Gap.{Gap}
use Rattle.sx_edit.specs.declared.trees.Rim.{Rim}
use Rattle.sx_edit.specs.declared.trees.Tree.{Tree}
use Rattle.sx_edit.specs.Seen.{IsRim}
use Rattle.sx_edit.proofs.Rimming.{around-of}
use Rattle.sx_edit.specs.Answers.{AreOf, Answers, AnswersEach, IsTableOf}
use Rattle.sx_edit.specs.Pathways.{HasAll, IsPathAt, Kept, Lists, Numbers, kept, own_path}
use Rattle.sx_edit.specs.Edited.{rows_in}
use Rattle.sx_edit.specs.Fill.{IsFilled, StopsFilling, enters}
use Rattle.sx_edit.specs.Mend.{IsLeftOut, IsTakenOut, opened}
use Rattle.sx_edit.specs.Room.{nodes_of, MakesRoom, Passes}
use Rattle.sx_edit.specs.Told.{Shows, numbers_of}
use Rattle.sx_edit.proofs.Answering.{IsNoState, had-paths}
use Rattle.sx_edit.proofs.Coming.{IsComing, coming-done, coming-stops}
use Rattle.sx_edit.proofs.Pathing.{own-numbers}
use Rattle.sx_edit.proofs.Sited.{fit_inside, own-listed, sited, value-path}
use Rattle.sx_edit.proofs.Swapping.{counts-room, counts_around, renumbered}
use Rattle.sx_edit.proofs.TreePaths.{paths_left, paths_right}
use Rattle.sx_edit.proofs.Climbing.{map-append, numbers-rows}
use Rattle.sx_edit.proofs.Growing.{beside-numbered}
use Rattle.sx_edit.proofs.Looking.{IsSeen}
use Rattle.sx_edit.proofs.Refusing.{either, past, passes-answers}
use Rattle.sx_edit.proofs.SettingScalars.{seen}
use Rattle.sx_edit.proofs.Splicing.{IsCut, cut-lists, left-gap}
use Rattle.sx_edit.proofs.Standing.{rows-own}
use Rattle.sx_edit.specs.Holes.{own_row, before_own, behind_own}

value-no_document : (kind : Kind) → is_value kind ≡ true → IsTrue (is_document kind) → ⊥
value-no_document Document value top = absurd cc
value-no_document Object value top = absurd cc
value-no_document Array value top = absurd cc
value-no_document Key value top = absurd cc
value-no_document Str value top = absurd cc
value-no_document Number value top = absurd cc
value-no_document Truth value top = absurd cc
value-no_document Null value top = absurd cc

pub are-below : (limit : ℕ) (ks : List ℕ) → All (λ k. k < limit) ks → AreBelow limit ks
are-below limit [] is = tt
are-below limit (k ∷ ks) is = (is 0 k (omega arith), are-below limit ks (λ i d less. is (suc i) d (omega arith)))

-- numbers without those of a tree
below-left : (number : List Step → ℕ) (next : ℕ) (frames : List Frame) (frame : Frame) (before : Forest) (n : Node) (below behind : Forest)
    → AreBelow next (numbers (plug (frame ∷ frames) (beside before (tree_then n below behind))))
    → AreBelow next (numbers_of (opened local_hash number frames frame before (tree_then n below no_trees) no_trees behind))
below-left number next frames frame before n below behind all =
    let inside : Forest = beside before (tree_then n below behind) in
    let a : Shown = shown local_hash inside in
    let xs : List (ℕ × NodeRow) = before_own local_hash number (frame ∷ frames) a before n.number in
    let mid : List (ℕ × NodeRow) = (n.number, own_row local_hash number (frame ∷ frames) before n below behind) ∷ rows local_hash number (around_children (around_hole (frame ∷ frames)) n) below in
    let ys : List (ℕ × NodeRow) = behind_own local_hash number (frame ∷ frames) a n.number behind in
    let rows_are : rows_in number (plug (frame ∷ frames) inside) ≡ xs ++ (mid ++ ys) = rows-plug local_hash number (frame ∷ frames) inside ∙ rows-own local_hash number (frame ∷ frames) a before n below behind in
    let parts = sym (numbers-rows local_hash number _ (plug (frame ∷ frames) inside)) ∙ ap numbers_of rows_are ∙ map-append _ xs (mid ++ ys) ∙ ap (λ l. numbers_of xs ++ l) (map-append _ mid ys) in
    let known = subst (AreBelow next) parts all in
    let out = below_join next (numbers_of xs) (numbers_of ys) (below_front next (numbers_of xs) _ known) (below_back next (numbers_of mid) (numbers_of ys) (below_back next (numbers_of xs) _ known)) in
    let left : xs ++ ys ≡ opened local_hash number frames frame before (tree_then n below no_trees) no_trees behind = simp append_assoc in
    subst (λ l. AreBelow next (numbers_of l)) left (subst (AreBelow next) (sym (map-append _ xs ys)) out)

-- whether there is room below the parent of a node is what the refusals say
seen-room : {T : Type 0} (number : List Step → ℕ) (frames : List Frame) (before : Forest) (n : Node) (below behind : Forest) (next parent : ℕ) (r : NodeRecord) (v : Value) (more : ℕ) (o : Option (RecordMap NodeRecord)) (result : Result T EditFault) (state : State)
    → row_of r ≡ own_row local_hash number frames before n below behind → r.parent ≡ Some parent → Shows o (rows_in number (plug frames (beside before (tree_then n below behind))))
    → size (plug frames (beside before (tree_then n below behind))) ≤ next → FitBelow None (plug frames (beside before (tree_then n below behind))) → state.next ≡ next
    → MakesRoom next parent v more o result → Passes (option_or (too_deep (nodes_of frames) v) (numbers_spent state more)) result
unfolding MakesRoom
seen-room number [] before n below behind next parent r v more o result state row up shows few fit next_is makes = absurd (let none : r.parent ≡ None = ap (λ (w : NodeRow). w.parent) row in cc)
seen-room number (frame ∷ frames) before n below behind next parent r v more o result state row up shows few fit next_is makes =
    let above_is : r.parent ≡ Some frame.node.number = ap (λ (w : NodeRow). w.parent) row in
    let same : frame.node.number ≡ parent = cc in
    makes frames frame (beside before (tree_then n below behind)) state next_is (record { number = same; paths = number; shows = shows; few = few; fit = fit })

module _ (k : ℕ) (v : Value) (next : ℕ) (r : NodeRecord) where
  abbrev replaced : State → State
  replaced state = with_trees state (nodes v) (change_at k (λ n below rest. numbered v state.next rest) state.trees)

  replace-apply : (state : State) (o : Option (RecordMap NodeRecord)) (s : IsSeen k state o r)
      → apply (replace k v) state
      ≡ unless (wrong_kind (not (is_value r.kind)) s.at.node ∷ too_deep (nodes_of s.at.around) v ∷ numbers_spent state (nodes v) ∷ paths_spent state (replaced state) ∷ []) (replaced state)
  replace-apply state o s =
      let kind : r.kind ≡ s.at.node.kind = ap (λ (w : NodeRow). w.kind) s.row in
      ap (if_there k (λ q. unless (wrong_kind (not (is_value q.node.kind)) q.node ∷ too_deep q.above v ∷ numbers_spent state (nodes v) ∷ paths_spent state (replaced state) ∷ []) (replaced state))) s.at.spot
      ∙ ap (λ (kind : Kind). unless (wrong_kind (not (is_value kind)) s.at.node ∷ too_deep (nodes_of s.at.around) v ∷ numbers_spent state (nodes v) ∷ paths_spent state (replaced state) ∷ []) (replaced state)) (sym kind)

  pub replace-wrong : (before after : Kept) → ForSome before.told (λ m. fin.get m k ≡ Some r) → is_value r.kind ≡ false
      → AnswersEach (replace k v) next before after (Err (Refused (WrongKind k r.kind)))
  unfolding AnswersEach
  replace-wrong before after there wrong state are of_state =
      let s = seen k state next before.told r are there in
      replace-apply state before.told s
      ∙ ap (λ (b : Bool). unless (wrong_kind (not b) s.at.node ∷ too_deep (nodes_of s.at.around) v ∷ numbers_spent state (nodes v) ∷ paths_spent state (replaced state) ∷ []) (replaced state)) wrong
      ∙ (λ i. Err (WrongKind (s.at.number i) (sym (ap (λ (w : NodeRow). w.kind) s.row) i)))

  -- a value does not stand at the top
  top-less : (number : List Step → ℕ) (frames : List Frame) (left : Forest) (n : Node) (below right : Forest) → row_of r ≡ own_row local_hash number frames left n below right
      → FitBelow None (plug frames (beside left (tree_then n below right))) → is_value r.kind ≡ true → r.parent ≡ None → ⊥
  top-less number [] left n below right row fit value none =
      let kind : r.kind ≡ n.kind = ap (λ (w : NodeRow). w.kind) row in
      value-no_document n.kind (sym (ap is_value kind) ∙ value) (fit_back None left (tree_then n below right) fit).0
  top-less number (frame ∷ frames) left n below right row fit value none =
      let up : r.parent ≡ Some frame.node.number = ap (λ (w : NodeRow). w.parent) row in
      cc

  pub replace-top : (before : Option (RecordMap NodeRecord)) → ForSome before (λ m. fin.get m k ≡ Some r) → is_value r.kind ≡ true → r.parent ≡ None → IsNoState next before
  unfolding IsNoState
  replace-top before there value none state are =
      let s = seen k state next before r are there in
      top-less (number_of state.paths) s.at.around s.at.left s.at.node s.at.below s.at.right s.row (subst (FitBelow None) s.at.stands are.well_formed.fit) value none

  room-of : {T : Type 0} (before now : Option (RecordMap NodeRecord)) (parent more : ℕ) (result : Result T EditFault) (state : State) (are : AreOf state next before) (s : IsSeen k state before r) → r.parent ≡ Some parent → now ≡ before
      → more ≡ nodes v → MakesRoom next parent v more now result → Passes (option_or (too_deep (nodes_of s.at.around) v) (numbers_spent state (nodes v))) result
  room-of before now parent more result state are s up same more_is makes =
      let few : size (plug s.at.around (beside s.at.left (tree_then s.at.node s.at.below s.at.right))) ≤ next = subst (λ t. size t ≤ next) s.at.stands are.few in
      let makes_here = subst (λ o. MakesRoom next parent v (nodes v) o result) same (subst (λ m. MakesRoom next parent v m now result) more_is makes) in
      seen-room (number_of state.paths) s.at.around s.at.left s.at.node s.at.below s.at.right next parent r v (nodes v) before result state s.row up s.shows few (subst (FitBelow None) s.at.stands are.well_formed.fit) are.next_is makes_here

  pub replace-refused : {T : Type 0} (before now : Option (RecordMap NodeRecord)) (table : List PathRow) (after : Kept) (parent more : ℕ) (step : Result T EditFault) (e : EditFault) (result : Result Edited EditFault) → IsErrAnd result (λ x. x ≡ e) → step ≡ Err e
      → ForSome before (λ m. fin.get m k ≡ Some r) → is_value r.kind ≡ true → r.parent ≡ Some parent → now ≡ before → more ≡ nodes v → MakesRoom next parent v more now step
      → AnswersEach (replace k v) next (kept before table) after result
  unfolding AnswersEach
  replace-refused before now table after parent more step e (Ok x) is step_is there value up same more_is makes state are of_state = absurd is
  replace-refused before now table after parent more step e (Err x) is step_is there value up same more_is makes state are of_state =
      let s = seen k state next before r are there in
      let is_apply = replace-apply state before s
      ∙ ap (λ (b : Bool). unless (wrong_kind (not b) s.at.node ∷ too_deep (nodes_of s.at.around) v ∷ numbers_spent state (nodes v) ∷ paths_spent state (replaced state) ∷ []) (replaced state)) value in
      subst (λ y. Answers (replace k v) state after (Err y)) (sym is)
      (passes-answers (replace k v) state after _ step e step_is (room-of before now parent more step state are s up same more_is makes)
      (λ told stands. is_apply ∙ either _ _ (paths_spent state (replaced state) ∷ []) (replaced state) told stands))

  -- a value comes in the place of the node
  opened-for : (state : State) (before mid : Option (RecordMap NodeRecord)) (mid_table : List PathRow) (parent : ℕ) (gap : Gap) (rim : Rim) (tree : Tree) (trees : Forest) (frames : List Frame) (left : Forest) (n : Node) (below right : Forest)
      → row_of r ≡ own_row local_hash (number_of state.paths) frames left n below right → n.number ≡ k → is_value r.kind ≡ true → IsCut k next parent r gap tree → IsRim before gap rim → IsTakenOut k r.first next before mid
      → size (plug frames (beside left (tree_then n below right))) ≤ next → AreBelow next (numbers (plug frames (beside left (tree_then n below right)))) → FitBelow None (plug frames (beside left (tree_then n below right)))
      → IsPathAt state.paths (own_path (around_hole frames) n) r.path → Lists mid_table state.paths (counts_around (paths_left frames left) (paths_right frames right))
      → HasAll state.paths (paths_left frames left) → HasAll state.paths (paths_right frames right) → ((other : List Step) → counts_around (paths_left frames left) (paths_right frames right) other + nodes v < 2 ^ 32)
      → ((number : List Step → ℕ) → Numbers number state.paths → Shows before (rows_in number (plug frames (beside left (tree_then n below right)))))
      → plug frames (beside left (beside (numbered v next no_trees) right)) ≡ trees → IsComing state next gap rim (Some tree) None v r.path (kept mid mid_table) trees
  opened-for state before mid mid_table parent gap rim tree trees [] left n below right row same value cut is_rim taken few below_next fit at_path lists front back room shows trees_are =
      absurd (let none : r.parent ≡ None = ap (λ (w : NodeRow). w.parent) row in let up = cut.up in cc)
  opened-for state before mid mid_table parent gap rim tree trees (frame ∷ frames) left n below right row same value cut is_rim taken few below_next fit at_path lists front back room shows trees_are =
      let kind : is_value n.kind ≡ true = sym (ap (λ (w : NodeRow). is_value w.kind) row) ∙ value in
      let inside : Forest = beside left (tree_then n below right) in
      let fit_here = fit_back (above (frame ∷ frames)) left (tree_then n below right) (fit_inside (frame ∷ frames) inside fit) in
      let left_at = λ (number : List Step → ℕ) (numbers_are : Numbers number state.paths).
      left-gap number frames frame left n below right k next parent r gap tree before mid same (λ i. record (row i) { path = r.path }) few cut taken (shows number numbers_are) in
      let own = left_at (number_of state.paths) (own-numbers mid_table state.paths _ lists) in
      record {
        at = record { frames = frames; frame = frame; left = left; olds = tree_then n below no_trees; right = right };
        steps = own_path (around_hole (frame ∷ frames)) n;
        listed = state.paths;
        listed_is = refl;
        gap_is = record { parent = own.parent; left = own.left; right = own.right; old_is = own.shown_is; few = few };
        at_path = at_path;
        stands = value-path (frame ∷ frames) n.kind _ n.label kind fit_here.0;
        lists = lists;
        trees_are = trees_are;
        front = front;
        back = back;
        room = room;
        shows = λ number numbers_are. (
          below-left number next frames frame left n below right below_next,
          record {
            around = around-of local_hash number frames frame left (tree_then n below no_trees) right gap before own.parent own.left own.right (shows number numbers_are) rim is_rim;
            shows = (left_at number numbers_are).shows;
          },
        );
      }

  -- what was known before the value came in the place of the node
  pub record IsReplacing (before mid : Option (RecordMap NodeRecord)) (table mid_table : List PathRow) (parent had : ℕ) (gap : Gap) (rim : Rim) (tree : Tree) : Type 0 where
    pub there : ForSome before (λ m. fin.get m k ≡ Some r)
    pub value : is_value r.kind ≡ true
    pub cut : IsCut k next parent r gap tree
    pub rimmed : IsRim before gap rim
    pub taken : IsTakenOut k r.first next before mid
    pub left_out : IsLeftOut k r next (kept before table) (Some mid_table)
    pub had_is : had ≡ min (length table) (2 ^ 32 - 1)
    pub room : next + nodes v ≤ 2 ^ 30

  pub replacing-after : (before told mid : Option (RecordMap NodeRecord)) (table mid_table : List PathRow) (parent had : ℕ) (gap : Gap) (rim : Rim) (tree : Tree) → told ≡ before → ForSome before (λ m. fin.get m k ≡ Some r) → is_value r.kind ≡ true
      → IsCut k next parent r gap tree → IsRim before gap rim → IsTakenOut k r.first next told mid → IsLeftOut k r next (kept told table) (Some mid_table) → had ≡ min (length table) (2 ^ 32 - 1) → next + nodes v ≤ 2 ^ 30
      → IsReplacing before mid table mid_table parent had gap rim tree
  replacing-after before told mid table mid_table parent had gap rim tree same there value cut rimmed taken left_out had_is room = record {
    there = there;
    value = value;
    cut = cut;
    rimmed = rimmed;
    taken = subst (λ o. IsTakenOut k r.first next o mid) same taken;
    left_out = subst (λ o. IsLeftOut k r next (kept o table) (Some mid_table)) same left_out;
    had_is = had_is;
    room = room;
  }

  module _ (before mid : Option (RecordMap NodeRecord)) (table mid_table : List PathRow) (parent had : ℕ) (gap : Gap) (rim : Rim) (tree : Tree) (is : IsReplacing before mid table mid_table parent had gap rim tree) where
    replacing : (state : State) (are : AreOf state next before) → IsTableOf state table → (s : IsSeen k state before r) → IsComing state next gap rim (Some tree) None v r.path (kept mid mid_table) (replaced state).trees
    replacing state are of_state s =
        let frames : List Frame = s.at.around in
        let whole : Forest = plug frames (beside s.at.left (tree_then s.at.node s.at.below s.at.right)) in
        let few : size whole ≤ next = subst (λ t. size t ≤ next) s.at.stands are.few in
        let fit = subst (FitBelow None) s.at.stands are.well_formed.fit in
        let site = sited state table frames s.at.left (tree_then s.at.node s.at.below no_trees) s.at.right of_state s.at.stands in
        let trees_are : plug frames (beside s.at.left (beside (numbered v next no_trees) s.at.right)) ≡ (replaced state).trees =
        ap (λ t. plug frames (beside s.at.left t)) (beside-numbered v next no_trees s.at.right ∙ (λ i. numbered v (sym are.next_is i) s.at.right)) ∙ sym (s.at.changed (λ n below rest. numbered v state.next rest)) in
        opened-for state before mid mid_table parent gap rim tree (replaced state).trees frames s.at.left s.at.node s.at.below s.at.right s.row s.at.number is.value is.cut is.rimmed is.taken few
        (subst (λ t. AreBelow next (numbers t)) s.at.stands (are-below next (numbers state.trees) are.below_next)) fit (own-listed k state before r table s site is.value)
        (cut-lists k next r state before table (Some mid_table) are s of_state is.left_out) site.before site.behind
        (counts-room (paths_left frames s.at.left) _ (paths_right frames s.at.right) state.trees (nodes v) next site.paths_are are.few (omega (arith, is.room)))
        (λ number numbers_are. renumbered number table state.paths _ whole before of_state.lists numbers_are fit (subst (λ t. HasAll state.paths (paths_in t)) s.at.stands of_state.listed) s.shows) trees_are

    replace-free : {T : Type 0} (now : Option (RecordMap NodeRecord)) (count : ℕ) (step : Result T EditFault) (done : T) (state : State) (are : AreOf state next before) (s : IsSeen k state before r) → now ≡ before → step ≡ Ok done → count ≡ nodes v
        → MakesRoom next parent v count now step → apply (replace k v) state ≡ unless (paths_spent state (replaced state) ∷ []) (replaced state)
    replace-free now count step done state are s same step_is count_is makes =
        let new : State = replaced state in
        let room = room-of before now parent count step state are s is.cut.up same count_is makes in
        let none = subst (Passes (option_or (too_deep (nodes_of s.at.around) v) (numbers_spent state (nodes v)))) step_is room in
        replace-apply state before s
        ∙ ap (λ (b : Bool). unless (wrong_kind (not b) s.at.node ∷ too_deep (nodes_of s.at.around) v ∷ numbers_spent state (nodes v) ∷ paths_spent state new ∷ []) new) is.value
        ∙ past _ _ (paths_spent state new ∷ []) new none

    pub replace-done : {T : Type 0} (now : Option (RecordMap NodeRecord)) (count more : ℕ) (step : Result T EditFault) (done : T) (after : Kept) → now ≡ before → step ≡ Ok done → count ≡ nodes v → more ≡ nodes v
        → MakesRoom next parent v count now step → IsFilled next gap rim (Some tree) (enters None v r.path had) (kept mid mid_table) after
        → AnswersEach (replace k v) next (kept before table) after (Ok (record { first = Some next; next = next + more }))
    unfolding AnswersEach
    replace-done now count more step done after same step_is count_is more_is makes filled state are of_state =
        let s = seen k state next before r are is.there in
        let new : State = replaced state in
        let came = coming-done state next (nodes v) had gap rim (Some tree) None v r.path (kept mid mid_table) new.trees (replacing state are of_state s) after filled in
        let number_is : next + more ≡ state.next + nodes v = omega (arith, are.next_is, more_is) in
        (new, replace-free now count step done state are s same step_is count_is makes ∙ came.0, (λ i. record { first = Some (sym are.next_is i); next = number_is i }), came.1, came.2)

    pub replace-stops : {T : Type 0} (now : Option (RecordMap NodeRecord)) (count : ℕ) (step : Result T EditFault) (done : T) (after : Kept) (e : EditFault) → now ≡ before → step ≡ Ok done → count ≡ nodes v
        → MakesRoom next parent v count now step → StopsFilling next gap rim (Some tree) (enters None v r.path had) (kept mid mid_table) e
        → AnswersEach (replace k v) next (kept before table) after (Err e)
    unfolding AnswersEach
    replace-stops now count step done after e same step_is count_is makes stops state are of_state =
        let s = seen k state next before r are is.there in
        coming-stops state next (nodes v) had gap rim (Some tree) None v r.path (kept mid mid_table) (replaced state).trees (replacing state are of_state s) (replace k v) after e
        (had-paths had table state is.had_is of_state) (replace-free now count step done state are s same step_is count_is makes) stops

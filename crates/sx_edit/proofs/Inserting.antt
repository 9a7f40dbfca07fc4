-- What inserting a value answers over the records of a state.
use Rattle.std.proofs.Common.{◌≡◌, ℕ, ◌+◌, ◌≤◌, Bool, true, false, not, ◌&&◌, List, [], ◌∷◌, ◌++◌, length, Option, Some, None, Result, Ok, Err, refl, sym, ap, subst, ◌∙◌, arith, append_assoc, if◌then◌else◌}
use Rattle.std.specs.Prelude.{◌^◌, ◌-◌, min, IsErrAnd, IsTrue, bytes_eq, find, is_none, is_some, option_and_then, option_map}
use Rattle.std.specs.Option.{option_or}
use Rattle.std.proofs.lemmas.Grind.{common_steps}
use Rattle.sx_tree.specs.declared.edit.Edited.{Edited}
use Rattle.sx_tree.specs.declared.edit.EditRefusal.{EditRefusal}
use Rattle.sx_tree.specs.declared.edit.EditRefusal.TheVariants.{DocumentFull, NameMissing, NameTaken, NameUnasked}
use Rattle.sx_tree.specs.declared.edit.Place.{Place}
use Rattle.sx_tree.specs.declared.record.Kind.{Kind}
use Rattle.sx_tree.specs.declared.record.Kind.TheVariants.{Document, Object, Array, Key, Str, Number, Bool as Truth, Null}
use Rattle.sx_tree.specs.declared.record.NodeRecord.{NodeRecord}
use Rattle.sx_tree.specs.declared.record.Step.{Step}
use Rattle.sx_tree.specs.declared.record.Step.TheVariants.{Top}
use Rattle.sx_tree.specs.Value.{Value, nodes}
use Rattle.sx_view.specs.declared.fault.Fault.{Fault}
use Rattle.sx_view.specs.Records.{RecordMap}
use Rattle.sx_model.specs.Edit.{insert, apply, unless, when, name_taken, document_full, too_deep, numbers_spent, paths_spent, entering, inserted, with_trees}
use Rattle.sx_model.specs.Hash.{local_hash}
use Rattle.sx_model.specs.Holes.{Frame, plug, filled, shown, around_hole, rows_before, rows_behind}
use Rattle.sx_model.specs.Paths.{number_of, path_below, paths_below, paths_in, with_paths}
use Rattle.sx_model.specs.Records.{PathRow, first_of}
use Rattle.sx_model.specs.Sound.{AreBelow}
use Rattle.sx_model.specs.State.{State}
use Rattle.sx_model.specs.Tree.{Node, Forest, no_trees, tree_then, beside, is_document, is_key, is_object, is_value, may_stand_below, numbers, tops, FitBelow, size}
use Rattle.sx_model.proofs.Holes.{or_none, rows-beside, rows-plug}
use Rattle.sx_model.proofs.Plugging.{above, fit_back}
use Rattle.sx_edit.specs.declared.fault.EditFault.{EditFault}
use Rattle.sx_edit.specs.declared.fault.EditFault.TheVariants.{Refused}
use Rattle.sx_edit.specs.declared.trees.Rim.{Rim}
use Rattle.sx_edit.specs.declared.trees.Target.{Target}
use Rattle.sx_edit.specs.Seen.{CannotSurvey, IsRim}
use Rattle.sx_edit.proofs.Rimming.{around-of, survey-cannot}
use Rattle.sx_edit.specs.Answers.{AreOf, Answers, AnswersEach, IsTableOf}
use Rattle.sx_edit.specs.Grow.{top_of, trees_below}
use Rattle.sx_edit.specs.Pathways.{HasAll, IsOnto, IsPathAt, Kept, Lists, Stops, StopsOnto, kept, own_of, paths_under}
use Rattle.sx_paths.specs.Listed.{IsBase}
use Rattle.sx_edit.specs.Damage.{IsDamaged}
use Rattle.sx_edit.specs.EditFault.{edit_fault}
use Rattle.sx_edit.specs.Edited.{rows_in}
use Rattle.sx_edit.specs.Fill.{IsFilled, StopsFilling, entering_nodes, entering_paths, entering_top, enters}
use Rattle.sx_edit.specs.Mend.{opened}
use Rattle.sx_edit.specs.Names.{FindsKey}
use Rattle.sx_edit.specs.Places.{ChecksChildren, FindsTaken, IsNoPlace, IsPlace, IsPlaceAt, has_places, step_into}
use Rattle.sx_edit.specs.Room.{nodes_of, IsSite, MakesRoom, Passes}
use Rattle.sx_edit.specs.Told.{Shows, numbers_of}
use Rattle.sx_edit.proofs.Answering.{IsNoState, again-answers, had-paths}
use Rattle.sx_edit.proofs.Coming.{IsComing, coming-done, coming-stops, entering-tree, onto-answers}
use Rattle.sx_edit.proofs.Pathing.{all-back, all-front, listed-base, lists-as, more-none, numbers-back, with-twice}
use Rattle.sx_edit.proofs.Sited.{fit_inside, sited}
use Rattle.sx_edit.proofs.Swapping.{counts-room, counts_around, no_document, renumbered}
use Rattle.sx_edit.proofs.TreePaths.{paths-among, paths_before, paths_left, paths_right}
use Rattle.sx_edit.proofs.Climbing.{numbers-rows}
use Rattle.sx_edit.proofs.Counting.{fault-passes}
use Rattle.sx_edit.proofs.Growing.{beside-numbered}
use Rattle.sx_edit.proofs.Looking.{shows-state}
use Rattle.sx_edit.proofs.Mending.{count-size}
use Rattle.sx_edit.proofs.NewNames.{taken_of}
use Rattle.sx_edit.proofs.Refusing.{either, past, passes-answers}
use Rattle.sx_edit.proofs.Relabeling.{deep-plug}
use Rattle.sx_edit.proofs.Replacing.{are-below}

-- ---- names

value-no_key : (kind : Kind) → IsTrue (is_value kind) → is_key kind ≡ false
value-no_key Document value = refl
value-no_key Object value = refl
value-no_key Array value = refl
value-no_key Key value = absurd cc
value-no_key Str value = refl
value-no_key Number value = refl
value-no_key Truth value = refl
value-no_key Null value = refl

-- Keys stand below Objects alone
no_key-below : (kind child : Kind) → is_object kind ≡ false → IsTrue (may_stand_below kind child) → is_key child ≡ false
no_key-below Document child other stands = value-no_key child stands
no_key-below Object child other stands = absurd cc
no_key-below Array child other stands = value-no_key child stands
no_key-below Key child other stands = value-no_key child stands
no_key-below Str child other stands = absurd cc
no_key-below Number child other stands = absurd cc
no_key-below Truth child other stands = absurd cc
no_key-below Null child other stands = absurd cc

no-keys : (kind : Kind) (asked : List ℕ) (trees : Forest) → is_object kind ≡ false → FitBelow (Some kind) trees → find (λ n. is_key n.kind && bytes_eq n.label asked) (tops trees) ≡ None
no-keys kind asked no_trees other fit = refl
no-keys kind asked (tree_then n below rest) other fit =
    let key = no_key-below kind n.kind other fit.0 in
    grind (arith, common_steps, key, no-keys kind asked rest other fit.4)

module _ (next : ℕ) (target : Target) (o : Option (RecordMap NodeRecord)) where
  pub taken-unasked : (name : Option (List ℕ)) → name ≡ None → FindsTaken next target name o (Some None)
  unfolding FindsTaken
  taken-unasked None is frames frame inside site kind first = refl
  taken-unasked (Some asked) is frames frame inside site kind first = absurd cc

  pub taken-no_object : (name : Option (List ℕ)) → is_object target.kind ≡ false → FindsTaken next target name o (Some None)
  unfolding FindsTaken
  taken-no_object None other frames frame inside site kind first = refl
  taken-no_object (Some asked) other frames frame inside site kind first =
      let fit = fit_inside (frame ∷ frames) inside site.fit in
      ap (λ f. Some (option_map (λ (n : Node). n.number) f)) (sym (no-keys frame.node.kind asked inside (sym (ap is_object kind) ∙ other) fit))

  pub taken-found : (name : Option (List ℕ)) (asked : List ℕ) (answer : Option (Option ℕ)) → name ≡ Some asked → FindsKey None asked target.first next o answer → FindsTaken next target name o answer
  unfolding FindsTaken FindsKey
  taken-found None asked answer is finds frames frame inside site kind first = absurd cc
  taken-found (Some name) asked answer is finds frames frame inside site kind first =
      let same : asked ≡ name = cc in
      let deep = deep-plug (frame ∷ frames) inside in
      let all = subst (Shows o) (rows-plug local_hash site.paths (frame ∷ frames) inside) site.shows in
      finds local_hash site.paths (around_hole (frame ∷ frames)) inside (rows_before local_hash site.paths (frame ∷ frames) (shown local_hash inside)) (rows_behind local_hash site.paths (frame ∷ frames) (shown local_hash inside))
      (sym first) refl (omega (arith, count-size inside, site.few)) all
      ∙ (λ i. Some (option_map (λ (n : Node). n.number) (find (λ n. is_key n.kind && bytes_eq n.label (same i)) (tops inside))))

  name-is : (ns : List Node) (name : Option (List ℕ)) → option_and_then (λ asked. name_taken asked ns) name
      ≡ option_map NameTaken (option_and_then (λ asked. option_map (λ n. n.number) (find (λ n. is_key n.kind && bytes_eq n.label asked) ns)) name)
  name-is ns None = refl
  name-is ns (Some asked) = taken_of (find (λ n. is_key n.kind && bytes_eq n.label asked) ns)

  full-is : (parent : Node) (inside : Forest) → document_full parent (tops inside) ≡ when (is_document parent.kind && is_some (first_of inside)) (DocumentFull parent.number)
  full-is parent no_trees = by (is_document parent.kind)
    where
      by : (b : Bool) → None ≡ when (b && false) (DocumentFull parent.number)
      by true = refl
      by false = refl
  full-is parent (tree_then n below rest) = by (is_document parent.kind)
    where
      by : (b : Bool) → when b (DocumentFull parent.number) ≡ when (b && true) (DocumentFull parent.number)
      by true = refl
      by false = refl

  pub checks-fault : {T : Type 0} (name : Option (List ℕ)) (fault : Fault) (result : Result T EditFault) → IsErrAnd result (λ e. e ≡ edit_fault fault) → (IsDamaged fault → FindsTaken next target name o None)
      → ChecksChildren next target name o result
  unfolding ChecksChildren FindsTaken
  checks-fault name fault result is cannot frames frame inside site kind first =
      fault-passes _ fault result is (λ damaged. let none = cannot damaged frames frame inside site kind first in cc)

  -- what was found of the name, and of a child of the Document, is what the step answers
  pub checks-passes : {T : Type 0} (name : Option (List ℕ)) (found : Option ℕ) (full : Bool) (result : Result T EditFault) → FindsTaken next target name o (Some found)
      → full ≡ (is_document target.kind && is_some target.first) → Passes (option_or (option_map NameTaken found) (when full (DocumentFull target.gap.parent))) result → ChecksChildren next target name o result
  unfolding ChecksChildren FindsTaken
  checks-passes name found full result finds full_is passes frames frame inside site kind first =
      let taken : found ≡ option_and_then (λ asked. option_map (λ n. n.number) (find (λ n. is_key n.kind && bytes_eq n.label asked) (tops inside))) name = let some = finds frames frame inside site kind first in cc in
      let named : option_map NameTaken found ≡ option_and_then (λ asked. name_taken asked (tops inside)) name = ap (option_map NameTaken) taken ∙ sym (name-is (tops inside) name) in
      let filled_is : when full (DocumentFull target.gap.parent) ≡ document_full frame.node (tops inside) =
      (λ i. when (full_is i) (DocumentFull (sym site.number i))) ∙ (λ i. when (is_document (kind i) && is_some (first i)) (DocumentFull frame.node.number)) ∙ sym (full-is frame.node inside) in
      let both : option_or (option_map NameTaken found) (when full (DocumentFull target.gap.parent)) ≡ option_or (option_and_then (λ asked. name_taken asked (tops inside)) name) (document_full frame.node (tops inside)) =
      λ i. option_or (named i) (filled_is i) in
      subst (λ (refusal : Option EditRefusal). Passes refusal result) both passes

-- ---- the gap

opened-rows : (number : List Step → ℕ) (frames : List Frame) (frame : Frame) (left right : Forest) → rows_in number (plug (frame ∷ frames) (beside left right)) ≡ opened local_hash number frames frame left no_trees no_trees right
opened-rows number frames frame left right = rows-plug local_hash number (frame ∷ frames) (beside left right) ∙ simp (rows-beside, or_none, append_assoc)

entering-beside : (name : Option (List ℕ)) (v : Value) (n : ℕ) (right : Forest) → beside (entering name v n no_trees) right ≡ entering name v n right
entering-beside None v n right = beside-numbered v n no_trees right
entering-beside (Some name) v n right = refl

-- a Key comes where a name is asked for and given
keys-entering : (in_object : Bool) (name : Option (List ℕ)) (v : Value) → option_or (when (in_object && is_none name) NameMissing) (when (not in_object && is_some name) NameUnasked) ≡ None
    → (if in_object then 1 + nodes v else nodes v) ≡ entering_nodes name v
keys-entering true None v none = absurd cc
keys-entering true (Some name) v none = refl
keys-entering false None v none = refl
keys-entering false (Some name) v none = absurd cc

new-count : (in_object : Bool) (v : Value) → (if in_object then 1 else 0) + nodes v ≡ (if in_object then 1 + nodes v else nodes v)
new-count true v = refl
new-count false v = omega arith

pub count-below : (in_object : Bool) (kind : Kind) (v : Value) (keys : ℕ) → in_object ≡ is_object kind → keys ≡ (if in_object then 1 else 0) → keys + nodes v ≡ (if is_object kind then 1 + nodes v else nodes v)
count-below in_object kind v keys is keys_is = ap (λ z. z + nodes v) keys_is ∙ new-count in_object v ∙ ap (λ (b : Bool). if b then 1 + nodes v else nodes v) is

pub named-below : (in_object : Bool) (kind : Kind) (name : Option (List ℕ)) (found answer : Option EditRefusal) → in_object ≡ is_object kind
    → found ≡ option_or (when (in_object && is_none name) NameMissing) (when (not in_object && is_some name) NameUnasked) → found ≡ answer
    → option_or (when (is_object kind && is_none name) NameMissing) (when (not (is_object kind) && is_some name) NameUnasked) ≡ answer
named-below in_object kind name found answer is found_is answer_is =
    ap (λ (b : Bool). option_or (when (b && is_none name) NameMissing) (when (not b && is_some name) NameUnasked)) (sym is) ∙ sym found_is ∙ answer_is

pub entering-room : (in_object : Bool) (name : Option (List ℕ)) (v : Value) (keys next : ℕ) → keys ≡ (if in_object then 1 else 0)
    → option_or (when (in_object && is_none name) NameMissing) (when (not in_object && is_some name) NameUnasked) ≡ None → next + (keys + nodes v) ≤ 2 ^ 30 → next + entering_nodes name v ≤ 2 ^ 30
entering-room in_object name v keys next keys_is none room =
    let count : keys + nodes v ≡ entering_nodes name v = ap (λ z. z + nodes v) keys_is ∙ new-count in_object v ∙ keys-entering in_object name v none in
    subst (λ z. next + z ≤ 2 ^ 30) count room

pub checks-there : {T : Type 0} (next : ℕ) (target : Target) (name : Option (List ℕ)) (now o : Option (RecordMap NodeRecord)) (step : Result T EditFault) → now ≡ o → ChecksChildren next target name now step → ChecksChildren next target name o step
checks-there next target name now o step same = subst (λ q. ChecksChildren next target name q step) same

pub insert-unplaced : (place : Place) (name : Option (List ℕ)) (v : Value) (next : ℕ) (o : Option (RecordMap NodeRecord)) (table : List PathRow) (after : Kept) (e : EditFault) (result : Result Edited EditFault) → IsErrAnd result (λ x. x ≡ e)
    → IsNoPlace place next o e → AnswersEach (insert place name v) next (kept o table) after result
unfolding IsNoPlace
insert-unplaced place name v next o table after e result is none = again-answers (insert place name v) next (kept o table) after result e is (none name v table after)

-- ---- the path of what comes

-- the refusals for a name
abbrev refused_name : Kind → Option (List ℕ) → Option EditRefusal
refused_name kind name = option_or (when (is_object kind && is_none name) NameMissing) (when (not (is_object kind) && is_some name) NameUnasked)

-- the step to what comes below a node, from the node's path
record IsStepInto (kind : Kind) (path : List Step) (name : Option (List ℕ)) (listed : List (List Step)) (label : List ℕ) : Type 0 where
  base : IsBase listed path
  stands : path_below kind path label ≡ step_into kind name ∷ path

into : (kind : Kind) (path : List Step) (name : Option (List ℕ)) (v : Value) (next : ℕ) (listed : List (List Step)) → has_places kind ≡ true → refused_name kind name ≡ None → (kind ≡ Document → path ≡ [])
    → HasAll listed (own_of kind path) → IsStepInto kind path name listed (entering_top name v next).label
into Document path None v next listed takes named top all = record { base = subst (IsBase listed) (sym (top refl)) tt; stands = ap (λ p. Top ∷ p) (sym (top refl)) }
into Document path (Some name) v next listed takes named top all = absurd cc
into Object path None v next listed takes named top all = absurd cc
into Object path (Some name) v next listed takes named top all = record { base = listed-base listed path all.0; stands = refl }
into Array path None v next listed takes named top all = record { base = listed-base listed path all.0; stands = refl }
into Array path (Some name) v next listed takes named top all = absurd cc
into Key path name v next listed takes named top all = absurd cc
into Str path name v next listed takes named top all = absurd cc
into Number path name v next listed takes named top all = absurd cc
into Truth path name v next listed takes named top all = absurd cc
into Null path name v next listed takes named top all = absurd cc

-- the Document stands at the top
document-path : (frames : List Frame) (frame : Frame) (inside : Forest) → FitBelow None (plug (frame ∷ frames) inside) → frame.node.kind ≡ Document → (around_hole (frame ∷ frames)).path ≡ []
document-path [] frame inside fit is = refl
document-path (outer ∷ frames) frame inside fit is =
    let fit_here = fit_back (above (outer ∷ frames)) frame.before (tree_then frame.node inside frame.behind) (fit_inside (outer ∷ frames) (filled frame inside) fit) in
    absurd (no_document outer.node.kind (subst (λ kind. IsTrue (may_stand_below outer.node.kind kind)) is fit_here.0))

entering-first : (name : Option (List ℕ)) (v : Value) (next : ℕ) (path : List Step) → (rest : List (List Step)) × (entering_paths name v next path ≡ path ∷ rest)
entering-first None v next path = (paths_below (Some (top_of v next)) path (trees_below v next), refl)
entering-first (Some name) v next path = (paths_below (Some (top_of v (next + 1))) path (trees_below v (next + 1)), refl)

-- a step that passed
abbrev pub passed : {T : Type 0} → T → Result T EditFault
passed done = Ok done

fewer : (name : Option (List ℕ)) (v : Value) → nodes v ≤ entering_nodes name v
fewer None v = omega arith
fewer (Some name) v = omega arith

module _ (place : Place) (name : Option (List ℕ)) (v : Value) (next : ℕ) (target : Target) (o : Option (RecordMap NodeRecord)) (is_place : IsPlace place next o target) where
  pub place-at : (state : State) → AreOf state next o → IsPlaceAt place state target
  unfolding IsPlace
  place-at state are = is_place state are

  pub site : (state : State) (are : AreOf state next o) (at : IsPlaceAt place state target) → IsSite target.gap.parent next o at.frames at.frame (beside at.left at.right)
  site state are at = record {
    number = at.number;
    paths = number_of state.paths;
    shows = subst (λ t. Shows o (rows_in (number_of state.paths) t)) at.stands (shows-state state next o are);
    few = subst (λ t. size t ≤ next) at.stands are.few;
    fit = subst (FitBelow None) at.stands are.well_formed.fit;
  }

  -- how many nodes come below a node of this kind
  abbrev more_below : Kind → ℕ
  more_below kind = if is_object kind then 1 + nodes v else nodes v

  abbrev left_with : State → Kind → State
  left_with state kind = with_trees state (more_below kind) (inserted place (entering name v state.next) state.trees)

  -- the refusals for the name, and what is left then
  abbrev last_refusals : State → Kind → List (Option EditRefusal)
  last_refusals state kind =
      when (is_object kind && is_none name) NameMissing ∷ when (not (is_object kind) && is_some name) NameUnasked ∷ paths_spent state (left_with state kind) ∷ []

  abbrev taken_in : Forest → Option EditRefusal
  taken_in children = option_and_then (λ asked. name_taken asked (tops children)) name

  abbrev later_refusals : State → List Frame → Frame → List (Option EditRefusal)
  later_refusals state frames frame = too_deep (nodes_of (frame ∷ frames)) v ∷ numbers_spent state (more_below frame.node.kind) ∷ last_refusals state frame.node.kind

  -- what is left once the children were checked, and once there is room
  after-check : {T : Type 0} (state : State) (are : AreOf state next o) (at : IsPlaceAt place state target) (done : T) → ChecksChildren next target name o (passed done)
      → apply (insert place name v) state ≡ unless (later_refusals state at.frames at.frame) (left_with state at.frame.node.kind)
  unfolding ChecksChildren
  after-check state are at done checks =
      at.applied name v ∙ past (taken_in (beside at.left at.right)) (document_full at.frame.node (tops (beside at.left at.right))) (later_refusals state at.frames at.frame) (left_with state at.frame.node.kind)
      (checks at.frames at.frame (beside at.left at.right) (site state are at) at.kind at.children)

  room-there : {T : Type 0} (state : State) (are : AreOf state next o) (at : IsPlaceAt place state target) (count : ℕ) (step : Result T EditFault) → count ≡ more_below target.kind → MakesRoom next target.gap.parent v count o step
      → Passes (option_or (too_deep (nodes_of (at.frame ∷ at.frames)) v) (numbers_spent state (more_below at.frame.node.kind))) step
  unfolding MakesRoom
  room-there state are at count step count_is makes =
      subst (λ m. Passes (option_or (too_deep (nodes_of (at.frame ∷ at.frames)) v) (numbers_spent state m)) step) (count_is ∙ ap more_below at.kind)
      (makes at.frames at.frame (beside at.left at.right) state are.next_is (site state are at))

  after-room : {S T : Type 0} (state : State) (are : AreOf state next o) (at : IsPlaceAt place state target) (checked : S) (count : ℕ) (done : T) → ChecksChildren next target name o (passed checked)
      → count ≡ more_below target.kind → MakesRoom next target.gap.parent v count o (passed done)
      → apply (insert place name v) state ≡ unless (last_refusals state at.frame.node.kind) (left_with state at.frame.node.kind)
  after-room state are at checked count done checks count_is makes =
      after-check state are at checked checks
      ∙ past (too_deep (nodes_of (at.frame ∷ at.frames)) v) (numbers_spent state (more_below at.frame.node.kind)) (last_refusals state at.frame.node.kind) (left_with state at.frame.node.kind) (room-there state are at count (Ok done) count_is makes)

  pub insert-unchecked : {T : Type 0} (table : List PathRow) (after : Kept) (step : Result T EditFault) (e : EditFault) (result : Result Edited EditFault) → IsErrAnd result (λ x. x ≡ e) → step ≡ Err e
      → ChecksChildren next target name o step → AnswersEach (insert place name v) next (kept o table) after result
  unfolding AnswersEach ChecksChildren
  insert-unchecked table after step e (Ok x) is step_is checks state are of_state = absurd is
  insert-unchecked table after step e (Err x) is step_is checks state are of_state =
      let at = place-at state are in
      subst (λ y. Answers (insert place name v) state after (Err y)) (sym is)
      (passes-answers (insert place name v) state after _ step e step_is (checks at.frames at.frame (beside at.left at.right) (site state are at) at.kind at.children)
      (λ told stands. at.applied name v ∙ either (taken_in (beside at.left at.right)) (document_full at.frame.node (tops (beside at.left at.right))) (later_refusals state at.frames at.frame) (left_with state at.frame.node.kind) told stands))

  pub insert-no_room : {S T : Type 0} (now : Option (RecordMap NodeRecord)) (table : List PathRow) (after : Kept) (checked : S) (count : ℕ) (step : Result T EditFault) (e : EditFault) (result : Result Edited EditFault) → IsErrAnd result (λ x. x ≡ e) → step ≡ Err e
      → ChecksChildren next target name o (passed checked) → now ≡ o → count ≡ more_below target.kind → MakesRoom next target.gap.parent v count now step → AnswersEach (insert place name v) next (kept o table) after result
  unfolding AnswersEach
  insert-no_room now table after checked count step e (Ok x) is step_is checks same count_is makes state are of_state = absurd is
  insert-no_room now table after checked count step e (Err x) is step_is checks same count_is makes state are of_state =
      let at = place-at state are in
      let makes_here = subst (λ q. MakesRoom next target.gap.parent v count q step) same makes in
      subst (λ y. Answers (insert place name v) state after (Err y)) (sym is)
      (passes-answers (insert place name v) state after _ step e step_is (room-there state are at count step count_is makes_here)
      (λ told stands. after-check state are at checked checks
      ∙ either (too_deep (nodes_of (at.frame ∷ at.frames)) v) (numbers_spent state (more_below at.frame.node.kind)) (last_refusals state at.frame.node.kind) (left_with state at.frame.node.kind) told stands))

  -- what stands around the place can be read
  pub place-cannot : (now : Option (RecordMap NodeRecord)) → now ≡ o → CannotSurvey next target.gap now → IsNoState next o
  unfolding IsNoState
  place-cannot now same cannot state are =
      let at = place-at state are in
      let few : size (plug (at.frame ∷ at.frames) (beside at.left at.right)) ≤ next = subst (λ t. size t ≤ next) at.stands are.few in
      survey-cannot local_hash (number_of state.paths) at.frames at.frame at.left no_trees at.right target.gap o at.number at.last at.first
      (subst (λ t. Shows o (rows_in (number_of state.paths) t)) at.stands (shows-state state next o are)) next few (subst (CannotSurvey next target.gap) same cannot)

  -- the refusals for the name
  abbrev name_refusals : Kind → Option EditRefusal
  name_refusals kind = option_or (when (is_object kind && is_none name) NameMissing) (when (not (is_object kind) && is_some name) NameUnasked)

  pub insert-unnamed : {S T : Type 0} (now : Option (RecordMap NodeRecord)) (table : List PathRow) (after : Kept) (checked : S) (count : ℕ) (done : T) (refusal : EditRefusal) → ChecksChildren next target name o (passed checked)
      → now ≡ o → count ≡ more_below target.kind → MakesRoom next target.gap.parent v count now (passed done) → name_refusals target.kind ≡ Some refusal
      → AnswersEach (insert place name v) next (kept o table) after (Err (Refused refusal))
  unfolding AnswersEach
  insert-unnamed now table after checked count done refusal checks same count_is makes named state are of_state =
      let at = place-at state are in
      let makes_here = subst (λ q. MakesRoom next target.gap.parent v count q (passed done)) same makes in
      after-room state are at checked count done checks count_is makes_here
      ∙ either (when (is_object at.frame.node.kind && is_none name) NameMissing) (when (not (is_object at.frame.node.kind) && is_some name) NameUnasked) (paths_spent state (left_with state at.frame.node.kind) ∷ []) (left_with state at.frame.node.kind) refusal (sym (ap name_refusals at.kind) ∙ named)

  -- what was checked before the value came to the place
  pub record IsInserting (told : Option (RecordMap NodeRecord)) (table : List PathRow) (had count : ℕ) (rim : Rim) : Type 0 where
    pub told_is : told ≡ o
    pub rimmed : IsRim o target.gap rim
    pub checked : ChecksChildren {T = ℕ} next target name o (Ok 0)
    pub count_is : count ≡ more_below target.kind
    pub makes : MakesRoom {T = ℕ} next target.gap.parent v count o (Ok 0)
    pub named : name_refusals target.kind ≡ None
    pub had_is : had ≡ min (length table) (2 ^ 32 - 1)
    pub room : next + entering_nodes name v ≤ 2 ^ 30

  pub inserting-after : {S T : Type 0} (now told : Option (RecordMap NodeRecord)) (table : List PathRow) (had count : ℕ) (rim : Rim) (checked : S) (done : T) → told ≡ o → IsRim o target.gap rim → ChecksChildren next target name o (passed checked) → now ≡ o
      → count ≡ more_below target.kind → MakesRoom next target.gap.parent v count now (passed done) → name_refusals target.kind ≡ None → had ≡ min (length table) (2 ^ 32 - 1) → next + entering_nodes name v ≤ 2 ^ 30
      → IsInserting told table had count rim
  unfolding ChecksChildren MakesRoom
  inserting-after now told table had count rim checked done told_is rimmed checks same count_is makes named had_is room = record {
    told_is = told_is;
    rimmed = rimmed;
    checked = λ frames frame inside there kind first. checks frames frame inside there kind first;
    count_is = count_is;
    makes = λ frames frame inside state next_is there. (subst (λ q. MakesRoom next target.gap.parent v count q (passed done)) same makes) frames frame inside state next_is there;
    named = named;
    had_is = had_is;
    room = room;
  }

  module _ (told : Option (RecordMap NodeRecord)) (table : List PathRow) (had count : ℕ) (rim : Rim) (is : IsInserting told table had count rim) where
    -- the edit of the state, but for its paths
    insert-free : (state : State) (are : AreOf state next o) (at : IsPlaceAt place state target)
        → apply (insert place name v) state ≡ unless (paths_spent state (left_with state at.frame.node.kind) ∷ []) (left_with state at.frame.node.kind)
    insert-free state are at =
        let kind : Kind = at.frame.node.kind in
        let new : State = left_with state kind in
        after-room state are at 0 count 0 is.checked is.count_is is.makes
        ∙ past (when (is_object kind && is_none name) NameMissing) (when (not (is_object kind) && is_some name) NameUnasked) (paths_spent state new ∷ []) new (sym (ap name_refusals at.kind) ∙ is.named)

    trees-with : (state : State) (are : AreOf state next o) (at : IsPlaceAt place state target)
        → plug (at.frame ∷ at.frames) (beside at.left (beside (entering name v next no_trees) at.right)) ≡ (left_with state at.frame.node.kind).trees
    trees-with state are at =
        ap (λ t. plug (at.frame ∷ at.frames) (beside at.left t)) (entering-beside name v next at.right ∙ (λ i. entering name v (sym are.next_is i) at.right)) ∙ sym (at.made (entering name v state.next))

    -- the step from the path of the node above
    step-there : (state : State) (are : AreOf state next o) (of_state : IsTableOf state table) (at : IsPlaceAt place state target)
        → IsStepInto at.frame.node.kind (around_hole (at.frame ∷ at.frames)).path name state.paths (entering_top name v next).label
    step-there state are of_state at =
        let path : List Step = (around_hole (at.frame ∷ at.frames)).path in
        let site = sited state table (at.frame ∷ at.frames) at.left no_trees at.right of_state at.stands in
        let own = all-back state.paths (paths_under (around_hole at.frames) at.frame.before) (own_of at.frame.node.kind path)
        (all-back state.paths (paths_before at.frames) _ (all-front state.paths (paths_before (at.frame ∷ at.frames)) (paths_under (around_hole (at.frame ∷ at.frames)) at.left) site.before)) in
        into at.frame.node.kind path name v next state.paths at.takes (sym (ap name_refusals at.kind) ∙ is.named)
        (document-path at.frames at.frame (beside at.left at.right) (subst (FitBelow None) at.stands are.well_formed.fit)) own

    pub insert-path_stops : (after : Kept) (e : EditFault) → StopsOnto target.path (step_into target.kind name) had table e → AnswersEach (insert place name v) next (kept o table) after (Err e)
    unfolding AnswersEach StopsOnto
    insert-path_stops after e stops state are of_state =
        let at = place-at state are in
        let kind : Kind = at.frame.node.kind in
        let path : List Step = (around_hole (at.frame ∷ at.frames)).path in
        let step = step-there state are of_state at in
        let here : List Step = step_into kind name ∷ path in
        let site = sited state table (at.frame ∷ at.frames) at.left no_trees at.right of_state at.stands in
        let xs : List (List Step) = paths_left (at.frame ∷ at.frames) at.left in
        let ys : List (List Step) = paths_right (at.frame ∷ at.frames) at.right in
        let paths_are : paths_in (left_with state kind).trees ≡ xs ++ (entering_paths name v next here ++ ys) =
        ap paths_in (sym (trees-with state are at)) ∙ paths-among (at.frame ∷ at.frames) at.left (entering name v next no_trees) at.right
        ∙ ap (λ ps. xs ++ (ps ++ ys)) (entering-tree name v next at.frame.node path ∙ ap (entering_paths name v next) step.stands) in
        let first = entering-first name v next here in
        onto-answers (insert place name v) state (more_below kind) had (left_with state kind).trees xs (entering_paths name v next here) ys here first.0 after e paths_are first.1 site.before site.behind
        (had-paths had table state is.had_is of_state) (insert-free state are at)
        (subst (λ q. Stops had state.paths ((step_into q name ∷ path) ∷ []) e) at.kind (stops state.paths _ path of_state.lists (record { base = step.base; is = at.path })))

    inserting : (path : ℕ) (mid : List PathRow) (state : State) (are : AreOf state next o) (of_state : IsTableOf state table) (at : IsPlaceAt place state target) → IsOnto target.path (step_into target.kind name) path table mid
        → IsComing state next target.gap rim None name v path (kept told mid) (left_with state at.frame.node.kind).trees
    unfolding IsOnto
    inserting path mid state are of_state at onto =
        let kind : Kind = at.frame.node.kind in
        let above_path : List Step = (around_hole (at.frame ∷ at.frames)).path in
        let step = step-there state are of_state at in
        let here : List Step = step_into kind name ∷ above_path in
        let site = sited state table (at.frame ∷ at.frames) at.left no_trees at.right of_state at.stands in
        let counts : List Step → ℕ = counts_around (paths_left (at.frame ∷ at.frames) at.left) (paths_right (at.frame ∷ at.frames) at.right) in
        let lists : Lists table state.paths counts = lists-as table state.paths _ counts (more-none counts) site.lists in
        let same : target.path ≡ number_of state.paths above_path = at.path in
        let entered = subst (λ q. Lists mid (with_paths state.paths ((step_into q name ∷ above_path) ∷ [])) counts × IsPathAt (with_paths state.paths ((step_into q name ∷ above_path) ∷ [])) (step_into q name ∷ above_path) path) at.kind
        (onto state.paths counts above_path lists (record { base = step.base; is = same })) in
        let first = entering-first name v next here in
        let whole : Forest = plug (at.frame ∷ at.frames) (beside at.left at.right) in
        let fit = subst (FitBelow None) at.stands are.well_formed.fit in
        let few : size whole ≤ next = subst (λ t. size t ≤ next) at.stands are.few in
        let below = subst (λ t. AreBelow next (numbers t)) at.stands (are-below next (numbers state.trees) are.below_next) in
        record {
          at = record { frames = at.frames; frame = at.frame; left = at.left; olds = no_trees; right = at.right };
          steps = here;
          listed = with_paths state.paths (here ∷ []);
          listed_is = ap (with_paths (with_paths state.paths (here ∷ []))) first.1 ∙ with-twice state.paths here first.0 ∙ ap (with_paths state.paths) (sym first.1);
          gap_is = record { parent = at.number; left = at.last; right = at.first; old_is = refl; few = few };
          at_path = entered.1;
          stands = step.stands;
          lists = entered.0;
          trees_are = trees-with state are at;
          front = site.before;
          back = site.behind;
          room = counts-room (paths_left (at.frame ∷ at.frames) at.left) [] (paths_right (at.frame ∷ at.frames) at.right) state.trees (nodes v) next site.paths_are are.few (omega (arith, is.room, fewer name v));
          shows = λ number numbers_are.
              let rows_are = opened-rows number at.frames at.frame at.left at.right in
              let there = renumbered number table state.paths _ whole o of_state.lists (numbers-back number state.paths (here ∷ []) numbers_are) fit (subst (λ t. HasAll state.paths (paths_in t)) at.stands of_state.listed)
              (subst (λ t. Shows o (rows_in (number_of state.paths) t)) at.stands (shows-state state next o are)) in (
                subst (AreBelow next) (sym (numbers-rows local_hash number _ whole) ∙ ap numbers_of rows_are) below,
                record {
                  around = around-of local_hash number at.frames at.frame at.left no_trees at.right target.gap o at.number at.last at.first there rim is.rimmed;
                  shows = subst (Shows told) rows_are (subst (λ q. Shows q (rows_in number whole)) (sym is.told_is) there);
                },
              );
        }

    pub insert-done : (path more : ℕ) (mid : List PathRow) (after : Kept) → more ≡ count → IsOnto target.path (step_into target.kind name) path table mid → IsFilled next target.gap rim None (enters name v path had) (kept told mid) after
        → AnswersEach (insert place name v) next (kept o table) after (Ok (record { first = Some next; next = next + more }))
    unfolding AnswersEach
    insert-done path more mid after more_is onto fills state are of_state =
        let at = place-at state are in
        let kind : Kind = at.frame.node.kind in
        let new : State = left_with state kind in
        let came = coming-done state next (more_below kind) had target.gap rim None name v path (kept told mid) new.trees (inserting path mid state are of_state at onto) after fills in
        let more_there : more ≡ more_below kind = more_is ∙ is.count_is ∙ ap more_below at.kind in
        let number_is : next + more ≡ state.next + more_below kind = (λ i. sym are.next_is i + more_there i) in
        (new, insert-free state are at ∙ came.0, (λ i. record { first = Some (sym are.next_is i); next = number_is i }), came.1, came.2)

    pub insert-stops : (path : ℕ) (mid : List PathRow) (after : Kept) (e : EditFault) → IsOnto target.path (step_into target.kind name) path table mid → StopsFilling next target.gap rim None (enters name v path had) (kept told mid) e
        → AnswersEach (insert place name v) next (kept o table) after (Err e)
    unfolding AnswersEach
    insert-stops path mid after e onto stops state are of_state =
        let at = place-at state are in
        let kind : Kind = at.frame.node.kind in
        coming-stops state next (more_below kind) had target.gap rim None name v path (kept told mid) (left_with state kind).trees (inserting path mid state are of_state at onto) (insert place name v) after e
        (had-paths had table state is.had_is of_state) (insert-free state are at) stops

-- Each accepted edit of a sound state leaves a sound one, and numbers never fall.
use Rattle.std.proofs.Common.{◌≡◌, ◌≤◌, ◌+◌, ℕ, Bool, true, false, cond, not, ◌&&◌, List, [], ◌∷◌, map, length, Option, Some, None, Result, Ok, Err, refl, ap, sym, subst, ◌∙◌, arith, nat_lt}
use Rattle.std.specs.Prelude.{is_none, is_some, option_and_then, sum_by, filter, ◌==◌}
use Rattle.std.specs.Prelude.{ℤ, IsOk}
use Rattle.std.specs.Result.{result_unwrap_or}
use Rattle.std.proofs.lemmas.Bool.{false≢true}
use Rattle.std.proofs.lemmas.Bool.Decides.{nat_tests}
use Rattle.sx_tree.specs.declared.edit.EditRefusal.{EditRefusal}
use Rattle.sx_tree.specs.declared.edit.EditRefusal.TheVariants.{NameMissing, NameUnasked}
use Rattle.sx_tree.specs.declared.edit.Place.{Place}
use Rattle.sx_tree.specs.declared.edit.Place.TheVariants.{First, Last, Before, After}
use Rattle.sx_tree.specs.declared.json.Scalar.{Scalar}
use Rattle.sx_tree.specs.declared.record.Kind.{Kind}
use Rattle.sx_tree.specs.Text.{IsText}
use Rattle.sx_tree.specs.Value.{Value, depth, nodes}
use Rattle.sx_model.specs.Commit.{Commit, AreLegal, IsLegal, replay, first_time}
use Rattle.sx_model.specs.Edit.{Edit, edited, after, AreAccepted, load, insert, set_scalar, replace, rename, remove, apply, insert_at, set_scalar_at, replace_at, rename_at, remove_at, load_over, child_of, with_trees, paths_spent, numbers_spent, too_deep, name_taken, document_full, wrong_kind, entering, inserted, named_by, target, target_below, target_beside, Target, insert_below, if_place, other_keys, must_stay, unless, when, number_limit, path_limit, nesting_limit, IsName, IsEdit}
use Rattle.sx_model.specs.Holes.{Frame, plug}
use Rattle.sx_model.specs.Limits.{KeepsLimits, ScalarKeepsLimits}
use Rattle.sx_model.specs.Numbered.{numbered, scalar_node}
use Rattle.sx_model.specs.Sound.{IsSound}
use Rattle.sx_model.specs.State.{State, empty_document}
use Rattle.sx_model.specs.Tree.{Node, Forest, no_trees, tree_then, beside, tops, levels, is_key, is_scalar, is_value, is_object, may_stand, Spot, spot, change_at}
use Rattle.sx_model.proofs.Accepted.{unless_ok, when_none, there_ok, place_ok}
use Rattle.sx_model.proofs.Changes.{IsChange, sound-change, insert_change, replace_change, remove_change, set_change, rename_change, entering_nodes, scalar_takes_none, fit_here}
use Rattle.sx_model.proofs.Plugging.{above, levels_above}
use Rattle.sx_model.proofs.Spots.{Found, spot_stands, beside_assoc}

-- the state that an edit leaves is sound, and its numbers go on
abbrev Follows : State → State → Type 0
Follows old new = IsSound new × (old.next ≤ new.next)

true_of : (b : Bool) → not b ≡ false → b ≡ true
true_of true is = refl
true_of false is = absurd (false≢true (sym is))

finish : (old new : State) (frames : List Frame) (here there trees : Forest) (count : ℕ) → IsSound old → IsChange old frames here there count
    → trees ≡ plug frames there → with_trees old count trees ≡ new → old.next + count ≤ number_limit → paths_spent old (with_trees old count trees) ≡ None → Follows old new
finish old new frames here there trees count sound change is is_new room free =
    let few : nat_lt path_limit (length (with_trees old count trees).paths) ≡ false = when_none _ _ free in
    let paths : length (with_trees old count (plug frames there)).paths ≤ path_limit =
    subst (λ (t : Forest). length (with_trees old count t).paths ≤ path_limit) is (grind (arith, nat_tests)) in
    let made = sound-change old frames here there count sound change room paths in
    let same : with_trees old count (plug frames there) ≡ new = ap (with_trees old count) (sym is) ∙ is_new in
    (subst IsSound same made, subst (λ (s : State). old.next ≤ s.next) is_new (omega arith))

-- ---- one node

set_sound : (k : ℕ) (s : Scalar) (old new : State) → IsSound old → ScalarKeepsLimits s → set_scalar_at k s old ≡ Ok new → Follows old new
set_sound k s old new sound keeps is =
    let trees : Forest = change_at k (λ n below rest. tree_then (scalar_node k s) below rest) old.trees in
    let there = there_ok k (λ t. unless (wrong_kind (not (is_scalar t.node.kind)) t.node ∷ paths_spent old (with_trees old 0 trees) ∷ []) (with_trees old 0 trees)) (spot k old.trees) new is in
    let at : Spot = there.0 in
    let done = unless_ok (wrong_kind (not (is_scalar at.node.kind)) at.node ∷ paths_spent old (with_trees old 0 trees) ∷ []) (with_trees old 0 trees) new there.2 in
    let found = spot_stands k old.trees at sound.well_formed.distinct there.1 in
    let scalar = true_of (is_scalar at.node.kind) (when_none _ _ done.1.0) in
    let change = set_change old sound found.frames found.before at.node at.below found.behind found.trees_are s scalar keeps in
    let trees_are = found.change_is (λ n below rest. tree_then (scalar_node k s) below rest)
    ∙ ap (λ (number : ℕ). plug found.frames (beside found.before (tree_then (scalar_node number s) at.below found.behind))) (sym found.number_is) in
    finish old new found.frames _ _ trees 0 sound change trees_are done.0 (omega (arith, sound.next)) done.1.1.0

replace_sound : (k : ℕ) (v : Value) (old new : State) → IsSound old → KeepsLimits v → replace_at k v old ≡ Ok new → Follows old new
replace_sound k v old new sound keeps is =
    let trees : Forest = change_at k (λ n below rest. numbered v old.next rest) old.trees in
    let next : State = with_trees old (nodes v) trees in
    let refusals = λ (t : Spot). wrong_kind (not (is_value t.node.kind)) t.node ∷ too_deep t.above v ∷ numbers_spent old (nodes v) ∷ paths_spent old next ∷ [] in
    let there = there_ok k (λ t. unless (refusals t) next) (spot k old.trees) new is in
    let at : Spot = there.0 in
    let done = unless_ok (refusals at) next new there.2 in
    let found = spot_stands k old.trees at sound.well_formed.distinct there.1 in
    let value = true_of (is_value at.node.kind) (when_none _ _ done.1.0) in
    let shallow : nat_lt nesting_limit (sum_by (λ n. levels n.kind) at.above + depth v) ≡ false = when_none _ _ done.1.1.0 in
    let levels_are : sum_by (λ n. levels n.kind) at.above ≡ levels_above found.frames = ap (sum_by (λ (n : Node). levels n.kind)) found.above_are in
    let fits : levels_above found.frames + depth v ≤ nesting_limit = grind (arith, nat_tests, shallow, levels_are) in
    let room_is : nat_lt number_limit (old.next + nodes v) ≡ false = when_none _ _ done.1.1.1.0 in
    let change = replace_change old sound found.frames found.before at.node at.below found.behind found.trees_are v value fits keeps in
    finish old new found.frames _ _ trees (nodes v) sound change (found.change_is (λ n below rest. numbered v old.next rest)) done.0 (grind (arith, nat_tests, room_is)) done.1.1.1.1.0

rename_sound : (k : ℕ) (name : List ℕ) (old new : State) → IsSound old → IsText name → rename_at k name old ≡ Ok new → Follows old new
rename_sound k name old new sound text is =
    let trees : Forest = change_at k (λ n below rest. tree_then (record n { label = name }) below rest) old.trees in
    let next : State = with_trees old 0 trees in
    let refusals = λ (t : Spot). wrong_kind (not (is_key t.node.kind)) t.node ∷ name_taken name (other_keys t) ∷ paths_spent old next ∷ [] in
    let there = there_ok k (λ t. unless (refusals t) next) (spot k old.trees) new is in
    let at : Spot = there.0 in
    let done = unless_ok (refusals at) next new there.2 in
    let found = spot_stands k old.trees at sound.well_formed.distinct there.1 in
    let key = true_of (is_key at.node.kind) (when_none _ _ done.1.0) in
    let free : name_taken name (filter (λ m. not (m.number == at.node.number)) (tops (beside found.before (tree_then at.node at.below found.behind)))) ≡ None =
    subst (λ (t : Forest). name_taken name (filter (λ m. not (m.number == at.node.number)) (tops t)) ≡ None) found.siblings_are done.1.1.0 in
    let change = rename_change old sound found.frames found.before at.node at.below found.behind found.trees_are name key free text in
    finish old new found.frames _ _ trees 0 sound change (found.change_is (λ n below rest. tree_then (record n { label = name }) below rest)) done.0 (omega (arith, sound.next)) done.1.1.1.0

-- a node that need not stay stands below another one, which is no Key
stays : (frames : List Frame) (above_are : List Node) → above_are ≡ map (λ f. f.node) frames → must_stay above_are ≡ false → (kind : Kind) × (above frames ≡ Some kind) × (is_key kind ≡ false)
stays [] above_are same is = absurd (false≢true (sym (subst (λ (ns : List Node). must_stay ns ≡ false) same is)))
stays (frame ∷ frames) above_are same is = (frame.node.kind, refl, subst (λ (ns : List Node). must_stay ns ≡ false) same is)

remove_sound : (k : ℕ) (old new : State) → IsSound old → remove_at k old ≡ Ok new → Follows old new
remove_sound k old new sound is =
    let trees : Forest = change_at k (λ n below rest. rest) old.trees in
    let next : State = with_trees old 0 trees in
    let refusals = λ (t : Spot). wrong_kind (must_stay t.above) t.node ∷ paths_spent old next ∷ [] in
    let there = there_ok k (λ t. unless (refusals t) next) (spot k old.trees) new is in
    let at : Spot = there.0 in
    let done = unless_ok (refusals at) next new there.2 in
    let found = spot_stands k old.trees at sound.well_formed.distinct there.1 in
    let below_one = stays found.frames at.above found.above_are (when_none _ _ done.1.0) in
    let change = remove_change old sound found.frames found.before at.node at.below found.behind found.trees_are below_one.0 below_one.1 below_one.2 in
    finish old new found.frames _ _ trees 0 sound change (found.change_is (λ n below rest. rest)) done.0 (omega (arith, sound.next)) done.1.1.0

-- ---- an insert

-- a Key is made below an Object, and only there
count_is : (in_object : Bool) (name : Option (List ℕ)) (v : Value) → (in_object && is_none name) ≡ false → (not in_object && is_some name) ≡ false
    → cond in_object (1 + nodes v) (nodes v) ≡ entering_nodes name v
count_is true None v missing unasked = absurd (false≢true (sym missing))
count_is true (Some name) v missing unasked = omega arith
count_is false None v missing unasked = refl
count_is false (Some name) v missing unasked = absurd (false≢true (sym unasked))

beside_nothing : (xs : Forest) → beside xs no_trees ≡ xs
beside_nothing no_trees = refl
beside_nothing (tree_then n below rest) = ap (tree_then n below) (beside_nothing rest)

-- The children of the place's parent are in a hole, in two parts, between which the value comes.
record Splits (old : State) (into : Target) (enter : Forest → Forest) (trees : Forest) : Type 0 where
  frames : List Frame
  xs : Forest
  ys : Forest
  trees_are : old.trees ≡ plug frames (beside xs ys)
  kind : above frames ≡ Some into.parent.kind
  nodes_are : map (λ f. f.node) frames ≡ into.parent ∷ into.above
  no_key : is_key into.parent.kind ≡ false
  no_scalar : is_scalar into.parent.kind ≡ false
  children : into.children ≡ beside xs ys
  made : trees ≡ plug frames (beside xs (enter ys))

place_sound : (place : Place) (name : Option (List ℕ)) (v : Value) (old new : State) (into : Target) → IsSound old → IsName name → KeepsLimits v
    → Splits old into (entering name v old.next) (inserted place (entering name v old.next) old.trees) → insert_below place name v old into ≡ Ok new → Follows old new
place_sound place name v old new into sound is_name keeps splits is =
    let in_object : Bool = is_object into.parent.kind in
    let more : ℕ = cond in_object (1 + nodes v) (nodes v) in
    let trees : Forest = inserted place (entering name v old.next) old.trees in
    let next : State = with_trees old more trees in
    let done = unless_ok (
    option_and_then (λ asked. name_taken asked (tops into.children)) name
    ∷ document_full into.parent (tops into.children)
    ∷ too_deep (into.parent ∷ into.above) v
    ∷ numbers_spent old more
    ∷ when (in_object && is_none name) NameMissing
    ∷ when (not in_object && is_some name) NameUnasked
    ∷ paths_spent old next
    ∷ []
    ) next new is in
    let missing = when_none (in_object && is_none name) NameMissing done.1.1.1.1.1.0 in
    let unasked = when_none (not in_object && is_some name) NameUnasked done.1.1.1.1.1.1.0 in
    let taken = subst (λ (t : Forest). option_and_then (λ asked. name_taken asked (tops t)) name ≡ None) splits.children done.1.0 in
    let full = subst (λ (t : Forest). document_full into.parent (tops t) ≡ None) splits.children done.1.1.0 in
    let room_is : nat_lt number_limit (old.next + more) ≡ false = when_none _ _ done.1.1.1.1.0 in
    let count = count_is in_object name v missing unasked in
    let change = insert_change old splits.frames splits.xs splits.ys into.parent into.above name v sound splits.trees_are splits.kind splits.nodes_are
    splits.no_key splits.no_scalar missing unasked taken full done.1.1.1.0 is_name keeps in
    finish old new splits.frames _ _ trees more sound (subst (λ (c : ℕ). IsChange old splits.frames (beside splits.xs splits.ys) (beside splits.xs (entering name v old.next splits.ys)) c) (sym count) change)
    splits.made done.0 (grind (arith, nat_tests, room_is)) done.1.1.1.1.1.1.1.0

-- a place below a node
below_is : (s : Spot) (into : Target) → target_below s ≡ Some into
    → (is_key s.node.kind ≡ false) × (is_scalar s.node.kind ≡ false) × (record { parent = s.node; children = s.below; above = s.above } ≡ into)
below_is s into is = by (is_key s.node.kind) (is_scalar s.node.kind) is
  where
    by : (key scalar : Bool) → cond key None (cond scalar None (Some (record { parent = s.node; children = s.below; above = s.above }))) ≡ Some into
        → (key ≡ false) × (scalar ≡ false) × (record { parent = s.node; children = s.below; above = s.above } ≡ into)
    by true scalar is = cc is
    by false true is = cc is
    by false false is = (refl, refl, cc is)

-- a place beside a node
beside_is : (ns : List Node) (siblings : Forest) (into : Target) → target_beside ns siblings ≡ Some into
    → (is_key into.parent.kind ≡ false) × (ns ≡ into.parent ∷ into.above) × (into.children ≡ siblings)
beside_is [] siblings into is = cc is
beside_is (parent ∷ above) siblings into is = by (is_key parent.kind) refl is
  where
    by : (key : Bool) → is_key parent.kind ≡ key → cond key None (Some (record { parent = parent; children = siblings; above = above })) ≡ Some into
        → (is_key into.parent.kind ≡ false) × (parent ∷ above ≡ into.parent ∷ into.above) × (into.children ≡ siblings)
    by true key is = cc is
    by false key is =
        let same : record { parent = parent; children = siblings; above = above } ≡ into = cc is in (
          ap (λ (t : Target). is_key t.parent.kind) (sym same) ∙ key,
          ap (λ (t : Target). t.parent ∷ t.above) same,
          ap (λ (t : Target). t.children) (sym same),
        )

-- the kind above a hole is that of the nearest node
kind_of : (frames : List Frame) (parent : Node) (ns : List Node) → map (λ f. f.node) frames ≡ parent ∷ ns → above frames ≡ Some parent.kind
kind_of [] parent ns is = cc is
kind_of (frame ∷ frames) parent ns is = let same : frame.node ≡ parent = cc is in ap (λ (n : Node). Some n.kind) same

false_of : (b : Bool) → (b ≡ true → ⊥) → b ≡ false
false_of true never = absurd (never refl)
false_of false never = refl

module _ (old : State) (sound : IsSound old) (k : ℕ) (s : Spot) (is : spot k old.trees ≡ Some s) (into : Target) (enter : Forest → Forest) where
  found : Found k old.trees (λ f. change_at k f old.trees) s
  found = spot_stands k old.trees s sound.well_formed.distinct is

  -- the node itself as a frame
  inner : List Frame
  inner = record { before = found.before; node = s.node; behind = found.behind } ∷ found.frames

  -- below the node, between these two parts of its children
  splits_below : (xs ys : Forest) → beside xs ys ≡ s.below → target_below s ≡ Some into → (trees : Forest)
      → trees ≡ plug found.frames (beside found.before (tree_then s.node (beside xs (enter ys)) found.behind)) → Splits old into enter trees
  splits_below xs ys parts place trees made =
      let at = below_is s into place in
      let parent : s.node ≡ into.parent = ap (λ (t : Target). t.parent) at.2 in
      record {
        frames = record { before = found.before; node = s.node; behind = found.behind } ∷ found.frames;
        xs = xs;
        ys = ys;
        trees_are = found.trees_are ∙ ap (λ (t : Forest). plug found.frames (beside found.before (tree_then s.node t found.behind))) (sym parts);
        kind = ap (λ (n : Node). Some n.kind) parent;
        nodes_are = ap (λ (ns : List Node). s.node ∷ ns) (sym found.above_are) ∙ ap (λ (t : Target). t.parent ∷ t.above) at.2;
        no_key = subst (λ (n : Node). is_key n.kind ≡ false) parent at.0;
        no_scalar = subst (λ (n : Node). is_scalar n.kind ≡ false) parent at.1;
        children = ap (λ (t : Target). t.children) (sym at.2) ∙ sym parts;
        made = made;
      }

  -- beside the node, between these two parts of the siblings
  splits_beside : (xs ys : Forest) → beside xs ys ≡ beside found.before (tree_then s.node s.below found.behind) → target_beside s.above s.siblings ≡ Some into → (trees : Forest)
      → trees ≡ plug found.frames (beside xs (enter ys)) → Splits old into enter trees
  splits_beside xs ys parts place trees made =
      let at = beside_is s.above s.siblings into place in
      let nodes = sym found.above_are ∙ at.1 in
      let kind = kind_of found.frames into.parent into.above nodes in
      let stands = (fit_here old sound found.frames found.before s.node s.below found.behind found.trees_are).0 in
      let scalar = λ (is : is_scalar into.parent.kind ≡ true).
      scalar_takes_none into.parent.kind s.node.kind is (subst (λ (above_it : Option Kind). may_stand above_it s.node.kind ≡ true) kind stands) in
      record {
        frames = found.frames;
        xs = xs;
        ys = ys;
        trees_are = found.trees_are ∙ ap (plug found.frames) (sym parts);
        kind = kind;
        nodes_are = nodes;
        no_key = at.0;
        no_scalar = false_of (is_scalar into.parent.kind) scalar;
        children = at.2 ∙ found.siblings_are ∙ sym parts;
        made = made;
      }

splits_at : (place : Place) (old : State) → IsSound old → (s : Spot) → spot (named_by place) old.trees ≡ Some s → (into : Target) → target place s ≡ Some into → (enter : Forest → Forest)
    → Splits old into enter (inserted place enter old.trees)
splits_at (First k) old sound s is into there enter =
    let at = found old sound k s is into enter in
    splits_below old sound k s is into enter no_trees s.below refl there (inserted (First k) enter old.trees) (at.change_is (λ n below rest. tree_then n (enter below) rest))
splits_at (Last k) old sound s is into there enter =
    let at = found old sound k s is into enter in
    splits_below old sound k s is into enter s.below no_trees (beside_nothing s.below) there (inserted (Last k) enter old.trees)
    (at.change_is (λ n below rest. tree_then n (beside below (enter no_trees)) rest))
splits_at (Before k) old sound s is into there enter =
    let at = found old sound k s is into enter in
    splits_beside old sound k s is into enter at.before (tree_then s.node s.below at.behind) refl there (inserted (Before k) enter old.trees)
    (at.change_is (λ n below rest. enter (tree_then n below rest)))
splits_at (After k) old sound s is into there enter =
    let at = found old sound k s is into enter in
    splits_beside old sound k s is into enter (beside at.before (tree_then s.node s.below no_trees)) at.behind (beside_assoc at.before (tree_then s.node s.below no_trees) at.behind) there
    (inserted (After k) enter old.trees)
    (at.change_is (λ n below rest. tree_then n below (enter rest)) ∙ ap (plug at.frames) (sym (beside_assoc at.before (tree_then s.node s.below no_trees) (enter at.behind))))

insert_sound : (place : Place) (name : Option (List ℕ)) (v : Value) (old new : State) → IsSound old → IsName name → KeepsLimits v → insert_at place name v old ≡ Ok new → Follows old new
insert_sound place name v old new sound is_name keeps is =
    let there = there_ok (named_by place) (λ s. if_place s.node (insert_below place name v old) (target place s)) (spot (named_by place) old.trees) new is in
    let at : Spot = there.0 in
    let into = place_ok at.node (insert_below place name v old) (target place at) new there.2 in
    place_sound place name v old new into.0 sound is_name keeps (splits_at place old sound at there.1 into.0 into.1 (entering name v old.next)) into.2

load_sound : (child : Option Node) (v : Value) (old new : State) → IsSound old → KeepsLimits v → load_over child v old ≡ Ok new → Follows old new
load_sound None v old new sound keeps is = insert_sound (Last 0) None v old new sound tt keeps is
load_sound (Some child) v old new sound keeps is = replace_sound child.number v old new sound keeps is

-- Each accepted edit within the limits leaves a sound state, and the next number never falls.
pub apply-sound : (edit : Edit) (old new : State) → IsSound old → IsEdit edit → apply edit old ≡ Ok new → IsSound new × (old.next ≤ new.next)
apply-sound (load v) old new sound keeps is = load_sound (child_of old.trees) v old new sound keeps is
apply-sound (insert place name v) old new sound keeps is = insert_sound place name v old new sound keeps.0 keeps.1 is
apply-sound (set_scalar k s) old new sound keeps is = set_sound k s old new sound keeps is
apply-sound (replace k v) old new sound keeps is = replace_sound k v old new sound keeps is
apply-sound (rename k name) old new sound keeps is = rename_sound k name old new sound keeps is
apply-sound (remove k) old new sound keeps is = remove_sound k old new sound is

-- The empty document is sound.
pub empty-sound : IsSound empty_document
empty-sound = record {
  well_formed = record { one = refl; fit = (refl, refl, omega arith, tt, tt); zero = refl; distinct = (refl, tt) };
  given = (omega arith, tt);
  next = omega arith;
  nested = omega arith;
  paths = omega arith;
}

-- ---- commits

accepted : (edit : Edit) (state : State) → IsSound state → IsEdit edit → IsOk (apply edit state) → IsSound (edited edit state)
accepted edit state sound is ok = by (apply edit state) refl ok
  where
    by : (r : Result State EditRefusal) → apply edit state ≡ r → IsOk r → IsSound (result_unwrap_or r state)
    by (Ok new) made ok = (apply-sound edit state new sound is made).0
    by (Err refusal) made ok = absurd (false≢true ok)

after-sound : (edits : List Edit) (state : State) → IsSound state → AreAccepted edits state → IsSound (after edits state)
after-sound [] state sound all = sound
after-sound (edit ∷ edits) state sound all = after-sound edits (edited edit state) (accepted edit state sound all.0 all.1) all.2

replay-sound : (commits : List Commit) (time : ℤ) (state : State) → IsSound state → AreLegal time state commits → IsSound (replay commits state)
replay-sound [] time state sound legal = sound
replay-sound (commit ∷ commits) time state sound legal =
    replay-sound commits commit.time (after commit.edits state) (after-sound commit.edits state sound legal.2) legal.3

-- Legal commits lead to a sound state.
pub legal-sound : (commits : List Commit) → IsLegal commits → IsSound (replay commits empty_document)
legal-sound commits legal = replay-sound commits first_time empty_document empty-sound legal

-- The axes of a node, from what is told of it.
use Rattle.std.proofs.Common.{◌≡◌, ℕ, ◌+◌, ◌<◌, ◌≤◌, true, List, [], ◌∷◌, ◌++◌, length, reverse, Option, Some, None, refl, sym, ap, subst, ◌∙◌, append_assoc, append-nil, length-append, inl, inr, arith}
use Rattle.std.specs.FinMap as fin
use Rattle.std.specs.Option.{option_or}
use Rattle.std.specs.Prelude.{IfSome, option_map}
use Rattle.std.proofs.lemmas.List.{reverse-append, length-reverse}
use Rattle.sx_tree.specs.declared.query.Axis.{Axis}
use Rattle.sx_tree.specs.declared.query.Axis.TheVariants.{Child, Descendant, Ancestor, Following, Preceding, FollowingSibling, PrecedingSibling}
use Rattle.sx_tree.specs.declared.record.Kind.{Kind}
use Rattle.sx_tree.specs.declared.record.NodeRecord.{NodeRecord}
use Rattle.sx_tree.specs.declared.record.Step.{Step}
use Rattle.sx_view.specs.Records.{RecordMap}
use Rattle.sx_view.specs.Rows.{row_of}
use Rattle.sx_model.specs.Axes.{axis}
use Rattle.sx_model.specs.Holes.{Frame, plug, filled}
use Rattle.sx_model.specs.Records.{NodeRow, first_of, last_of}
use Rattle.sx_model.specs.Tree.{Node, Forest, no_trees, tree_then, beside, numbers, size, tops, AreDistinctNumbers}
use Rattle.sx_model.proofs.AxisSpots.{all_above, all_before, node_numbers, no_axis, child-spot, descendant-spot, ancestor-spot, following-spot, preceding-spot, following_sibling-spot, preceding_sibling-spot}
use Rattle.sx_model.proofs.Holes.{or_none}
use Rattle.sx_model.proofs.Plugging.{numbers-beside, numbers-plug, numbers_before, numbers_behind}
use Rattle.sx_model.proofs.Spots.{beside_assoc}
use Rattle.sx_cursor.specs.Told.{Tells, Shows, row_there}
use Rattle.sx_cursor.proofs.Telling.{is_at, not_there}
use Rattle.sx_axes.specs.Broken.{HasLink, IsReady}
use Rattle.sx_axes.specs.Course.{Onward, IsChain, IsLeft, IsLeftOf, above_hole, behind_hole, before_hole, first_link, onward_of, visits_on}
use Rattle.sx_axes.specs.Start.{IsStart}
use Rattle.sx_axes.specs.Walk.{HasNoAxis, Starts}
use Rattle.sx_axes.specs.declared.course.Course.{Course}
use Rattle.sx_axes.proofs.Stepping.{AreLinks, IsTold, links, moved, told_there}

-- ---- chains of links in trees

last-beside : (xs : Forest) (n : Node) (below : Forest) → last_of (beside xs (tree_then n below no_trees)) ≡ Some n.number
last-beside no_trees n below = refl
last-beside (tree_then m inner rest) n below = ap (λ o. option_or o (Some m.number)) (last-beside rest n below)

or_last : (a : Option ℕ) (n : ℕ) (b : Option ℕ) → option_or (option_or a (Some n)) b ≡ option_or a (Some n)
or_last None n b = refl
or_last (Some k) n b = refl

module _ (local : Kind → List ℕ → ℕ) (number : List Step → ℕ) (m : RecordMap NodeRecord) where
  chain-right : (frames : List Frame) (before trees : Forest) → IsTold local number m frames (beside before trees)
      → IsChain (λ w. w.right) m (first_of trees) (node_numbers (tops trees))
  chain-right frames before no_trees tells = refl
  chain-right frames before (tree_then n below rest) tells =
      let there = told_there local number m frames before n below rest n.number tells refl in
      let is = links local number m frames before n below rest n.number (row_there local number frames before n below rest) tells refl there in
      let more = chain-right frames (beside before (tree_then n below no_trees)) rest
      (subst (IsTold local number m frames) (sym (beside_assoc before (tree_then n below no_trees) rest)) tells) in
      (row_there local number frames before n below rest, (refl, there, subst (λ next. IsChain (λ w. w.right) m next (node_numbers (tops rest))) (sym is.right) more))

  chain-left : (frames : List Frame) (before trees behind : Forest) (end : List ℕ) → IsTold local number m frames (beside before (beside trees behind))
      → IsChain (λ w. w.left) m (last_of before) end
      → IsChain (λ w. w.left) m (option_or (last_of trees) (last_of before)) (reverse (node_numbers (tops trees)) ++ end)
  chain-left frames before no_trees behind end tells is = is
  chain-left frames before (tree_then n below rest) behind end tells is =
      let there = told_there local number m frames before n below (beside rest behind) n.number tells refl in
      let row = row_there local number frames before n below (beside rest behind) in
      let own = links local number m frames before n below (beside rest behind) n.number row tells refl there in
      let here : IsChain (λ w. w.left) m (last_of (beside before (tree_then n below no_trees))) (n.number ∷ end)
      = (row, (last-beside before n below, there, subst (λ next. IsChain (λ w. w.left) m next end) (sym own.left) is)) in
      let more = chain-left frames (beside before (tree_then n below no_trees)) rest behind (n.number ∷ end)
      (subst (IsTold local number m frames) (sym (beside_assoc before (tree_then n below no_trees) (beside rest behind))) tells) here in
      let ends : option_or (last_of rest) (last_of (beside before (tree_then n below no_trees))) ≡ option_or (option_or (last_of rest) (Some n.number)) (last_of before)
      = ap (option_or (last_of rest)) (last-beside before n below) ∙ sym (or_last (last_of rest) n.number (last_of before)) in
      let lists : reverse (node_numbers (tops rest)) ++ (n.number ∷ end) ≡ reverse (n.number ∷ node_numbers (tops rest)) ++ end
      = sym (ap (λ l. l ++ end) (reverse-append (n.number ∷ []) (node_numbers (tops rest))) ∙ append_assoc (reverse (node_numbers (tops rest))) (n.number ∷ []) end) in
      subst (λ l. IsChain (λ w. w.left) m (option_or (option_or (last_of rest) (Some n.number)) (last_of before)) l) lists
      (subst (λ next. IsChain (λ w. w.left) m next (reverse (node_numbers (tops rest)) ++ (n.number ∷ end))) ends more)

  chain-up : (frames : List Frame) (inside : Forest) → IsTold local number m frames inside → IsChain (λ w. w.parent) m (above_hole frames) (node_numbers (all_above frames))
  chain-up [] inside tells = refl
  chain-up (frame ∷ frames) inside tells =
      let there = told_there local number m frames frame.before frame.node inside frame.behind frame.node.number tells refl in (
        row_there local number frames frame.before frame.node inside frame.behind,
        (refl, there, chain-up frames (filled frame inside) tells),
      )

-- ---- how many nodes there are

behind-end : (frames : List Frame) → behind_hole true 0 frames ≡ numbers_behind frames
behind-end [] = refl
behind-end (frame ∷ frames) = ap (λ l. numbers frame.behind ++ l) (behind-end frames)

before-end : (frames : List Frame) → before_hole 0 frames ≡ all_before frames
before-end [] = refl
before-end (frame ∷ frames) = ap (λ l. reverse (numbers frame.before) ++ l) (before-end frames)

size-numbers : (trees : Forest) → size trees ≡ length (numbers trees)
size-numbers no_trees = refl
size-numbers (tree_then n below rest) = omega (arith, size-numbers below, size-numbers rest, length-append (numbers below) (numbers rest))

tops_few : (trees : Forest) → length (node_numbers (tops trees)) ≤ length (numbers trees)
tops_few no_trees = omega arith
tops_few (tree_then n below rest) = omega (arith, tops_few rest, length-append (numbers below) (numbers rest))

before_few : (frames : List Frame) → length (all_before frames) + length frames ≡ length (numbers_before frames)
before_few [] = omega arith
before_few (frame ∷ frames) =
    omega (
      arith,
      before_few frames,
      length-append (reverse (numbers frame.before)) (all_before frames),
      length-reverse (numbers frame.before),
      length-append (numbers_before frames) (numbers frame.before ++ frame.node.number ∷ []),
      length-append (numbers frame.before) (frame.node.number ∷ []),
    )

-- how many nodes there are around a node
module _ (frames : List Frame) (before : Forest) (n : Node) (below behind : Forest) where
  parts : size (plug frames (beside before (tree_then n below behind)))
      ≡ length (numbers_before frames) + (length (numbers before) + (1 + (length (numbers below) + (length (numbers behind) + length (numbers_behind frames)))))
  parts =
      let inside = beside before (tree_then n below behind) in
      omega (
        arith,
        size-numbers (plug frames inside),
        ap length (numbers-plug frames inside),
        length-append (numbers_before frames) (numbers inside ++ numbers_behind frames),
        length-append (numbers inside) (numbers_behind frames),
        ap length (numbers-beside before (tree_then n below behind)),
        length-append (numbers before) (numbers (tree_then n below behind)),
        length-append (numbers below) (numbers behind),
      )

-- ---- the axis of a node where it stands

above_length : (frames : List Frame) → length (node_numbers (all_above frames)) ≡ length frames
above_length [] = refl
above_length (frame ∷ frames) = omega (arith, above_length frames)

module _ (local : Kind → List ℕ → ℕ) (number : List Step → ℕ) (m : RecordMap NodeRecord) (frames : List Frame) (before : Forest) (n : Node) (below behind : Forest) (w : NodeRow)
    (distinct : AreDistinctNumbers (numbers (plug frames (beside before (tree_then n below behind)))))
    (tells : IsTold local number m frames (beside before (tree_then n below behind)))
    (is : AreLinks frames before below behind w) where
  abbrev all : Forest
  all = plug frames (beside before (tree_then n below behind))

  abbrev above : List ℕ
  above = node_numbers (all_above frames)

  abbrev start : Axis → Onward
  start a = record { next = first_link a w; up = w.parent; levels = 0 }

  record HasLeft (a : Axis) : Type 0 where
    listed : List ℕ
    are : axis a n.number all ≡ Some listed
    left : IsLeftOf a m (start a) listed (visits_on a listed above)
    few : visits_on a listed above < size all

  abbrev inner : Frame
  inner = record { before = before; node = n; behind = behind }

  at_child : HasLeft Child
  at_child = record {
    listed = node_numbers (tops below);
    are = child-spot frames before n below behind distinct;
    left = (
      subst (λ next. IsChain (λ w. w.right) m next (node_numbers (tops below))) (sym is.first) (chain-right local number m (inner ∷ frames) no_trees below tells),
      refl,
    );
    few = omega (arith, parts frames before n below behind, tops_few below);
  }

  at_descendant : HasLeft Descendant
  at_descendant = record {
    listed = numbers below;
    are = descendant-spot frames before n below behind distinct;
    left = record {
      local = local;
      number = number;
      frames = inner ∷ frames;
      before = no_trees;
      trees = below;
      tells = tells;
      starts = sym is.first;
      up = λ none over. absurd (cc (over refl));
      within = omega arith;
      lists = sym (append-nil (numbers below));
      takes = refl;
    };
    few = omega (arith, parts frames before n below behind);
  }

  at_ancestor : HasLeft Ancestor
  at_ancestor = record {
    listed = above;
    are = ancestor-spot frames before n below behind distinct;
    left = (
      subst (λ next. IsChain (λ w. w.parent) m next above) (sym is.parent) (chain-up local number m frames (beside before (tree_then n below behind)) tells),
      refl,
    );
    few = omega (arith, parts frames before n below behind, above_length frames, before_few frames);
  }

  at_following : HasLeft Following
  at_following = record {
    listed = numbers behind ++ numbers_behind frames;
    are = following-spot frames before n below behind distinct;
    left = record {
      local = local;
      number = number;
      frames = frames;
      before = beside before (tree_then n below no_trees);
      trees = behind;
      tells = moved local number m frames before n below behind tells;
      starts = sym is.right;
      up = λ none over. sym is.parent;
      within = omega arith;
      lists = ap (λ l. numbers behind ++ l) (sym (behind-end frames));
      takes = omega (arith, above_length frames);
    };
    few = omega (arith, parts frames before n below behind, above_length frames, before_few frames, length-append (numbers behind) (numbers_behind frames));
  }

  at_preceding : HasLeft Preceding
  at_preceding = record {
    listed = reverse (numbers before) ++ all_before frames;
    are = preceding-spot frames before n below behind distinct;
    left = record {
      local = local;
      number = number;
      frames = frames;
      trees = before;
      behind = tree_then n below behind;
      tells = tells;
      starts = sym is.left;
      up = λ none. sym is.parent;
      within = omega arith;
      lists = ap (λ l. reverse (numbers before) ++ l) (sym (before-end frames));
      takes = omega (arith, above_length frames);
    };
    few = omega (
      arith,
      parts frames before n below behind,
      above_length frames,
      before_few frames,
      length-append (reverse (numbers before)) (all_before frames),
      length-reverse (numbers before),
    );
  }

  at_following_sibling : HasLeft FollowingSibling
  at_following_sibling = record {
    listed = node_numbers (tops behind);
    are = following_sibling-spot frames before n below behind distinct;
    left = (
      subst (λ next. IsChain (λ w. w.right) m next (node_numbers (tops behind))) (sym is.right)
          (chain-right local number m frames (beside before (tree_then n below no_trees)) behind (moved local number m frames before n below behind tells)),
      refl,
    );
    few = omega (arith, parts frames before n below behind, tops_few behind);
  }

  at_preceding_sibling : HasLeft PrecedingSibling
  at_preceding_sibling = record {
    listed = reverse (node_numbers (tops before));
    are = preceding_sibling-spot frames before n below behind distinct;
    left = (
      subst (λ next. IsChain (λ w. w.left) m next (reverse (node_numbers (tops before)))) (or_none (last_of before) ∙ sym is.left)
          (subst (λ l. IsChain (λ w. w.left) m (option_or (last_of before) None) l) (append-nil (reverse (node_numbers (tops before))))
          (chain-left local number m frames no_trees before (tree_then n below behind) [] tells refl)),
      refl,
    );
    few = omega (arith, parts frames before n below behind, tops_few before, length-reverse (node_numbers (tops before)));
  }

  at_axis : (a : Axis) → HasLeft a
  at_axis Child = at_child
  at_axis Descendant = at_descendant
  at_axis Ancestor = at_ancestor
  at_axis Following = at_following
  at_axis Preceding = at_preceding
  at_axis FollowingSibling = at_following_sibling
  at_axis PrecedingSibling = at_preceding_sibling

-- ---- the start of a walk

same_on : (a : Axis) (w : NodeRow) (k count : ℕ) (course : Course) → IsStart a k w count course → onward_of course ≡ record { next = first_link a w; up = w.parent; levels = 0 }
same_on a w k count course is = λ i. record { next = is.next i; up = is.up i; levels = is.levels i }

at_course : (m : RecordMap NodeRecord) (a : Axis) (course : Course) (on : Onward) (listed : List ℕ) (visits : ℕ) → course.axis ≡ a → onward_of course ≡ on
    → IsLeftOf a m on listed visits → IsLeft m course listed visits
unfolding IsLeft
at_course m a course on listed visits is is_on left =
    subst (λ x. IsLeftOf x m (onward_of course) listed visits) (sym is) (subst (λ x. IsLeftOf a m x listed visits) (sym is_on) left)

pub starts : (o : Option (RecordMap NodeRecord)) (a : Axis) (k count : ℕ) (w : NodeRow) (course : Course) → Tells o k (Some w) → IsStart a k w count course → Starts o a k course
unfolding Starts
starts o a k count w course there is_start = λ m told local number trees shows.
    let here : Tells (Some m) k (Some w) = subst (λ x. Tells x k (Some w)) told there in
    let shown : Shows local number trees (Some m) = subst (Shows local number trees) told shows in
    let at = is_at local number trees (Some m) k w shown here in
    let n = at.spot_of.node in
    let distinct = subst (λ t. AreDistinctNumbers (numbers t)) at.trees_are shown.well_formed.distinct in
    let is = links local number m at.frames at.before n at.spot_of.below at.behind k w at.tells at.number_is here in
    let has = at_axis local number m at.frames at.before n at.spot_of.below at.behind w distinct at.tells is a in
    let whole : Forest = plug at.frames (beside at.before (tree_then n at.spot_of.below at.behind)) in
    record {
      listed = has.listed;
      above = node_numbers (all_above at.frames);
      listed_are = (λ i. axis a (sym at.number_is i) (at.trees_are i)) ∙ has.are;
      above_are = (λ i. axis Ancestor (sym at.number_is i) (at.trees_are i)) ∙ ancestor-spot at.frames at.before n at.spot_of.below at.behind distinct;
      left = at_course m a course (record { next = first_link a w; up = w.parent; levels = 0 }) has.listed (visits_on a has.listed (node_numbers (all_above at.frames))) is_start.axis (same_on a w k count course is_start) has.left;
      few = subst (λ t. visits_on a has.listed (node_numbers (all_above at.frames)) < size t) (sym at.trees_are) has.few;
    }

pub has_no_axis : (o : Option (RecordMap NodeRecord)) (a : Axis) (k : ℕ) → Tells o k None → HasNoAxis o a k
unfolding HasNoAxis
has_no_axis o a k absent = λ local number trees shows. no_axis a k trees (not_there local number trees o k shows absent)

first_linked : (a : Axis) (w : NodeRow) (to : ℕ) → first_link a w ≡ Some to → HasLink w to
first_linked Child w to is = inr (inr (inr (inl is)))
first_linked Descendant w to is = inr (inr (inr (inl is)))
first_linked Ancestor w to is = inl is
first_linked Following w to is = inr (inr (inl is))
first_linked Preceding w to is = inr (inl is)
first_linked FollowingSibling w to is = inr (inr (inl is))
first_linked PrecedingSibling w to is = inr (inl is)

pub start_ready : (o : Option (RecordMap NodeRecord)) (a : Axis) (k count : ℕ) (w : NodeRow) (course : Course) → Tells o k (Some w) → IsStart a k w count course → IsReady o course
start_ready o a k count w course there is = record {
  room = omega (arith, is.levels, is.left, is.counted);
  next = λ to leads. (w, (subst (λ q. Tells o q (Some w)) (sym is.from) there, first_linked a w to (sym is.next ∙ leads)));
  up = λ to leads. (w, (subst (λ q. Tells o q (Some w)) (sym is.from) there, inl (sym is.up ∙ leads)));
}

-- what a get found is what is told
pub tells_found : (o : Option (RecordMap NodeRecord)) (k : ℕ) (found : Option NodeRecord) → IfSome o (λ m. found ≡ fin.get m k) → Tells o k (option_map row_of found)
tells_found None k found is = tt
tells_found (Some m) k found is = ap (option_map row_of) is

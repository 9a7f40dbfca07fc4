-- One read back through trees.
use Rattle.std.proofs.Common.{◌≡◌, ℕ, zero, suc, ◌+◌, ◌-◌, ◌<◌, ◌≤◌, List, [], ◌∷◌, ◌++◌, length, reverse, Option, Some, None, refl, sym, ap, subst, ◌∙◌, append_assoc, append-nil, length-append, add-one, arith}
use Rattle.std.specs.Option.{option_or}
use Rattle.std.proofs.lemmas.List.{reverse-append}
use Rattle.sx_tree.specs.declared.record.NodeRecord.{NodeRecord}
use Rattle.sx_view.specs.Records.{RecordMap}
use Rattle.sx_model.specs.Holes.{Frame}
use Rattle.sx_model.specs.Records.{NodeRow, last_of}
use Rattle.sx_model.specs.Tree.{Node, Forest, no_trees, tree_then, beside, numbers}
use Rattle.sx_model.proofs.Plugging.{numbers-beside}
use Rattle.sx_model.proofs.Spots.{beside_assoc}
use Rattle.sx_cursor.specs.Told.{Tells}
use Rattle.sx_cursor.proofs.Leading.{snoc}
use Rattle.sx_cursor.proofs.Telling.{some_number}
use Rattle.sx_axes.specs.Course.{Onward, IsBack, above_hole, before_hole}
use Rattle.sx_axes.proofs.Stepping.{IsRest, IsTold, links, not_absent, no_above, some_above}

pub no_last : (trees : Forest) → last_of trees ≡ None → trees ≡ no_trees
no_last no_trees none = refl
no_last (tree_then n below rest) none = some_last (last_of rest) none
  where
    some_last : (o : Option ℕ) → option_or o (Some n.number) ≡ None → tree_then n below rest ≡ no_trees
    some_last None is = absurd cc
    some_last (Some k) is = absurd cc

beside-none : (trees : Forest) → beside trees no_trees ≡ trees
beside-none no_trees = refl
beside-none (tree_then n below rest) = ap (tree_then n below) (beside-none rest)

-- the numbers of trees from the last one back
reverse-last : (xs : Forest) (n : Node) (below : Forest) (more : List ℕ) → reverse (numbers (beside xs (tree_then n below no_trees))) ++ more
    ≡ reverse (numbers below) ++ (n.number ∷ (reverse (numbers xs) ++ more))
reverse-last xs n below more =
    ap (λ l. reverse l ++ more) (numbers-beside xs (tree_then n below no_trees) ∙ (λ i. numbers xs ++ (n.number ∷ append-nil (numbers below) i)))
    ∙ ap (λ l. l ++ more) (reverse-append (numbers xs) (n.number ∷ numbers below) ∙ (λ i. reverse-append (n.number ∷ []) (numbers below) i ++ reverse (numbers xs)))
    ∙ simp append_assoc

levels_within : (levels : ℕ) (frames : List Frame) → levels ≤ length frames → levels ≤ length (before_hole levels frames)
levels_within levels [] within = omega (arith, within)
levels_within zero (frame ∷ frames) within = omega arith
levels_within (suc levels) (frame ∷ frames) within =
    omega (arith, levels_within levels frames (omega (arith, within)), length-append (reverse (numbers frame.before)) (before_hole levels frames))

module _ (m : RecordMap NodeRecord) (on : Onward) (k : ℕ) (listed : List ℕ) (visits : ℕ) where
  -- the last of the trees that are left
  record IsLast (at : IsBack m on listed visits) : Type 0 where
    xs : Forest
    node : Node
    below : Forest
    are : at.trees ≡ beside xs (tree_then node below no_trees)
    number_is : node.number ≡ k
    tells : IsTold at.local at.number m at.frames (beside xs (tree_then node below at.behind))
    lists : listed ≡ reverse (numbers below) ++ (node.number ∷ (reverse (numbers xs) ++ before_hole on.levels at.frames))

  last_tree : on.next ≡ Some k → (at : IsBack m on listed visits) → IsLast at
  last_tree some at =
      let end = snoc at.trees k (at.starts ∙ some) in
      let told = subst (λ t. IsTold at.local at.number m at.frames (beside t at.behind)) end.is at.tells in
      record {
        xs = end.before;
        node = end.node;
        below = end.below;
        are = end.is;
        number_is = end.number_is;
        tells = subst (IsTold at.local at.number m at.frames) (beside_assoc end.before (tree_then end.node end.below no_trees) at.behind) told;
        lists = at.lists ∙ (λ i. reverse (numbers (end.is i)) ++ before_hole on.levels at.frames)
            ∙ reverse-last end.before end.node end.below (before_hole on.levels at.frames);
      }

  enough : (xs : List ℕ) (n : ℕ) (ys : List ℕ) (frames : List Frame) → listed ≡ xs ++ (n ∷ (ys ++ before_hole on.levels frames)) → on.levels ≤ length frames
      → visits + on.levels + on.levels ≡ length listed + length frames → 0 < visits
  enough xs n ys frames is within takes =
      omega (
        arith,
        ap length is,
        length-append xs (n ∷ (ys ++ before_hole on.levels frames)),
        length-append ys (before_hole on.levels frames),
        levels_within on.levels frames within,
      )

  pub back-on : on.next ≡ Some k → IsBack m on listed visits → 0 < visits
  back-on some at =
      let end = last_tree some at in
      enough (reverse (numbers end.below)) end.node.number (reverse (numbers end.xs)) at.frames end.lists at.within at.takes

  pub back-absent : on.next ≡ Some k → Tells (Some m) k None → IsBack m on listed visits → ⊥
  back-absent some absent at =
      let end = last_tree some at in
      not_absent at.local at.number m at.frames end.xs end.node end.below at.behind k end.tells end.number_is absent

  -- from a node down to its last child
  pub back-down : (w : NodeRow) (up : Option ℕ) → on.next ≡ Some k → Tells (Some m) k (Some w) → (w.last ≡ None → ⊥) → IsBack m on listed visits
      → IsRest (IsBack m) [] listed visits 1 (record { next = w.last; up = up; levels = on.levels + 1 })
  back-down w up some there inner at =
      let end = last_tree some at in
      let is = links at.local at.number m at.frames end.xs end.node end.below at.behind k w end.tells end.number_is there in
      let frame : Frame = record { before = end.xs; node = end.node; behind = at.behind } in
      let room = back-on some at in
      record {
        rest = listed;
        more = visits - 1;
        lists = refl;
        left = record {
          local = at.local;
          number = at.number;
          frames = frame ∷ at.frames;
          trees = end.below;
          behind = no_trees;
          tells = subst (λ t. IsTold at.local at.number m at.frames (beside end.xs (tree_then end.node t at.behind))) (sym (beside-none end.below)) end.tells;
          starts = sym is.last;
          up = λ none. absurd (inner none);
          within = omega (arith, at.within);
          lists = rw add-one end.lists;
          takes = omega (arith, at.takes, room);
        };
        takes = omega (arith, room);
      }

  -- from a node without a child to the sibling before it
  pub back-leaf : (w : NodeRow) → on.next ≡ Some k → Tells (Some m) k (Some w) → w.last ≡ None → IsBack m on listed visits
      → IsRest (IsBack m) (k ∷ []) listed visits 1 (record { next = w.left; up = w.parent; levels = on.levels })
  back-leaf w some there outer at =
      let end = last_tree some at in
      let is = links at.local at.number m at.frames end.xs end.node end.below at.behind k w end.tells end.number_is there in
      let empty = no_last end.below (sym is.last ∙ outer) in
      let more : List ℕ = reverse (numbers end.xs) ++ before_hole on.levels at.frames in
      let lists : listed ≡ k ∷ more = end.lists ∙ (λ i. reverse (numbers (empty i)) ++ (end.number_is i ∷ more)) in
      let room = back-on some at in
      record {
        rest = more;
        more = visits - 1;
        lists = lists;
        left = record {
          local = at.local;
          number = at.number;
          frames = at.frames;
          trees = end.xs;
          behind = tree_then end.node end.below at.behind;
          tells = end.tells;
          starts = sym is.left;
          up = λ none. sym is.parent;
          within = at.within;
          lists = refl;
          takes = omega (arith, at.takes, room, ap length lists);
        };
        takes = omega (arith, room);
      }

module _ (m : RecordMap NodeRecord) (on : Onward) (p : ℕ) (listed : List ℕ) (visits : ℕ) where
  -- the node above, and what is before it
  record IsUp (at : IsBack m on listed visits) : Type 0 where
    frame : Frame
    frames : List Frame
    are : at.frames ≡ frame ∷ frames
    number_is : frame.node.number ≡ p
    empty : at.trees ≡ no_trees
    tells : IsTold at.local at.number m frames (beside frame.before (tree_then frame.node at.behind frame.behind))

  up_tree : on.next ≡ None → on.up ≡ Some p → (at : IsBack m on listed visits) → IsUp at
  up_tree none some at = by at.frames refl
    where
      by : (frames : List Frame) → at.frames ≡ frames → IsUp at
      by [] are = absurd (some_above at.frames p (at.up none ∙ some) are)
      by (frame ∷ frames) are =
          let empty = no_last at.trees (at.starts ∙ none) in
          record {
            frame = frame;
            frames = frames;
            are = are;
            number_is = some_number frame.node.number p (sym (ap above_hole are) ∙ at.up none ∙ some);
            empty = empty;
            tells = subst (λ t. IsTold at.local at.number m frames (beside frame.before (tree_then frame.node (beside t at.behind) frame.behind))) empty
                (subst (λ fs. IsTold at.local at.number m fs (beside at.trees at.behind)) are at.tells);
          }

  pub back-up_absent : on.next ≡ None → on.up ≡ Some p → Tells (Some m) p None → IsBack m on listed visits → ⊥
  back-up_absent none some absent at =
      let above = up_tree none some at in
      not_absent at.local at.number m above.frames above.frame.before above.frame.node at.behind above.frame.behind p above.tells above.number_is absent

  -- to what is before the node above, which is listed where it was visited on the way down
  pub back-own : (w : NodeRow) (less : ℕ) → on.next ≡ None → on.up ≡ Some p → Tells (Some m) p (Some w) → on.levels ≡ suc less → IsBack m on listed visits
      → IsRest (IsBack m) (p ∷ []) listed visits 0 (record { next = w.left; up = w.parent; levels = less })
  back-own w less none some there level at =
      let above = up_tree none some at in
      let is = links at.local at.number m above.frames above.frame.before above.frame.node at.behind above.frame.behind p w above.tells above.number_is there in
      let more : List ℕ = reverse (numbers above.frame.before) ++ before_hole less above.frames in
      let lists : listed ≡ p ∷ more
      = at.lists ∙ (λ i. reverse (numbers (above.empty i)) ++ before_hole (level i) (above.are i)) ∙ (λ i. above.number_is i ∷ more) in
      record {
        rest = more;
        more = visits;
        lists = lists;
        left = record {
          local = at.local;
          number = at.number;
          frames = above.frames;
          trees = above.frame.before;
          behind = tree_then above.frame.node at.behind above.frame.behind;
          tells = above.tells;
          starts = sym is.left;
          up = λ none. sym is.parent;
          within = omega (arith, at.within, level, ap length above.are);
          lists = refl;
          takes = omega (arith, at.takes, level, ap length lists, ap length above.are);
        };
        takes = omega arith;
      }

  pub back-up : on.next ≡ None → on.up ≡ Some p → on.levels ≡ 0 → IsBack m on listed visits → 0 < visits
  back-up none some level at =
      let above = up_tree none some at in
      omega (arith, at.takes, level, ap length above.are)

  pub back-above : (w : NodeRow) → on.next ≡ None → on.up ≡ Some p → Tells (Some m) p (Some w) → on.levels ≡ 0 → IsBack m on listed visits
      → IsRest (IsBack m) [] listed visits 1 (record { next = w.left; up = w.parent; levels = 0 })
  back-above w none some there level at =
      let above = up_tree none some at in
      let is = links at.local at.number m above.frames above.frame.before above.frame.node at.behind above.frame.behind p w above.tells above.number_is there in
      let more : List ℕ = reverse (numbers above.frame.before) ++ before_hole 0 above.frames in
      let lists : listed ≡ more
      = at.lists ∙ (λ i. reverse (numbers (above.empty i)) ++ before_hole (level i) (above.are i)) in
      let room = back-up none some level at in
      record {
        rest = more;
        more = visits - 1;
        lists = lists;
        left = record {
          local = at.local;
          number = at.number;
          frames = above.frames;
          trees = above.frame.before;
          behind = tree_then above.frame.node at.behind above.frame.behind;
          tells = above.tells;
          starts = sym is.left;
          up = λ none. sym is.parent;
          within = omega arith;
          lists = refl;
          takes = omega (arith, at.takes, level, room, ap length lists, ap length above.are);
        };
        takes = omega (arith, room);
      }

before-top : (levels : ℕ) → before_hole levels [] ≡ []
before-top zero = refl
before-top (suc levels) = refl

pub back-top : (m : RecordMap NodeRecord) (on : Onward) (listed : List ℕ) (visits : ℕ) → on.next ≡ None → on.up ≡ None → IsBack m on listed visits → listed ≡ []
back-top m on listed visits none top at =
    let empty = no_last at.trees (at.starts ∙ none) in
    let frames = no_above at.frames (at.up none ∙ top) in
    at.lists ∙ (λ i. reverse (numbers (empty i)) ++ before_hole on.levels (frames i)) ∙ before-top on.levels

-- Where a node stands in trees of distinct numbers.
use Rattle.std.specs.Prelude.{◌==◌}
use Rattle.std.proofs.Common.{◌≡◌, ℕ, Bool, true, false, cond, eqb, ◌||◌, List, [], ◌∷◌, ◌++◌, Some, None, refl, sym, ap, subst, ◌∙◌, arith}
use Rattle.std.specs.Option.{option_or}
use Rattle.std.specs.List.{list_any}
use Rattle.std.proofs.lemmas.Bool.{eqb-true}
use Rattle.std.proofs.lemmas.Grind.{common_steps}
use Rattle.sx_model.specs.Tree.{Node, Forest, no_trees, tree_then, beside, numbers, AreDistinctNumbers, spot_in, change_at}
use Rattle.sx_model.specs.Holes.{Frame, plug}
use Rattle.sx_edit.specs.Room.{nodes_of}
use Rattle.sx_edit.proofs.Showing.{any-append}
use Rattle.sx_edit.proofs.Standing.{beside_assoc}

-- The node stands in the last of these trees, which have these frames around them and these trees before them.
pub record IsAt (k : ℕ) (frames : List Frame) (before here : Forest) : Type 0 where
  pub around : List Frame
  pub left : Forest
  pub node : Node
  pub below : Forest
  pub right : Forest
  pub number : node.number ≡ k
  pub among : list_any (λ m. k == m) (numbers here) ≡ true
  pub stands : plug frames (beside before here) ≡ plug around (beside left (tree_then node below right))
  pub spot : spot_in k (nodes_of frames) (beside before here) here
      ≡ Some (record { above = nodes_of around; siblings = beside left (tree_then node below right); node = node; below = below })
  pub changed : (change : Node → Forest → Forest → Forest) → plug frames (beside before (change_at k change here)) ≡ plug around (beside left (change node below right))

pub record IsMissing (k : ℕ) (frames : List Frame) (before here : Forest) : Type 0 where
  pub absent : list_any (λ m. k == m) (numbers here) ≡ false
  pub no_spot : spot_in k (nodes_of frames) (beside before here) here ≡ None
  pub unchanged : (change : Node → Forest → Forest → Forest) → change_at k change here ≡ here

pub data Sought (k : ℕ) (frames : List Frame) (before here : Forest) : Type 0 where
  missing : IsMissing k frames before here → Sought k frames before here
  found : IsAt k frames before here → Sought k frames before here

apart_or : (a b : Bool) → (a || b) ≡ false → (a ≡ false) × (b ≡ false)
apart_or a b is = grind (arith, common_steps)

-- what is among the first of distinct numbers is not among the others
others_absent : (k : ℕ) (xs ys : List ℕ) → AreDistinctNumbers (xs ++ ys) → list_any (λ m. k == m) xs ≡ true → list_any (λ m. k == m) ys ≡ false
others_absent k [] ys distinct is = absurd cc
others_absent k (x ∷ xs) ys distinct is = go (eqb k x) refl (others_absent k xs ys distinct.1)
  where
    go : (b : Bool) → eqb k x ≡ b → (list_any (λ m. k == m) xs ≡ true → list_any (λ m. k == m) ys ≡ false) → list_any (λ m. k == m) ys ≡ false
    go true e next = (apart_or _ _ (sym (any-append (λ m. k == m) xs ys) ∙ subst (λ z. list_any (λ m. z == m) (xs ++ ys) ≡ false) (sym (eqb-true k x e)) distinct.0)).1
    go false e next = next (sym (ap (λ (b : Bool). b || list_any (λ m. k == m) xs) e) ∙ is)

distinct_front : (xs ys : List ℕ) → AreDistinctNumbers (xs ++ ys) → AreDistinctNumbers xs
distinct_front [] ys is = tt
distinct_front (x ∷ xs) ys is = ((apart_or _ _ (sym (any-append (λ m. x == m) xs ys) ∙ is.0)).0, distinct_front xs ys is.1)

distinct_back : (xs ys : List ℕ) → AreDistinctNumbers (xs ++ ys) → AreDistinctNumbers ys
distinct_back [] ys is = is
distinct_back (x ∷ xs) ys is = distinct_back xs ys is.1

pub change_at-absent : (k : ℕ) (change : Node → Forest → Forest → Forest) (here : Forest) → list_any (λ m. k == m) (numbers here) ≡ false → change_at k change here ≡ here
change_at-absent k change no_trees is = refl
change_at-absent k change (tree_then n below rest) is =
    let parts = apart_or (eqb k n.number) _ is in
    let both = apart_or _ _ (sym (any-append (λ m. k == m) (numbers below) (numbers rest)) ∙ parts.1) in
    ap (λ (b : Bool). cond b (change n below rest) (tree_then n (change_at k change below) (change_at k change rest))) parts.0
    ∙ (λ i. tree_then n (change_at-absent k change below both.0 i) (change_at-absent k change rest both.1 i))

pub seek : (k : ℕ) (frames : List Frame) (before here : Forest) → AreDistinctNumbers (numbers here) → Sought k frames before here
seek k frames before no_trees distinct = missing (record { absent = refl; no_spot = refl; unchanged = λ change. refl })
seek k frames before (tree_then n below rest) distinct = first (eqb k n.number) refl
    (seek k (record { before = before; node = n; behind = rest } ∷ frames) no_trees below (distinct_front (numbers below) (numbers rest) distinct.1))
    (seek k frames (beside before (tree_then n below no_trees)) rest (distinct_back (numbers below) (numbers rest) distinct.1))
  where
    here : Forest
    here = tree_then n below rest

    inner : Frame
    inner = record { before = before; node = n; behind = rest }

    passed : Forest
    passed = beside before (tree_then n below no_trees)

    spot_here : (b : Bool) → eqb k n.number ≡ b → spot_in k (nodes_of frames) (beside before here) here
        ≡ cond b (Some (record { above = nodes_of frames; siblings = beside before here; node = n; below = below })) (option_or (spot_in k (n ∷ nodes_of frames) below below) (spot_in k (nodes_of frames) (beside before here) rest))
    spot_here b e = ap (λ (b : Bool). cond b (Some (record { above = nodes_of frames; siblings = beside before here; node = n; below = below })) (option_or (spot_in k (n ∷ nodes_of frames) below below) (spot_in k (nodes_of frames) (beside before here) rest))) e

    change_here : (change : Node → Forest → Forest → Forest) (b : Bool) → eqb k n.number ≡ b → change_at k change here ≡ cond b (change n below rest) (tree_then n (change_at k change below) (change_at k change rest))
    change_here change b e = ap (λ (b : Bool). cond b (change n below rest) (tree_then n (change_at k change below) (change_at k change rest))) e

    among_here : (b : Bool) → eqb k n.number ≡ b → list_any (λ m. k == m) (numbers here) ≡ (b || (list_any (λ m. k == m) (numbers below) || list_any (λ m. k == m) (numbers rest)))
    among_here b e = ap (λ (b : Bool). b || list_any (λ m. k == m) (numbers below ++ numbers rest)) e ∙ ap (λ (c : Bool). b || c) (any-append (λ m. k == m) (numbers below) (numbers rest))

    moved : beside passed rest ≡ beside before here
    moved = beside_assoc before (tree_then n below no_trees) rest

    third : eqb k n.number ≡ false → IsMissing k (inner ∷ frames) no_trees below → Sought k frames passed rest → Sought k frames before here
    third e out (missing none) = missing (record {
      absent = among_here false e ∙ (λ i. out.absent i || none.absent i);
      no_spot = spot_here false e ∙ (λ i. option_or (out.no_spot i) (spot_in k (nodes_of frames) (beside before here) rest))
          ∙ subst (λ q. spot_in k (nodes_of frames) q rest ≡ None) moved none.no_spot;
      unchanged = λ change. change_here change false e ∙ (λ i. tree_then n (out.unchanged change i) (none.unchanged change i));
    })
    third e out (found s) = found (record {
      around = s.around;
      left = s.left;
      node = s.node;
      below = s.below;
      right = s.right;
      number = s.number;
      among = among_here false e ∙ (λ i. out.absent i || s.among i);
      stands = ap (plug frames) (sym moved) ∙ s.stands;
      spot = spot_here false e ∙ (λ i. option_or (out.no_spot i) (spot_in k (nodes_of frames) (beside before here) rest))
          ∙ subst (λ q. spot_in k (nodes_of frames) q rest ≡ Some (record { above = nodes_of s.around; siblings = beside s.left (tree_then s.node s.below s.right); node = s.node; below = s.below })) moved s.spot;
      changed = λ change. ap (λ t. plug frames (beside before t)) (change_here change false e ∙ (λ i. tree_then n (out.unchanged change i) (change_at k change rest)))
          ∙ ap (plug frames) (sym (beside_assoc before (tree_then n below no_trees) (change_at k change rest))) ∙ s.changed change;
    })

    second : eqb k n.number ≡ false → Sought k (inner ∷ frames) no_trees below → Sought k frames passed rest → Sought k frames before here
    second e (missing out) others = third e out others
    second e (found s) others = found (record {
      around = s.around;
      left = s.left;
      node = s.node;
      below = s.below;
      right = s.right;
      number = s.number;
      among = among_here false e ∙ (λ i. s.among i || list_any (λ m. k == m) (numbers rest));
      stands = s.stands;
      spot = spot_here false e ∙ ap (λ o. option_or o (spot_in k (nodes_of frames) (beside before here) rest)) s.spot;
      changed = λ change. ap (λ t. plug frames (beside before t))
          (change_here change false e ∙ (λ i. tree_then n (change_at k change below) (change_at-absent k change rest (others_absent k (numbers below) (numbers rest) distinct.1 s.among) i)))
          ∙ s.changed change;
    })

    first : (b : Bool) → eqb k n.number ≡ b → Sought k (inner ∷ frames) no_trees below → Sought k frames passed rest → Sought k frames before here
    first true e inside others = found (record {
      around = frames;
      left = before;
      node = n;
      below = below;
      right = rest;
      number = sym (eqb-true k n.number e);
      among = among_here true e;
      stands = refl;
      spot = spot_here true e;
      changed = λ change. ap (λ t. plug frames (beside before t)) (change_here change true e);
    })
    first false e inside others = second e inside others

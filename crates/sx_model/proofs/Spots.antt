-- Where a node stands in trees, and what a change there leaves.
use Rattle.std.proofs.Common.{◌≡◌, ℕ, Bool, true, false, cond, ◌||◌, List, [], ◌∷◌, ◌++◌, map, Option, Some, None, refl, ap, subst, ◌∙◌, arith}
use Rattle.std.specs.Prelude.{◌==◌}
use Rattle.std.specs.Option.{option_or}
use Rattle.std.specs.List.{list_any}
use Rattle.std.proofs.lemmas.Bool.{false≢true}
use Rattle.std.proofs.lemmas.Grind.{common_steps}
use Rattle.sx_model.specs.Holes.{Frame, plug}
use Rattle.sx_model.specs.Tree.{Node, Forest, no_trees, tree_then, beside, numbers, AreDistinctNumbers, Spot, spot_in, spot, change_at}

-- ---- numbers among numbers

abbrev pub has : List ℕ → ℕ → Bool
has ks k = list_any (λ m. k == m) ks

pub has-append : (xs ys : List ℕ) (k : ℕ) → has (xs ++ ys) k ≡ (has xs k || has ys k)
has-append [] ys k = refl
has-append (x ∷ xs) ys k = grind (arith, common_steps, has-append xs ys k)

pub distinct_front : (xs ys : List ℕ) → AreDistinctNumbers (xs ++ ys) → AreDistinctNumbers xs
distinct_front [] ys is = tt
distinct_front (x ∷ xs) ys is = (grind (arith, common_steps, has-append xs ys x, is.0), distinct_front xs ys is.1)

pub distinct_back : (xs ys : List ℕ) → AreDistinctNumbers (xs ++ ys) → AreDistinctNumbers ys
distinct_back [] ys is = is
distinct_back (x ∷ xs) ys is = distinct_back xs ys is.1

-- what is among the first is not among the others
pub distinct_apart : (xs ys : List ℕ) (k : ℕ) → AreDistinctNumbers (xs ++ ys) → has xs k ≡ true → has ys k ≡ false
distinct_apart [] ys k is there = absurd (false≢true there)
distinct_apart (x ∷ xs) ys k is there = grind (arith, common_steps, has-append xs ys x, is.0, distinct_apart xs ys k is.1)

-- ---- a node that is not there

pub change_at-absent : (k : ℕ) (f : Node → Forest → Forest → Forest) (here : Forest) → has (numbers here) k ≡ false → change_at k f here ≡ here
change_at-absent k f no_trees absent = refl
change_at-absent k f (tree_then n below rest) absent =
    grind (arith, common_steps, has-append (numbers below) (numbers rest) k, change_at-absent k f below, change_at-absent k f rest)

pub spot_in-absent : (k : ℕ) (above : List Node) (siblings here : Forest) → has (numbers here) k ≡ false → spot_in k above siblings here ≡ None
spot_in-absent k above siblings no_trees absent = refl
spot_in-absent k above siblings (tree_then n below rest) absent =
    grind (arith, common_steps, has-append (numbers below) (numbers rest) k, spot_in-absent k (n ∷ above) below below, spot_in-absent k above siblings rest)

pub beside_assoc : (xs ys zs : Forest) → beside (beside xs ys) zs ≡ beside xs (beside ys zs)
beside_assoc no_trees ys zs = refl
beside_assoc (tree_then n below rest) ys zs = ap (tree_then n below) (beside_assoc rest ys zs)

-- ---- a node that is there

-- The spot of the node of this number is in the trees: the nodes of the frames are above it, the nearest first. A change at the node
-- changes what stands from it on to the right in the innermost frame.
pub record Found (k : ℕ) (trees : Forest) (changed : (Node → Forest → Forest → Forest) → Forest) (s : Spot) : Type 0 where
  pub frames : List Frame
  pub before : Forest
  pub behind : Forest
  pub trees_are : trees ≡ plug frames (beside before (tree_then s.node s.below behind))
  pub siblings_are : s.siblings ≡ beside before (tree_then s.node s.below behind)
  pub above_are : s.above ≡ map (λ f. f.node) frames
  pub number_is : s.node.number ≡ k
  pub change_is : (f : Node → Forest → Forest → Forest) → changed f ≡ plug frames (beside before (f s.node s.below behind))

-- What is found among these trees is where the node stands in all, and nothing is found where none of them has its number.
abbrev IsFound : ℕ → Forest → ((Node → Forest → Forest → Forest) → Forest) → Forest → Option Spot → Type 0
IsFound k trees changed here None = has (numbers here) k ≡ false
IsFound k trees changed here (Some s) = Found k trees changed s × (has (numbers here) k ≡ true)

same_number : (k n : ℕ) → (k == n) ≡ true → n ≡ k
same_number k n is = grind (arith, common_steps)

module _ (k : ℕ) (frames : List Frame) (before : Forest) (n : Node) (below rest : Forest) where
  -- these trees where they stand, changed
  abbrev after : (b : Bool) → (Node → Forest → Forest → Forest) → Forest
  after b f = plug frames (beside before (cond b (f n below rest) (tree_then n (change_at k f below) (change_at k f rest))))

  -- one level, from what was found below a node and to the right of it
  one_level : (b : Bool) (in_below in_rest : Option Spot) → (k == n.number) ≡ b
      → AreDistinctNumbers (numbers below ++ numbers rest)
      → IsFound k (plug frames (beside before (tree_then n below rest))) (λ f. plug frames (beside before (tree_then n (change_at k f below) rest))) below in_below
      → IsFound k (plug frames (beside before (tree_then n below rest))) (λ f. plug frames (beside before (tree_then n below (change_at k f rest)))) rest in_rest
      → IsFound k (plug frames (beside before (tree_then n below rest))) (after b) (tree_then n below rest)
      (cond b (Some (record { above = map (λ f. f.node) frames; siblings = beside before (tree_then n below rest); node = n; below = below })) (option_or in_below in_rest))
  one_level true in_below in_rest is distinct left right = (
    record { frames = frames; before = before; behind = rest; trees_are = refl; siblings_are = refl; above_are = refl; number_is = same_number k n.number is; change_is = λ f. refl },
    grind (arith, common_steps),
  )
  one_level false (Some s) in_rest is distinct left right =
      let found = left.0 in
      let apart = distinct_apart (numbers below) (numbers rest) k distinct left.1 in (
        record {
          frames = found.frames;
          before = found.before;
          behind = found.behind;
          trees_are = found.trees_are;
          siblings_are = found.siblings_are;
          above_are = found.above_are;
          number_is = found.number_is;
          change_is = λ f. ap (λ (t : Forest). plug frames (beside before (tree_then n (change_at k f below) t))) (change_at-absent k f rest apart) ∙ found.change_is f;
        },
        grind (arith, common_steps, has-append (numbers below) (numbers rest) k, left.1),
      )
  one_level false None (Some s) is distinct left right =
      let found = right.0 in (
        record {
          frames = found.frames;
          before = found.before;
          behind = found.behind;
          trees_are = found.trees_are;
          siblings_are = found.siblings_are;
          above_are = found.above_are;
          number_is = found.number_is;
          change_is = λ f. ap (λ (t : Forest). plug frames (beside before (tree_then n t (change_at k f rest)))) (change_at-absent k f below left) ∙ found.change_is f;
        },
        grind (arith, common_steps, has-append (numbers below) (numbers rest) k, right.1),
      )
  one_level false None None is distinct left right = grind (arith, common_steps, has-append (numbers below) (numbers rest) k, left, right)

found_in : (k : ℕ) (frames : List Frame) (before here : Forest) → AreDistinctNumbers (numbers here)
    → IsFound k (plug frames (beside before here)) (λ f. plug frames (beside before (change_at k f here))) here (spot_in k (map (λ f. f.node) frames) (beside before here) here)
found_in k frames before no_trees distinct = refl
found_in k frames before (tree_then n below rest) distinct =
    let frame : Frame = record { before = before; node = n; behind = rest } in
    one_level k frames before n below rest (k == n.number) _ _ refl distinct.1
    (found_in k (frame ∷ frames) no_trees below (distinct_front (numbers below) (numbers rest) distinct.1))
    (simp beside_assoc at (found_in k frames (beside before (tree_then n below no_trees)) rest (distinct_back (numbers below) (numbers rest) distinct.1)))

-- A node that is found stands in the trees.
pub spot_stands : (k : ℕ) (trees : Forest) (s : Spot) → AreDistinctNumbers (numbers trees) → spot k trees ≡ Some s → Found k trees (λ f. change_at k f trees) s
spot_stands k trees s distinct is = (subst (λ (o : Option Spot). IsFound k trees (λ f. change_at k f trees) trees o) is (found_in k [] no_trees trees distinct)).0

-- No node is found only where none has the number.
pub no_spot : (k : ℕ) (trees : Forest) → AreDistinctNumbers (numbers trees) → spot k trees ≡ None → has (numbers trees) k ≡ false
no_spot k trees distinct is = subst (λ (o : Option Spot). IsFound k trees (λ f. change_at k f trees) trees o) is (found_in k [] no_trees trees distinct)

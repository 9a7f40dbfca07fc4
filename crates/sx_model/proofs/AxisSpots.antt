-- The axes of a node by where it stands.
use Rattle.std.proofs.Common.{◌≡◌, ℕ, Bool, true, false, not, ◌||◌, List, [], ◌∷◌, ◌++◌, map, reverse, Some, None, refl, sym, ap, subst, ◌∙◌, append_assoc, append-nil, arith}
use Rattle.std.specs.Prelude.{◌==◌, filter}
use Rattle.std.proofs.lemmas.List.{map-append, reverse-append}
use Rattle.std.proofs.lemmas.List.Elements.{filter-append}
use Rattle.std.proofs.lemmas.Grind.{common_steps}
use Rattle.sx_tree.specs.declared.query.Axis.{Axis}
use Rattle.sx_tree.specs.declared.query.Axis.TheVariants.{Child, Descendant, Ancestor, Following, Preceding, FollowingSibling, PrecedingSibling}
use Rattle.sx_model.specs.Axes.{Stand, stands_below, stands, among, same_parent, is_child_of, on_axis, numbers_of, axis_from, axis}
use Rattle.sx_model.specs.Holes.{Frame, plug}
use Rattle.sx_model.specs.Tree.{Node, Forest, no_trees, tree_then, beside, numbers, tops, AreDistinctNumbers}
use Rattle.sx_model.proofs.Apart.{apart-without}
use Rattle.sx_model.proofs.Plugging.{numbers-beside, numbers_before, numbers_behind, numbers-plug}
use Rattle.sx_model.proofs.Spots.{has, has-append, distinct_front}

-- ---- the nodes around a hole

-- the nodes above a hole, the nearest first
abbrev pub all_above : List Frame → List Node
all_above frames = map (λ f. f.node) frames

abbrev pub node_numbers : List Node → List ℕ
node_numbers ns = map (λ n. n.number) ns

abbrev stands_before : List Frame → List Stand
stands_before [] = []
stands_before (frame ∷ frames) =
    stands_before frames ++ (stands_below (all_above frames) frame.before ++ record { node = frame.node; above = all_above frames } ∷ [])

abbrev stands_behind : List Frame → List Stand
stands_behind [] = []
stands_behind (frame ∷ frames) = stands_below (all_above frames) frame.behind ++ stands_behind frames

stands-beside : (above : List Node) (xs ys : Forest) → stands_below above (beside xs ys) ≡ stands_below above xs ++ stands_below above ys
stands-beside above no_trees ys = refl
stands-beside above (tree_then n below rest) ys = simp (stands-beside above rest ys, append_assoc)

stands-plug : (frames : List Frame) (inside : Forest) → stands (plug frames inside) ≡ stands_before frames ++ (stands_below (all_above frames) inside ++ stands_behind frames)
stands-plug [] inside = simp append-nil
stands-plug (frame ∷ frames) inside = simp (stands-plug frames (beside frame.before (tree_then frame.node inside frame.behind)), stands-beside, append_assoc)

pub numbers-stands : (above : List Node) (trees : Forest) → numbers_of (stands_below above trees) ≡ numbers trees
numbers-stands above no_trees = refl
numbers-stands above (tree_then n below rest) = simp (map-append, numbers-stands (n ∷ above) below, numbers-stands above rest)

numbers-stands_before : (frames : List Frame) → numbers_of (stands_before frames) ≡ numbers_before frames
numbers-stands_before [] = refl
numbers-stands_before (frame ∷ frames) = simp (map-append, numbers-stands, numbers-stands_before frames)

numbers-stands_behind : (frames : List Frame) → numbers_of (stands_behind frames) ≡ numbers_behind frames
numbers-stands_behind [] = refl
numbers-stands_behind (frame ∷ frames) = simp (map-append, numbers-stands, numbers-stands_behind frames)

-- ---- a number among distinct ones

has_parts : (xs ys : List ℕ) (k : ℕ) → has (xs ++ ys) k ≡ false → (has xs k ≡ false) × (has ys k ≡ false)
has_parts xs ys k none = (grind (arith, common_steps, has-append xs ys k), grind (arith, common_steps, has-append xs ys k))

alone_in : (xs ys : List ℕ) (k : ℕ) → AreDistinctNumbers (xs ++ k ∷ ys) → (has xs k ≡ false) × (has ys k ≡ false)
alone_in [] ys k is = (refl, is.0)
alone_in (x ∷ xs) ys k is =
    let rest = alone_in xs ys k is.1 in
    (grind (arith, common_steps, has-append xs (k ∷ ys) x, is.0, rest.0), rest.1)

-- a node's number among the distinct ones of all
record IsAlone (frames : List Frame) (before : Forest) (k : ℕ) (below behind : Forest) : Type 0 where
  front : has (numbers_before frames) k ≡ false
  near : has (numbers before) k ≡ false
  within : has (numbers below) k ≡ false
  beyond : has (numbers behind) k ≡ false
  back : has (numbers_behind frames) k ≡ false

alone : (frames : List Frame) (before : Forest) (n : Node) (below behind : Forest)
    → AreDistinctNumbers (numbers (plug frames (beside before (tree_then n below behind)))) → IsAlone frames before n.number below behind
alone frames before n below behind distinct =
    let split : numbers (plug frames (beside before (tree_then n below behind)))
    ≡ (numbers_before frames ++ numbers before) ++ n.number ∷ (numbers below ++ (numbers behind ++ numbers_behind frames))
    = numbers-plug frames (beside before (tree_then n below behind)) ∙ simp (numbers-beside, append_assoc) in
    let is = alone_in _ _ n.number (subst AreDistinctNumbers split distinct) in
    let first = has_parts (numbers_before frames) (numbers before) n.number is.0 in
    let last = has_parts (numbers below) _ n.number is.1 in
    let more = has_parts (numbers behind) (numbers_behind frames) n.number last.1 in
    record { front = first.0; near = first.1; within = last.0; beyond = more.0; back = more.1 }

-- ---- the axis of a node, behind the nodes before it

axis-there : (a : Axis) (k : ℕ) (before xs : List Stand) (s : Stand) (ys : List Stand) → s.node.number ≡ k → has (numbers_of xs) k ≡ false
    → axis_from a k before (xs ++ s ∷ ys) ≡ Some (numbers_of (on_axis a (before ++ xs) s ys))
axis-there a k before [] s ys is new = rw (append-nil before) (grind (arith, common_steps))
axis-there a k before (x ∷ xs) s ys is new =
    let parts = has_parts (x.node.number ∷ []) (numbers_of xs) k new in
    let here : (k == x.node.number) ≡ false = grind (arith, common_steps, parts.0) in
    rw here (rw append_assoc at (axis-there a k (before ++ x ∷ []) xs s ys is parts.1))

axis-spot : (a : Axis) (frames : List Frame) (before : Forest) (n : Node) (below behind : Forest) → IsAlone frames before n.number below behind
    → axis a n.number (plug frames (beside before (tree_then n below behind)))
    ≡ Some (numbers_of (on_axis a (stands_before frames ++ stands_below (all_above frames) before) (record { node = n; above = all_above frames })
    (stands_below (n ∷ all_above frames) below ++ (stands_below (all_above frames) behind ++ stands_behind frames))))
axis-spot a frames before n below behind is =
    let split : stands (plug frames (beside before (tree_then n below behind)))
    ≡ (stands_before frames ++ stands_below (all_above frames) before) ++ record { node = n; above = all_above frames }
    ∷ (stands_below (n ∷ all_above frames) below ++ (stands_below (all_above frames) behind ++ stands_behind frames))
    = stands-plug frames (beside before (tree_then n below behind)) ∙ simp (stands-beside, append_assoc) in
    let keys : numbers_of (stands_before frames ++ stands_below (all_above frames) before) ≡ numbers_before frames ++ numbers before
    = simp (map-append, numbers-stands, numbers-stands_before) in
    let new : has (numbers_of (stands_before frames ++ stands_below (all_above frames) before)) n.number ≡ false
    = ap (λ l. has l n.number) keys ∙ grind (arith, common_steps, has-append (numbers_before frames) (numbers before) n.number, is.front, is.near) in
    ap (axis_from a n.number []) split ∙ axis-there a n.number [] _ _ _ refl new

axis-absent : (a : Axis) (k : ℕ) (before xs : List Stand) → has (numbers_of xs) k ≡ false → axis_from a k before xs ≡ None
axis-absent a k before [] new = refl
axis-absent a k before (x ∷ xs) new =
    let parts = has_parts (x.node.number ∷ []) (numbers_of xs) k new in
    let here : (k == x.node.number) ≡ false = grind (arith, common_steps, parts.0) in
    rw here (axis-absent a k (before ++ x ∷ []) xs parts.1)

-- no axis of a node that is not there
pub no_axis : (a : Axis) (k : ℕ) (trees : Forest) → has (numbers trees) k ≡ false → axis a k trees ≡ None
no_axis a k trees new = axis-absent a k [] (stands trees) (ap (λ l. has l k) (numbers-stands [] trees) ∙ new)

-- ---- filters of nodes

-- what the test says of each of these nodes
abbrev AllAre : (Stand → Bool) → Bool → List Stand → Type 0
AllAre p b [] = Unit {0}
AllAre p b (m ∷ ms) = (p m ≡ b) × AllAre p b ms

all_both : (p : Stand → Bool) (b : Bool) (xs ys : List Stand) → AllAre p b xs → AllAre p b ys → AllAre p b (xs ++ ys)
all_both p b [] ys is there = there
all_both p b (x ∷ xs) ys is there = (is.0, all_both p b xs ys is.1 there)

kept : (f : Bool → Bool) (p : Stand → Bool) (b : Bool) (xs : List Stand) → f b ≡ true → AllAre p b xs → filter (λ m. f (p m)) xs ≡ xs
kept f p b [] turns is = refl
kept f p b (x ∷ xs) turns is =
    let here : f (p x) ≡ true = ap f is.0 ∙ turns in
    rw here (ap (λ l. x ∷ l) (kept f p b xs turns is.1))

left_out : (f : Bool → Bool) (p : Stand → Bool) (b : Bool) (xs : List Stand) → f b ≡ false → AllAre p b xs → filter (λ m. f (p m)) xs ≡ []
left_out f p b [] turns is = refl
left_out f p b (x ∷ xs) turns is =
    let here : f (p x) ≡ false = ap f is.0 ∙ turns in
    rw here (left_out f p b xs turns is.1)

-- ---- those behind a node: below it, or on its following axis

same_number : (k : ℕ) → (k == k) ≡ true
same_number k = grind (arith, common_steps)

true_or : (a b : Bool) → b ≡ true → (a || b) ≡ true
true_or a b is = grind (arith, common_steps)

or_true : (a b : Bool) → a ≡ true → (a || b) ≡ true
or_true a b is = grind (arith, common_steps)

either_false : (a b : Bool) → a ≡ false → b ≡ false → (a || b) ≡ false
either_false a b one other = grind (arith, common_steps)

both_false : (a b : Bool) → (a || b) ≡ false → (a ≡ false) × (b ≡ false)
both_false a b none = (grind (arith, common_steps), grind (arith, common_steps))

-- a number above the trees is above each of their nodes
has-inside : (k : ℕ) (above : List Node) (trees : Forest) → among above k ≡ true → AllAre (λ m. among m.above k) true (stands_below above trees)
has-inside k above no_trees is = tt
has-inside k above (tree_then n below rest) is =
    (is, all_both _ true _ _ (has-inside k (n ∷ above) below (true_or _ _ is)) (has-inside k above rest is))

-- a number that is not above them, nor among their own, is above none
has-outside : (k : ℕ) (above : List Node) (trees : Forest) → among above k ≡ false → has (numbers trees) k ≡ false → AllAre (λ m. among m.above k) false (stands_below above trees)
has-outside k above no_trees is new = tt
has-outside k above (tree_then n below rest) is new =
    let parts = both_false _ _ new in
    let news = has_parts (numbers below) (numbers rest) k parts.1 in
    (is, all_both _ false _ _ (has-outside k (n ∷ above) below (either_false _ _ parts.0 is) news.0) (has-outside k above rest is news.1))

above-new : (k : ℕ) (frames : List Frame) → has (numbers_before frames) k ≡ false → among (all_above frames) k ≡ false
above-new k [] new = refl
above-new k (frame ∷ frames) new =
    let parts = has_parts (numbers_before frames) (numbers frame.before ++ frame.node.number ∷ []) k new in
    let here = has_parts (numbers frame.before) (frame.node.number ∷ []) k parts.1 in
    either_false _ _ (both_false _ _ here.1).0 (above-new k frames parts.0)

has-behind : (k : ℕ) (frames : List Frame) → has (numbers_before frames) k ≡ false → has (numbers_behind frames) k ≡ false → AllAre (λ m. among m.above k) false (stands_behind frames)
has-behind k [] new back = tt
has-behind k (frame ∷ frames) new back =
    let parts = has_parts (numbers_before frames) (numbers frame.before ++ frame.node.number ∷ []) k new in
    let backs = has_parts (numbers frame.behind) (numbers_behind frames) k back in
    all_both _ false _ _ (has-outside k (all_above frames) frame.behind (above-new k frames parts.0) backs.0) (has-behind k frames parts.0 backs.1)

module _ (frames : List Frame) (before : Forest) (n : Node) (below behind : Forest)
    (distinct : AreDistinctNumbers (numbers (plug frames (beside before (tree_then n below behind))))) where
  is_alone : IsAlone frames before n.number below behind
  is_alone = alone frames before n below behind distinct

  inner : AllAre (λ m. among m.above n.number) true (stands_below (n ∷ all_above frames) below)
  inner = has-inside n.number (n ∷ all_above frames) below (or_true _ _ (same_number n.number))

  outer : AllAre (λ m. among m.above n.number) false (stands_below (all_above frames) behind ++ stands_behind frames)
  outer = all_both _ false _ _ (has-outside n.number (all_above frames) behind (above-new n.number frames is_alone.front) is_alone.beyond) (has-behind n.number frames is_alone.front is_alone.back)

  pub descendant-spot : axis Descendant n.number (plug frames (beside before (tree_then n below behind))) ≡ Some (numbers below)
  descendant-spot =
      axis-spot Descendant frames before n below behind is_alone
      ∙ ap (λ l. Some (numbers_of l))
      (filter-append _ (stands_below (n ∷ all_above frames) below) _ ∙ λ i. kept (λ b. b) _ true _ refl inner i ++ left_out (λ b. b) _ false _ refl outer i)
      ∙ ap Some (simp (append-nil, numbers-stands))

  pub following-spot : axis Following n.number (plug frames (beside before (tree_then n below behind))) ≡ Some (numbers behind ++ numbers_behind frames)
  following-spot =
      axis-spot Following frames before n below behind is_alone
      ∙ ap (λ l. Some (numbers_of l))
      (filter-append _ (stands_below (n ∷ all_above frames) below) _ ∙ λ i. left_out not _ true _ refl inner i ++ kept not _ false _ refl outer i)
      ∙ ap Some (simp (map-append, numbers-stands, numbers-stands_behind))

-- ---- those before a node: above it, or on its preceding axis

-- none of these numbers is among those of the nodes
abbrev AreOther : List Node → List ℕ → Type 0
AreOther ns [] = Unit {0}
AreOther ns (x ∷ xs) = (among ns x ≡ false) × AreOther ns xs

other_parts : (ns : List Node) (xs ys : List ℕ) → AreOther ns (xs ++ ys) → AreOther ns xs × AreOther ns ys
other_parts ns [] ys is = (tt, is)
other_parts ns (x ∷ xs) ys is =
    let rest = other_parts ns xs ys is.1 in
    ((is.0, rest.0), rest.1)

other-none : (xs : List ℕ) → AreOther [] xs
other-none [] = tt
other-none (x ∷ xs) = (refl, other-none xs)

turned : (k x : ℕ) → (k == x) ≡ false → (x == k) ≡ false
turned k x is = grind (arith, common_steps)

other-more : (n : Node) (ns : List Node) (xs : List ℕ) → has xs n.number ≡ false → AreOther ns xs → AreOther (n ∷ ns) xs
other-more n ns [] new is = tt
other-more n ns (x ∷ xs) new is =
    let parts = both_false _ _ new in
    (either_false _ _ (turned n.number x parts.0) is.0, other-more n ns xs parts.1 is.1)

-- those before the nodes above a hole, the nearest last, and their numbers
abbrev aside : List Frame → List Stand
aside [] = []
aside (frame ∷ frames) = aside frames ++ stands_below (all_above frames) frame.before

abbrev numbers_aside : List Frame → List ℕ
numbers_aside [] = []
numbers_aside (frame ∷ frames) = numbers_aside frames ++ numbers frame.before

aside-new : (k : ℕ) (frames : List Frame) → has (numbers_before frames) k ≡ false → has (numbers_aside frames) k ≡ false
aside-new k [] new = refl
aside-new k (frame ∷ frames) new =
    let parts = has_parts (numbers_before frames) (numbers frame.before ++ frame.node.number ∷ []) k new in
    let here = has_parts (numbers frame.before) (frame.node.number ∷ []) k parts.1 in
    has-append (numbers_aside frames) (numbers frame.before) k ∙ either_false _ _ (aside-new k frames parts.0) here.0

others : (frames : List Frame) (xs : List ℕ) → AreDistinctNumbers (numbers_before frames ++ xs) → AreOther (all_above frames) (numbers_aside frames ++ xs)
others [] xs distinct = other-none xs
others (frame ∷ frames) xs distinct =
    let split : numbers_before (frame ∷ frames) ++ xs ≡ (numbers_before frames ++ numbers frame.before) ++ frame.node.number ∷ xs = simp append_assoc in
    let apart = subst AreDistinctNumbers split distinct in
    let is = alone_in (numbers_before frames ++ numbers frame.before) xs frame.node.number apart in
    let rest = others frames (numbers frame.before ++ xs) (subst AreDistinctNumbers (append_assoc (numbers_before frames) (numbers frame.before) xs) (apart-without (λ k m. k == m) (numbers_before frames ++ numbers frame.before) (frame.node.number ∷ []) xs apart)) in
    let front = has_parts (numbers_before frames) (numbers frame.before) frame.node.number is.0 in
    let near : has (numbers_aside frames ++ (numbers frame.before ++ xs)) frame.node.number ≡ false
    = has-append (numbers_aside frames) _ frame.node.number
    ∙ either_false _ _ (aside-new frame.node.number frames front.0) (has-append (numbers frame.before) xs frame.node.number ∙ either_false _ _ front.1 is.1) in
    subst (AreOther (all_above (frame ∷ frames))) (sym (append_assoc (numbers_aside frames) (numbers frame.before) xs)) (other-more frame.node (all_above frames) _ near rest)

stand-other : (ns above : List Node) (trees : Forest) → AreOther ns (numbers trees) → AllAre (λ m. among ns m.node.number) false (stands_below above trees)
stand-other ns above no_trees is = tt
stand-other ns above (tree_then n below rest) is =
    let parts = other_parts ns (numbers below) (numbers rest) is.1 in
    (is.0, all_both _ false _ _ (stand-other ns (n ∷ above) below parts.0) (stand-other ns above rest parts.1))

-- these nodes are among those
abbrev AreAmong : List Node → List Node → Type 0
AreAmong ns [] = Unit {0}
AreAmong ns (x ∷ xs) = (among ns x.number ≡ true) × AreAmong ns xs

among-more : (n : Node) (ns xs : List Node) → AreAmong ns xs → AreAmong (n ∷ ns) xs
among-more n ns [] is = tt
among-more n ns (x ∷ xs) is = (true_or _ _ is.0, among-more n ns xs is.1)

among-all : (ns : List Node) → AreAmong ns ns
among-all [] = tt
among-all (n ∷ ns) = (or_true _ _ (same_number n.number), among-more n ns ns (among-all ns))

-- the nodes above a hole, as they stand
abbrev over : List Frame → List Stand
over [] = []
over (frame ∷ frames) = over frames ++ record { node = frame.node; above = all_above frames } ∷ []

not-above : (ns : List Node) (frames : List Frame) → AreAmong ns (all_above frames) → AreOther ns (numbers_aside frames)
    → filter (λ m. not (among ns m.node.number)) (stands_before frames) ≡ aside frames
not-above ns [] here is = refl
not-above ns (frame ∷ frames) here is =
    let parts = other_parts ns (numbers_aside frames) (numbers frame.before) is in
    let at_node : among ns frame.node.number ≡ true = here.0 in
    let first = not-above ns frames here.1 parts.0 in
    let second = kept not (λ m. among ns m.node.number) false (stands_below (all_above frames) frame.before) refl (stand-other ns (all_above frames) frame.before parts.1) in
    simp (filter-append, first, second, at_node, append-nil)

above-alone : (ns : List Node) (frames : List Frame) → AreAmong ns (all_above frames) → AreOther ns (numbers_aside frames)
    → filter (λ m. among ns m.node.number) (stands_before frames) ≡ over frames
above-alone ns [] here is = refl
above-alone ns (frame ∷ frames) here is =
    let parts = other_parts ns (numbers_aside frames) (numbers frame.before) is in
    let at_node : among ns frame.node.number ≡ true = here.0 in
    let first = above-alone ns frames here.1 parts.0 in
    let second = left_out (λ b. b) (λ m. among ns m.node.number) false (stands_below (all_above frames) frame.before) refl (stand-other ns (all_above frames) frame.before parts.1) in
    simp (filter-append, first, second, at_node)

-- the numbers before the nodes above a hole, the nearest first
abbrev pub all_before : List Frame → List ℕ
all_before [] = []
all_before (frame ∷ frames) = reverse (numbers frame.before) ++ all_before frames

map-reverse : {A B : Type 0} (f : A → B) (xs : List A) → map f (reverse xs) ≡ reverse (map f xs)
map-reverse f [] = refl
map-reverse f (x ∷ xs) =
    ap (map f) (reverse-append (x ∷ []) xs) ∙ map-append f (reverse xs) (x ∷ []) ∙ ap (λ l. l ++ f x ∷ []) (map-reverse f xs) ∙ sym (reverse-append (f x ∷ []) (map f xs))

back_aside : (frames : List Frame) → reverse (numbers_of (aside frames)) ≡ all_before frames
back_aside [] = refl
back_aside (frame ∷ frames) =
    ap reverse (map-append (λ s. s.node.number) (aside frames) (stands_below (all_above frames) frame.before))
    ∙ reverse-append (numbers_of (aside frames)) (numbers_of (stands_below (all_above frames) frame.before))
    ∙ λ i. reverse (numbers-stands (all_above frames) frame.before i) ++ back_aside frames i

back_over : (frames : List Frame) → reverse (numbers_of (over frames)) ≡ node_numbers (all_above frames)
back_over [] = refl
back_over (frame ∷ frames) =
    ap reverse (map-append (λ s. s.node.number) (over frames) (record { node = frame.node; above = all_above frames } ∷ []))
    ∙ reverse-append (numbers_of (over frames)) (frame.node.number ∷ [])
    ∙ ap (λ l. frame.node.number ∷ l) (back_over frames)

module _ (frames : List Frame) (before : Forest) (n : Node) (below behind : Forest)
    (distinct : AreDistinctNumbers (numbers (plug frames (beside before (tree_then n below behind))))) where
  away : AreOther (all_above frames) (numbers_aside frames) × AreOther (all_above frames) (numbers before)
  away =
      let split : numbers (plug frames (beside before (tree_then n below behind)))
      ≡ (numbers_before frames ++ numbers before) ++ n.number ∷ (numbers below ++ (numbers behind ++ numbers_behind frames))
      = numbers-plug frames (beside before (tree_then n below behind)) ∙ simp (numbers-beside, append_assoc) in
      other_parts (all_above frames) (numbers_aside frames) (numbers before) (others frames (numbers before) (distinct_front _ _ (subst AreDistinctNumbers split distinct)))

  pub preceding-spot : axis Preceding n.number (plug frames (beside before (tree_then n below behind))) ≡ Some (reverse (numbers before) ++ all_before frames)
  preceding-spot =
      let first = not-above (all_above frames) frames (among-all (all_above frames)) away.0 in
      let second = kept not (λ m. among (all_above frames) m.node.number) false (stands_below (all_above frames) before) refl (stand-other (all_above frames) (all_above frames) before away.1) in
      let filtered : filter (λ m. not (among (all_above frames) m.node.number)) (stands_before frames ++ stands_below (all_above frames) before) ≡ aside frames ++ stands_below (all_above frames) before
      = filter-append _ (stands_before frames) _ ∙ λ i. first i ++ second i in
      axis-spot Preceding frames before n below behind (alone frames before n below behind distinct)
      ∙ ap Some
      (ap (λ l. numbers_of (reverse l)) filtered
      ∙ map-reverse (λ s. s.node.number) (aside frames ++ stands_below (all_above frames) before)
      ∙ back_aside (record { before = before; node = n; behind = behind } ∷ frames))

  pub ancestor-spot : axis Ancestor n.number (plug frames (beside before (tree_then n below behind))) ≡ Some (node_numbers (all_above frames))
  ancestor-spot =
      let first = above-alone (all_above frames) frames (among-all (all_above frames)) away.0 in
      let second = left_out (λ b. b) (λ m. among (all_above frames) m.node.number) false (stands_below (all_above frames) before) refl (stand-other (all_above frames) (all_above frames) before away.1) in
      let filtered : filter (λ m. among (all_above frames) m.node.number) (stands_before frames ++ stands_below (all_above frames) before) ≡ over frames
      = filter-append _ (stands_before frames) _ ∙ (λ i. first i ++ second i) ∙ append-nil (over frames) in
      axis-spot Ancestor frames before n below behind (alone frames before n below behind distinct)
      ∙ ap Some (ap (λ l. numbers_of (reverse l)) filtered ∙ map-reverse (λ s. s.node.number) (over frames) ∙ back_over frames)

-- ---- children and siblings

-- the test holds of no node of these trees, or of none around a hole
abbrev NoneIn : (Node → Bool) → Forest → Type 0
NoneIn q no_trees = Unit {0}
NoneIn q (tree_then n below rest) = (q n ≡ false) × NoneIn q below × NoneIn q rest

abbrev NoneAround : (Node → Bool) → List Frame → Type 0
NoneAround q [] = Unit {0}
NoneAround q (frame ∷ frames) = NoneIn q frame.before × (q frame.node ≡ false) × NoneIn q frame.behind × NoneAround q frames

none-has : (k : ℕ) (trees : Forest) → has (numbers trees) k ≡ false → NoneIn (λ n. k == n.number) trees
none-has k no_trees new = tt
none-has k (tree_then n below rest) new =
    let parts = both_false _ _ new in
    let news = has_parts (numbers below) (numbers rest) k parts.1 in
    (parts.0, none-has k below news.0, none-has k rest news.1)

none-around : (k : ℕ) (frames : List Frame) → has (numbers_before frames) k ≡ false → has (numbers_behind frames) k ≡ false → NoneAround (λ n. k == n.number) frames
none-around k [] new back = tt
none-around k (frame ∷ frames) new back =
    let parts = has_parts (numbers_before frames) (numbers frame.before ++ frame.node.number ∷ []) k new in
    let here = has_parts (numbers frame.before) (frame.node.number ∷ []) k parts.1 in
    let backs = has_parts (numbers frame.behind) (numbers_behind frames) k back in
    (none-has k frame.before here.0, (both_false _ _ here.1).0, none-has k frame.behind backs.0, none-around k frames parts.0 backs.1)

-- a test of the nodes above a node that sees the nearest alone
module _ (t : List Node → Bool) (q : Node → Bool) (tie : (n : Node) (above : List Node) → t (n ∷ above) ≡ q n) where
  quiet : (above : List Node) (trees : Forest) → t above ≡ false → NoneIn q trees → filter (λ m. t m.above) (stands_below above trees) ≡ []
  quiet above no_trees is none = refl
  quiet above (tree_then n below rest) is none =
      let split = filter-append (λ (m : Stand). t m.above) (stands_below (n ∷ above) below) (stands_below above rest) in
      let first = quiet (n ∷ above) below (tie n above ∙ none.0) none.1 in
      let second = quiet above rest is none.2 in
      rw (is, split, first, second) refl

  loud : (above : List Node) (trees : Forest) → t above ≡ true → NoneIn q trees → numbers_of (filter (λ m. t m.above) (stands_below above trees)) ≡ node_numbers (tops trees)
  loud above no_trees is none = refl
  loud above (tree_then n below rest) is none =
      let split = filter-append (λ (m : Stand). t m.above) (stands_below (n ∷ above) below) (stands_below above rest) in
      let first = quiet (n ∷ above) below (tie n above ∙ none.0) none.1 in
      rw (is, split, first) (ap (λ l. n.number ∷ l) (loud above rest is none.2))

  quiet_above : (frames : List Frame) → t [] ≡ false → NoneAround q frames → t (all_above frames) ≡ false
  quiet_above [] top none = top
  quiet_above (frame ∷ frames) top none = tie frame.node (all_above frames) ∙ none.1

  quiet-behind : (frames : List Frame) → t [] ≡ false → NoneAround q frames → filter (λ m. t m.above) (stands_behind frames) ≡ []
  quiet-behind [] top none = refl
  quiet-behind (frame ∷ frames) top none =
      filter-append (λ (m : Stand). t m.above) (stands_below (all_above frames) frame.behind) (stands_behind frames)
      ∙ λ i. quiet (all_above frames) frame.behind (quiet_above frames top none.3) none.2 i ++ quiet-behind frames top none.3 i

  quiet-before : (frames : List Frame) → t [] ≡ false → NoneAround q frames → filter (λ m. t m.above) (stands_before frames) ≡ []
  quiet-before [] top none = refl
  quiet-before (frame ∷ frames) top none =
      let here = quiet_above frames top none.3 in
      filter-append (λ (m : Stand). t m.above) (stands_before frames) _
      ∙ (λ i. quiet-before frames top none.3 i ++ filter-append (λ (m : Stand). t m.above) (stands_below (all_above frames) frame.before) (record { node = frame.node; above = all_above frames } ∷ []) i)
      ∙ (λ i. quiet (all_above frames) frame.before here none.0 i ++ filter (λ m. t m.above) (record { node = frame.node; above = all_above frames } ∷ []))
      ∙ rw here refl

none-at_top : (trees : Forest) → NoneIn (λ n. false) trees
none-at_top no_trees = tt
none-at_top (tree_then n below rest) = (refl, none-at_top below, none-at_top rest)

-- a node that is not above itself is not the nearest above those nodes
module _ (frames : List Frame) (before : Forest) (n : Node) (below behind : Forest)
    (distinct : AreDistinctNumbers (numbers (plug frames (beside before (tree_then n below behind))))) where
  is_own : IsAlone frames before n.number below behind
  is_own = alone frames before n below behind distinct

  none_around : NoneAround (λ m. n.number == m.number) frames
  none_around = none-around n.number frames is_own.front is_own.back

  not_child : is_child_of n.number (all_above frames) ≡ false
  not_child = quiet_above (is_child_of n.number) (λ m. n.number == m.number) (λ m above. refl) frames refl none_around

  -- nothing behind the node and all below it is a child of it
  childless-behind : filter (λ m. is_child_of n.number m.above) (stands_below (all_above frames) behind ++ stands_behind frames) ≡ []
  childless-behind =
      filter-append (λ (m : Stand). is_child_of n.number m.above) (stands_below (all_above frames) behind) (stands_behind frames)
      ∙ λ i. quiet (is_child_of n.number) (λ m. n.number == m.number) (λ m above. refl) (all_above frames) behind not_child (none-has n.number behind is_own.beyond) i
      ++ quiet-behind (is_child_of n.number) (λ m. n.number == m.number) (λ m above. refl) frames refl none_around i

  childless-before : filter (λ m. is_child_of n.number m.above) (stands_before frames ++ (stands_below (all_above frames) before ++ record { node = n; above = all_above frames } ∷ [])) ≡ []
  childless-before =
      filter-append (λ (m : Stand). is_child_of n.number m.above) (stands_before frames) _
      ∙ (λ i. quiet-before (is_child_of n.number) (λ m. n.number == m.number) (λ m above. refl) frames refl none_around i
      ++ filter-append (λ (m : Stand). is_child_of n.number m.above) (stands_below (all_above frames) before) (record { node = n; above = all_above frames } ∷ []) i)
      ∙ (λ i. quiet (is_child_of n.number) (λ m. n.number == m.number) (λ m above. refl) (all_above frames) before not_child (none-has n.number before is_own.near) i
      ++ filter (λ m. is_child_of n.number m.above) (record { node = n; above = all_above frames } ∷ []))
      ∙ rw not_child refl

  pub child-spot : axis Child n.number (plug frames (beside before (tree_then n below behind))) ≡ Some (node_numbers (tops below))
  child-spot =
      axis-spot Child frames before n below behind is_own
      ∙ ap (λ l. Some (numbers_of l))
      (filter-append (λ (m : Stand). is_child_of n.number m.above) (stands_below (n ∷ all_above frames) below) _
      ∙ ap (λ l. filter (λ m. is_child_of n.number m.above) (stands_below (n ∷ all_above frames) below) ++ l) childless-behind
      ∙ append-nil (filter (λ m. is_child_of n.number m.above) (stands_below (n ∷ all_above frames) below)))
      ∙ ap Some (loud (is_child_of n.number) (λ m. n.number == m.number) (λ m above. refl) (n ∷ all_above frames) below (same_number n.number) (none-has n.number below is_own.within))

same-child : (n : Node) (ns above : List Node) → same_parent (n ∷ ns) above ≡ is_child_of n.number above
same-child n ns [] = refl
same-child n ns (m ∷ above) = refl

same-filter : (n : Node) (ns : List Node) (xs : List Stand) → filter (λ m. same_parent (n ∷ ns) m.above) xs ≡ filter (λ m. is_child_of n.number m.above) xs
same-filter n ns [] = refl
same-filter n ns (x ∷ xs) = rw (same-child n ns x.above, same-filter n ns xs) refl

-- what is known of a node with a parent: the parent is none of the nodes in the hole
record IsInside (k : ℕ) (before : Forest) (n : Node) (below behind : Forest) : Type 0 where
  near : has (numbers before) k ≡ false
  here : (k == n.number) ≡ false
  within : has (numbers below) k ≡ false
  beyond : has (numbers behind) k ≡ false

inside_parts : (k : ℕ) (before : Forest) (n : Node) (below behind : Forest) → has (numbers (beside before (tree_then n below behind))) k ≡ false → IsInside k before n below behind
inside_parts k before n below behind new =
    let parts = has_parts (numbers before) (numbers (tree_then n below behind)) k (ap (λ l. has l k) (sym (numbers-beside before (tree_then n below behind))) ∙ new) in
    let rest = both_false _ _ parts.1 in
    let more = has_parts (numbers below) (numbers behind) k rest.1 in
    record { near = parts.0; here = rest.0; within = more.0; beyond = more.1 }

pub following_sibling-spot : (frames : List Frame) (before : Forest) (n : Node) (below behind : Forest)
    → AreDistinctNumbers (numbers (plug frames (beside before (tree_then n below behind))))
    → axis FollowingSibling n.number (plug frames (beside before (tree_then n below behind))) ≡ Some (node_numbers (tops behind))
following_sibling-spot [] before n below behind distinct =
    let inner : filter (λ m. same_parent [] m.above) (stands_below (n ∷ []) below) ≡ []
    = quiet (same_parent []) (λ m. false) (λ m above. refl) (n ∷ []) below refl (none-at_top below) in
    axis-spot FollowingSibling [] before n below behind (alone [] before n below behind distinct)
    ∙ ap (λ l. Some (numbers_of l))
    (filter-append (λ (m : Stand). same_parent [] m.above) (stands_below (n ∷ []) below) _ ∙ λ i. inner i ++ filter (λ m. same_parent [] m.above) (append-nil (stands_below [] behind) i))
    ∙ ap Some (loud (same_parent []) (λ m. false) (λ m above. refl) [] behind refl (none-at_top behind))
following_sibling-spot (frame ∷ frames) before n below behind distinct =
    let k = frame.node.number in
    let inside = beside before (tree_then n below behind) in
    let ns = frame.node ∷ all_above frames in
    let own = alone frames frame.before frame.node inside frame.behind distinct in
    let is = inside_parts k before n below behind own.within in
    let inner : filter (λ m. is_child_of k m.above) (stands_below (n ∷ ns) below) ≡ []
    = quiet (is_child_of k) (λ m. k == m.number) (λ m above. refl) (n ∷ ns) below is.here (none-has k below is.within) in
    let rest = childless-behind frames frame.before frame.node inside frame.behind distinct in
    axis-spot FollowingSibling (frame ∷ frames) before n below behind (alone (frame ∷ frames) before n below behind distinct)
    ∙ ap (λ l. Some (numbers_of l))
    (same-filter frame.node (all_above frames) (stands_below (n ∷ ns) below ++ (stands_below ns behind ++ stands_behind (frame ∷ frames)))
    ∙ filter-append (λ (m : Stand). is_child_of k m.above) (stands_below (n ∷ ns) below) (stands_below ns behind ++ stands_behind (frame ∷ frames))
    ∙ (λ i. inner i ++ filter-append (λ (m : Stand). is_child_of k m.above) (stands_below ns behind) (stands_behind (frame ∷ frames)) i)
    ∙ ap (λ l. filter (λ m. is_child_of k m.above) (stands_below ns behind) ++ l) rest
    ∙ append-nil (filter (λ m. is_child_of k m.above) (stands_below ns behind)))
    ∙ ap Some (loud (is_child_of k) (λ m. k == m.number) (λ m above. refl) ns behind (same_number k) (none-has k behind is.beyond))

pub preceding_sibling-spot : (frames : List Frame) (before : Forest) (n : Node) (below behind : Forest)
    → AreDistinctNumbers (numbers (plug frames (beside before (tree_then n below behind))))
    → axis PrecedingSibling n.number (plug frames (beside before (tree_then n below behind))) ≡ Some (reverse (node_numbers (tops before)))
preceding_sibling-spot [] before n below behind distinct =
    axis-spot PrecedingSibling [] before n below behind (alone [] before n below behind distinct)
    ∙ ap Some
    (map-reverse (λ s. s.node.number) (filter (λ m. same_parent [] m.above) (stands_below [] before))
    ∙ ap reverse (loud (same_parent []) (λ m. false) (λ m above. refl) [] before refl (none-at_top before)))
preceding_sibling-spot (frame ∷ frames) before n below behind distinct =
    let k = frame.node.number in
    let inside = beside before (tree_then n below behind) in
    let ns = frame.node ∷ all_above frames in
    let own = alone frames frame.before frame.node inside frame.behind distinct in
    let is = inside_parts k before n below behind own.within in
    let front = childless-before frames frame.before frame.node inside frame.behind distinct in
    axis-spot PrecedingSibling (frame ∷ frames) before n below behind (alone (frame ∷ frames) before n below behind distinct)
    ∙ ap Some
    (ap (λ l. numbers_of (reverse l))
    (same-filter frame.node (all_above frames) (stands_before (frame ∷ frames) ++ stands_below ns before)
    ∙ filter-append (λ (m : Stand). is_child_of k m.above) (stands_before (frame ∷ frames)) (stands_below ns before)
    ∙ ap (λ l. l ++ filter (λ m. is_child_of k m.above) (stands_below ns before)) front)
    ∙ map-reverse (λ s. s.node.number) (filter (λ m. is_child_of k m.above) (stands_below ns before))
    ∙ ap reverse (loud (is_child_of k) (λ m. k == m.number) (λ m above. refl) ns before (same_number k) (none-has k before is.near)))

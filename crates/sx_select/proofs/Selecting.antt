-- The nodes that marks pick are those that the steps select.
use Rattle.std.proofs.Common.{◌≡◌, ℕ, Bool, true, false, ◌||◌, List, [], ◌∷◌, ◌++◌, refl, sym, ap, subst, ◌∙◌, append_assoc, append-nil, arith}
use Rattle.std.specs.Prelude.{◌==◌, ◌&&◌, filter, bytes_eq, if◌then◌else◌}
use Rattle.std.proofs.lemmas.List.{map-append}
use Rattle.std.proofs.lemmas.List.Elements.{filter-append}
use Rattle.std.proofs.lemmas.Grind.{common_steps}
use Rattle.sx_tree.specs.declared.steps.PathStep.{PathStep}
use Rattle.sx_tree.specs.declared.steps.PathStep.TheVariants.{Name, Item, Anywhere}
use Rattle.sx_model.specs.Axes.{Stand, stands, stands_below, numbers_of}
use Rattle.sx_model.specs.Selection.{has, has_some, leads, selected_from, is_child_of_document, selected}
use Rattle.sx_model.specs.Tree.{Node, Forest, no_trees, tree_then, numbers, is_array, is_key, is_object, AreDistinctNumbers}
use Rattle.sx_model.proofs.AxisSpots.{numbers-stands}
use Rattle.sx_model.proofs.Spots.{has as has_number, has-append}
use Rattle.sx_select.specs.Marks.{leads_below, listed_one, marks_below, last_below, no_marks, picked}
use Rattle.sx_select.specs.declared.mark.Mark.{Mark}

-- ---- sets by a test of the nodes above

abbrev in_object : (List Node → Bool) → List Node → Bool
in_object p [] = false
in_object p (parent ∷ above) = is_object parent.kind && p above

abbrev some_above : (List Node → Bool) → List Node → Bool
some_above p [] = false
some_above p (n ∷ above) = p above || some_above p above

-- the test of the set to which a step leads from the set of a test
abbrev next_set : PathStep → (List Node → Bool) → List Node → Bool
next_set (Name name) p [] = false
next_set (Name name) p (key ∷ above) = is_key key.kind && bytes_eq key.label name && in_object p above
next_set Item p [] = false
next_set Item p (parent ∷ above) = is_array parent.kind && p above
next_set (Anywhere name) p [] = false
next_set (Anywhere name) p (key ∷ above) = is_key key.kind && bytes_eq key.label name && some_above p above

abbrev reaches : List PathStep → (List Node → Bool) → List Node → Bool
reaches [] p above = p above
reaches (step ∷ steps) p above = reaches steps (next_set step p) above

abbrev marks_for : List PathStep → (List Node → Bool) → List Node → List Mark
marks_for [] p above = []
marks_for (step ∷ steps) p above =
    record { here = p above; object = in_object p above; above = some_above p above } ∷ marks_for steps (next_set step p) above

leads-next : (step : PathStep) (p : List Node → Bool) (n : Node) (above : List Node)
    → leads_below step (record { here = p above; object = in_object p above; above = some_above p above }) n.kind n.label ≡ next_set step p (n ∷ above)
leads-next (Name name) p n above = refl
leads-next Item p n above = refl
leads-next (Anywhere name) p n above = refl

marks-for : (steps : List PathStep) (p : List Node → Bool) (n : Node) (above : List Node) → marks_below steps (marks_for steps p above) n.kind n.label (p (n ∷ above)) ≡ marks_for steps p (n ∷ above)
marks-for [] p n above = refl
marks-for (step ∷ steps) p n above =
    ap (λ l. record { here = p (n ∷ above); object = is_object n.kind && p above; above = p above || some_above p above } ∷ l)
    (ap (marks_below steps (marks_for steps (next_set step p) above) n.kind n.label) (leads-next step p n above) ∙ marks-for steps (next_set step p) n above)

last-reaches : (steps : List PathStep) (p : List Node → Bool) (n : Node) (above : List Node) → last_below steps (marks_for steps p above) n.kind n.label (p (n ∷ above)) ≡ reaches steps p (n ∷ above)
last-reaches [] p n above = refl
last-reaches (step ∷ steps) p n above =
    ap (last_below steps (marks_for steps (next_set step p) above) n.kind n.label) (leads-next step p n above) ∙ last-reaches steps (next_set step p) n above

next-top : (step : PathStep) (p : List Node → Bool) → next_set step p [] ≡ false
next-top (Name name) p = refl
next-top Item p = refl
next-top (Anywhere name) p = refl

marks-top : (steps : List PathStep) (p : List Node → Bool) → p [] ≡ false → marks_for steps p [] ≡ no_marks steps
marks-top [] p none = refl
marks-top (step ∷ steps) p none = λ i. record { here = none i; object = false; above = false } ∷ marks-top steps (next_set step p) (next-top step p) i

reaches-top : (steps : List PathStep) (p : List Node → Bool) → p [] ≡ false → reaches steps p [] ≡ false
reaches-top [] p none = none
reaches-top (step ∷ steps) p none = reaches-top steps (next_set step p) (next-top step p)

-- ---- what marks pick

kept_one : (b : Bool) (s : Stand) (xs : List Stand) → numbers_of (if b then s ∷ xs else xs) ≡ listed_one b s.node.number ++ numbers_of xs
kept_one true s xs = refl
kept_one false s xs = refl

module _ (steps : List PathStep) where
  abbrev test : Stand → Bool
  test s = reaches steps is_child_of_document s.above

  picks : (above : List Node) (trees : Forest)
      → picked steps (marks_for steps is_child_of_document above) (reaches steps is_child_of_document above) trees ≡ numbers_of (filter test (stands_below above trees))
  picks above no_trees = refl
  picks above (tree_then n below rest) =
      let inner = stands_below (n ∷ above) below in
      let last = reaches steps is_child_of_document above in
      let s : Stand = record { node = n; above = above } in
      let split : numbers_of (filter test (inner ++ stands_below above rest)) ≡ numbers_of (filter test inner) ++ numbers_of (filter test (stands_below above rest))
      = ap numbers_of (filter-append test inner (stands_below above rest)) ∙ map-append (λ s. s.node.number) (filter test inner) (filter test (stands_below above rest)) in
      (λ i. listed_one last n.number
      ++ (picked steps (marks-for steps is_child_of_document n above i) (last-reaches steps is_child_of_document n above i) below
      ++ picked steps (marks_for steps is_child_of_document above) last rest))
      ∙ (λ i. listed_one last n.number ++ (picks (n ∷ above) below i ++ picks above rest i))
      ∙ ap (λ l. listed_one last n.number ++ l) (sym split)
      ∙ sym (kept_one last s (filter test (inner ++ stands_below above rest)))

-- ---- sets of numbers

not_in-step : (b : Bool) (s : Stand) (xs : List Stand) (x : Node) → (x.number == s.node.number) ≡ false → has (numbers_of xs) x ≡ false
    → has (numbers_of (if b then s ∷ xs else xs)) x ≡ false
not_in-step true s xs x other new = grind (arith, common_steps)
not_in-step false s xs x other new = new

not_in : (P : Stand → Bool) (xs : List Stand) (x : Node) → has_number (numbers_of xs) x.number ≡ false → has (numbers_of (filter P xs)) x ≡ false
not_in P [] x new = refl
not_in P (s ∷ xs) x new =
    let other : (x.number == s.node.number) ≡ false = grind (arith, common_steps) in
    let rest : has_number (numbers_of xs) x.number ≡ false = grind (arith, common_steps) in
    not_in-step (P s) s (filter P xs) x other (not_in P xs x rest)

in_set-here : (b : Bool) (s : Stand) (xs : List Stand) → has (numbers_of xs) s.node ≡ false → has (numbers_of (if b then s ∷ xs else xs)) s.node ≡ b
in_set-here true s xs new = grind (arith, common_steps)
in_set-here false s xs new = new

in_set-later : (b r : Bool) (x s : Stand) (xs : List Stand) → (x.node.number == s.node.number) ≡ false → has (numbers_of xs) s.node ≡ r
    → has (numbers_of (if b then x ∷ xs else xs)) s.node ≡ r
in_set-later true r x s xs other is = grind (arith, common_steps)
in_set-later false r x s xs other is = is

parted : (xs ys : List ℕ) (x y : ℕ) → has_number (xs ++ y ∷ ys) x ≡ false → (x == y) ≡ false
parted xs ys x y new = grind (arith, common_steps, has-append xs (y ∷ ys) x)

in_set : (P : Stand → Bool) (xs : List Stand) (s : Stand) (ys : List Stand) → AreDistinctNumbers (numbers_of (xs ++ s ∷ ys)) → has (numbers_of (filter P (xs ++ s ∷ ys))) s.node ≡ P s
in_set P [] s ys distinct = in_set-here (P s) s (filter P ys) (not_in P ys s.node distinct.0)
in_set P (x ∷ xs) s ys distinct =
    let new = subst (λ l. has_number l x.node.number ≡ false) (map-append (λ s. s.node.number) xs (s ∷ ys)) distinct.0 in
    in_set-later (P x) (P s) x s (filter P (xs ++ s ∷ ys)) (parted (numbers_of xs) (numbers_of ys) x.node.number s.node.number new) (in_set P xs s ys distinct.1)

-- the set has those of the nodes above that pass the test
abbrev AreAbove : List ℕ → (List Node → Bool) → List Node → Type 0
AreAbove set p [] = Unit {0}
AreAbove set p (n ∷ above) = (has set n ≡ p above) × AreAbove set p above

-- the same of the nodes of trees
abbrev AreIn : List ℕ → (List Node → Bool) → List Node → Forest → Type 0
AreIn set p above no_trees = Unit {0}
AreIn set p above (tree_then n below rest) = (has set n ≡ p above) × AreIn set p (n ∷ above) below × AreIn set p above rest

are_in : (p : List Node → Bool) (all front : List Stand) (above : List Node) (trees : Forest) (back : List Stand) → all ≡ front ++ (stands_below above trees ++ back)
    → AreDistinctNumbers (numbers_of all) → AreIn (numbers_of (filter (λ s. p s.above) all)) p above trees
are_in p all front above no_trees back is distinct = tt
are_in p all front above (tree_then n below rest) back is distinct =
    let s : Stand = record { node = n; above = above } in
    let inner = stands_below (n ∷ above) below in
    let more = stands_below above rest in
    let first : all ≡ front ++ s ∷ ((inner ++ more) ++ back) = is in
    let second : all ≡ (front ++ s ∷ []) ++ (inner ++ (more ++ back)) = is ∙ simp append_assoc in
    let third : all ≡ (front ++ s ∷ inner) ++ (more ++ back) = is ∙ simp append_assoc in (
      subst (λ l. has (numbers_of (filter (λ s. p s.above) l)) n ≡ p above) (sym first)
          (in_set (λ s. p s.above) front s ((inner ++ more) ++ back) (subst (λ l. AreDistinctNumbers (numbers_of l)) first distinct)),
      are_in p all (front ++ s ∷ []) (n ∷ above) below (more ++ back) second distinct,
      are_in p all (front ++ s ∷ inner) above rest back third distinct,
    )

-- ---- one step

and_assoc : (a b c : Bool) → ((a && b) && c) ≡ (a && (b && c))
and_assoc true b c = refl
and_assoc false b c = refl

no_object : (a b : Bool) → (a && b && false) ≡ false
no_object a b = grind (arith, common_steps)

some-above : (set : List ℕ) (p : List Node → Bool) (above : List Node) → AreAbove set p above → has_some set above ≡ some_above p above
some-above set p [] are = refl
some-above set p (n ∷ above) are = λ i. are.0 i || some-above set p above are.1 i

leads-set : (step : PathStep) (set : List ℕ) (p : List Node → Bool) (above : List Node) → AreAbove set p above → leads step set above ≡ next_set step p above
leads-set (Name name) set p [] are = refl
leads-set (Name name) set p (key ∷ []) are = sym (no_object (is_key key.kind) (bytes_eq key.label name))
leads-set (Name name) set p (key ∷ parent ∷ above) are =
    and_assoc (is_key key.kind && bytes_eq key.label name) (is_object parent.kind) (has set parent)
    ∙ ap (λ b. (is_key key.kind && bytes_eq key.label name) && (is_object parent.kind && b)) are.1.0
leads-set Item set p [] are = refl
leads-set Item set p (parent ∷ above) are = ap (λ b. is_array parent.kind && b) are.0
leads-set (Anywhere name) set p [] are = refl
leads-set (Anywhere name) set p (key ∷ above) are = ap (λ b. is_key key.kind && bytes_eq key.label name && b) (some-above set p above are.1)

same_one : {a b : Bool} → a ≡ b → (s : Stand) (xs ys : List Stand) → xs ≡ ys → (if a then s ∷ xs else xs) ≡ (if b then s ∷ ys else ys)
same_one is s xs ys are = λ i. if is i then s ∷ are i else are i

one-step : (step : PathStep) (set : List ℕ) (p : List Node → Bool) (above : List Node) (trees : Forest) → AreAbove set p above → AreIn set p above trees
    → filter (λ s. leads step set s.above) (stands_below above trees) ≡ filter (λ s. next_set step p s.above) (stands_below above trees)
one-step step set p above no_trees are there = refl
one-step step set p above (tree_then n below rest) are there =
    let inner = stands_below (n ∷ above) below in
    let more = stands_below above rest in
    same_one (leads-set step set p above are) (record { node = n; above = above }) _ _
    (filter-append (λ s. leads step set s.above) inner more
    ∙ (λ i. one-step step set p (n ∷ above) below (there.0, are) there.1 i ++ one-step step set p above rest are there.2 i)
    ∙ sym (filter-append (λ s. next_set step p s.above) inner more))

all_steps : (steps : List PathStep) (p : List Node → Bool) (trees : Forest) → AreDistinctNumbers (numbers trees)
    → selected_from steps (numbers_of (filter (λ s. p s.above) (stands trees))) (stands trees) ≡ numbers_of (filter (λ s. reaches steps p s.above) (stands trees))
all_steps [] p trees distinct = refl
all_steps (step ∷ steps) p trees distinct =
    let set = numbers_of (filter (λ s. p s.above) (stands trees)) in
    let there = are_in p (stands trees) [] [] trees [] (sym (append-nil (stands trees))) (subst AreDistinctNumbers (sym (numbers-stands [] trees)) distinct) in
    ap (λ l. selected_from steps (numbers_of l) (stands trees)) (one-step step set p [] trees tt there) ∙ all_steps steps (next_set step p) trees distinct

-- What the marks pick of a document is what the steps select.
pub picked-selected : (steps : List PathStep) (trees : Forest) → AreDistinctNumbers (numbers trees) → picked steps (no_marks steps) false trees ≡ selected steps trees
picked-selected steps trees distinct =
    (λ i. picked steps (sym (marks-top steps is_child_of_document refl) i) (sym (reaches-top steps is_child_of_document refl) i) trees)
    ∙ picks steps [] trees ∙ sym (all_steps steps is_child_of_document trees distinct)

-- Trees with a hole: what stands in it, and what holds around it.
use Rattle.std.proofs.Common.{◌≡◌, ◌+◌, ℕ, List, [], ◌∷◌, ◌++◌, map, max, Option, Some, None, refl, ap, sym, subst, ◌∙◌, arith, append_assoc, append-nil}
use Rattle.std.specs.Prelude.{sum_by}
use Rattle.std.proofs.lemmas.List.Sums.{sum_by-cons}
use Rattle.sx_tree.specs.declared.record.Kind.{Kind}
use Rattle.sx_model.specs.Holes.{Frame, filled, plug}
use Rattle.sx_model.specs.Tree.{Node, Forest, no_trees, tree_then, beside, numbers, tops, levels, nesting, HasChildren, FitBelow}

-- the kind of the node above the hole
abbrev pub above : List Frame → Option Kind
above [] = None
above (frame ∷ frames) = Some frame.node.kind

-- ---- two lists of trees side by side

pub numbers-beside : (xs ys : Forest) → numbers (beside xs ys) ≡ numbers xs ++ numbers ys
numbers-beside no_trees ys = refl
numbers-beside (tree_then n below rest) ys = ap (λ (ks : List ℕ). n.number ∷ (numbers below ++ ks)) (numbers-beside rest ys) ∙ ap (λ (ks : List ℕ). n.number ∷ ks) (sym (append_assoc (numbers below) (numbers rest) (numbers ys)))

pub tops-beside : (xs ys : Forest) → tops (beside xs ys) ≡ tops xs ++ tops ys
tops-beside no_trees ys = refl
tops-beside (tree_then n below rest) ys = ap (λ (ns : List Node). n ∷ ns) (tops-beside rest ys)

pub nesting-beside : (xs ys : Forest) → nesting (beside xs ys) ≡ max (nesting xs) (nesting ys)
nesting-beside no_trees ys = omega arith
nesting-beside (tree_then n below rest) ys = omega (arith, nesting-beside rest ys)

pub fit_front : (kind : Option Kind) (xs ys : Forest) → FitBelow kind (beside xs ys) → FitBelow kind xs
fit_front kind no_trees ys fit = tt
fit_front kind (tree_then n below rest) ys fit = (fit.0, fit.1, fit.2, fit.3, fit_front kind rest ys fit.4)

pub fit_back : (kind : Option Kind) (xs ys : Forest) → FitBelow kind (beside xs ys) → FitBelow kind ys
fit_back kind no_trees ys fit = fit
fit_back kind (tree_then n below rest) ys fit = fit_back kind rest ys fit.4

pub fit_join : (kind : Option Kind) (xs ys : Forest) → FitBelow kind xs → FitBelow kind ys → FitBelow kind (beside xs ys)
fit_join kind no_trees ys one other = other
fit_join kind (tree_then n below rest) ys one other = (one.0, one.1, one.2, one.3, fit_join kind rest ys one.4 other)

-- ---- the hole

-- trees that stand there as they may
abbrev pub Stand : Option Kind → Forest → Type 0
Stand kind trees = HasChildren kind (tops trees) × FitBelow kind trees

-- what stands in the hole of well-formed trees stands there as it may
pub stand_inside : (frames : List Frame) (inside : Forest) → Stand None (plug frames inside) → Stand (above frames) inside
stand_inside [] inside stand = stand
stand_inside (frame ∷ frames) inside stand =
    let there = stand_inside frames (filled frame inside) stand in
    let fit = fit_back (above frames) frame.before (tree_then frame.node inside frame.behind) there.1 in
    (fit.2, fit.3)

-- and other trees that may stand there leave them well formed
pub stand_outside : (frames : List Frame) (old new : Forest) → Stand None (plug frames old) → Stand (above frames) new → Stand None (plug frames new)
stand_outside [] old new stand there = there
stand_outside (frame ∷ frames) old new stand there =
    let around = stand_inside frames (filled frame old) stand in
    let fit = fit_back (above frames) frame.before (tree_then frame.node old frame.behind) around.1 in
    let same : tops (filled frame old) ≡ tops (filled frame new) =
    tops-beside frame.before (tree_then frame.node old frame.behind) ∙ sym (tops-beside frame.before (tree_then frame.node new frame.behind)) in
    stand_outside frames (filled frame old) (filled frame new) stand (
      subst (HasChildren (above frames)) same around.0,
      fit_join (above frames) frame.before (tree_then frame.node new frame.behind)
          (fit_front (above frames) frame.before (tree_then frame.node old frame.behind) around.1)
          (fit.0, fit.1, there.0, there.1, fit.4),
    )

-- the numbers before and behind the hole, in preorder
abbrev pub numbers_before : List Frame → List ℕ
numbers_before [] = []
numbers_before (frame ∷ frames) = numbers_before frames ++ (numbers frame.before ++ frame.node.number ∷ [])

abbrev pub numbers_behind : List Frame → List ℕ
numbers_behind [] = []
numbers_behind (frame ∷ frames) = numbers frame.behind ++ numbers_behind frames

pub numbers-plug : (frames : List Frame) (inside : Forest) → numbers (plug frames inside) ≡ numbers_before frames ++ (numbers inside ++ numbers_behind frames)
numbers-plug [] inside = simp append-nil
numbers-plug (frame ∷ frames) inside = simp (numbers-plug frames (filled frame inside), numbers-beside, append_assoc)

-- how many arrays and objects nest around the hole, and beside it
abbrev pub levels_above : List Frame → ℕ
levels_above frames = sum_by (λ n. levels n.kind) (map (λ f. f.node) frames)

abbrev pub nesting_around : List Frame → ℕ
nesting_around [] = 0
nesting_around (frame ∷ frames) = max (nesting_around frames) (levels_above frames + max (nesting frame.before) (nesting frame.behind))

pub nesting-plug : (frames : List Frame) (inside : Forest) → nesting (plug frames inside) ≡ max (nesting_around frames) (levels_above frames + nesting inside)
nesting-plug [] inside = omega arith
nesting-plug (frame ∷ frames) inside =
    let one_more : levels_above (frame ∷ frames) ≡ levels frame.node.kind + levels_above frames =
    sum_by-cons (λ (n : Node). levels n.kind) frame.node (map (λ (f : Frame). f.node) frames) in
    let around : nesting_around (frame ∷ frames) ≡ max (nesting_around frames) (levels_above frames + max (nesting frame.before) (nesting frame.behind)) = refl in
    omega (arith, nesting-plug frames (filled frame inside), nesting-beside frame.before (tree_then frame.node inside frame.behind), one_more, around)

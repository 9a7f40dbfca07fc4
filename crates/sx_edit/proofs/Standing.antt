-- The rows of trees with a node among them, and what stands around it.
use Rattle.std.proofs.Common.{◌≡◌, ℕ, List, [], ◌∷◌, ◌++◌, None, refl, sym, ap, subst, ◌∙◌, append_assoc}
use Rattle.sx_tree.specs.declared.record.Kind.{Kind}
use Rattle.sx_tree.specs.declared.record.Step.{Step}
use Rattle.sx_model.specs.Tree.{Node, Forest, no_trees, tree_then, beside, numbers}
use Rattle.sx_model.specs.Records.{NodeRow, around_children, rows}
use Rattle.sx_model.specs.Holes.{Frame, Shown, join, plug, filled, shown, shown_one, shown_by, around_hole, rows_before, rows_behind}
use Rattle.sx_model.proofs.Holes.{or_none, shown-beside, shown-filled, rows-beside}
use Rattle.sx_edit.specs.Holes.{numbers_before, AreNew, before_own, behind_own, own_row, top_shown, whole}
use Rattle.sx_edit.specs.Told.{AreDistinct, numbers_of}
use Rattle.sx_edit.proofs.Climbing.{map-append, numbers-rows_before}
use Rattle.sx_edit.proofs.Showing.{apart}

pub beside_assoc : (xs ys zs : Forest) → beside (beside xs ys) zs ≡ beside xs (beside ys zs)
beside_assoc no_trees ys zs = refl
beside_assoc (tree_then n below rest) ys zs = ap (tree_then n below) (beside_assoc rest ys zs)

pub around-left : (frames : List Frame) → (around_hole frames).left ≡ None
around-left [] = refl
around-left (frame ∷ frames) = refl

pub around-right : (frames : List Frame) → (around_hole frames).right ≡ None
around-right [] = refl
around-right (frame ∷ frames) = refl

module _ (local : Kind → List ℕ → ℕ) where
  -- what the trees show with the node among them
  abbrev pub with_node : Forest → Node → Forest → Forest → Shown
  with_node before n below behind = join (shown local before) (join (shown_one local n (shown local below)) (shown local behind))

  pub shown-with_node : (before : Forest) (n : Node) (below behind : Forest) → shown local (beside before (tree_then n below behind)) ≡ with_node before n below behind
  shown-with_node before n below behind = shown-beside local before (tree_then n below behind)

  pub top_shown-plug : (frames : List Frame) (inside : Forest) → top_shown local frames (shown local inside) ≡ shown local (plug frames inside)
  top_shown-plug [] inside = refl
  top_shown-plug (frame ∷ frames) inside = ap (top_shown local frames) (sym (shown-filled local frame inside)) ∙ top_shown-plug frames (filled frame inside)

module _ (local : Kind → List ℕ → ℕ) (number : List Step → ℕ) where
  pub new-frames : (frames : List Frame) (ys : List ℕ) → AreDistinct (numbers_before frames ++ ys) → AreNew frames
  new-frames [] ys is = tt
  new-frames (frame ∷ frames) ys is =
      let apart_here = apart (numbers_before frames ++ numbers frame.before) ys frame.node.number (simp append_assoc (simp append_assoc at is)) in
      (apart_here.before, new-frames frames (numbers frame.before ++ ys) (simp append_assoc at apart_here.others))

  -- the numbers of whole rows are distinct only where those of the frames are new
  pub new-whole : (frames : List Frame) (a : Shown) (hole : List (ℕ × NodeRow)) → AreDistinct (numbers_of (whole local number frames a hole)) → AreNew frames
  new-whole frames a hole is =
      new-frames frames (numbers_of (hole ++ rows_behind local number frames a))
      (subst AreDistinct (map-append _ (rows_before local number frames a) (hole ++ rows_behind local number frames a)
      ∙ ap (λ l. l ++ numbers_of (hole ++ rows_behind local number frames a)) (numbers-rows_before local number frames a)) is)

  numbers-rows_behind : (frames : List Frame) (a b : Shown) → numbers_of (rows_behind local number frames a) ≡ numbers_of (rows_behind local number frames b)
  numbers-rows_behind [] a b = refl
  numbers-rows_behind (frame ∷ frames) a b = simp (map-append, numbers-rows_behind frames (shown_by local frame a) (shown_by local frame b))

  pub numbers-whole : (frames : List Frame) (a b : Shown) (hole : List (ℕ × NodeRow)) → numbers_of (whole local number frames a hole) ≡ numbers_of (whole local number frames b hole)
  numbers-whole frames a b hole = simp (map-append, numbers-rows_before, numbers-rows_behind frames a b)

  -- whole rows with the node's own among them
  pub rows-own : (frames : List Frame) (a : Shown) (before : Forest) (n : Node) (below behind : Forest)
      → whole local number frames a (rows local number (around_hole frames) (beside before (tree_then n below behind)))
      ≡ before_own local number frames a before n.number
      ++ (n.number, own_row local number frames before n below behind)
      ∷ (rows local number (around_children (around_hole frames) n) below ++ behind_own local number frames a n.number behind)
  rows-own frames a before n below behind =
      simp (rows-beside, around-left frames, around-right frames, or_none, append_assoc)

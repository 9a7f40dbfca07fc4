-- What trees side by side show, and the rows of trees with a hole.
use Rattle.std.proofs.Common.{◌≡◌, ℕ, List, [], ◌∷◌, ◌++◌, Option, Some, None, refl, sym, ap, ◌∙◌, append_assoc, append-nil, add_assoc, zero-add}
use Rattle.std.specs.Option.{option_or}
use Rattle.sx_tree.specs.declared.record.Kind.{Kind}
use Rattle.sx_tree.specs.declared.record.Step.{Step}
use Rattle.sx_model.specs.Holes.{Frame, filled, plug, Shown, join, shown, shown_one, shown_by, around_hole, rows_before, rows_behind}
use Rattle.sx_model.specs.Records.{Around, at_top, first_of, last_of, rows}
use Rattle.sx_model.specs.Tree.{Forest, no_trees, tree_then, beside}

pub or_assoc : (a b c : Option ℕ) → option_or (option_or a b) c ≡ option_or a (option_or b c)
or_assoc None b c = refl
or_assoc (Some n) b c = refl

pub or_none : (a : Option ℕ) → option_or a None ≡ a
or_none None = refl
or_none (Some n) = refl

or_some : (a : Option ℕ) (n : ℕ) (c : Option ℕ) → option_or (option_or a (Some n)) c ≡ option_or a (Some n)
or_some None n c = refl
or_some (Some m) n c = refl

pub first_of-beside : (xs ys : Forest) → first_of (beside xs ys) ≡ option_or (first_of xs) (first_of ys)
first_of-beside no_trees ys = refl
first_of-beside (tree_then n below rest) ys = refl

pub join_assoc : (a b c : Shown) → join (join a b) c ≡ join a (join b c)
join_assoc a b c = λ i. record {
  first = or_assoc a.first b.first c.first i;
  last = sym (or_assoc c.last b.last a.last) i;
  trees = add_assoc a.trees b.trees c.trees i;
  nodes = add_assoc a.nodes b.nodes c.nodes i;
  hashes = add_assoc a.hashes b.hashes c.hashes i;
}

module _ (local : Kind → List ℕ → ℕ) where
  -- no trees show nothing
  pub shown_nothing : (b : Shown) → join (shown local no_trees) b ≡ b
  shown_nothing b = λ i. record {
    first = b.first;
    last = or_none b.last i;
    trees = zero-add b.trees i;
    nodes = zero-add b.nodes i;
    hashes = zero-add b.hashes i;
  }

  pub shown-beside : (xs ys : Forest) → shown local (beside xs ys) ≡ join (shown local xs) (shown local ys)
  shown-beside no_trees ys = sym (shown_nothing (shown local ys))
  shown-beside (tree_then n below rest) ys =
      ap (join (shown_one local n (shown local below))) (shown-beside rest ys)
      ∙ sym (join_assoc (shown_one local n (shown local below)) (shown local rest) (shown local ys))

  pub shown-filled : (frame : Frame) (inside : Forest) → shown local (filled frame inside) ≡ shown_by local frame (shown local inside)
  shown-filled frame inside = shown-beside frame.before (tree_then frame.node inside frame.behind)

module _ (local : Kind → List ℕ → ℕ) (number : List Step → ℕ) where
  pub rows-beside : (around : Around) (xs ys : Forest) → rows local number around (beside xs ys)
      ≡ rows local number (record around { right = option_or (first_of ys) around.right }) xs
      ++ rows local number (record around { left = option_or (last_of xs) around.left }) ys
  rows-beside around no_trees ys = refl
  rows-beside around (tree_then n below rest) ys =
      simp (first_of-beside rest ys, or_some (last_of rest), rows-beside (record around { left = Some n.number }) rest ys, or_assoc, append_assoc)

  -- A node's row depends on what fills a hole elsewhere only through what that shows: the numbers at its ends, its trees, its
  -- nodes and its hashes.
  pub rows-plug : (frames : List Frame) (inside : Forest) → rows local number at_top (plug frames inside)
      ≡ rows_before local number frames (shown local inside) ++ (rows local number (around_hole frames) inside ++ rows_behind local number frames (shown local inside))
  rows-plug [] inside = simp append-nil
  rows-plug (frame ∷ frames) inside =
      simp (rows-plug frames (filled frame inside), shown-filled local frame inside, rows-beside, append_assoc)

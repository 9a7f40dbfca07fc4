-- Links between neighbours, where one of the two changes.
use Rattle.std.proofs.Common.{◌≡◌, ℕ, List, ◌∷◌, ◌++◌, Option, Some, None, refl, sym, subst, append_assoc}
use Rattle.std.specs.Prelude.{option_map}
use Rattle.std.specs.Option.{option_or}
use Rattle.std.specs.FinMap as fin
use Rattle.sx_tree.specs.declared.record.Kind.{Kind}
use Rattle.sx_tree.specs.declared.record.Step.{Step}
use Rattle.sx_tree.specs.declared.record.NodeRecord.{NodeRecord}
use Rattle.sx_model.specs.Tree.{Forest, no_trees, tree_then}
use Rattle.sx_model.specs.Records.{Around, NodeRow, around_children, first_of, last_of, rows}
use Rattle.sx_model.specs.Holes.{shown, row_over}
use Rattle.sx_view.specs.Records.{RecordMap}
use Rattle.sx_view.specs.Rows.{row_of}
use Rattle.sx_edit.specs.Holes.{first_entry, last_entry}
use Rattle.sx_edit.specs.Seen.{IsNoSight, IsSight, entry_of}
use Rattle.sx_edit.specs.Told.{Shows, IsChanged}
use Rattle.sx_edit.specs.declared.trees.Seen.{Seen}
use Rattle.sx_edit.proofs.Climbing.{some_is}
use Rattle.sx_edit.proofs.Showing.{shows-get, shows-put}

pub changed-none : (change : NodeRow → NodeRow) (o : Option (RecordMap NodeRecord)) → IsChanged None change o o
unfolding IsChanged
changed-none change o entries shows = shows

-- the node's record was changed
pub changed-put : (at : Option Seen) (seen : Seen) (change : NodeRow → NodeRow) (s : NodeRecord) (o after : Option (RecordMap NodeRecord)) → at ≡ Some seen
    → row_of s ≡ change (row_of seen.record) → after ≡ option_map (λ m. fin.insert m seen.node s) o → IsChanged (option_map entry_of at) change o after
unfolding IsChanged
changed-put at seen change s o after is changed put =
    rw (is, put) (λ (xs ys : List (ℕ × NodeRow)) (shows : Shows o (xs ++ entry_of seen ∷ ys)). shows-put o s xs ys seen.node (row_of seen.record) (change (row_of seen.record)) changed shows)

pub as_right : (at : Option (ℕ × NodeRow)) (x y : Option ℕ) (o after : Option (RecordMap NodeRecord)) → x ≡ y → IsChanged at (λ w. record w { right = x }) o after → IsChanged at (λ w. record w { right = y }) o after
as_right at x y o after is = subst (λ z. IsChanged at (λ w. record w { right = z }) o after) is

pub as_left : (at : Option (ℕ × NodeRow)) (x y : Option ℕ) (o after : Option (RecordMap NodeRecord)) → x ≡ y → IsChanged at (λ w. record w { left = x }) o after → IsChanged at (λ w. record w { left = y }) o after
as_left at x y o after is = subst (λ z. IsChanged at (λ w. record w { left = z }) o after) is

pub or_some : (a : Option ℕ) (n : ℕ) (c : Option ℕ) → option_or (option_or a (Some n)) c ≡ option_or a (Some n)
or_some None n c = refl
or_some (Some m) n c = refl

module _ (local : Kind → List ℕ → ℕ) (number : List Step → ℕ) where
  -- the trees before another one, which names it as its right sibling
  pub right-changed : (around : Around) (trees : Forest) (x : Option ℕ) (o after : Option (RecordMap NodeRecord)) (xs ys : List (ℕ × NodeRow))
      → IsChanged (last_entry local number around trees) (λ w. record w { right = x }) o after
      → Shows o (xs ++ (rows local number around trees ++ ys)) → Shows after (xs ++ (rows local number (record around { right = x }) trees ++ ys))
  unfolding IsChanged
  right-changed around no_trees x o after xs ys change shows = change (xs ++ ys) shows
  right-changed around (tree_then n below no_trees) x o after xs ys change shows = change xs _ shows
  right-changed around (tree_then n below (tree_then m b rest)) x o after xs ys change shows =
      let head : List (ℕ × NodeRow) = (n.number, row_over local number (record around { right = Some m.number }) n (shown local below)) ∷ rows local number (around_children around n) below in
      let beside_n : Around = record around { left = Some n.number } in
      let was : xs ++ (rows local number around (tree_then n below (tree_then m b rest)) ++ ys) ≡ (xs ++ head) ++ (rows local number beside_n (tree_then m b rest) ++ ys) = simp append_assoc in
      let is : (xs ++ head) ++ (rows local number (record beside_n { right = x }) (tree_then m b rest) ++ ys) ≡ xs ++ (rows local number (record around { right = x }) (tree_then n below (tree_then m b rest)) ++ ys) = simp append_assoc in
      subst (Shows after) is (right-changed beside_n (tree_then m b rest) x o after (xs ++ head) ys change (subst (Shows o) was shows))

  pub left-changed : (around : Around) (trees : Forest) (x : Option ℕ) (o after : Option (RecordMap NodeRecord)) (xs ys : List (ℕ × NodeRow))
      → IsChanged (first_entry local number around trees) (λ w. record w { left = x }) o after
      → Shows o (xs ++ (rows local number around trees ++ ys)) → Shows after (xs ++ (rows local number (record around { left = x }) trees ++ ys))
  unfolding IsChanged
  left-changed around no_trees x o after xs ys change shows = change (xs ++ ys) shows
  left-changed around (tree_then n below rest) x o after xs ys change shows = change xs _ shows

  -- what was read of the last of trees, and of the first one
  pub last-told : (around : Around) (trees : Forest) (there : Option Seen) (o : Option (RecordMap NodeRecord)) (xs ys : List (ℕ × NodeRow))
      → Shows o (xs ++ (rows local number around trees ++ ys)) → IsSight o (last_of trees) there → option_map entry_of there ≡ last_entry local number around trees
  last-told around no_trees None o xs ys shows sight = refl
  last-told around no_trees (Some seen) o xs ys shows sight = absurd sight
  last-told around (tree_then n below no_trees) None o xs ys shows sight = absurd sight
  last-told around (tree_then n below no_trees) (Some seen) o xs ys shows sight =
      let known = some_is _ _ (shows-get o (Some seen.record) xs _ n.number _ shows (λ m e. sym (sight.1 m e))) in
      λ i. Some (sight.0 i, known i)
  last-told around (tree_then n below (tree_then m b rest)) there o xs ys shows sight =
      let head : List (ℕ × NodeRow) = (n.number, row_over local number (record around { right = Some m.number }) n (shown local below)) ∷ rows local number (around_children around n) below in
      let beside_n : Around = record around { left = Some n.number } in
      let was : xs ++ (rows local number around (tree_then n below (tree_then m b rest)) ++ ys) ≡ (xs ++ head) ++ (rows local number beside_n (tree_then m b rest) ++ ys) = simp append_assoc in
      last-told beside_n (tree_then m b rest) there o (xs ++ head) ys (subst (Shows o) was shows) (subst (λ k. IsSight o k there) (or_some (last_of rest) m.number (Some n.number)) sight)

  pub first-told : (around : Around) (trees : Forest) (there : Option Seen) (o : Option (RecordMap NodeRecord)) (xs ys : List (ℕ × NodeRow))
      → Shows o (xs ++ (rows local number around trees ++ ys)) → IsSight o (first_of trees) there → option_map entry_of there ≡ first_entry local number around trees
  first-told around no_trees None o xs ys shows sight = refl
  first-told around no_trees (Some seen) o xs ys shows sight = absurd sight
  first-told around (tree_then n below rest) None o xs ys shows sight = absurd sight
  first-told around (tree_then n below rest) (Some seen) o xs ys shows sight =
      let known = some_is _ _ (shows-get o (Some seen.record) xs _ n.number _ shows (λ m e. sym (sight.1 m e))) in
      λ i. Some (sight.0 i, known i)

  -- they have records
  pub last-there : (around : Around) (trees : Forest) (o : Option (RecordMap NodeRecord)) (xs ys : List (ℕ × NodeRow)) → Shows o (xs ++ (rows local number around trees ++ ys)) → IsNoSight o (last_of trees) → ⊥
  last-there around no_trees o xs ys shows none = none
  last-there around (tree_then n below no_trees) o xs ys shows none =
      let both = shows-get o None xs _ n.number _ shows (λ m e. sym (none m e)) in absurd cc
  last-there around (tree_then n below (tree_then m b rest)) o xs ys shows none =
      let head : List (ℕ × NodeRow) = (n.number, row_over local number (record around { right = Some m.number }) n (shown local below)) ∷ rows local number (around_children around n) below in
      let beside_n : Around = record around { left = Some n.number } in
      let was : xs ++ (rows local number around (tree_then n below (tree_then m b rest)) ++ ys) ≡ (xs ++ head) ++ (rows local number beside_n (tree_then m b rest) ++ ys) = simp append_assoc in
      last-there beside_n (tree_then m b rest) o (xs ++ head) ys (subst (Shows o) was shows) (subst (IsNoSight o) (or_some (last_of rest) m.number (Some n.number)) none)

  pub first-there : (around : Around) (trees : Forest) (o : Option (RecordMap NodeRecord)) (xs ys : List (ℕ × NodeRow)) → Shows o (xs ++ (rows local number around trees ++ ys)) → IsNoSight o (first_of trees) → ⊥
  first-there around no_trees o xs ys shows none = none
  first-there around (tree_then n below rest) o xs ys shows none =
      let both = shows-get o None xs _ n.number _ shows (λ m e. sym (none m e)) in absurd cc

-- The window law of the leaves of nodes and of paths.
use Rattle.std.proofs.Common.{◌≡◌, ◌∙◌, ◌⊎◌, ℕ, zero, suc, ◌+◌, ◌*◌, ◌≤◌, Bool, true, false, List, Option, Some, None, inl, inr, refl, ap, sym, arith}
use Rattle.std.specs.Prelude.{cond}
use Rattle.std.specs.Ordering.{eq_by_cmp, nat_cmp}
use Rattle.std.specs.Option.{option_or}
use Rattle.std.proofs.lemmas.Bool.Decides.{nat_tests}
use Rattle.sx_model.specs.Commit.{Commit, IsLegal, state_of}
use Rattle.sx_model.specs.Records.{NodeRow, PathRow, entry, node}
use Rattle.sx_model.specs.State.{State, empty_document}
use Rattle.sx_model.specs.Sound.{IsSound}
use Rattle.sx_model.proofs.Revisions.{document_there, revision-sound}
use Rattle.sx_shows.specs.Fragments.{Slot, newest, recorded}
use Rattle.sx_shows.specs.Leaves.{NodesAreTold, PathsAreTold, node_fragments, node_leaf, path_fragments, path_leaf}
use Rattle.sx_shows.specs.Rows.{same_node, same_path_row}
use Rattle.sx_shows.proofs.Equal.{node-tells, path_row-tells}
use Rattle.sx_shows.proofs.Windows.{IsTold, length-fragments, window}

-- where there is a row at first, there is one now
or_first : {Row : Type 0} (now first : Option Row) → ((first ≡ None) ⊎ ((row : Row) × (now ≡ Some row))) → option_or now first ≡ now
or_first None None there = refl
or_first None (Some row) (inl none) = cc none
or_first None (Some row) (inr is) = cc is.1
or_first (Some row) first there = refl

told_or_first : {Row : Type 0} (slot : Slot Row) (first now : Option Row) → ((first ≡ None) ⊎ ((row : Row) × (now ≡ Some row))) → IsTold slot first now
    → option_or (recorded slot) first ≡ now
told_or_first slot first now there (inl is) = ap (λ (o : Option _). option_or o first) is ∙ or_first now first there
told_or_first slot first now there (inr (none, is)) = ap (λ (s : Slot _). option_or (recorded s) first) none ∙ sym is

not_there : {Row : Type 0} (b : Bool) (row : Row) → b ≡ false → cond b (Some row) None ≡ None
not_there false row is = refl
not_there true row is = cc is

other : (k : ℕ) → eq_by_cmp nat_cmp (suc k) 0 ≡ false
other k = grind (arith, nat_tests)

-- the empty document has the Document alone
node_at_first : (state : State) → IsSound state → (k : ℕ) → (node empty_document k ≡ None) ⊎ ((row : NodeRow) × (node state k ≡ Some row))
node_at_first state sound zero = inr (document_there state sound)
node_at_first state sound (suc k) = inl (not_there (eq_by_cmp nat_cmp (suc k) 0) _ (other k))

pub window_of_nodes : (commits : List Commit) (w l r : ℕ) → IsLegal commits → 1 ≤ w → NodesAreTold commits w l r
window_of_nodes commits w l r legal some = record {
  few = length-fragments same_node (node_leaf commits l) w r some;
  told = λ s below. told_or_first (newest (node_fragments commits w l r) s) (node empty_document (64 * l + s)) (node_leaf commits l r s)
      (node_at_first (state_of commits r) (revision-sound commits r legal) (64 * l + s))
      (window same_node (node_leaf commits l) w node-tells some r s below);
}

told_paths : (slot : Slot PathRow) (k : ℕ) (now : Option PathRow) → IsTold slot (entry empty_document k) now → recorded slot ≡ now
told_paths slot k now (inl is) = is
told_paths slot zero now (inr (none, is)) = ap recorded none ∙ sym is
told_paths slot (suc k) now (inr (none, is)) = ap recorded none ∙ sym is

pub window_of_paths : (commits : List Commit) (w l r : ℕ) → 1 ≤ w → PathsAreTold commits w l r
window_of_paths commits w l r some = record {
  few = length-fragments same_path_row (path_leaf commits l) w r some;
  told = λ s below. told_paths (newest (path_fragments commits w l r) s) (64 * l + s) (path_leaf commits l r s)
      (window same_path_row (path_leaf commits l) w path_row-tells some r s below);
}

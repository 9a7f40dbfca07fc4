-- What a record that was read says of a state.
use Rattle.std.specs.Prelude.{◌==◌}
use Rattle.std.proofs.Common.{◌≡◌, ℕ, Bool, eqb, List, [], ◌∷◌, Option, Some, None, refl, sym, ap, subst, ◌∙◌, arith}
use Rattle.std.specs.Prelude.{option_map}
use Rattle.std.specs.List.{list_any}
use Rattle.std.specs.Option.{ForSome}
use Rattle.std.specs.Ordering.{nat_cmp, eq_by_cmp}
use Rattle.std.specs.FinMap as fin
use Rattle.std.proofs.lemmas.Grind.{common_steps}
use Rattle.sx_tree.specs.declared.record.NodeRecord.{NodeRecord}
use Rattle.sx_view.specs.Records.{RecordMap}
use Rattle.sx_view.specs.Rows.{row_of}
use Rattle.sx_model.specs.Hash.{local_hash}
use Rattle.sx_model.specs.Paths.{number_of}
use Rattle.sx_model.specs.State.{State}
use Rattle.sx_model.specs.Tree.{Forest, no_trees, tree_then, beside, numbers, AreDistinctNumbers, spot}
use Rattle.sx_model.specs.Holes.{plug, shown}
use Rattle.sx_model.proofs.Holes.{rows-plug}
use Rattle.sx_edit.specs.Told.{AreDistinct, Shows}
use Rattle.sx_edit.specs.Edited.{rows_in}
use Rattle.sx_edit.specs.Answers.{AreOf}
use Rattle.sx_edit.proofs.Finding.{find-new}
use Rattle.sx_edit.proofs.Climbing.{some_is, numbers-rows}
use Rattle.sx_edit.proofs.Showing.{shows-get}
use Rattle.sx_edit.proofs.Standing.{rows-own}
use Rattle.sx_edit.specs.Holes.{own_row}
use Rattle.sx_edit.proofs.Seeking.{IsAt, Sought, missing, found, seek}

test_same : (k m : ℕ) → eqb k m ≡ eq_by_cmp nat_cmp k m
test_same k m = grind (arith, common_steps)

pub any-same : (k : ℕ) (ks : List ℕ) → list_any (λ m. k == m) ks ≡ list_any (eq_by_cmp nat_cmp k) ks
any-same k ks = ap (λ (p : ℕ → Bool). list_any p ks) (λ i m. test_same k m i)

pub distinct-same : (ks : List ℕ) → AreDistinctNumbers ks → AreDistinct ks
distinct-same [] is = tt
distinct-same (k ∷ ks) is = (sym (any-same k ks) ∙ is.0, distinct-same ks is.1)

-- the records of a state show its rows, each number once
pub shows-state : (state : State) (next : ℕ) (o : Option (RecordMap NodeRecord)) → AreOf state next o → Shows o (rows_in (number_of state.paths) state.trees)
shows-state state next o are = record {
  holds = are.holds;
  distinct = subst AreDistinct (sym (numbers-rows local_hash (number_of state.paths) _ state.trees)) (distinct-same (numbers state.trees) are.well_formed.distinct);
}

-- where the node of the record stands
pub record IsSeen (k : ℕ) (state : State) (o : Option (RecordMap NodeRecord)) (r : NodeRecord) : Type 0 where
  pub at : IsAt k [] no_trees state.trees
  pub row : row_of r ≡ own_row local_hash (number_of state.paths) at.around at.left at.node at.below at.right
  pub shows : Shows o (rows_in (number_of state.paths) (plug at.around (beside at.left (tree_then at.node at.below at.right))))

pub data Looked (k : ℕ) (state : State) (o : Option (RecordMap NodeRecord)) (there : Option NodeRecord) : Type 0 where
  nowhere : there ≡ None → spot k state.trees ≡ None → Looked k state o there
  somewhere : (r : NodeRecord) → there ≡ Some r → IsSeen k state o r → Looked k state o there

none_is : (there : Option NodeRecord) → option_map row_of there ≡ None → there ≡ None
none_is None is = refl
none_is (Some r) is = absurd cc

pub look : (k : ℕ) (state : State) (next : ℕ) (o : Option (RecordMap NodeRecord)) (there : Option NodeRecord) → AreOf state next o → ForSome o (λ m. there ≡ fin.get m k)
    → Looked k state o there
look k state next None there are is = absurd are.holds
look k state next (Some m) there are is = go (seek k [] no_trees state.trees are.well_formed.distinct)
  where
    shows : Shows (Some m) (rows_in (number_of state.paths) state.trees)
    shows = shows-state state next (Some m) are

    at_row : (s : IsAt k [] no_trees state.trees) (r : Option NodeRecord) → there ≡ r → Shows (Some m) (rows_in (number_of state.paths) (plug s.around (beside s.left (tree_then s.node s.below s.right))))
        → option_map row_of r ≡ Some (own_row local_hash (number_of state.paths) s.around s.left s.node s.below s.right) → Looked k state (Some m) there
    at_row s None e all row = absurd cc
    at_row s (Some r) e all row = somewhere r e (record { at = s; row = some_is _ _ row; shows = all })

    go : Sought k [] no_trees state.trees → Looked k state (Some m) there
    go (missing none) =
        let unlisted = ap (list_any (eq_by_cmp nat_cmp k)) (numbers-rows local_hash (number_of state.paths) _ state.trees) ∙ sym (any-same k (numbers state.trees)) ∙ none.absent in
        nowhere (none_is there (ap (option_map row_of) (is m refl) ∙ are.holds k ∙ find-new (rows_in (number_of state.paths) state.trees) k unlisted)) none.no_spot
    go (found s) =
        let all : Shows (Some m) (rows_in (number_of state.paths) (plug s.around (beside s.left (tree_then s.node s.below s.right)))) = subst (λ t. Shows (Some m) (rows_in (number_of state.paths) t)) s.stands shows in
        let inside : Forest = beside s.left (tree_then s.node s.below s.right) in
        let own = subst (Shows (Some m)) (rows-plug local_hash (number_of state.paths) s.around inside ∙ rows-own local_hash (number_of state.paths) s.around (shown local_hash inside) s.left s.node s.below s.right) all in
        let there_n : ForSome (Some m) (λ records. there ≡ fin.get records s.node.number) = rw s.number is in
        at_row s there refl all (shows-get (Some m) there _ _ s.node.number (own_row local_hash (number_of state.paths) s.around s.left s.node s.below s.right) own there_n)

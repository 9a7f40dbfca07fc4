-- The states to which accepted edits lead.
use Rattle.std.proofs.Common.{◌≡◌, ℕ, zero, suc, ◌<◌, ◌≤◌, Bool, true, false, ◌||◌, List, [], ◌∷◌, length, take, refl, sym, subst, arith, length-append}
use Rattle.std.specs.Prelude.{ℤ, IsOk, Result, Ok, Err, ◌==◌}
use Rattle.std.specs.List.{AllByRecursion, IsDistinct, list_any}
use Rattle.std.specs.Result.{result_unwrap_or}
use Rattle.std.proofs.lemmas.Bool.{false≢true}
use Rattle.std.proofs.lemmas.Bool.Decides.{nat_tests}
use Rattle.std.proofs.lemmas.Map.Steps.{length-le_from_distinct_below}
use lib.Dec.{eqb}
use Rattle.sx_tree.specs.declared.edit.EditRefusal.{EditRefusal}
use Rattle.sx_edit.specs.Pathways.{HasAll}
use Rattle.sx_edit.proofs.Pathing.{all-come}
use Rattle.sx_model.specs.Commit.{Commit, AreLegal, IsLegal, replay, state_of, first_time}
use Rattle.sx_model.specs.Edit.{Edit, AreAccepted, IsEdit, after, apply, edited}
use Rattle.sx_model.specs.Paths.{paths_in}
use Rattle.sx_model.specs.Sound.{AreBelow, IsSound}
use Rattle.sx_model.specs.State.{State, empty_document}
use Rattle.sx_model.specs.Tree.{AreApart, Forest, no_trees, tree_then, numbers, size}
use Rattle.sx_model.proofs.Sound.{apply-sound, empty-sound}
use Rattle.sx_paths.proofs.Following.{legal-listed}
use Rattle.sx_store.specs.Drafts.{IsReached}
use Rattle.sx_store.proofs.Adding.{apply-adds}

-- a sound state all of whose paths are listed
abbrev IsGood : State → Type 0
IsGood state = IsSound state × HasAll state.paths (paths_in state.trees)

good-edit : (edit : Edit) (state : State) → IsGood state → IsEdit edit → IsOk (apply edit state) → IsGood (edited edit state)
good-edit edit state is keeps ok = by (apply edit state) refl ok
  where
    by : (r : Result State EditRefusal) → apply edit state ≡ r → IsOk r → IsGood (result_unwrap_or r state)
    by (Ok new) made ok =
        ((apply-sound edit state new is.0 keeps made).0, subst (λ paths. HasAll paths (paths_in new.trees)) (sym (apply-adds edit state new made)) (all-come state.paths (paths_in new.trees)))
    by (Err refusal) made ok = absurd (false≢true ok)

good-edits : (edits : List Edit) (state : State) → IsGood state → AreAccepted edits state → IsGood (after edits state)
good-edits [] state is all = is
good-edits (edit ∷ edits) state is all = good-edits edits (edited edit state) (good-edit edit state is all.0 all.1) all.2

good-commits : (r : ℕ) (commits : List Commit) (time : ℤ) (state : State) → IsGood state → AreLegal time state commits → IsGood (replay (take r commits) state)
good-commits zero commits time state is legal = is
good-commits (suc r) [] time state is legal = is
good-commits (suc r) (commit ∷ commits) time state is legal = good-commits r commits commit.time (after commit.edits state) (good-edits commit.edits state is legal.2) legal.3

-- ---- there are no more nodes than numbers

length-numbers : (trees : Forest) → length (numbers trees) ≡ size trees
length-numbers no_trees = refl
length-numbers (tree_then n below rest) = omega (arith, length-append (numbers below) (numbers rest), length-numbers below, length-numbers rest)

neither : (a b : Bool) → (a || b) ≡ false → (a ≡ false) × (b ≡ false)
neither true b is = absurd (cc is)
neither false b is = (refl, is)

none-same : (k : ℕ) (ks : List ℕ) → list_any (λ m. k == m) ks ≡ false → AllByRecursion (λ m. eqb k m ≡ false) ks
none-same k [] none = tt
none-same k (m ∷ ks) none = let parts = neither (k == m) (list_any (λ m. k == m) ks) none in (parts.0, none-same k ks parts.1)

distinct : (ks : List ℕ) → AreApart (λ k m. k == m) ks → IsDistinct eqb ks
unfolding IsDistinct
distinct [] apart = tt
distinct (k ∷ ks) apart = (none-same k ks apart.0, distinct ks apart.1)

same-of : (q k : ℕ) → eqb q k ≡ true → q ≡ k
same-of q k is = grind (arith, nat_tests)

below-head : (limit q k : ℕ) (rest b : Bool) → k < limit → (rest ≡ true → q < limit) → eqb q k ≡ b → (b || rest) ≡ true → q < limit
below-head limit q k rest true here later same is = let e = same-of q k same in omega (arith, e, here)
below-head limit q k rest false here later same is = later is

below-one : (limit : ℕ) (ks : List ℕ) (q : ℕ) → AreBelow limit ks → list_any (eqb q) ks ≡ true → q < limit
below-one limit [] q below is = absurd (false≢true is)
below-one limit (k ∷ ks) q below is = below-head limit q k (list_any (eqb q) ks) (eqb q k) below.0 (below-one limit ks q below.1) refl is

pub few : (state : State) → IsSound state → size state.trees ≤ state.next
few state sound =
    let long = length-numbers state.trees in
    let le = length-le_from_distinct_below (numbers state.trees) state.next (distinct (numbers state.trees) sound.well_formed.distinct) (λ q. below-one state.next (numbers state.trees) q sound.given) in
    omega (arith, long, le)

-- Each revision of legal commits, and each state to which edits lead from it, is one of them.
pub reached : (commits : List Commit) (r : ℕ) (edits : List Edit) → IsLegal commits → AreAccepted edits (state_of commits r) → IsReached (after edits (state_of commits r))
reached commits r edits legal accepted =
    let good = good-edits edits (state_of commits r) (good-commits r commits first_time empty_document (empty-sound, tt) legal) accepted in
    record { sound = good.0; few = few _ good.0; listed = legal-listed commits r edits legal accepted; all = good.1 }

-- Rows that come among others.
use Rattle.std.proofs.Common.{◌≡◌, ℕ, cond, List, [], ◌∷◌, ◌++◌, Option, Some, None, sym, ap, subst, ◌∙◌, arith, append_assoc}
use Rattle.std.specs.Option.{option_map}
use Rattle.std.specs.Ordering.{nat_cmp, eq_by_cmp}
use Rattle.std.specs.Cmp.{nat_cmp_total}
use Rattle.std.specs.FinMap as fin
use Rattle.std.specs.FinMap.{find, get-insert}
use Rattle.std.proofs.lemmas.Grind.{common_steps}
use Rattle.sx_tree.specs.declared.record.NodeRecord.{NodeRecord}
use Rattle.sx_view.specs.Records.{RecordMap}
use Rattle.sx_view.specs.Rows.{row_of}
use Rattle.sx_model.specs.Records.{NodeRow}
use Rattle.sx_model.specs.Tree.{AreDistinctNumbers}
use Rattle.sx_model.proofs.Apart.{apart-without}
use Rattle.sx_edit.specs.Grow.{IsAdded}
use Rattle.sx_edit.specs.Told.{Holds, AreDistinct, numbers_of}
use Rattle.sx_edit.proofs.Climbing.{map-append, map_cond}
use Rattle.sx_edit.proofs.Finding.{find-new, skipped}
use Rattle.sx_edit.proofs.Looking.{any-same, distinct-same}
use Rattle.sx_edit.proofs.Showing.{apart-entry}

pub distinct-known : (ks : List ℕ) → AreDistinct ks → AreDistinctNumbers ks
distinct-known [] is = tt
distinct-known (k ∷ ks) is = (any-same k ks ∙ is.0, distinct-known ks is.1)

-- some go from among the others
distinct-without : (xs mid ys : List (ℕ × NodeRow)) → AreDistinct (numbers_of (xs ++ (mid ++ ys))) → AreDistinct (numbers_of (xs ++ ys))
distinct-without xs mid ys is =
    let parts : numbers_of (xs ++ (mid ++ ys)) ≡ numbers_of xs ++ (numbers_of mid ++ numbers_of ys) = map-append _ xs (mid ++ ys) ∙ ap (λ l. numbers_of xs ++ l) (map-append _ mid ys) in
    subst AreDistinct (sym (map-append _ xs ys))
    (distinct-same _ (apart-without _ (numbers_of xs) (numbers_of mid) (numbers_of ys) (distinct-known _ (subst AreDistinct parts is))))

find-added : (xs ys : List (ℕ × NodeRow)) (k : ℕ) (w : NodeRow) (q : ℕ) → find nat_cmp k xs ≡ None
    → cond (eq_by_cmp nat_cmp q k) (Some w) (find nat_cmp q (xs ++ ys)) ≡ find nat_cmp q (xs ++ (k, w) ∷ ys)
find-added [] ys k w q none = grind (arith, common_steps)
find-added (x ∷ xs) ys k w q none = grind (arith, common_steps, find-added xs ys k w q (skipped xs x k none))

pub added-none : (o : Option (RecordMap NodeRecord)) → IsAdded [] o o
unfolding IsAdded
added-none o xs ys distinct holds = holds

-- a record was put where there was none
pub added-put : (o after : Option (RecordMap NodeRecord)) (k : ℕ) (r : NodeRecord) → after ≡ option_map (λ m. fin.insert m k r) o → IsAdded ((k, row_of r) ∷ []) o after
unfolding IsAdded
added-put None after k r put xs ys distinct holds = absurd holds
added-put (Some m) after k r put xs ys distinct holds =
    let new = find-new xs k (apart-entry xs ys k (row_of r) distinct).before in
    subst (λ o. Holds o (xs ++ (k, row_of r) ∷ ys)) (sym put)
    (λ q.
    ap (option_map row_of) (get-insert nat_cmp_total m k r q) ∙ map_cond row_of (eq_by_cmp nat_cmp q k) r (fin.get m q)
    ∙ ap (cond (eq_by_cmp nat_cmp q k) (Some (row_of r))) (holds q) ∙ find-added xs ys k (row_of r) q new)

-- first these rows came, and then others behind them
pub added-behind : (es fs : List (ℕ × NodeRow)) (a b c : Option (RecordMap NodeRecord)) → IsAdded es a b → IsAdded fs b c → IsAdded (es ++ fs) a c
unfolding IsAdded
added-behind es fs a b c first second xs ys distinct holds =
    let regrouped : xs ++ ((es ++ fs) ++ ys) ≡ (xs ++ es) ++ (fs ++ ys) = simp append_assoc in
    let others : (xs ++ es) ++ ys ≡ xs ++ (es ++ ys) = simp append_assoc in
    let all = subst (λ l. AreDistinct (numbers_of l)) regrouped distinct in
    let some = subst (λ l. AreDistinct (numbers_of l)) others (distinct-without (xs ++ es) fs ys all) in
    subst (Holds c) (sym regrouped) (second (xs ++ es) ys all (subst (Holds b) (sym others) (first xs ys some holds)))

-- or before them
pub added-before : (es fs : List (ℕ × NodeRow)) (a b c : Option (RecordMap NodeRecord)) → IsAdded fs a b → IsAdded es b c → IsAdded (es ++ fs) a c
unfolding IsAdded
added-before es fs a b c first second xs ys distinct holds =
    let regrouped : xs ++ ((es ++ fs) ++ ys) ≡ xs ++ (es ++ (fs ++ ys)) = simp append_assoc in
    let all = subst (λ l. AreDistinct (numbers_of l)) regrouped distinct in
    subst (Holds c) (sym regrouped) (second xs (fs ++ ys) all (first xs ys (distinct-without xs es (fs ++ ys) all) holds))

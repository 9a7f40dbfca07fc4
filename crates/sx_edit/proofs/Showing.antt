-- What one change of the records does to the rows that they show.
use Rattle.std.proofs.Common.{◌≡◌, ℕ, Bool, true, false, cond, ◌||◌, List, [], ◌∷◌, ◌++◌, Option, Some, None, refl, sym, ap, subst, ◌∙◌, arith}
use Rattle.std.specs.Option.{option_map, ForSome}
use Rattle.std.specs.List.{list_any}
use Rattle.std.specs.Ordering.{nat_cmp, eq_by_cmp}
use Rattle.std.specs.Cmp.{nat_cmp_total}
use Rattle.std.specs.FinMap as fin
use Rattle.std.specs.FinMap.{find, get-insert, get-remove}
use Rattle.std.proofs.lemmas.Grind.{common_steps}
use Rattle.sx_tree.specs.declared.record.NodeRecord.{NodeRecord}
use Rattle.sx_model.specs.Records.{NodeRow}
use Rattle.sx_view.specs.Records.{RecordMap}
use Rattle.sx_view.specs.Rows.{row_of}
use Rattle.sx_edit.specs.Told.{Holds, AreDistinct, numbers_of, Shows}
use Rattle.sx_edit.proofs.Finding.{skipped, find-new, find-there, find-middle}
use Rattle.sx_edit.proofs.Climbing.{map-append, map_cond}

pub any-append : (p : ℕ → Bool) (xs ys : List ℕ) → list_any p (xs ++ ys) ≡ (list_any p xs || list_any p ys)
any-append p [] ys = refl
any-append p (x ∷ xs) ys = grind (arith, common_steps, any-append p xs ys)

same : (q k : ℕ) → eq_by_cmp nat_cmp q k ≡ true → q ≡ k
same q k is = grind (arith, common_steps)

pub both_false : (a b : Bool) → (a || b) ≡ false → (a ≡ false) × (b ≡ false)
both_false a b is = grind (arith, common_steps)

pub any-parts : (k : ℕ) (xs ys : List ℕ) → list_any (eq_by_cmp nat_cmp k) (xs ++ ys) ≡ false → (list_any (eq_by_cmp nat_cmp k) xs ≡ false) × (list_any (eq_by_cmp nat_cmp k) ys ≡ false)
any-parts k xs ys is = both_false _ _ (sym (any-append (eq_by_cmp nat_cmp k) xs ys) ∙ is)

pub either_false : (a b : Bool) → a ≡ false → b ≡ false → (a || b) ≡ false
either_false a b is there = grind (arith, common_steps)

pub any-both : (k : ℕ) (xs ys : List ℕ) → list_any (eq_by_cmp nat_cmp k) xs ≡ false → list_any (eq_by_cmp nat_cmp k) ys ≡ false → list_any (eq_by_cmp nat_cmp k) (xs ++ ys) ≡ false
any-both k xs ys is there = any-append (eq_by_cmp nat_cmp k) xs ys ∙ either_false _ _ is there

pub turned : (x k : ℕ) → eq_by_cmp nat_cmp x k ≡ false → eq_by_cmp nat_cmp k x ≡ false
turned x k is = grind (arith, common_steps)

-- a number among distinct ones is not before, nor behind, and the others are distinct
pub record IsApart (xs : List ℕ) (k : ℕ) (ys : List ℕ) : Type 0 where
  pub before : list_any (eq_by_cmp nat_cmp k) xs ≡ false
  pub behind : list_any (eq_by_cmp nat_cmp k) ys ≡ false
  pub others : AreDistinct (xs ++ ys)

pub apart : (xs ys : List ℕ) (k : ℕ) → AreDistinct (xs ++ k ∷ ys) → IsApart xs k ys
apart [] ys k is = record { before = refl; behind = is.0; others = is.1 }
apart (x ∷ xs) ys k is =
    let rest = apart xs ys k is.1 in
    let parts = any-parts x xs (k ∷ ys) is.0 in
    let here = both_false _ _ parts.1 in
    record {
      before = either_false _ _ (turned x k here.0) rest.before;
      behind = rest.behind;
      others = (any-both x xs ys parts.0 here.1, rest.others);
    }

-- the same at an entry
pub apart-entry : (xs ys : List (ℕ × NodeRow)) (k : ℕ) (w : NodeRow) → AreDistinct (numbers_of (xs ++ (k, w) ∷ ys)) → IsApart (numbers_of xs) k (numbers_of ys)
apart-entry xs ys k w is = apart (numbers_of xs) (numbers_of ys) k (subst AreDistinct (map-append _ xs ((k, w) ∷ ys)) is)

map_cond_none : {A B : Type 0} (f : A → B) (b : Bool) (o : Option A) → option_map f (cond b None o) ≡ cond b None (option_map f o)
map_cond_none f true o = refl
map_cond_none f false o = refl

find-gone : {X : Type 0} (xs ys : List (ℕ × X)) (k : ℕ) (v : X) (q : ℕ) → find nat_cmp k xs ≡ None → find nat_cmp k ys ≡ None
    → cond (eq_by_cmp nat_cmp q k) None (find nat_cmp q (xs ++ (k, v) ∷ ys)) ≡ find nat_cmp q (xs ++ ys)
find-gone [] ys k v q before behind = gone (eq_by_cmp nat_cmp q k) refl
  where
    gone : (b : Bool) → eq_by_cmp nat_cmp q k ≡ b → cond b None (cond b (Some v) (find nat_cmp q ys)) ≡ find nat_cmp q ys
    gone true is = sym (ap (λ z. find nat_cmp z ys) (same q k is) ∙ behind)
    gone false is = refl
find-gone (x ∷ xs) ys k v q before behind = grind (arith, common_steps, find-gone xs ys k v q (skipped xs x k before) behind)

-- the row that is shown at a number
pub shows-get : (o : Option (RecordMap NodeRecord)) (found : Option NodeRecord) (xs ys : List (ℕ × NodeRow)) (k : ℕ) (w : NodeRow)
    → Shows o (xs ++ (k, w) ∷ ys) → ForSome o (λ m. found ≡ fin.get m k) → option_map row_of found ≡ Some w
shows-get None found xs ys k w shows is = absurd shows.holds
shows-get (Some m) found xs ys k w shows is =
    ap (option_map row_of) (is m refl) ∙ shows.holds k ∙ find-there xs ys k w (find-new xs k (apart-entry xs ys k w shows.distinct).before)

holds-put : (o : Option (RecordMap NodeRecord)) (r : NodeRecord) (xs ys : List (ℕ × NodeRow)) (k : ℕ) (w : NodeRow) → find nat_cmp k xs ≡ None
    → Holds o (xs ++ (k, w) ∷ ys) → Holds (option_map (λ m. fin.insert m k r) o) (xs ++ (k, row_of r) ∷ ys)
holds-put None r xs ys k w new holds = holds
holds-put (Some m) r xs ys k w new holds = λ q.
    ap (option_map row_of) (get-insert nat_cmp_total m k r q) ∙ map_cond row_of (eq_by_cmp nat_cmp q k) r (fin.get m q)
    ∙ ap (cond (eq_by_cmp nat_cmp q k) (Some (row_of r))) (holds q) ∙ find-middle xs ys k w (row_of r) q new

holds-drop : (o : Option (RecordMap NodeRecord)) (xs ys : List (ℕ × NodeRow)) (k : ℕ) (w : NodeRow) → find nat_cmp k xs ≡ None → find nat_cmp k ys ≡ None
    → Holds o (xs ++ (k, w) ∷ ys) → Holds (option_map (λ m. fin.remove m k) o) (xs ++ ys)
holds-drop None xs ys k w before behind holds = holds
holds-drop (Some m) xs ys k w before behind holds = λ q.
    ap (option_map row_of) (get-remove nat_cmp_total m k q) ∙ map_cond_none row_of (eq_by_cmp nat_cmp q k) (fin.get m q)
    ∙ ap (cond (eq_by_cmp nat_cmp q k) None) (holds q) ∙ find-gone xs ys k w q before behind

pub shows-put : (o : Option (RecordMap NodeRecord)) (r : NodeRecord) (xs ys : List (ℕ × NodeRow)) (k : ℕ) (w v : NodeRow) → row_of r ≡ v
    → Shows o (xs ++ (k, w) ∷ ys) → Shows (option_map (λ m. fin.insert m k r) o) (xs ++ (k, v) ∷ ys)
shows-put o r xs ys k w v is shows = record {
  holds = subst (λ x. Holds (option_map (λ m. fin.insert m k r) o) (xs ++ (k, x) ∷ ys)) is (holds-put o r xs ys k w (find-new xs k (apart-entry xs ys k w shows.distinct).before) shows.holds);
  distinct = subst AreDistinct (map-append _ xs ((k, w) ∷ ys) ∙ sym (map-append _ xs ((k, v) ∷ ys))) shows.distinct;
}

pub shows-drop : (o : Option (RecordMap NodeRecord)) (xs ys : List (ℕ × NodeRow)) (k : ℕ) (w : NodeRow)
    → Shows o (xs ++ (k, w) ∷ ys) → Shows (option_map (λ m. fin.remove m k) o) (xs ++ ys)
shows-drop o xs ys k w shows =
    let is = apart-entry xs ys k w shows.distinct in
    record {
      holds = holds-drop o xs ys k w (find-new xs k is.before) (find-new ys k is.behind) shows.holds;
      distinct = subst AreDistinct (sym (map-append _ xs ys)) is.others;
    }

-- The numbers of the records in slots that ascend.
use Rattle.std.proofs.Common.{◌≡◌, ℕ, arith, length, cond, List, [], ◌∷◌, map, Option, Some, None, refl, sym, ap, ◌∙◌}
use Rattle.std.specs.Cmp.{nat_cmp_total}
use Rattle.std.specs.Ordering.{nat_cmp, is_eq}
use Rattle.std.specs.List.Sorted.{IsStrictlySortedBy}
use Rattle.std.specs.List.{AllByRecursion}
use Rattle.std.specs.FinMap as fin
use Rattle.std.specs.FinMap.{find, put, entries-insert, get-entries, len-entries, len-empty}
use Rattle.std.specs.FinMap.Entries.{by_order}
use Rattle.std.specs.declared.cmp.Ordering.{Ordering}
use Rattle.std.specs.declared.cmp.Ordering.TheVariants.{Less}
use Rattle.sx_view.specs.Slots.{held}
use Rattle.sx_view.proofs.SlotLemmas.{with_slot-none}

nothing : {X : Type 0} (es : List X) → length es ≡ 0 → es ≡ []
nothing [] is = refl
nothing (e ∷ es) is = absurd (omega arith)

module _ {R : Type 0} where
  abbrev pub with_filled : ℕ → Option R → List (ℕ × R) → List (ℕ × R)
  with_filled k None es = es
  with_filled k (Some r) es = (k, r) ∷ es

  -- the slots that are not empty
  abbrev pub filled : List (ℕ × Option R) → List (ℕ × R)
  filled [] = []
  filled (slot ∷ slots) = with_filled slot.0 slot.1 (filled slots)

  put-below : (k : ℕ) (r : R) (slots : List (ℕ × Option R)) → AllByRecursion (λ y. nat_cmp k y ≡ Less) (map (λ e. e.0) slots) → put nat_cmp k r (filled slots) ≡ (k, r) ∷ filled slots
  put-below k r [] below = refl
  put-below k r ((q, None) ∷ slots) below = put-below k r slots below.1
  put-below k r ((q, Some x) ∷ slots) below = ap (λ (o : Ordering). by_order o ((k, r) ∷ (q, x) ∷ filled slots) ((q, r) ∷ filled slots) ((q, x) ∷ put nat_cmp k r (filled slots))) below.0

  find-below : (k : ℕ) (slots : List (ℕ × Option R)) → AllByRecursion (λ y. nat_cmp k y ≡ Less) (map (λ e. e.0) slots) → find nat_cmp k (filled slots) ≡ None
  find-below k [] below = refl
  find-below k ((q, None) ∷ slots) below = find-below k slots below.1
  find-below k ((q, Some x) ∷ slots) below = ap (λ (o : Ordering). cond (is_eq o) (Some x) (find nat_cmp k (filled slots))) below.0 ∙ find-below k slots below.1

  pub entries-held : (slots : List (ℕ × Option R)) → IsStrictlySortedBy nat_cmp (map (λ e. e.0) slots) → fin.entries (held slots) ≡ filled slots
  unfolding IsStrictlySortedBy
  entries-held [] sorted = nothing _ (sym (len-entries (fin.empty {X = R} {R = nat_cmp})) ∙ len-empty nat_cmp R)
  entries-held ((k, None) ∷ slots) sorted =
      let rest = entries-held slots sorted.1 in
      ap fin.entries (with_slot-none k (held slots) (get-entries (held slots) k ∙ ap (find nat_cmp k) rest ∙ find-below k slots sorted.0)) ∙ rest
  entries-held ((k, Some r) ∷ slots) sorted =
      let rest = entries-held slots sorted.1 in
      entries-insert nat_cmp_total (held slots) k r ∙ ap (put nat_cmp k r) rest ∙ put-below k r slots sorted.0

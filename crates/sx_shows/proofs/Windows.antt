-- The window law: what the fragments of a leaf tell together is the leaf.
use Rattle.std.proofs.Common.{◌≡◌, ◌∙◌, ◌⊎◌, ℕ, zero, suc, ◌-◌, ◌<◌, ◌≤◌, Bool, true, false, not, if◌then◌else◌, List, [], ◌∷◌, length, take, Option, Some, None, inl, inr, refl, ap, sym, subst, arith}
use Rattle.std.specs.Option.{option_eq}
use Rattle.std.specs.Prelude.{get_or, ◌==◌}
use Rattle.std.proofs.lemmas.List.{length-take}
use Rattle.std.proofs.lemmas.List.Folds.{list_any_at}
use Rattle.std.proofs.lemmas.List.FromFn.{get_or-range_with_len}
use Rattle.std.proofs.lemmas.Bool.Decides.{nat_tests}
use Rattle.sx_shows.specs.Fragments.{Slot, Absent, Tombstone, Record, Fragment, as_carried, as_changed, changed, fragments, new_slot, newest, or_older, recorded, slots, touched, unless_younger}

-- a slot tells of a row, where it has nothing only as long as the row is the first one
abbrev pub IsTold : {Row : Type 0} → Slot Row → Option Row → Option Row → Type 0
IsTold slot first now = (recorded slot ≡ now) ⊎ ((slot ≡ Absent) × (now ≡ first))

-- the test says no more than is so
abbrev pub Tells : {Row : Type 0} → (Row → Row → Bool) → Type 0
Tells {Row} same = (a b : Row) → same a b ≡ true → a ≡ b

-- ---- slots

module _ {Row : Type 0} where
  told_carried : (oldest : Slot Row) (first now : Option Row) → IsTold oldest first now → IsTold (or_older (as_carried oldest) Absent) first now
  told_carried Absent first now told = told
  told_carried Tombstone first now (inl is) = inl is
  told_carried Tombstone first now (inr (none, is)) = cc none
  told_carried (Record row) first now told = told

  -- the slot did not change, and the window has no room
  told_full : (younger oldest : Slot Row) (first now : Option Row) → ((younger ≡ Absent) ⊎ (oldest ≡ younger)) → IsTold oldest first now
      → IsTold (or_older (unless_younger younger oldest) younger) first now
  told_full Absent oldest first now either told = told_carried oldest first now told
  told_full Tombstone oldest first now (inl none) told = cc none
  told_full Tombstone oldest first now (inr same) told = subst (λ slot. IsTold slot first now) same told
  told_full (Record row) oldest first now (inl none) told = cc none
  told_full (Record row) oldest first now (inr same) told = subst (λ slot. IsTold slot first now) same told

  told_changed : (now first : Option Row) (older : Slot Row) → IsTold (or_older (as_changed now) older) first now
  told_changed None first older = inl refl
  told_changed (Some row) first older = inl refl

  either_older : (slot part whole : Slot Row) → ((part ≡ Absent) ⊎ (whole ≡ part)) → (or_older slot part ≡ Absent) ⊎ (or_older slot whole ≡ or_older slot part)
  either_older Absent part whole either = either
  either_older Tombstone part whole either = inr refl
  either_older (Record row) part whole either = inr refl

  -- the younger fragments lack a slot, or have the newest of it
  either_young : (fs : List (Fragment Row)) (n s : ℕ) → (newest (take n fs) s ≡ Absent) ⊎ (newest fs s ≡ newest (take n fs) s)
  either_young [] zero s = inl refl
  either_young [] (suc n) s = inl refl
  either_young (f ∷ fs) zero s = inl refl
  either_young (f ∷ fs) (suc n) s = either_older (f s) (newest (take n fs) s) (newest fs s) (either_young fs n s)

  all_young : (fs : List (Fragment Row)) (n : ℕ) → length fs ≤ n → take n fs ≡ fs
  all_young [] zero few = refl
  all_young [] (suc n) few = refl
  all_young (f ∷ fs) zero few = absurd (omega arith)
  all_young (f ∷ fs) (suc n) few = ap (λ (l : List (Fragment Row)). f ∷ l) (all_young fs n (omega arith))

-- ---- the leaf over revisions

module _ {Row : Type 0} (same : Row → Row → Bool) (leaf : ℕ → ℕ → Option Row) (tells : Tells same) where
  equal_options : (a b : Option Row) → not (option_eq same a b) ≡ false → a ≡ b
  equal_options None None is = refl
  equal_options None (Some row) is = cc is
  equal_options (Some row) None is = cc is
  equal_options (Some row) (Some other) is = ap Some (tells row other (grind arith))

  unchanged : (r s : ℕ) → changed same leaf r s ≡ false → leaf r s ≡ leaf (r - 1) s
  unchanged r s is = equal_options (leaf r s) (leaf (r - 1) s) is

  in_slots : (s : ℕ) → s < 64 → get_or slots s 0 ≡ s
  in_slots s below = get_or-range_with_len 0 64 s 0 below ∙ omega arith

  untouched_slot : (r s : ℕ) → s < 64 → (b : Bool) → changed same leaf r s ≡ b → touched same leaf r ≡ false → b ≡ false
  untouched_slot r s below false is none = refl
  untouched_slot r s below true is none =
      let at : changed same leaf r (get_or slots s 0) ≡ true = ap (changed same leaf r) (in_slots s below) ∙ is in
      cc (list_any_at (changed same leaf r) slots s 0 below at)

module _ {Row : Type 0} (same : Row → Row → Bool) (leaf : ℕ → ℕ → Option Row) (w : ℕ) where
  step_length : (r : ℕ) (b : Bool) (f : Fragment Row) → 1 ≤ w → length (fragments same leaf w r) ≤ w
      → length (if b then f ∷ take (w - 1) (fragments same leaf w r) else fragments same leaf w r) ≤ w
  step_length r true f some few = omega (arith, length-take (w - 1) (fragments same leaf w r))
  step_length r false f some few = few

  -- there are at most as many fragments as the window says
  pub length-fragments : (r : ℕ) → 1 ≤ w → length (fragments same leaf w r) ≤ w
  length-fragments zero some = omega arith
  length-fragments (suc r) some = step_length r (touched same leaf (suc r)) (new_slot same leaf w (suc r) (fragments same leaf w r)) some (length-fragments r some)

-- a slot of the new fragment, by whether it changed and whether the window has no room
abbrev slot_by : {Row : Type 0} → Bool → Bool → Option Row → Slot Row → Slot Row → Slot Row
slot_by c full now younger oldest = if c then as_changed now else if full then unless_younger younger oldest else Absent

module _ {Row : Type 0} where
  told_new : (c full : Bool) (younger oldest : Slot Row) (first old now : Option Row) → (c ≡ false → now ≡ old) → (full ≡ false → oldest ≡ younger)
      → ((younger ≡ Absent) ⊎ (oldest ≡ younger)) → IsTold oldest first old → IsTold (or_older (slot_by c full now younger oldest) younger) first now
  told_new true full younger oldest first old now same young either told = told_changed now first younger
  told_new false true younger oldest first old now same young either told =
      subst (λ (row : Option Row). IsTold (or_older (unless_younger younger oldest) younger) first row) (sym (same refl)) (told_full younger oldest first old either told)
  told_new false false younger oldest first old now same young either told =
      subst (λ (row : Option Row). IsTold younger first row) (sym (same refl)) (subst (λ (slot : Slot Row). IsTold slot first old) (young refl) told)

module _ {Row : Type 0} (same : Row → Row → Bool) (leaf : ℕ → ℕ → Option Row) (w : ℕ) (tells : Tells same) (some : 1 ≤ w) where
  same_as_before : (r s : ℕ) → changed same leaf (suc r) s ≡ false → leaf (suc r) s ≡ leaf r s
  same_as_before r s is = let before : suc r - 1 ≡ r = omega arith in unchanged same leaf tells (suc r) s is ∙ ap (λ (n : ℕ). leaf n s) before

  roomy : (r s : ℕ) → (length (fragments same leaf w r) == w) ≡ false → newest (fragments same leaf w r) s ≡ newest (take (w - 1) (fragments same leaf w r)) s
  roomy r s is =
      let most = length-fragments same leaf w r some in
      let few : length (fragments same leaf w r) ≤ w - 1 = grind (arith, nat_tests) in
      ap (λ (l : List (Fragment Row)). newest l s) (sym (all_young (fragments same leaf w r) (w - 1) few))

  told_step : (r s : ℕ) (b : Bool) → s < 64 → touched same leaf (suc r) ≡ b → IsTold (newest (fragments same leaf w r) s) (leaf 0 s) (leaf r s)
      → IsTold (newest (if b then new_slot same leaf w (suc r) (fragments same leaf w r) ∷ take (w - 1) (fragments same leaf w r) else fragments same leaf w r) s) (leaf 0 s) (leaf (suc r) s)
  told_step r s true below is told =
      let old = fragments same leaf w r in
      told_new (changed same leaf (suc r) s) (length old == w) (newest (take (w - 1) old) s) (newest old s) (leaf 0 s) (leaf r s) (leaf (suc r) s)
      (same_as_before r s) (roomy r s) (either_young old (w - 1) s) told
  told_step r s false below is told =
      let still = untouched_slot same leaf tells (suc r) s below (changed same leaf (suc r) s) refl is in
      subst (λ (row : Option Row). IsTold (newest (fragments same leaf w r) s) (leaf 0 s) row) (sym (same_as_before r s still)) told

  pub window : (r s : ℕ) → s < 64 → IsTold (newest (fragments same leaf w r) s) (leaf 0 s) (leaf r s)
  window zero s below = inr (refl, refl)
  window (suc r) s below = told_step r s (touched same leaf (suc r)) below refl (window r s below)

-- What changes of slots do to the records in them.
use Rattle.std.proofs.Common.{◌≡◌, ℕ, Bool, true, false, cond, eqb, List, [], ◌∷◌, ◌++◌, Option, Some, None, Result, Ok, Err, refl, sym, ap, subst, ◌∙◌, arith}
use Rattle.std.specs.Prelude.{is_some, reverse, OnOk, OnErr}
use Rattle.std.specs.Ordering.{nat_cmp, eq_by_cmp, is_eq}
use Rattle.std.specs.Cmp.{nat_cmp_total, eq_by_cmp_equiv}
use Rattle.std.specs.Map.{lookup}
use Rattle.std.specs.BTreeMap as tree
use Rattle.std.specs.BTreeMap.{BTreeMap, is_at}
use Rattle.std.specs.FinMap as map
use Rattle.std.specs.FinMap.{nat_cmp-IsAntisymmetric, same_map, get-empty, get-insert, get-remove}
use Rattle.std.specs.declared.cmp.Ordering.{Ordering}
use Rattle.std.specs.declared.cmp.Ordering.TheVariants.{Less, Equal, Greater}
use Rattle.std.proofs.lemmas.List.{reverse-append}
use Rattle.std.proofs.lemmas.Bool.{eqb-true}
use Rattle.std.proofs.lemmas.Grind.{common_steps}
use Rattle.sx_view.specs.Records.{RecordMap}
use Rattle.sx_view.specs.Slots.{with_slot, held, inside, rewound, Rewinds, has_slot}

reverse-push : {A : Type 0} (xs : List A) (x : A) → reverse (xs ++ x ∷ []) ≡ x ∷ reverse xs
reverse-push xs x = reverse-append xs (x ∷ [])

is_equal : (r : Ordering) → is_eq r ≡ true → r ≡ Equal
is_equal Less e = absurd cc
is_equal Equal e = refl
is_equal Greater e = absurd cc

-- the order of numbers tells apart what differs
tied : (k q : ℕ) → eq_by_cmp nat_cmp q k ≡ true → q ≡ k
tied k q e = nat_cmp-IsAntisymmetric q k (is_equal (nat_cmp q k) e)

is_at-eqb : (k q : ℕ) → is_at (nat_cmp k) q ≡ eqb q k
is_at-eqb k q = grind (arith, common_steps)

-- what a call ensures where it succeeded, and what where it failed, of which the latter does not hold
pub succeeded : {A E : Type 0} (r : Result A E) (P Q : Type 0) → OnOk r P → OnErr r Q → (Q → ⊥) → P
succeeded (Ok x) P Q holds failed never = holds
succeeded (Err e) P Q holds failed never = absurd (never failed)

module _ {R : Type 0} where
  pub get-with_slot : (k : ℕ) (slot : Option R) (m : RecordMap R) (q : ℕ) → map.get (with_slot k slot m) q ≡ cond (eq_by_cmp nat_cmp q k) slot (map.get m q)
  get-with_slot k None m q = get-remove nat_cmp_total m k q
  get-with_slot k (Some r) m q = get-insert nat_cmp_total m k r q

  inside-cond : (b : Bool) (slot : Option R) (other : Option (Option R)) → cond b slot (inside other) ≡ inside (cond b (Some slot) other)
  inside-cond true slot other = refl
  inside-cond false slot other = refl

  inside-cond_both : (b : Bool) (one other : Option (Option R)) → inside (cond b one other) ≡ cond b (inside one) (inside other)
  inside-cond_both true one other = refl
  inside-cond_both false one other = refl

  pub get-held : (slots : List (ℕ × Option R)) (q : ℕ) → map.get (held slots) q ≡ inside (lookup (is_at (nat_cmp q)) slots)
  get-held [] q = get-empty nat_cmp q
  get-held (slot ∷ slots) q =
      get-with_slot slot.0 slot.1 (held slots) q ∙ ap (cond (eq_by_cmp nat_cmp q slot.0) slot.1) (get-held slots q)
      ∙ inside-cond (eq_by_cmp nat_cmp q slot.0) slot.1 (lookup (is_at (nat_cmp q)) slots)

  same : (m n : RecordMap R) → ((q : ℕ) → map.get m q ≡ map.get n q) → m ≡ n
  same m n is = same_map nat_cmp_total nat_cmp-IsAntisymmetric m n is

  -- one number was given another slot, or none
  pub held-updated : (old new : BTreeMap ℕ (Option R)) (k : ℕ) (slot : Option (Option R)) → ((q : ℕ) → tree.get nat_cmp new q ≡ cond (is_at (nat_cmp k) q) slot (tree.get nat_cmp old q))
      → held new.entries ≡ with_slot k (inside slot) (held old.entries)
  held-updated old new k slot updates = same _ _ (λ q.
      get-held new.entries q ∙ ap inside (updates q) ∙ inside-cond_both (is_at (nat_cmp k) q) slot (tree.get nat_cmp old q)
      ∙ ap (λ (b : Bool). cond b (inside slot) (inside (tree.get nat_cmp old q))) ((eq_by_cmp_equiv nat_cmp_total).symm k q)
      ∙ sym (get-with_slot k (inside slot) (held old.entries) q ∙ ap (cond (eq_by_cmp nat_cmp q k) (inside slot)) (get-held old.entries q)))

  back_at : (m : RecordMap R) (k q : ℕ) (slot : Option R) (b : Bool) → eq_by_cmp nat_cmp q k ≡ b → cond b (map.get m k) (cond b slot (map.get m q)) ≡ map.get m q
  back_at m k q slot true e = ap (map.get m) (sym (tied k q e))
  back_at m k q slot false e = refl

  -- what was in the slot, put back
  pub with_slot-back : (k : ℕ) (slot : Option R) (m : RecordMap R) → with_slot k (map.get m k) (with_slot k slot m) ≡ m
  with_slot-back k slot m = same _ _ (λ q.
      get-with_slot k (map.get m k) (with_slot k slot m) q ∙ ap (cond (eq_by_cmp nat_cmp q k) (map.get m k)) (get-with_slot k slot m q)
      ∙ back_at m k q slot (eq_by_cmp nat_cmp q k) refl)

  -- a change that was noted leaves what the changes lead back to
  pub rewound-noted : (old new : BTreeMap ℕ (Option R)) (changes : List (ℕ × Option (Option R))) (k : ℕ) (slot : Option R)
      → held new.entries ≡ with_slot k slot (held old.entries)
      → rewound (reverse (changes ++ (k, tree.get nat_cmp old k) ∷ [])) (held new.entries) ≡ rewound (reverse changes) (held old.entries)
  rewound-noted old new changes k slot is =
      let back : with_slot k (inside (tree.get nat_cmp old k)) (held new.entries) ≡ held old.entries =
      rw (is, ← get-held old.entries k) (with_slot-back k slot (held old.entries)) in
      rw (reverse-push changes (k, tree.get nat_cmp old k)) (ap (rewound (reverse changes)) back)

  same_slots : (f g : ℕ → Bool) (changes : List (ℕ × Option (Option R))) → ((q : ℕ) → f q ≡ g q) → Rewinds f changes → Rewinds g changes
  same_slots f g changes is h = let e : f ≡ g = λ i q. is q i in subst (λ (has : ℕ → Bool). Rewinds has changes) e h

  -- an empty slot that is taken away
  empty_at : (m : RecordMap R) (k q : ℕ) (b : Bool) → eq_by_cmp nat_cmp q k ≡ b → map.get m k ≡ None → cond b None (map.get m q) ≡ map.get m q
  empty_at m k q true e none = sym (ap (map.get m) (tied k q e) ∙ none)
  empty_at m k q false e none = refl

  pub with_slot-none : (k : ℕ) (m : RecordMap R) → map.get m k ≡ None → with_slot k None m ≡ m
  with_slot-none k m none = same _ _ (λ q. get-with_slot k None m q ∙ empty_at m k q (eq_by_cmp nat_cmp q k) refl none)

  pub held-cleared : (old new : BTreeMap ℕ (Option R)) (k : ℕ) → ((q : ℕ) → tree.get nat_cmp new q ≡ cond (is_at (nat_cmp k) q) None (tree.get nat_cmp old q))
      → tree.get nat_cmp old k ≡ Some None → held new.entries ≡ held old.entries
  held-cleared old new k updates empty =
      held-updated old new k None updates ∙ with_slot-none k (held old.entries) (get-held old.entries k ∙ ap inside empty)

  -- ---- which slots stand

  before_at : (old : BTreeMap ℕ (Option R)) (k q : ℕ) (slot : Option R) (b : Bool) → eqb q k ≡ b → has_slot old q ≡ cond b (has_slot old k) (is_some (cond b (Some slot) (tree.get nat_cmp old q)))
  before_at old k q slot true e = ap (has_slot old) (eqb-true q k e)
  before_at old k q slot false e = refl

  pub Rewinds-noted : (old new : BTreeMap ℕ (Option R)) (changes : List (ℕ × Option (Option R))) (k : ℕ) (slot : Option R)
      → ((q : ℕ) → tree.get nat_cmp new q ≡ cond (is_at (nat_cmp k) q) (Some slot) (tree.get nat_cmp old q))
      → Rewinds (has_slot old) (reverse changes) → Rewinds (has_slot new) (reverse (changes ++ (k, tree.get nat_cmp old k) ∷ []))
  Rewinds-noted old new changes k slot updates h =
      let stands : has_slot new k ≡ true = ap is_some (updates k) ∙ ap (λ (b : Bool). is_some (cond b (Some slot) (tree.get nat_cmp old k))) ((eq_by_cmp_equiv nat_cmp_total).refl k) in
      let others : (q : ℕ) → has_slot old q ≡ cond (eqb q k) (has_slot old k) (has_slot new q) =
      λ q. before_at old k q slot (eqb q k) refl
      ∙ ap (λ (b : Bool). cond (eqb q k) (has_slot old k) (is_some (cond b (Some slot) (tree.get nat_cmp old q)))) (sym (is_at-eqb k q))
      ∙ ap (λ (o : Option (Option R)). cond (eqb q k) (has_slot old k) (is_some o)) (sym (updates q)) in
      rw (reverse-push changes (k, tree.get nat_cmp old k)) (λ _. stands, same_slots (has_slot old) (λ q. cond (eqb q k) (has_slot old k) (has_slot new q)) (reverse changes) others h)

  -- ---- the newest change, taken off the end

  pub Rewinds-pop : (has : ℕ → Bool) (all left : List (ℕ × Option (Option R))) (k : ℕ) (before : Option (Option R)) → all ≡ left ++ (k, before) ∷ [] → Rewinds has (reverse all)
      → (is_some before ≡ true → has k ≡ true) × Rewinds (λ q. cond (eqb q k) (is_some before) (has q)) (reverse left)
  Rewinds-pop has all left k before is h = subst (Rewinds has) (ap reverse is ∙ reverse-push left (k, before)) h

-- What the numbers of steps and the index of paths keep, from change to change.
use Rattle.std.proofs.Common.{◌≡◌, ℕ, ◌+◌, Bool, true, false, cond, eqb, ◌&&◌, ◌⊎◌, inl, inr, List, Option, Some, None, Result, Ok, Err, refl, sym, ap, ◌∙◌, subst, arith, String, rules}
use Rattle.std.specs.Prelude.{option_and_then, OnErr}
use Rattle.std.specs.Ordering.{nat_cmp, is_eq, ordering_then}
use Rattle.std.specs.BTreeMap.{BTreeMap, get, get_by_text, is_at, btree_map_len}
use Rattle.std.specs.Map.{update}
use Rattle.std.specs.Str.{bytes_eq}
use Rattle.std.specs.declared.alloc.Global.{Global}
use Rattle.std.specs.declared.cmp.Ordering.{Ordering}
use Rattle.std.specs.declared.cmp.Ordering.TheVariants.{Less, Equal, Greater}
use Rattle.std.proofs.lemmas.Bool.{eqb-true}
use Rattle.std.proofs.lemmas.Grind.{common_steps}
use Rattle.std.proofs.lemmas.Slice.Eq.{bytes_eq-Decides}
use Rattle.sx_tree.specs.declared.record.Step.{Step}
use Rattle.sx_tree.specs.declared.record.Step.TheVariants.{Top, Item, Name}
use Rattle.sx_model.specs.Paths.{same_step}
use Rattle.sx_paths.specs.declared.index.Index.{Index}
use Rattle.sx_paths.specs.Words.{word_of, AreNumbered, pair_cmp, number_by, IsIndex, given_at}

eqb-refl : (n : ℕ) → eqb n n ≡ true
eqb-refl n = search rules

some_is : (a b : ℕ) → Some a ≡ Some b → a ≡ b
some_is a b e = cc

none_is : (a : ℕ) → None ≡ Some a → ⊥
none_is a e = cc

-- ---- steps

pub same_step-same : (a b : Step) → same_step a b ≡ true → a ≡ b
same_step-same Top Top e = refl
same_step-same Top Item e = absurd cc
same_step-same Top (Name n) e = absurd cc
same_step-same Item Top e = absurd cc
same_step-same Item Item e = refl
same_step-same Item (Name n) e = absurd cc
same_step-same (Name m) Top e = absurd cc
same_step-same (Name m) Item e = absurd cc
same_step-same (Name m) (Name n) e = ap Name ((bytes_eq-Decides m n).0 e)

pub same_step-refl : (a : Step) → same_step a a ≡ true
same_step-refl Top = refl
same_step-refl Item = refl
same_step-refl (Name n) = (bytes_eq-Decides n n).1 refl

pub same_step-equal : (a b : Step) → a ≡ b → same_step a b ≡ true
same_step-equal a b e = subst (λ x. same_step a x ≡ true) e (same_step-refl a)

-- ---- names

same_or_not : (a b : List ℕ) → ((bytes_eq a b ≡ true) × (a ≡ b)) ⊎ ((bytes_eq a b ≡ false) × (a ≡ b → ⊥))
same_or_not a b = let d = bytes_eq-Decides a b in by_test (bytes_eq a b) d
  where
    by_test : (r : Bool) → (r ≡ true → a ≡ b) × (a ≡ b → r ≡ true) → ((r ≡ true) × (a ≡ b)) ⊎ ((r ≡ false) × (a ≡ b → ⊥))
    by_test true d = inl (refl, d.0 refl)
    by_test false d = inr (refl, λ e. let f : false ≡ true = d.1 e in cc)

module _ (old new : BTreeMap (String Global) ℕ) (name : List ℕ) (word : ℕ) (none : get_by_text old name ≡ None)
    (updates : (q : List ℕ) → get_by_text new q ≡ update bytes_eq (get_by_text old) name (Some word) q) where
  -- what a name is after the change: the new one, or one that had its number
  got : (q : List ℕ) (w : ℕ) → get_by_text new q ≡ Some w → ((name ≡ q) × (word ≡ w)) ⊎ (get_by_text old q ≡ Some w)
  got q w e = elim (same_or_not name q) [
    | inl same ↦ inl (same.1, some_is word w (sym (updates q ∙ rw same.0 refl) ∙ e))
    | inr apart ↦ inr (sym (updates q ∙ rw apart.0 refl) ∙ e)
  ]

  pub names_kept : (other : List ℕ) (w : ℕ) → get_by_text old other ≡ Some w → get_by_text new other ≡ Some w
  names_kept other w e = elim (same_or_not name other) as (λ _. get_by_text new other ≡ Some w) [
    | inl same ↦ absurd (none_is w (sym none ∙ ap (get_by_text old) same.1 ∙ e))
    | inr apart ↦ updates other ∙ rw apart.0 e
  ]

  pub AreNumbered-learned : AreNumbered old → word ≡ btree_map_len old + 2 → btree_map_len new ≡ btree_map_len old + 1 → AreNumbered new
  AreNumbered-learned were word_is len = (
    λ q w e. elim (got q w e) [
      | inl same ↦ (omega (arith, same.1), omega (arith, same.1))
      | inr there ↦ let within = were.0 q w there in (within.0, omega (arith, within.1))
    ],
    λ q r w e f. elim (got q w e) as (λ _. q ≡ r) [
      | inl one ↦ elim (got r w f) as (λ _. q ≡ r) [
        | inl two ↦ sym one.0 ∙ two.0
        | inr there ↦ absurd (omega (arith, one.1, (were.0 r w there).1))
      ]
      | inr there ↦ elim (got r w f) as (λ _. q ≡ r) [
        | inl two ↦ absurd (omega (arith, two.1, (were.0 q w there).1))
        | inr also ↦ were.1 q r w there also
      ]
    ],
  )

-- no two steps have one number
pub words_apart : (names : BTreeMap (String Global) ℕ) → AreNumbered names → (s t : Step) (w : ℕ) → word_of names s ≡ Some w → word_of names t ≡ Some w → s ≡ t
words_apart names are Top Top w e f = refl
words_apart names are Top Item w e f = absurd (omega (arith, some_is 0 w e, some_is 1 w f))
words_apart names are Top (Name n) w e f = absurd (omega (arith, some_is 0 w e, (are.0 n w f).0))
words_apart names are Item Top w e f = absurd (omega (arith, some_is 1 w e, some_is 0 w f))
words_apart names are Item Item w e f = refl
words_apart names are Item (Name n) w e f = absurd (omega (arith, some_is 1 w e, (are.0 n w f).0))
words_apart names are (Name m) Top w e f = absurd (omega (arith, some_is 0 w f, (are.0 m w e).0))
words_apart names are (Name m) Item w e f = absurd (omega (arith, some_is 1 w f, (are.0 m w e).0))
words_apart names are (Name m) (Name n) w e f = ap Name (are.1 m n w e f)

-- ---- the index

is_eq-then : (x y : Ordering) → is_eq (ordering_then x y) ≡ is_eq x && is_eq y
is_eq-then Less y = refl
is_eq-then Equal y = refl
is_eq-then Greater y = refl

is_eq-nat_cmp : (k q : ℕ) → is_eq (nat_cmp k q) ≡ eqb k q
is_eq-nat_cmp k q = grind (arith, common_steps)

is_at-pair : (a b : ℕ × ℕ) → is_at (pair_cmp a) b ≡ eqb a.0 b.0 && eqb a.1 b.1
is_at-pair a b = is_eq-then (nat_cmp a.0 b.0) (nat_cmp a.1 b.1) ∙ ap (λ x. x && is_eq (nat_cmp a.1 b.1)) (is_eq-nat_cmp a.0 b.0) ∙ ap (λ x. eqb a.0 b.0 && x) (is_eq-nat_cmp a.1 b.1)

same_bool : (a b : Bool) → (a ≡ true → b ≡ true) → (b ≡ true → a ≡ true) → a ≡ b
same_bool true b f g = sym (f refl)
same_bool false true f g = g refl
same_bool false false f g = refl

and_right : (a b : Bool) → (a && b) ≡ true → b ≡ true
and_right true b e = e
and_right false b e = absurd cc

module _ (old new : Index) (is : IsIndex old) (numbered : AreNumbered new.words.names)
    (kept : (s : Step) (w : ℕ) → word_of old.words.names s ≡ Some w → word_of new.words.names s ≡ Some w) where
  -- No path stands under a number that a step has only now.
  fresh : (p w : ℕ) (s : Step) (found : Option ℕ) → word_of old.words.names s ≡ None → word_of new.words.names s ≡ Some w → get pair_cmp old.numbers (p, w) ≡ found → found ≡ None
  fresh p w s None none e f = refl
  fresh p w s (Some number) none e f =
      let there = is.met p w number f in
      let same : there.0 ≡ s = words_apart new.words.names numbered there.0 s w (kept there.0 w there.1) e in
      absurd (none_is w (sym none ∙ ap (word_of old.words.names) (sym same) ∙ there.1))

  learned_at : (p : ℕ) (s : Step) (was now : Option ℕ) → word_of old.words.names s ≡ was → word_of new.words.names s ≡ now
      → option_and_then (λ w. get pair_cmp old.numbers (p, w)) now ≡ option_and_then (λ w. get pair_cmp old.numbers (p, w)) was
  learned_at p s None None e f = refl
  learned_at p s None (Some w) e f = fresh p w s (get pair_cmp old.numbers (p, w)) e f refl
  learned_at p s (Some w) now e f = ap (option_and_then (λ w. get pair_cmp old.numbers (p, w))) (sym f ∙ kept s w e)

  -- more steps alone change nothing
  pub learned : (p : ℕ) (s : Step) → option_and_then (λ w. get pair_cmp old.numbers (p, w)) (word_of new.words.names s) ≡ number_by old p s
  learned p s = learned_at p s (word_of old.words.names s) (word_of new.words.names s) refl refl

  -- the index with another number at one path, or none
  module _ (parent : ℕ) (step : Step) (word : ℕ) (number : Option ℕ) (word_is : word_of new.words.names step ≡ Some word)
      (updates : (q : ℕ × ℕ) → get pair_cmp new.numbers q ≡ cond (is_at (pair_cmp (parent, word)) q) number (get pair_cmp old.numbers q)) where
    same_word : (s : Step) (w : ℕ) → word_of new.words.names s ≡ Some w → eqb word w ≡ same_step step s
    same_word s w e =
        same_bool (eqb word w) (same_step step s)
        (λ h. same_step-equal step s (words_apart new.words.names numbered step s w (word_is ∙ ap Some (eqb-true word w h)) e))
        (λ h. let same : word ≡ w = some_is word w (sym word_is ∙ ap (word_of new.words.names) (same_step-same step s h) ∙ e) in subst (λ v. eqb word v ≡ true) same (eqb-refl word))

    unmet : (s : Step) → word_of new.words.names s ≡ None → same_step step s ≡ false
    unmet s e = by_test (same_step step s) refl
      where
        by_test : (b : Bool) → same_step step s ≡ b → b ≡ false
        by_test true h = absurd (none_is word (sym e ∙ ap (word_of new.words.names) (sym (same_step-same step s h)) ∙ word_is))
        by_test false h = refl

    and_false : (b : Bool) → (b && false) ≡ false
    and_false true = refl
    and_false false = refl

    updated_at : (p : ℕ) (s : Step) (now : Option ℕ) → word_of new.words.names s ≡ now
        → option_and_then (λ w. get pair_cmp new.numbers (p, w)) now ≡ cond (eqb parent p && same_step step s) number (option_and_then (λ w. get pair_cmp old.numbers (p, w)) now)
    updated_at p s None e = rw (unmet s e, and_false (eqb parent p)) refl
    updated_at p s (Some w) e = updates (p, w) ∙ rw (is_at-pair (parent, word) (p, w), same_word s w e) refl

    pub updated : (p : ℕ) (s : Step) → number_by new p s ≡ given_at parent step number (number_by old) p s
    updated p s = updated_at p s (word_of new.words.names s) refl ∙ ap (cond (eqb parent p && same_step step s) number) (learned p s)

    met_at : (p w n : ℕ) (b : Bool) → (eqb parent p && eqb word w) ≡ b → cond b number (get pair_cmp old.numbers (p, w)) ≡ Some n → (s : Step) × (word_of new.words.names s ≡ Some w)
    met_at p w n true e f = (step, word_is ∙ ap Some (eqb-true word w (and_right (eqb parent p) (eqb word w) e)))
    met_at p w n false e f = let there = is.met p w n f in (there.0, kept there.0 w there.1)

    pub IsIndex-updated : IsIndex new
    IsIndex-updated = record {
      numbered = numbered;
      met = λ p w n e. met_at p w n (eqb parent p && eqb word w) refl (sym (updates (p, w) ∙ ap (λ (b : Bool). cond b number (get pair_cmp old.numbers (p, w))) (is_at-pair (parent, word) (p, w))) ∙ e);
    }

pub on_err : {A E : Type 0} (r : Result A E) (P : Type 0) → P → OnErr r P
on_err (Ok x) P p = tt
on_err (Err e) P p = p

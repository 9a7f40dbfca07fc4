-- What an index of names keeps, from name to name.
use Rattle.std.proofs.Common.{◌≡◌, ℕ, zero, suc, ◌⊎◌, inl, inr, List, [], ◌∷◌, ◌++◌, refl, ap, sym, ◌∙◌, subst, length, Bool, cond, true, false, Option, None, Some, IfNone, IfSome, Contains, slice_get, take, ◌<◌, arith}
use Rattle.std.proofs.lemmas.Option.{slice_get_within, get_or_from_slice_get, slice_get-get_or}
use Rattle.std.proofs.lemmas.Slice.Eq.{bytes_eq-Decides}
use Rattle.std.specs.BTreeMap.{BTreeMap}
use Rattle.std.specs.Str.{bytes_eq}
use Rattle.sx_tree.specs.Names.{AreDistinct, AreIndexed, place_in}

pub slice_get-Contains : (names : List (List ℕ)) (name : List ℕ) → Contains names name → (i : ℕ) × (slice_get names i ≡ Some name)
slice_get-Contains names name has = (has.0, slice_get-get_or names has.0 name has.1 ∙ ap Some has.2)

pub Contains-slice_get : (names : List (List ℕ)) (name : List ℕ) (i : ℕ) → slice_get names i ≡ Some name → Contains names name
Contains-slice_get names name i e = (i, slice_get_within names i name e, get_or_from_slice_get names i name name e)

-- what is entered where a name is new is entered
pub entered_new : {P : Type 0} (names : List (List ℕ)) (name : List ℕ) (found : Option ℕ) → (Contains names name → ⊥)
    → IfSome found (λ place. slice_get names place ≡ Some name) → IfNone found P → P
entered_new names name None new there entered = entered
entered_new names name (Some place) new there entered = absurd (new (Contains-slice_get names name place there))

-- a name that an index has no place of is none of the names
pub absent_new : (names : List (List ℕ)) (places : BTreeMap (List ℕ) ℕ) (name : List ℕ) → AreIndexed names places → place_in places name ≡ None → Contains names name → ⊥
absent_new names places name ix absent has =
    let there = slice_get-Contains names name has in
    let found : Some there.0 ≡ None = sym (ix.1 name there.0 there.1) ∙ absent in
    cc

slice_get-take : (names : List (List ℕ)) (place i : ℕ) (name : List ℕ) → slice_get (take place names) i ≡ Some name → (slice_get names i ≡ Some name) × (i < place)
slice_get-take [] zero i name e = absurd (cc)
slice_get-take (first ∷ names) zero i name e = absurd (cc)
slice_get-take [] (suc place) i name e = absurd (cc)
slice_get-take (first ∷ names) (suc place) zero name e = (e, omega arith)
slice_get-take (first ∷ names) (suc place) (suc i) name e = let r = slice_get-take names place i name e in (r.0, omega (arith, r.1))

-- of names of which no two are equal, none stands before itself
pub comes_behind : (names : List (List ℕ)) (place : ℕ) (name : List ℕ) → AreDistinct names → slice_get names place ≡ Some name → Contains (take place names) name → ⊥
comes_behind names place name distinct there has =
    let before = slice_get-Contains (take place names) name has in
    let earlier = slice_get-take names place before.0 name before.1 in
    let same : before.0 ≡ place = distinct before.0 place name earlier.0 there in
    omega (arith, earlier.1, same)

pub slice_get-push : (names : List (List ℕ)) (new name : List ℕ) (i : ℕ) → slice_get (names ++ new ∷ []) i ≡ Some name → (slice_get names i ≡ Some name) ⊎ ((i ≡ length names) × (new ≡ name))
slice_get-push [] new name zero e = inr (refl, cc)
slice_get-push [] new name (suc i) e = absurd (cc)
slice_get-push (first ∷ names) new name zero e = inl e
slice_get-push (first ∷ names) new name (suc i) e =
    elim (slice_get-push names new name i e) [ inl old ↦ inl old | inr last ↦ inr (ap suc last.0, last.1) ]

slice_get_kept : (names : List (List ℕ)) (new name : List ℕ) (i : ℕ) → slice_get names i ≡ Some name → slice_get (names ++ new ∷ []) i ≡ Some name
slice_get_kept [] new name i e = absurd (cc)
slice_get_kept (first ∷ names) new name zero e = e
slice_get_kept (first ∷ names) new name (suc i) e = slice_get_kept names new name i e

slice_get_last : (names : List (List ℕ)) (new : List ℕ) → slice_get (names ++ new ∷ []) (length names) ≡ Some new
slice_get_last [] new = refl
slice_get_last (first ∷ names) new = slice_get_last names new

same_or_not : (a b : List ℕ) → ((bytes_eq a b ≡ true) × (a ≡ b)) ⊎ ((bytes_eq a b ≡ false) × (a ≡ b → ⊥))
same_or_not a b = let d = bytes_eq-Decides a b in by_test (bytes_eq a b) d
  where
    by_test : (r : Bool) → (r ≡ true → a ≡ b) × (a ≡ b → r ≡ true) → ((r ≡ true) × (a ≡ b)) ⊎ ((r ≡ false) × (a ≡ b → ⊥))
    by_test true d = inl (refl, d.0 refl)
    by_test false d = inr (refl, λ e. let f : false ≡ true = d.1 e in cc)

pub AreIndexed-push : (names : List (List ℕ)) (old new : BTreeMap (List ℕ) ℕ) (name : List ℕ) → AreIndexed names old → (Contains names name → ⊥)
    → ((q : List ℕ) → place_in new q ≡ cond (bytes_eq name q) (Some (length names)) (place_in old q)) → AreIndexed (names ++ name ∷ []) new
AreIndexed-push names old new name ix other updates = (
  λ q i e. elim (same_or_not name q) as (λ _. slice_get (names ++ name ∷ []) i ≡ Some q) [
    | inl same ↦
        let f : Some (length names) ≡ Some i = sym (updates q ∙ rw same.0 refl) ∙ e in
        let at_end : length names ≡ i = cc in
        subst (λ k. slice_get (names ++ name ∷ []) k ≡ Some q) at_end (slice_get_last names name ∙ ap Some same.1)
    | inr apart ↦
        let f : place_in old q ≡ Some i = sym (updates q ∙ rw apart.0 refl) ∙ e in
        slice_get_kept names name q i (ix.0 q i f)
  ],
  λ q i e. elim (slice_get-push names name q i e) as (λ _. place_in new q ≡ Some i) [
    | inl there ↦ elim (same_or_not name q) as (λ _. place_in new q ≡ Some i) [
      | inl same ↦ absurd (other (Contains-slice_get names name i (there ∙ ap Some (sym same.1))))
      | inr apart ↦ updates q ∙ rw apart.0 (ix.1 q i there)
    ]
    | inr last ↦ elim (same_or_not name q) as (λ _. place_in new q ≡ Some i) [
      | inl same ↦ updates q ∙ rw same.0 (ap Some (sym last.0))
      | inr apart ↦ absurd (apart.1 last.1)
    ]
  ],
)

-- What names that ascend keep, from name to name, and what a search among them finds.
use Rattle.std.proofs.Common.{◌≡◌, ℕ, zero, suc, ◌≤◌, ◌<◌, ◌-◌, ◌⊎◌, inl, inr, List, [], ◌∷◌, ◌++◌, ap, sym, ◌∙◌, refl, subst, true, length, None, Some, Contains, get_or, slice_get, arith, Ordering, Less, Equal, Greater}
use Rattle.std.specs.Cmp.Lexicographic.{slice_cmp, texts_ties}
use Rattle.std.specs.List.Sorted.{IsNonDecreasingBy, IsPartitionPoint}
use Rattle.std.specs.Ordering.{is_eq, is_lt, nat_cmp, ordering_index}
use Rattle.std.proofs.lemmas.Cmp.{alike_right, nat_list_cmp_total, tied_itself}
use Rattle.std.proofs.lemmas.Option.{get_or_from_slice_get, slice_get_within, slice_get-get_or}
use Rattle.std.proofs.lemmas.Slice.Eq.{bytes_eq-Decides}
use Rattle.sx_tree.specs.Names.{AreAscending, AreBefore}
use Rattle.sx_tree.proofs.NameLists.{slice_get-Contains, slice_get-push}

before_or_at : (i j : ℕ) → i ≤ j → (i < j) ⊎ (i ≡ j)
before_or_at i zero le = inr (omega (arith, le))
before_or_at zero (suc j) le = inl (omega arith)
before_or_at (suc i) (suc j) le = elim (before_or_at i j (omega (arith, le))) [ inl lt ↦ inl (omega (arith, lt)) | inr same ↦ inr (ap suc same) ]

pub none_before : (names : List (List ℕ)) (name : List ℕ) → slice_get names (length names - 1) ≡ None → AreBefore names name
none_before names name none i a e =
    let within = slice_get_within names i a e in
    let there = slice_get-get_or names (length names - 1) a (omega (arith, within)) in
    let both : Some (get_or names (length names - 1) a) ≡ None = sym there ∙ none in
    absurd (cc)

-- where the last of them comes before a name, each of them does
pub all_before : (names : List (List ℕ)) (last name : List ℕ) → slice_get names (length names - 1) ≡ Some last → slice_cmp nat_cmp last name ≡ Less → AreAscending names → AreBefore names name
all_before names last name at_end less ascending i a e =
    let within = slice_get_within names i a e in
    elim (before_or_at i (length names - 1) (omega (arith, within))) as (λ _. slice_cmp nat_cmp a name ≡ Less) [
      | inl lt ↦ nat_list_cmp_total.trans a last name (ascending i (length names - 1) a last lt e at_end) less
      | inr same ↦
          let both : Some a ≡ Some last = sym e ∙ ap (slice_get names) same ∙ at_end in
          let last_one : last ≡ a = cc in
          subst (λ x. slice_cmp nat_cmp x name ≡ Less) last_one less
    ]

pub less_of : (o : Ordering) → is_lt o ≡ true → o ≡ Less
less_of Less e = refl
less_of Equal e = absurd (cc)
less_of Greater e = absurd (cc)

apart : (a b : List ℕ) → slice_cmp nat_cmp a b ≡ Less → a ≡ b → ⊥
apart a b less same =
    let e : Less ≡ Equal = sym less ∙ ap (slice_cmp nat_cmp a) (sym same) ∙ tied_itself nat_list_cmp_total a in
    cc

-- a name behind all of them is none of them
pub before_new : (names : List (List ℕ)) (name : List ℕ) → AreBefore names name → Contains names name → ⊥
before_new names name before has = let there = slice_get-Contains names name has in apart name name (before there.0 name there.1) (λ _. name)

-- and they ascend with it
pub before_push : (names : List (List ℕ)) (name : List ℕ) → AreAscending names → AreBefore names name → AreAscending (names ++ name ∷ [])
before_push names name ascending before i j a b lt at_i at_j = elim (slice_get-push names name b j at_j) as (λ _. slice_cmp nat_cmp a b ≡ Less) [
  | inl there ↦ elim (slice_get-push names name a i at_i) as (λ _. slice_cmp nat_cmp a b ≡ Less) [
    | inl first ↦ ascending i j a b lt first there
    | inr last ↦ absurd (omega (arith, lt, last.0, slice_get_within names j b there))
  ]
  | inr new ↦ elim (slice_get-push names name a i at_i) as (λ _. slice_cmp nat_cmp a b ≡ Less) [
    | inl first ↦ subst (λ x. slice_cmp nat_cmp a x ≡ Less) new.1 (before i a first)
    | inr last ↦ absurd (omega (arith, lt, last.0, new.0))
  ]
]

at_most_two : (o : Ordering) → ordering_index o ≤ 2
at_most_two Less = omega arith
at_most_two Equal = omega arith
at_most_two Greater = omega arith

rises : (a b name : List ℕ) → slice_cmp nat_cmp a b ≡ Less → ordering_index (slice_cmp nat_cmp a name) ≤ ordering_index (slice_cmp nat_cmp b name)
rises a b name less = by (slice_cmp nat_cmp b name) (λ _. slice_cmp nat_cmp b name)
  where
    by : (o : Ordering) → slice_cmp nat_cmp b name ≡ o → ordering_index (slice_cmp nat_cmp a name) ≤ ordering_index o
    by Less e = rw (nat_list_cmp_total.trans a b name less e) (omega arith)
    by Equal e = rw (sym (alike_right nat_list_cmp_total b name a e) ∙ less) (omega arith)
    by Greater e = at_most_two (slice_cmp nat_cmp a name)

rising : (names : List (List ℕ)) (name : List ℕ) → AreAscending names → IsNonDecreasingBy (λ y. ordering_index (slice_cmp nat_cmp y name)) names
rising names name ascending i j d le within = elim (before_or_at i j le) as (λ _. ordering_index (slice_cmp nat_cmp (get_or names i d) name) ≤ ordering_index (slice_cmp nat_cmp (get_or names j d) name)) [
  | inl lt ↦ rises _ _ name (ascending i j _ _ lt (slice_get-get_or names i d (omega (arith, lt, within))) (slice_get-get_or names j d within))
  | inr same ↦ rw same (omega arith)
]

-- what a search found
pub is_found : (names : List (List ℕ)) (name : List ℕ) (place : ℕ) → place < length names → slice_cmp nat_cmp (get_or names place name) name ≡ Equal → slice_get names place ≡ Some name
is_found names name place within tie =
    let same = (bytes_eq-Decides (get_or names place name) name).0 (texts_ties (get_or names place name) name ∙ ap is_eq tie) in
    slice_get-get_or names place name within ∙ ap Some same

-- and that it found nothing
pub not_found : (names : List (List ℕ)) (name : List ℕ) (place : ℕ) → AreAscending names
    → (IsNonDecreasingBy (λ y. ordering_index (slice_cmp nat_cmp y name)) names → IsPartitionPoint (λ y. slice_cmp nat_cmp y name ≡ Less) (λ y. slice_cmp nat_cmp y name ≡ Greater) names place)
    → Contains names name → ⊥
not_found names name place ascending parted has =
    let there = slice_get-Contains names name has in
    let within = slice_get_within names there.0 name there.1 in
    let read = get_or_from_slice_get names there.0 name name there.1 in
    let tie : slice_cmp nat_cmp (get_or names there.0 name) name ≡ Equal = rw read (tied_itself nat_list_cmp_total name) in
    let parts = parted (rising names name ascending) in
    grind (arith, tie, within, parts.0 there.0 name, parts.1 there.0 name)

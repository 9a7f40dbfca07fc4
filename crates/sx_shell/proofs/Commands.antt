-- Commands, as they are read.
use Rattle.std.proofs.Common.{◌≡◌, ◌≢◌, ◌∙◌, ℕ, suc, ◌+◌, ◌*◌, ◌-◌, ◌%◌, ◌<◌, ◌≤◌, ◌^◌, ◌&&◌, inl, inr, nat_le, Bool, true, false, cond, List, [], ◌∷◌, ◌++◌, length, codes, take, drop, get_or, slice_get, Option, None, Some, option_map, unwrap_or, IfSome, IfNone, Bor, refl, ap, sym, subst, arith}
use Rattle.std.specs.Fmt.{decimal}
use Rattle.std.specs.Str.{bytes_eq}
use Rattle.std.proofs.lemmas.Bool.{false≢true}
use Rattle.std.proofs.lemmas.Bool.Decides.{leb_tells}
use Rattle.std.proofs.lemmas.Fmt.{decimal_by_steps}
use Rattle.std.proofs.lemmas.List.Sums.{fold-append}
use Rattle.std.proofs.lemmas.Option.{unwrap_or-slice_get}
use Rattle.std.proofs.lemmas.Slice.Eq.{bytes_eq-Decides}
use Rattle.sx_shell.specs.Plain.{place_of_option}
use Rattle.sx_shell.specs.Words.{can_create, create_words, digits_value, is_option, live_words, number_of, plain_words}
use Rattle.sx_shell.specs.declared.command.Wanted.TheVariants.{Live, Create}

-- ---- numbers

pub value-decimal : (n : ℕ) → n < 2 ^ 64 → digits_value (decimal n) ≡ n
value-decimal n below =
    decimal_by_steps (λ k digits. digits_value digits ≡ k)
    (λ k small. omega arith)
    (λ k digits large is. fold-append (λ (value digit : ℕ). 10 * value + (digit - 48)) 0 digits ((48 + k % 10) ∷ []) ∙ (omega (arith, is)))
    n below

-- the number that these are the digits of
pub number_is : (n : ℕ) (digits : List ℕ) → n < 2 ^ 32 → digits ≡ decimal n → number_of digits ≡ Some n
number_is n digits below is =
    let value : digits_value digits ≡ n = ap digits_value is ∙ value-decimal n (omega arith) in
    let small : nat_le (digits_value digits) 4294967295 ≡ true = elim (leb_tells (digits_value digits) 4294967295) [ inl lt ↦ lt.0 | inr over ↦ absurd (omega (arith, over.1, value, below)) ] in
    let same : bytes_eq digits (decimal (digits_value digits)) ≡ true = (bytes_eq-Decides digits (decimal (digits_value digits))).1 (is ∙ ap decimal (sym value)) in
    ap (λ (t : Bool). cond (t && bytes_eq digits (decimal (digits_value digits))) (Some (digits_value digits)) None) small
    ∙ ap (λ (t : Bool). cond t (Some (digits_value digits)) None) same ∙ ap (λ (v : ℕ). Some v) value

-- there is none
pub number_none : (digits : List ℕ) → ((n : ℕ) → n < 2 ^ 32 → digits ≡ decimal n → ⊥) → number_of digits ≡ None
number_none digits none =
    elim (leb_tells (digits_value digits) 4294967295) [
      | inl lt ↦ by (bytes_eq digits (decimal (digits_value digits))) refl lt.0 (omega (arith, lt.1))
      | inr over ↦ ap (λ (t : Bool). cond (t && bytes_eq digits (decimal (digits_value digits))) (Some (digits_value digits)) None) over.0
    ]
  where
    by : (t : Bool) → bytes_eq digits (decimal (digits_value digits)) ≡ t → nat_le (digits_value digits) 4294967295 ≡ true → digits_value digits < 2 ^ 32 → number_of digits ≡ None
    by true same small below = absurd (none (digits_value digits) below ((bytes_eq-Decides digits (decimal (digits_value digits))).0 same))
    by false other small below =
        ap (λ (t : Bool). cond (t && bytes_eq digits (decimal (digits_value digits))) (Some (digits_value digits)) None) small
        ∙ ap (λ (t : Bool). cond t (Some (digits_value digits)) None) other

-- ---- the first option

pub place_within : (words : List (List ℕ)) → place_of_option words ≤ length words
place_within [] = omega arith
place_within (word ∷ words) = by (is_option word) (place_within words)
  where
    by : (t : Bool) → place_of_option words ≤ length words → cond t 0 (suc (place_of_option words)) ≤ suc (length words)
    by true rest = omega arith
    by false rest = omega (arith, rest)

-- `--` is an option
dashes_option : (word : List ℕ) → bytes_eq word (45 ∷ 45 ∷ []) ≡ true → is_option word ≡ true
dashes_option word same = subst (λ (w : List ℕ). is_option w ≡ true) (sym ((bytes_eq-Decides word (45 ∷ 45 ∷ [])).0 same)) refl

not_dashes : (word : List ℕ) → is_option word ≡ false → bytes_eq word (45 ∷ 45 ∷ []) ≡ false
not_dashes word none = by (bytes_eq word (45 ∷ 45 ∷ [])) refl
  where
    by : (t : Bool) → bytes_eq word (45 ∷ 45 ∷ []) ≡ t → bytes_eq word (45 ∷ 45 ∷ []) ≡ false
    by true same = absurd (false≢true (sym none ∙ dashes_option word same))
    by false other = other

-- what stands from the first option on
abbrev pub Behind : List (List ℕ) → List (List ℕ) → Option (List (List ℕ)) → Type 0
Behind front [] found = found ≡ Some (front ++ [])
Behind front (word ∷ back) found = found ≡ cond (bytes_eq word (45 ∷ 45 ∷ [])) (Some (front ++ back)) None

behind_one : (word : List ℕ) (front rest : List (List ℕ)) (found : Option (List (List ℕ))) → Behind front rest found → Behind (word ∷ front) rest (option_map (λ (more : List (List ℕ)). word ∷ more) found)
behind_one word front [] found is = ap (λ (f : Option (List (List ℕ))). option_map (λ (more : List (List ℕ)). word ∷ more) f) is
behind_one word front (next ∷ back) found is = by (bytes_eq next (45 ∷ 45 ∷ [])) is
  where
    by : (t : Bool) → found ≡ cond t (Some (front ++ back)) None → option_map (λ (more : List (List ℕ)). word ∷ more) found ≡ cond t (Some (word ∷ (front ++ back))) None
    by true is = ap (λ (f : Option (List (List ℕ))). option_map (λ (more : List (List ℕ)). word ∷ more) f) is
    by false is = ap (λ (f : Option (List (List ℕ))). option_map (λ (more : List (List ℕ)). word ∷ more) f) is

pub plain_found : (words : List (List ℕ)) → Behind (take (place_of_option words) words) (drop (place_of_option words) words) (plain_words words)
plain_found [] = refl
plain_found (word ∷ words) = by (plain_found words) (is_option word) refl
  where
    rest : Bool → Bool → Option (List (List ℕ))
    rest dashes option = cond dashes (Some words) (cond option None (option_map (λ (more : List (List ℕ)). word ∷ more) (plain_words words)))

    at : ℕ → Option (List (List ℕ)) → Type 0
    at n found = Behind (take n (word ∷ words)) (drop n (word ∷ words)) found

    by : Behind (take (place_of_option words) words) (drop (place_of_option words) words) (plain_words words) → (t : Bool) → is_option word ≡ t → Behind (take (place_of_option (word ∷ words)) (word ∷ words)) (drop (place_of_option (word ∷ words)) (word ∷ words)) (plain_words (word ∷ words))
    by found true is = subst (λ (t : Bool). at (cond t 0 (suc (place_of_option words))) (rest (bytes_eq word (45 ∷ 45 ∷ [])) t)) (sym is) refl
    by found false is =
        subst (λ (t : Bool). at (cond t 0 (suc (place_of_option words))) (rest (bytes_eq word (45 ∷ 45 ∷ [])) t)) (sym is)
        (subst (λ (t : Bool). at (suc (place_of_option words)) (rest t false)) (sym (not_dashes word is))
        (behind_one word (take (place_of_option words) words) (drop (place_of_option words) words) (plain_words words) found))

-- ---- commands

pub create_is : (words : List (List ℕ)) (file : List ℕ) → slice_get words 0 ≡ Some file → length words ≤ 4
    → can_create (get_or words 1 (49 ∷ [])) (get_or words 2 (codes "validFrom")) (get_or words 3 (codes "validTo")) ≡ true
    → create_words words ≡ Some (Create file 1 (get_or words 2 (codes "validFrom")) (get_or words 3 (codes "validTo")))
create_is [] file first few can = cc first
create_is (word ∷ more) file first few can =
    elim (leb_tells (length more) 3) [
      | inl fits ↦
          let is : word ≡ file = cc first in
          ap (λ (t : Bool). cond (t && can_create (get_or more 0 (49 ∷ [])) (get_or more 1 (codes "validFrom")) (get_or more 2 (codes "validTo"))) (Some (Create word 1 (get_or more 1 (codes "validFrom")) (get_or more 2 (codes "validTo")))) None) fits.0
          ∙ ap (λ (t : Bool). cond t (Some (Create word 1 (get_or more 1 (codes "validFrom")) (get_or more 2 (codes "validTo")))) None) can
          ∙ ap (λ (f : List ℕ). Some (Create f 1 (get_or more 1 (codes "validFrom")) (get_or more 2 (codes "validTo")))) is
      | inr over ↦ absurd (omega (arith, over.1, few))
    ]

pub create_many : (words : List (List ℕ)) → 4 < length words → create_words words ≡ None
create_many [] many = absurd (omega (arith, many))
create_many (word ∷ more) many =
    elim (leb_tells (length more) 3) [
      | inl fits ↦ absurd (omega (arith, fits.1, many))
      | inr over ↦ ap (λ (t : Bool). cond (t && can_create (get_or more 0 (49 ∷ [])) (get_or more 1 (codes "validFrom")) (get_or more 2 (codes "validTo"))) (Some (Create word 1 (get_or more 1 (codes "validFrom")) (get_or more 2 (codes "validTo")))) None) over.0
    ]

pub create_not : (words : List (List ℕ)) → can_create (get_or words 1 (49 ∷ [])) (get_or words 2 (codes "validFrom")) (get_or words 3 (codes "validTo")) ≡ false → create_words words ≡ None
create_not [] cannot = refl
create_not (word ∷ more) cannot = by (nat_le (length more) 3) refl
  where
    by : (t : Bool) → nat_le (length more) 3 ≡ t → create_words (word ∷ more) ≡ None
    by true is =
        ap (λ (t : Bool). cond (t && can_create (get_or more 0 (49 ∷ [])) (get_or more 1 (codes "validFrom")) (get_or more 2 (codes "validTo"))) (Some (Create word 1 (get_or more 1 (codes "validFrom")) (get_or more 2 (codes "validTo")))) None) is
        ∙ ap (λ (t : Bool). cond t (Some (Create word 1 (get_or more 1 (codes "validFrom")) (get_or more 2 (codes "validTo")))) None) cannot
    by false is = ap (λ (t : Bool). cond (t && can_create (get_or more 0 (49 ∷ [])) (get_or more 1 (codes "validFrom")) (get_or more 2 (codes "validTo"))) (Some (Create word 1 (get_or more 1 (codes "validFrom")) (get_or more 2 (codes "validTo")))) None) is

pub live_one : (words : List (List ℕ)) (file : List ℕ) → length words ≡ 1 → slice_get words 0 ≡ Some file → live_words words ≡ Some (Live file)
live_one [] file one first = absurd (omega (arith, one))
live_one (word ∷ []) file one first = ap (λ (f : List ℕ). Some (Live f)) (cc first)
live_one (word ∷ next ∷ more) file one first = absurd (omega (arith, one))

pub live_other : (words : List (List ℕ)) → length words ≢ 1 → live_words words ≡ None
live_other [] other = refl
live_other (word ∷ []) other = absurd (other refl)
live_other (word ∷ next ∷ more) other = refl

-- a word, or this one where there is none
pub word_or : (words : List (List ℕ)) (i : ℕ) (found : Option (Bor (List ℕ))) (default : Bor (List ℕ)) → IfSome found (λ word. slice_get words i ≡ Some word.now) → IfNone found (slice_get words i ≡ None)
    → (unwrap_or found default).now ≡ get_or words i default.now
word_or words i None default some none = ap (λ (o : Option (List ℕ)). unwrap_or o default.now) (sym none) ∙ unwrap_or-slice_get words i default.now
word_or words i (Some word) default some none = ap (λ (o : Option (List ℕ)). unwrap_or o default.now) (sym some) ∙ unwrap_or-slice_get words i default.now

-- What the reading of a number knows of the front that it has passed.
use Rattle.std.proofs.Common.{◌≡◌, ℕ, ◌+◌, ◌≤◌, ◌<◌, ◌⊎◌, inl, inr, List, [], ◌∷◌, ◌++◌, ap, sym, ◌∙◌, subst, append_assoc, length, take, drop, get_or, arith}
use Rattle.std.proofs.lemmas.Bool.{cases_lt}
use Rattle.std.proofs.lemmas.List.{take_more, append-nil, take-append-drop, take-take, take_all}
use Rattle.sx_tree.specs.Number.{IsNumber, BeginsNumber, IsLongestFront}
use Rattle.sx_tree.specs.NumberState.{Follows, LeadsTo, LeadsNowhere}
use Rattle.sx_tree.specs.declared.number.NumberState.{NumberState}
use Rattle.sx_tree.specs.declared.number.NumberState.TheVariants.{Start}
use Rattle.sx_tree.proofs.NumberStates.{FollowsStart-number, number_of, some_rest}

-- The front leads to the state: what completes a number behind it is what follows the state.
pub record Reaches (front : List ℕ) (state : NumberState) : Type 0 where
  pub to : (rest : List ℕ) → IsNumber (front ++ rest) → Follows state rest
  pub from : (rest : List ℕ) → Follows state rest → IsNumber (front ++ rest)

pub Reaches-start : Reaches [] Start
Reaches-start = record { to = λ rest n. FollowsStart-number rest n; from = λ rest h. number_of rest h }

pub Reaches-push : (front : List ℕ) (state next : NumberState) (byte : ℕ) → Reaches front state → LeadsTo state byte next → Reaches (front ++ byte ∷ []) next
Reaches-push front state next byte reaches leads = record {
  to = λ rest n. (leads rest).0 (reaches.to (byte ∷ rest) (subst IsNumber (append_assoc front (byte ∷ []) rest) n));
  from = λ rest h. subst IsNumber (sym (append_assoc front (byte ∷ []) rest)) (reaches.from (byte ∷ rest) ((leads rest).1 h));
}

pub Reaches-number : (front : List ℕ) (state : NumberState) → Reaches front state → (Follows state [] → IsNumber front) × (IsNumber front → Follows state [])
Reaches-number front state reaches =
    (λ h. subst IsNumber (append-nil front) (reaches.from [] h), λ n. reaches.to [] (subst IsNumber (sym (append-nil front)) n))

pub Reaches-begins : (front : List ℕ) (state : NumberState) → Reaches front state → BeginsNumber front
Reaches-begins front state reaches = let r = some_rest state in (r.0, reaches.from r.0 r.1)

-- A longer front of the bytes begins with the byte behind a shorter one.
longer : (bytes : List ℕ) (i n : ℕ) → i < n → n ≤ length bytes → (rest : List ℕ) → take n bytes ++ rest ≡ take i bytes ++ (get_or bytes i 0 ∷ (drop (i + 1) (take n bytes) ++ rest))
longer bytes i n lt le rest =
    let below : i < length bytes = omega arith in
    let short : take (i + 1) (take n bytes) ≡ take (i + 1) bytes = take-take (i + 1) n bytes (omega arith) in
    let parts : take n bytes ≡ take (i + 1) (take n bytes) ++ drop (i + 1) (take n bytes) = sym (take-append-drop (i + 1) (take n bytes)) in
    let more : take (i + 1) bytes ≡ take i bytes ++ get_or bytes i 0 ∷ [] = take_more bytes i 0 below in
    ap (λ x. x ++ rest) (parts ∙ ap (λ x. x ++ drop (i + 1) (take n bytes)) (short ∙ more))
    ∙ append_assoc (take i bytes ++ get_or bytes i 0 ∷ []) (drop (i + 1) (take n bytes)) rest
    ∙ append_assoc (take i bytes) (get_or bytes i 0 ∷ []) (drop (i + 1) (take n bytes) ++ rest)

not_longer : (bytes : List ℕ) (i n : ℕ) (state : NumberState) → Reaches (take i bytes) state → LeadsNowhere state (get_or bytes i 0) → i < n → n ≤ length bytes → BeginsNumber (take n bytes) → ⊥
not_longer bytes i n state reaches stuck lt le begins =
    stuck (drop (i + 1) (take n bytes) ++ begins.0) (reaches.to (get_or bytes i 0 ∷ (drop (i + 1) (take n bytes) ++ begins.0)) (subst IsNumber (longer bytes i n lt le begins.0) begins.1))

pub IsLongestFront-stuck : (bytes : List ℕ) (i : ℕ) (state : NumberState) → i < length bytes → Reaches (take i bytes) state → LeadsNowhere state (get_or bytes i 0) → IsLongestFront bytes i
IsLongestFront-stuck bytes i state below reaches stuck = record {
  within = omega arith;
  begins = Reaches-begins (take i bytes) state reaches;
  longest = λ n le begins. elim (cases_lt i n) as (λ _. n ≤ i) [ inl h ↦ absurd (not_longer bytes i n state reaches stuck h le begins) | inr h ↦ h ];
}

pub IsLongestFront-all : (bytes : List ℕ) (state : NumberState) → Reaches (take (length bytes) bytes) state → IsLongestFront bytes (length bytes)
IsLongestFront-all bytes state reaches = record {
  within = omega arith;
  begins = Reaches-begins (take (length bytes) bytes) state reaches;
  longest = λ n le begins. le;
}

-- A number is its own longest front.
pub IsLongestFront-number : (bytes : List ℕ) (len : ℕ) → IsLongestFront bytes len → IsNumber bytes → length bytes ≤ len
IsLongestFront-number bytes len front number =
    let all : take (length bytes) bytes ≡ bytes = take_all (length bytes) bytes (omega arith) in
    front.longest (length bytes) (omega arith) ([], subst IsNumber (sym (append-nil (take (length bytes) bytes) ∙ all)) number)

-- What ends before its bytes do, or as no number, is the front of no number.
pub not_number : (bytes : List ℕ) (len : ℕ) → IsLongestFront bytes len → (len < length bytes) ⊎ (¬ IsNumber (take len bytes)) → ¬ IsNumber bytes
not_number bytes len front (inl short) number = let le : length bytes ≤ len = IsLongestFront-number bytes len front number in omega arith
not_number bytes len front (inr other) number =
    let le : length bytes ≤ len = IsLongestFront-number bytes len front number in
    other (subst IsNumber (sym (take_all len bytes le)) number)

-- A front that does not end before its bytes do is all of them.
pub number_at_end : (bytes : List ℕ) (len : ℕ) → length bytes ≤ len → IsNumber (take len bytes) → IsNumber bytes
number_at_end bytes len le number = subst IsNumber (take_all len bytes le) number

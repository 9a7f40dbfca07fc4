-- What is wrong in a scalar, and where a whole one ends.
use Rattle.std.proofs.Common.{refl, ◌≡◌, ℕ, ◌+◌, ◌≤◌, ◌<◌, ◌⊎◌, inl, inr, List, [], ◌∷◌, ◌++◌, ap, sym, ◌∙◌, subst, arith, append_assoc, length, take, drop, min, IsUtf8, codes}
use Rattle.std.proofs.lemmas.List.{append-nil, length-append, length-take, length-take-le, take-take, take-append-drop}
use Rattle.std.proofs.lemmas.Bool.{cases_lt}
use Rattle.std.proofs.Math.Seq.{take-append-add, take-append_seam}
use Rattle.sx_tree.specs.Number.{IsNumber, BeginsNumber, IsLongestFront}
use Rattle.sx_model.specs.Grammar.{AreBlanks, Skips}
use Rattle.sx_json.specs.Reading.{GoesOn}
use Rattle.sx_json.proofs.StringTexts.{tail_ascii}
use Rattle.sx_model.proofs.FirstBytes.{blank_small}
use Rattle.sx_tree.proofs.NumberBytes.{AreNumberBytes, front_is, number_small}

blanks_keep : (blanks rest : List ℕ) → AreBlanks blanks → IsUtf8 (blanks ++ rest) → IsUtf8 rest
blanks_keep [] rest all u = u
blanks_keep (b ∷ bs) rest all u =
    let small : b < 128 = omega (arith, blank_small b all.0) in blanks_keep bs rest all.1 (tail_ascii b (bs ++ rest) small u)

skips_keep : (bytes rest : List ℕ) → Skips bytes rest → IsUtf8 bytes → IsUtf8 rest
skips_keep bytes rest s u = blanks_keep s.0 rest s.1 (subst IsUtf8 s.2 u)

pub skips_go : (bytes rest : List ℕ) → Skips bytes rest → IsUtf8 bytes → GoesOn bytes rest
skips_go bytes rest s u = (skips_keep bytes rest s u, omega (arith, ap length s.2, length-append s.0 rest))

number_bytes_keep : (front rest : List ℕ) → AreNumberBytes front → IsUtf8 (front ++ rest) → IsUtf8 rest
number_bytes_keep [] rest all u = u
number_bytes_keep (b ∷ bs) rest all u = number_bytes_keep bs rest all.1 (tail_ascii b (bs ++ rest) (number_small b all.0) u)

begins_shorter : (front : List ℕ) (n : ℕ) → BeginsNumber front → BeginsNumber (take n front)
begins_shorter front n b =
    (drop n front ++ b.0, subst IsNumber (ap (λ l. l ++ b.0) (sym (take-append-drop n front)) ∙ append_assoc (take n front) (drop n front) b.0) b.1)

pub whole_begins : (literal : List ℕ) → IsNumber literal → BeginsNumber literal
whole_begins literal n = ([], subst IsNumber (sym (append-nil literal)) n)

number_keeps : (bytes : List ℕ) (len : ℕ) → IsNumber (take len bytes) → IsUtf8 bytes → IsUtf8 (drop len bytes)
number_keeps bytes len n u = number_bytes_keep (take len bytes) (drop len bytes) (front_is (take len bytes) (whole_begins (take len bytes) n)) (subst IsUtf8 (sym (take-append-drop len bytes)) u)

pub number_goes : (bytes : List ℕ) (len : ℕ) → IsNumber (take len bytes) → IsUtf8 bytes → GoesOn bytes (drop len bytes)
number_goes bytes len n u = (number_keeps bytes len n u, omega (arith, ap length (take-append-drop len bytes), length-append (take len bytes) (drop len bytes)))

pub number_is_whole : (bytes : List ℕ) (most len : ℕ) → IsLongestFront (take most bytes) len → IsNumber (take len bytes) → IsNumber (take len (take most bytes))
number_is_whole bytes most len front n = subst IsNumber (sym (take-take len most bytes (omega (arith, front.within, length-take most bytes)))) n

pub number_of_all : (bytes : List ℕ) (most len : ℕ) → IsLongestFront (take most bytes) len → IsNumber (take len (take most bytes)) → IsNumber (take len bytes)
number_of_all bytes most len front n = subst IsNumber (take-take len most bytes (omega (arith, front.within, length-take most bytes))) n

-- The longest front among the first 65 bytes is the longest where it is shorter.
pub longest_of_all : (bytes : List ℕ) (most len : ℕ) → most ≡ min (length bytes) 65 → IsLongestFront (take most bytes) len → len ≤ 64 → IsLongestFront bytes len
longest_of_all bytes most len m front short = record { within = omega (arith, front.within, counted); begins = subst BeginsNumber (take-take len most bytes within) front.begins; longest = longest }
  where
    counted : length (take most bytes) ≡ most
    counted = length-take-le most bytes (omega arith)

    within : len ≤ most
    within = omega (arith, front.within, counted)

    longest : (n : ℕ) → n ≤ length bytes → BeginsNumber (take n bytes) → n ≤ len
    longest n fits b = by_cases (cases_lt most n)
      where
        by_cases : (most < n) ⊎ (n ≤ most) → n ≤ len
        by_cases (inr le) = front.longest n (omega (arith, counted)) (subst BeginsNumber (sym (take-take n most bytes le)) b)
        by_cases (inl lt) =
            let cut : take most (take n bytes) ≡ take most bytes = take-take most n bytes (omega arith) in
            let again : take most bytes ≡ take most (take most bytes) = sym (take-take most most bytes (omega arith)) in
            absurd (omega (arith, front.longest most (omega (arith, counted)) (subst BeginsNumber (cut ∙ again) (begins_shorter (take n bytes) most b))))

-- More than 64 bytes go on as a number.
pub number_long : (bytes : List ℕ) (most len : ℕ) → most ≡ min (length bytes) 65 → IsLongestFront (take most bytes) len → 64 < len → (65 ≤ length bytes) × BeginsNumber (take 65 bytes)
number_long bytes most len m front long =
    let counted : length (take most bytes) ≡ most = length-take-le most bytes (omega arith) in
    let is : len ≡ 65 = omega (arith, front.within, counted) in
    let at : most ≡ 65 = omega (arith, front.within, counted) in
    let begins : BeginsNumber (take 65 (take most bytes)) = subst (λ n. BeginsNumber (take n (take most bytes))) is front.begins in
    (omega (arith, at), subst BeginsNumber (take-take 65 most bytes (omega (arith, at))) begins)

-- A number that is its longest front ends there.
pub number_ends : (bytes : List ℕ) (len : ℕ) → IsLongestFront bytes len → (byte : ℕ) (rest : List ℕ) → drop len bytes ≡ byte ∷ rest → BeginsNumber (take len bytes ++ byte ∷ []) → ⊥
number_ends bytes len front byte rest is b =
    let whole : bytes ≡ take len bytes ++ byte ∷ rest = sym (take-append-drop len bytes) ∙ ap (λ l. take len bytes ++ l) is in
    let counted : length (take len bytes) ≡ len = length-take-le len bytes front.within in
    let longer : take (length (take len bytes) + 1) (take len bytes ++ byte ∷ rest) ≡ take len bytes ++ byte ∷ [] = take-append-add (take len bytes) (byte ∷ rest) 1 in
    let one_more : take (len + 1) bytes ≡ take len bytes ++ byte ∷ [] = ap (take (len + 1)) whole ∙ ap (λ n. take (n + 1) (take len bytes ++ byte ∷ rest)) (sym counted) ∙ longer in
    let fits : len + 1 ≤ length bytes = omega (arith, ap length whole, length-append (take len bytes) (byte ∷ rest), counted) in
    omega (arith, front.longest (len + 1) fits (subst BeginsNumber (sym one_more) b))

-- A number that cannot go on is the longest front.
pub number_longest : (bytes literal after : List ℕ) → IsNumber literal → bytes ≡ literal ++ after → ((byte : ℕ) (rest : List ℕ) → after ≡ byte ∷ rest → BeginsNumber (literal ++ byte ∷ []) → ⊥) → IsLongestFront bytes (length literal)
number_longest bytes literal after n is ends = record {
  within = omega (arith, counted);
  begins = subst BeginsNumber (sym (ap (take (length literal)) is ∙ take-append_seam literal after)) (whole_begins literal n);
  longest = λ m fits b. longest after is ends m fits b (cases_lt (length literal) m);
}
  where
    counted : length bytes ≡ length literal + length after
    counted = ap length is ∙ length-append literal after

    longest : (rest : List ℕ) → bytes ≡ literal ++ rest → ((byte : ℕ) (more : List ℕ) → rest ≡ byte ∷ more → BeginsNumber (literal ++ byte ∷ []) → ⊥) → (m : ℕ) → m ≤ length bytes → BeginsNumber (take m bytes)
        → (length literal < m) ⊎ (m ≤ length literal) → m ≤ length literal
    longest rest at none m fits b (inr le) = le
    longest [] at none m fits b (inl lt) = omega (arith, ap length at, length-append literal [])
    longest (byte ∷ more) at none m fits b (inl lt) =
        let cut : take (length literal + 1) (take m bytes) ≡ literal ++ byte ∷ [] = take-take (length literal + 1) m bytes (omega arith) ∙ ap (take (length literal + 1)) at ∙ take-append-add literal (byte ∷ more) 1 in
        absurd (none byte more refl (subst BeginsNumber cut (begins_shorter (take m bytes) (length literal + 1) b)))

pub longest_one : (bytes : List ℕ) (n m : ℕ) → IsLongestFront bytes n → IsLongestFront bytes m → n ≡ m
longest_one bytes n m p q = omega (arith, p.longest m q.within q.begins, q.longest n p.within p.begins)

pub word_goes : (word bytes left : List ℕ) → (IsUtf8 (word ++ left) → IsUtf8 left) → bytes ≡ word ++ left → IsUtf8 bytes → GoesOn bytes left
word_goes word bytes left keeps is u = (keeps (subst IsUtf8 is u), omega (arith, ap length is, length-append word left))

pub true_keeps : (left : List ℕ) → IsUtf8 (codes "true" ++ left) → IsUtf8 left
true_keeps left u = tail_ascii 101 left (omega arith) (tail_ascii 117 (101 ∷ left) (omega arith) (tail_ascii 114 (117 ∷ 101 ∷ left) (omega arith) (tail_ascii 116 (114 ∷ 117 ∷ 101 ∷ left) (omega arith) u)))

pub false_keeps : (left : List ℕ) → IsUtf8 (codes "false" ++ left) → IsUtf8 left
false_keeps left u =
    tail_ascii 101 left (omega arith)
    (tail_ascii 115 (101 ∷ left) (omega arith) (tail_ascii 108 (115 ∷ 101 ∷ left) (omega arith) (tail_ascii 97 (108 ∷ 115 ∷ 101 ∷ left) (omega arith) (tail_ascii 102 (97 ∷ 108 ∷ 115 ∷ 101 ∷ left) (omega arith) u))))

pub null_keeps : (left : List ℕ) → IsUtf8 (codes "null" ++ left) → IsUtf8 left
null_keeps left u = tail_ascii 108 left (omega arith) (tail_ascii 108 (108 ∷ left) (omega arith) (tail_ascii 117 (108 ∷ 108 ∷ left) (omega arith) (tail_ascii 110 (117 ∷ 108 ∷ 108 ∷ left) (omega arith) u)))

-- A number is in UTF-8, and whether bytes are one can be told.
use Rattle.std.proofs.Common.{◌≡◌, ℕ, ◌≤◌, ◌<◌, inl, inr, ◌⊎◌, List, [], ◌∷◌, subst, arith, IsUtf8}
use Rattle.std.proofs.lemmas.Bool.{cases_lt, cases_eq}
use Rattle.std.proofs.lemmas.Str.{IsUtf8-append, IsUtf8-nil, IsUtf8-encode, encode_ascii}
use lib.Utf8.{low_scalar}
use mathlib.Core.Logic.{∥∥₁_elim}
use Rattle.sx_tree.specs.Number.{IsDigit, AreDigits, AreSomeDigits, IsNumber}
use Rattle.sx_tree.specs.NumberState.{DigitsThen, FollowsMark, FollowsFraction, FollowsPoint, FollowsInt, FollowsMinus, FollowsStart}
use Rattle.sx_tree.proofs.NumberBytes.{AreNumberBytes, number_small, number_is}
use Rattle.sx_tree.proofs.NumberStates.{FollowsStart-number, number_of}

pub ascii_then : (byte : ℕ) (bytes : List ℕ) → byte < 128 → IsUtf8 bytes → IsUtf8 (byte ∷ bytes)
ascii_then byte bytes small u = IsUtf8-append (byte ∷ []) bytes (subst IsUtf8 (encode_ascii byte small) (IsUtf8-encode byte (low_scalar byte (omega arith)))) u

bytes_utf8 : (bytes : List ℕ) → AreNumberBytes bytes → IsUtf8 bytes
bytes_utf8 [] all = IsUtf8-nil
bytes_utf8 (byte ∷ bytes) all = ascii_then byte bytes (number_small byte all.0) (bytes_utf8 bytes all.1)

pub IsUtf8-number : (literal : List ℕ) → IsNumber literal → IsUtf8 literal
IsUtf8-number literal n = bytes_utf8 literal (number_is literal n)

data Told (A : Type 0) : Type 0 where
  holds : A → Told A
  fails : (A → ⊥) → Told A

either : {A B : Type 0} → Told A → Told B → Told (A ⊎ B)
either (holds a) q = holds (inl a)
either (fails n) (holds b) = holds (inr b)
either (fails n) (fails m) = fails (λ s. elim s as (λ _. ⊥) [ inl a ↦ n a | inr b ↦ m b ])

both : {A B : Type 0} → Told A → Told B → Told (A × B)
both (holds a) (holds b) = holds (a, b)
both (holds a) (fails m) = fails (λ p. m p.1)
both (fails n) q = fails (λ p. n p.0)

all_three : {A B C : Type 0} → Told A → Told B → Told C → Told (A × B × C)
all_three (holds a) (holds b) (holds c) = holds (a, b, c)
all_three (holds a) (holds b) (fails k) = fails (λ p. k p.2)
all_three (holds a) (fails m) r = fails (λ p. m p.1)
all_three (fails n) q r = fails (λ p. n p.0)

at_most : (m n : ℕ) → Told (m ≤ n)
at_most m n = elim (cases_lt n m) as (λ _. Told (m ≤ n)) [ inl less ↦ fails (λ le. omega arith) | inr le ↦ holds le ]

is : (m n : ℕ) → Told (m ≡ n)
is m n = elim (cases_eq m n) as (λ _. Told (m ≡ n)) [ inl e ↦ holds e | inr ne ↦ fails ne ]

digit : (byte : ℕ) → Told (IsDigit byte)
digit byte = both (at_most 48 byte) (at_most byte 57)

digits : (bytes : List ℕ) → Told (AreDigits bytes)
digits [] = holds tt
digits (byte ∷ bytes) = both (digit byte) (digits bytes)

some_digits : (bytes : List ℕ) → Told (AreSomeDigits bytes)
some_digits [] = fails (λ h. h)
some_digits (byte ∷ bytes) = both (digit byte) (digits bytes)

mark : (bytes : List ℕ) → Told (FollowsMark bytes)
mark [] = fails (λ h. h)
mark (byte ∷ rest) = either (both (either (is byte 43) (is byte 45)) (some_digits rest)) (both (digit byte) (digits rest))

fraction : (bytes : List ℕ) → Told (FollowsFraction bytes)
fraction [] = holds tt
fraction (byte ∷ rest) = both (either (is byte 101) (is byte 69)) (mark rest)

digits_then : (P : List ℕ → Type 0) → ((bytes : List ℕ) → Told (P bytes)) → (bytes : List ℕ) → Told (DigitsThen P bytes)
digits_then P told [] = told []
digits_then P told (byte ∷ rest) = either (told (byte ∷ rest)) (both (digit byte) (digits_then P told rest))

point : (bytes : List ℕ) → Told (FollowsPoint bytes)
point [] = fails (λ h. h)
point (byte ∷ rest) = both (digit byte) (digits_then FollowsFraction fraction rest)

int : (bytes : List ℕ) → Told (FollowsInt bytes)
int [] = holds tt
int (byte ∷ rest) = either (both (is byte 46) (point rest)) (both (either (is byte 101) (is byte 69)) (mark rest))

minus : (bytes : List ℕ) → Told (FollowsMinus bytes)
minus [] = fails (λ h. h)
minus (byte ∷ rest) = either (both (is byte 48) (int rest)) (all_three (at_most 49 byte) (at_most byte 57) (digits_then FollowsInt int rest))

start : (bytes : List ℕ) → Told (FollowsStart bytes)
start [] = fails (λ h. h)
start (byte ∷ rest) = either (both (is byte 45) (minus rest)) (minus (byte ∷ rest))

number : (bytes : List ℕ) → Told (IsNumber bytes)
number bytes = elim (start bytes) as (λ _. Told (IsNumber bytes)) [
  | holds h ↦ holds (number_of bytes h)
  | fails none ↦ fails (λ n. none (FollowsStart-number bytes n))
]

known : {A : Type 0} → Told A → ∥ A ∥₁ → A
known (holds a) some = a
known (fails none) some = absurd (∥∥₁_elim some (λ x y. absurd x) none)

pub number_known : (bytes : List ℕ) → ∥ IsNumber bytes ∥₁ → IsNumber bytes
number_known bytes some = known (number bytes) some

-- A number in bytes, its highest byte first, for any count of bytes.
use Rattle.std.proofs.Common.{◌≡◌, ℕ, zero, suc, ◌+◌, ◌-◌, ◌*◌, ◌/◌, ◌%◌, ◌^◌, ◌<◌, ◌≤◌, List, [], ◌∷◌, length, get_or, refl, sym, ap, ◌∙◌, arith}
use Rattle.std.specs.Int.{Width, byte_len, byte_at, byte_worth, bytes_high_first, sum_through, from_be_bytes}
use Rattle.std.proofs.lemmas.Nat.{div-mul-add}
use Rattle.sx_bytes.specs.Front.{AreBytes}
use Rattle.std.proofs.Math.Nat.{mul-le-mul_right, pow-suc, lt_of_mul-lt-mul_right}

pub AreBytes-rest : (byte : ℕ) (bytes : List ℕ) → AreBytes (byte ∷ bytes) → AreBytes bytes
AreBytes-rest byte bytes h i = h (suc i)

-- the number of the bytes
pub worth : List ℕ → ℕ
worth [] = 0
worth (byte ∷ bytes) = byte * 256 ^ length bytes + worth bytes

pos_256 : (k : ℕ) → 0 < 256 ^ k
pos_256 zero = omega arith
pos_256 (suc k) = let below = pos_256 k in rw (pow-suc 256 k) (omega arith)

pub worth-lt : (bytes : List ℕ) → AreBytes bytes → worth bytes < 256 ^ length bytes
unfolding worth
worth-lt [] h = omega arith
worth-lt (byte ∷ bytes) h =
    let below = worth-lt bytes (AreBytes-rest byte bytes h) in
    let small : byte ≤ 255 = omega (arith, h 0) in
    let most = mul-le-mul_right (256 ^ length bytes) small in
    rw (pow-suc 256 (length bytes)) (omega arith)

byte_at-div : (i n : ℕ) → byte_at i n ≡ n / 256 ^ i % 256
byte_at-div zero n = omega arith
byte_at-div (suc i) n = refl

-- what is above a byte does not show in it
above_byte : (p c m : ℕ) → 0 < p → (c * (p * 256) + m) / p % 256 ≡ m / p % 256
above_byte p c m some =
    let rest : m % p < p = omega arith in
    let split : c * (p * 256) + m ≡ (c * 256 + m / p) * p + m % p = omega arith in
    let quotient : (c * (p * 256) + m) / p ≡ c * 256 + m / p = ap (λ n. n / p) split ∙ div-mul-add (c * 256 + m / p) p (m % p) rest in
    rw quotient (omega arith)

byte_at-add : (i c m : ℕ) → byte_at i (c * 256 ^ suc i + m) ≡ byte_at i m
byte_at-add i c m =
    byte_at-div i (c * 256 ^ suc i + m) ∙ ap (λ q. (c * q + m) / 256 ^ i % 256) (pow-suc 256 i) ∙ above_byte (256 ^ i) c m (pos_256 i) ∙ sym (byte_at-div i m)

high_first-add : (k c m : ℕ) → bytes_high_first k (c * 256 ^ k + m) ≡ bytes_high_first k m
high_first-add zero c m = refl
high_first-add (suc k) c m =
    let moved : c * 256 ^ suc k + m ≡ c * 256 * 256 ^ k + m = rw (pow-suc 256 k) (omega arith) in
    let below : bytes_high_first k (c * 256 ^ suc k + m) ≡ bytes_high_first k m = ap (bytes_high_first k) moved ∙ high_first-add k (c * 256) m in
    λ i. byte_at-add k c m i ∷ below i

pub length-high_first : (k n : ℕ) → length (bytes_high_first k n) ≡ k
length-high_first zero n = refl
length-high_first (suc k) n = ap suc (length-high_first k n)

quotient-lt : (p n : ℕ) → 0 < p → n < p * 256 → n / p < 256
quotient-lt p n some h = lt_of_mul-lt-mul_right p (omega arith)

pub worth-high_first : (k n : ℕ) → n < 256 ^ k → worth (bytes_high_first k n) ≡ n
unfolding worth
worth-high_first zero n h = omega arith
worth-high_first (suc k) n h =
    let some = pos_256 k in
    let rest : n % 256 ^ k < 256 ^ k = omega arith in
    let split : n ≡ n / 256 ^ k * 256 ^ k + n % 256 ^ k = omega arith in
    let small : n / 256 ^ k < 256 = quotient-lt (256 ^ k) n some (rw (← pow-suc 256 k) h) in
    let first : byte_at k n ≡ n / 256 ^ k = byte_at-div k n ∙ omega arith in
    let below : worth (bytes_high_first k n) ≡ n % 256 ^ k = ap (λ m. worth (bytes_high_first k m)) split ∙ ap worth (high_first-add k (n / 256 ^ k) (n % 256 ^ k)) ∙ worth-high_first k (n % 256 ^ k) rest in
    rw (length-high_first k n, first, below) (sym split)

pub high_first-worth : (bytes : List ℕ) → AreBytes bytes → bytes_high_first (length bytes) (worth bytes) ≡ bytes
unfolding worth
high_first-worth [] h = refl
high_first-worth (byte ∷ bytes) h =
    let low = worth-lt bytes (AreBytes-rest byte bytes h) in
    let small : byte < 256 = h 0 in
    let first : byte_at (length bytes) (byte * 256 ^ length bytes + worth bytes) ≡ byte =
    byte_at-div (length bytes) (byte * 256 ^ length bytes + worth bytes) ∙ ap (λ q. q % 256) (div-mul-add byte (256 ^ length bytes) (worth bytes) low) ∙ omega arith in
    let below = high_first-add (length bytes) byte (worth bytes) ∙ high_first-worth bytes (AreBytes-rest byte bytes h) in
    λ i. first i ∷ below i

-- ---- std's sum is this number

sum-same : (f g : ℕ → ℕ) (k : ℕ) → ((i : ℕ) → f i ≡ g i) → sum_through f k ≡ sum_through g k
sum-same f g zero same = same 0
sum-same f g (suc k) same = λ i. sum-same f g k same i + same (suc k) i

sum-first : (f : ℕ → ℕ) (k : ℕ) → sum_through f (suc k) ≡ f 0 + sum_through (λ i. f (suc i)) k
sum-first f zero = refl
sum-first f (suc k) = let first = sum-first f k in omega arith

byte_worth-pow : (i byte : ℕ) → byte_worth i byte ≡ byte * 256 ^ i
byte_worth-pow zero byte = omega arith
byte_worth-pow (suc i) byte = refl

sum-worth : (k : ℕ) (bytes : List ℕ) → length bytes ≡ suc k → sum_through (λ i. byte_worth (k - i) (get_or bytes i 0)) k ≡ worth bytes
unfolding worth
sum-worth k [] len = absurd (omega arith)
sum-worth zero (byte ∷ []) len = omega arith
sum-worth zero (byte ∷ next ∷ bytes) len = absurd (omega arith)
sum-worth (suc k) (byte ∷ bytes) len =
    let count : length bytes ≡ suc k = omega arith in
    let first : byte_worth (suc k - 0) byte ≡ byte * 256 ^ length bytes = ap (λ i. byte_worth i byte) (omega arith) ∙ byte_worth-pow (length bytes) byte in
    let step : (i : ℕ) → byte_worth (suc k - suc i) (get_or bytes i 0) ≡ byte_worth (k - i) (get_or bytes i 0) = λ i. ap (λ j. byte_worth j (get_or bytes i 0)) (omega arith) in
    let others = sum-same (λ i. byte_worth (suc k - suc i) (get_or bytes i 0)) (λ i. byte_worth (k - i) (get_or bytes i 0)) k step ∙ sum-worth k bytes count in
    sum-first (λ i. byte_worth (suc k - i) (get_or (byte ∷ bytes) i 0)) k ∙ (λ i. first i + others i)

pub from_be_bytes-worth : (w : Width) (bytes : List ℕ) → 0 < byte_len w → length bytes ≡ byte_len w → from_be_bytes w bytes ≡ worth bytes
from_be_bytes-worth w bytes some len = sum-worth (byte_len w - 1) bytes (omega arith)

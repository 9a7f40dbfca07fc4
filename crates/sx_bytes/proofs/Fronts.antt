-- What is read at the front is what was written there, and what was written is read again.
use Rattle.std.proofs.Common.{◌≡◌, ℕ, ◌^◌, ◌<◌, ◌≤◌, false, ltb, List, ◌++◌, length, take, drop, Option, Some, refl, sym, ◌∙◌, arith, inl, inr}
use Rattle.std.specs.Int.{Width, byte_len, from_be_bytes, to_be_bytes}
use Rattle.std.proofs.lemmas.Bool.{cases_lt, le-ltb}
use Rattle.std.proofs.lemmas.List.{take_at, drop_at, take-append-drop, length-append, length-take, get_or-take, get_or_past}
use Rattle.sx_bytes.specs.Front.{AreBytes, front_number, front_piece}
use Rattle.sx_bytes.proofs.Worth.{worth-high_first, high_first-worth, length-high_first, from_be_bytes-worth}

pub AreBytes-take : (n : ℕ) (bytes : List ℕ) → AreBytes bytes → AreBytes (take n bytes)
AreBytes-take n bytes h i =
    elim (cases_lt i n) [
      | inl lt ↦ rw (get_or-take n bytes i 0 lt) (h i)
      | inr le ↦ rw (get_or_past (take n bytes) i 0 (omega (arith, length-take n bytes))) (omega arith)
    ]

-- ---- tools

abbrev some : {A : Type 0} → A → Option A
some x = Some x

pub some_is : {A : Type 0} (x y : A) → some x ≡ some y → x ≡ y
some_is x y e = cc

-- ---- numbers

pub number_back : (w : Width) (bytes : List ℕ) → 0 < byte_len w → length bytes ≡ byte_len w → AreBytes bytes → to_be_bytes w (from_be_bytes w bytes) ≡ bytes
number_back w bytes wide len fits =
    rw (from_be_bytes-worth w bytes wide len, ← len) (high_first-worth bytes fits)

pub number_again : (w : Width) (n : ℕ) → 0 < byte_len w → n < 256 ^ byte_len w → from_be_bytes w (to_be_bytes w n) ≡ n
number_again w n wide lt = from_be_bytes-worth w (to_be_bytes w n) wide (length-high_first (byte_len w) n) ∙ worth-high_first (byte_len w) n lt

pub front_number_again : (w : Width) (n : ℕ) (rest : List ℕ) → 0 < byte_len w → n < 256 ^ byte_len w → front_number w (to_be_bytes w n ++ rest) ≡ Some (n, rest)
unfolding front_number
front_number_again w n rest wide lt =
    let len : length (to_be_bytes w n) ≡ byte_len w = length-high_first (byte_len w) n in
    let long : ltb (length (to_be_bytes w n ++ rest)) (byte_len w) ≡ false = le-ltb _ _ (omega (arith, length-append (to_be_bytes w n) rest)) in
    rw (long, take_at (to_be_bytes w n) rest (byte_len w) len, drop_at (to_be_bytes w n) rest (byte_len w) len, number_again w n wide lt) refl

-- ---- pieces

pub front_piece_again : (piece rest : List ℕ) → front_piece (length piece) (piece ++ rest) ≡ Some (piece, rest)
unfolding front_piece
front_piece_again piece rest =
    let long : ltb (length (piece ++ rest)) (length piece) ≡ false = le-ltb _ _ (omega (arith, length-append piece rest)) in
    rw (long, take_at piece rest (length piece) refl, drop_at piece rest (length piece) refl) refl

-- what std's words say of the first bytes
pub number_written : (w : Width) (bytes front rest : List ℕ) (n : ℕ) → AreBytes bytes → 0 < byte_len w → byte_len w ≤ length bytes → front ≡ take (byte_len w) bytes → rest ≡ drop (byte_len w) bytes → n ≡ from_be_bytes w front → bytes ≡ to_be_bytes w n ++ rest
number_written w bytes front rest n fits wide long front_is rest_is is =
    let len : length (take (byte_len w) bytes) ≡ byte_len w = omega (arith, length-take (byte_len w) bytes) in
    rw (is, front_is, rest_is, number_back w (take (byte_len w) bytes) wide len (AreBytes-take (byte_len w) bytes fits)) (sym (take-append-drop (byte_len w) bytes))

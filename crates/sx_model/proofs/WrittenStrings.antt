-- A string as it is written stands for its content, and is in UTF-8.
use Rattle.std.proofs.Common.{◌≡◌, ℕ, zero, suc, ◌/◌, ◌%◌, ◌≤◌, ◌<◌, ◌⊎◌, inl, inr, Bool, true, ◌&&◌, nat_lt, List, [], ◌∷◌, ◌++◌, length, get_or, flat_map, refl, ap, ap₂, sym, subst, arith, append_assoc, append-nil, IsUtf8, ltb-true, lt-ltb, le-ltb, ne_eqb}
use Rattle.std.proofs.lemmas.Bool.{and_parts, cases_lt, cases_eq}
use Rattle.std.proofs.lemmas.Grind.{flat_map-append}
use Rattle.std.proofs.lemmas.Str.{IsUtf8-append, IsUtf8-nil, IsUtf8-encode, encode_ascii, inside_one}
use lib.Utf8.{scalar, scalars, encode, encodes, low_scalar}
use Rattle.sx_tree.proofs.NumberTexts.{ascii_then}
use Rattle.sx_model.specs.Canonical.{lower_hex_digit, escaped, string_text}
use Rattle.sx_model.specs.Strings.{IsPlain, IsShortEscape, IsHexDigit, UnitAt, StringAt, closing, plain, short, unicode}

pub escaped_plain : (byte : ℕ) → IsPlain byte → escaped byte ≡ byte ∷ []
escaped_plain byte p =
    rw (
      ne_eqb byte 34 p.1,
      ne_eqb byte 92 p.2,
      ne_eqb byte 8 (λ e. omega (arith, p.0, e)),
      ne_eqb byte 12 (λ e. omega (arith, p.0, e)),
      ne_eqb byte 10 (λ e. omega (arith, p.0, e)),
      ne_eqb byte 13 (λ e. omega (arith, p.0, e)),
      ne_eqb byte 9 (λ e. omega (arith, p.0, e)),
      le-ltb byte 32 p.0,
    ) refl

-- how a byte is written
pub data Written (byte : ℕ) : Type 0 where
  by_itself : IsPlain byte → escaped byte ≡ byte ∷ [] → Written byte
  by_letter : (letter : ℕ) → IsShortEscape letter byte → escaped byte ≡ 92 ∷ letter ∷ [] → Written byte
  by_number : byte < 32 → escaped byte ≡ 92 ∷ 117 ∷ 48 ∷ 48 ∷ lower_hex_digit (byte / 16) ∷ lower_hex_digit (byte % 16) ∷ [] → Written byte

pub written : (byte : ℕ) → Written byte
written byte = choose (cases_eq byte 34) (cases_eq byte 92) (cases_eq byte 8) (cases_eq byte 12) (cases_eq byte 10) (cases_eq byte 13) (cases_eq byte 9) (cases_lt byte 32)
  where
    choose : (byte ≡ 34) ⊎ (byte ≡ 34 → ⊥) → (byte ≡ 92) ⊎ (byte ≡ 92 → ⊥) → (byte ≡ 8) ⊎ (byte ≡ 8 → ⊥) → (byte ≡ 12) ⊎ (byte ≡ 12 → ⊥) → (byte ≡ 10) ⊎ (byte ≡ 10 → ⊥)
        → (byte ≡ 13) ⊎ (byte ≡ 13 → ⊥) → (byte ≡ 9) ⊎ (byte ≡ 9 → ⊥) → (byte < 32) ⊎ (32 ≤ byte) → Written byte
    choose (inl e) q c d f g h l = by_letter 34 (inl (refl, e)) (ap escaped e)
    choose (inr n) (inl e) c d f g h l = by_letter 92 (inr (inl (refl, e))) (ap escaped e)
    choose (inr n) (inr m) (inl e) d f g h l = by_letter 98 (inr (inr (inr (inl (refl, e))))) (ap escaped e)
    choose (inr n) (inr m) (inr c) (inl e) f g h l = by_letter 102 (inr (inr (inr (inr (inl (refl, e)))))) (ap escaped e)
    choose (inr n) (inr m) (inr c) (inr d) (inl e) g h l = by_letter 110 (inr (inr (inr (inr (inr (inl (refl, e))))))) (ap escaped e)
    choose (inr n) (inr m) (inr c) (inr d) (inr f) (inl e) h l = by_letter 114 (inr (inr (inr (inr (inr (inr (inl (refl, e)))))))) (ap escaped e)
    choose (inr n) (inr m) (inr c) (inr d) (inr f) (inr g) (inl e) l = by_letter 116 (inr (inr (inr (inr (inr (inr (inr (refl, e)))))))) (ap escaped e)
    choose (inr n) (inr m) (inr c) (inr d) (inr f) (inr g) (inr h) (inl small) =
        by_number small
        (rw (ne_eqb byte 34 n, ne_eqb byte 92 m, ne_eqb byte 8 c, ne_eqb byte 12 d, ne_eqb byte 10 f, ne_eqb byte 13 g, ne_eqb byte 9 h, lt-ltb byte 32 small) refl)
    choose (inr n) (inr m) (inr c) (inr d) (inr f) (inr g) (inr h) (inr big) = by_itself (big, n, m) (escaped_plain byte (big, n, m))

hex_digit_of : (n : ℕ) → n < 16 → IsHexDigit (lower_hex_digit n) n
hex_digit_of n below = elim (cases_lt n 10) as (λ _. IsHexDigit (lower_hex_digit n) n) [
  | inl small ↦ rw (lt-ltb n 10 small) (inl (omega arith, omega arith, refl))
  | inr big ↦ rw (le-ltb n 10 big) (inr (inr (omega arith, omega arith, refl)))
]

unit_of : (byte : ℕ) (rest : List ℕ) → byte < 32 → UnitAt (48 ∷ 48 ∷ lower_hex_digit (byte / 16) ∷ lower_hex_digit (byte % 16) ∷ rest) byte rest
unit_of byte rest small = record {
  a = 48;
  b = 48;
  c = lower_hex_digit (byte / 16);
  d = lower_hex_digit (byte % 16);
  x = 0;
  y = 0;
  z = byte / 16;
  w = byte % 16;
  a_is = hex_digit_of 0 (omega arith);
  b_is = hex_digit_of 0 (omega arith);
  c_is = hex_digit_of (byte / 16) (omega arith);
  d_is = hex_digit_of (byte % 16) (omega arith);
  unit_is = omega arith;
  bytes_are = refl;
}

one_byte : (byte : ℕ) (rest content left : List ℕ) → Written byte → StringAt rest content left → StringAt (escaped byte ++ rest) (byte ∷ content) left
one_byte byte rest content left (by_itself p e) s = subst (λ l. StringAt (l ++ rest) (byte ∷ content) left) (sym e) (plain byte rest content left p s)
one_byte byte rest content left (by_letter letter p e) s = subst (λ l. StringAt (l ++ rest) (byte ∷ content) left) (sym e) (short letter byte rest content left p s)
one_byte byte rest content left (by_number small e) s =
    let digits : List ℕ = 48 ∷ 48 ∷ lower_hex_digit (byte / 16) ∷ lower_hex_digit (byte % 16) ∷ rest in
    subst (λ l. StringAt (l ++ rest) (byte ∷ content) left) (sym e)
    (subst (λ c. StringAt (92 ∷ 117 ∷ digits) (c ++ content) left) (encode_ascii byte (omega arith))
    (unicode digits byte rest content left (unit_of byte rest small) (low_scalar byte (omega arith)) s))

pub content_spelled : (content after : List ℕ) → StringAt (flat_map escaped content ++ 34 ∷ after) content after
content_spelled [] after = closing after
content_spelled (byte ∷ bytes) after =
    subst (λ l. StringAt l (byte ∷ bytes) after) (sym (append_assoc (escaped byte) (flat_map escaped bytes) (34 ∷ after)))
    (one_byte byte (flat_map escaped bytes ++ 34 ∷ after) bytes after (written byte) (content_spelled bytes after))

abbrev pub are_ascii : List ℕ → Bool
are_ascii [] = true
are_ascii (byte ∷ bytes) = nat_lt byte 128 && are_ascii bytes

pub utf8_of_ascii : (bytes : List ℕ) → are_ascii bytes ≡ true → IsUtf8 bytes
utf8_of_ascii [] e = IsUtf8-nil
utf8_of_ascii (byte ∷ bytes) e = let p = and_parts _ _ e in ascii_then byte bytes (ltb-true _ _ p.0) (utf8_of_ascii bytes p.1)

-- what is written of the bytes below n is ASCII
abbrev escapes_below : ℕ → Bool
escapes_below zero = true
escapes_below (suc n) = are_ascii (escaped n) && escapes_below n

escape_below : (n : ℕ) → escapes_below n ≡ true → (byte : ℕ) → byte < n → are_ascii (escaped byte) ≡ true
escape_below zero e byte h = absurd (omega arith)
escape_below (suc n) e byte h =
    let p = and_parts _ _ e in
    elim (cases_eq byte n) [ inl same ↦ rw same p.0 | inr other ↦ escape_below n p.1 byte (omega arith) ]

all_ascii : escapes_below 128 ≡ true
all_ascii = refl

high_bytes : (bytes : List ℕ) → ((k : ℕ) → k < length bytes → 128 ≤ get_or bytes k 0) → flat_map escaped bytes ≡ bytes
high_bytes [] h = refl
high_bytes (byte ∷ bytes) h =
    let high : 128 ≤ byte = h 0 (omega arith) in
    ap₂ (λ (a b : List ℕ). a ++ b) (escaped_plain byte (omega arith, λ e. omega (arith, e), λ e. omega (arith, e))) (high_bytes bytes (λ k below. h (suc k) (omega arith)))

-- A character above ASCII stands as it is.
pub high_char : (c : ℕ) → 128 ≤ c → flat_map escaped (encode c) ≡ encode c
high_char c big = high_bytes (encode c) high
  where
    high : (k : ℕ) → k < length (encode c) → 128 ≤ get_or (encode c) k 0
    high k below = elim (cases_lt (get_or (encode c) k 0) 128) [
      | inl low ↦ absurd (omega (arith, inside_one c [] (encode c) k (sym (append-nil _)) below low))
      | inr h ↦ h
    ]

one_char : (c : ℕ) → scalar c ≡ true → IsUtf8 (flat_map escaped (encode c))
one_char c ok = elim (cases_lt c 128) [
  | inl small ↦ rw (encode_ascii c small, append-nil) (utf8_of_ascii _ (escape_below 128 all_ascii c small))
  | inr big ↦ subst IsUtf8 (sym (high_char c big)) (IsUtf8-encode c ok)
]

all_chars : (cs : List ℕ) → scalars cs ≡ true → IsUtf8 (flat_map escaped (encodes cs))
all_chars [] e = IsUtf8-nil
all_chars (c ∷ cs) e =
    let p = and_parts _ _ e in
    subst IsUtf8 (sym (flat_map-append escaped (encode c) (encodes cs))) (IsUtf8-append _ _ (one_char c p.0) (all_chars cs p.1))

pub IsUtf8-string_text : (content : List ℕ) → IsUtf8 content → IsUtf8 (string_text content)
IsUtf8-string_text content u =
    ascii_then 34 (flat_map escaped content ++ 34 ∷ []) (omega arith)
    (IsUtf8-append _ _ (subst (λ l. IsUtf8 (flat_map escaped l)) u.1.1 (all_chars u.0 u.1.0)) (utf8_of_ascii (34 ∷ []) refl))

-- Strings of RFC 8259 section 7. Each relation says what stands at the front of the bytes, and what is left
-- behind it.
use Rattle.std.specs.Prelude.{ℕ, ◌≡◌, ◌≢◌, ◌≤◌, ◌+◌, ◌-◌, ◌*◌, ◌⊎◌, List, [], ◌∷◌, ◌++◌, encode_utf8}
use Rattle.std.specs.Char.{IsScalar}
use Rattle.sx_tree.specs.Text.{IsText}

-- unescaped, or a byte of such a character: all but the quote, the backslash and characters below U+0020
abbrev pub IsPlain : ℕ → Type 0
IsPlain byte = (32 ≤ byte) × (byte ≢ 34) × (byte ≢ 92)

-- what the letter behind a backslash stands for
abbrev pub IsShortEscape : ℕ → ℕ → Type 0
IsShortEscape letter byte =
    ((letter ≡ 34) × (byte ≡ 34)) ⊎ (((letter ≡ 92) × (byte ≡ 92)) ⊎ (((letter ≡ 47) × (byte ≡ 47)) ⊎ (((letter ≡ 98) × (byte ≡ 8))
    ⊎ (((letter ≡ 102) × (byte ≡ 12)) ⊎ (((letter ≡ 110) × (byte ≡ 10)) ⊎ (((letter ≡ 114) × (byte ≡ 13)) ⊎ ((letter ≡ 116) × (byte ≡ 9))))))))

abbrev pub IsHexDigit : ℕ → ℕ → Type 0
IsHexDigit byte digit =
    ((48 ≤ byte) × (byte ≤ 57) × (byte ≡ 48 + digit))
    ⊎ (((65 ≤ byte) × (byte ≤ 70) × (byte ≡ 55 + digit)) ⊎ ((97 ≤ byte) × (byte ≤ 102) × (byte ≡ 87 + digit)))

-- a hexadecimal digit at the front of the bytes, and what is left
abbrev pub DigitAt : List ℕ → ℕ → List ℕ → Type 0
DigitAt bytes digit left = (byte : ℕ) × IsHexDigit byte digit × (bytes ≡ byte ∷ left)

abbrev pub NoDigit : List ℕ → Type 0
NoDigit bytes = (digit : ℕ) (left : List ℕ) → DigitAt bytes digit left → ⊥

-- four hexadecimal digits, and the number that they are
pub record UnitAt (bytes : List ℕ) (unit : ℕ) (left : List ℕ) : Type 0 where
  pub a : ℕ
  pub b : ℕ
  pub c : ℕ
  pub d : ℕ
  pub x : ℕ
  pub y : ℕ
  pub z : ℕ
  pub w : ℕ
  pub a_is : IsHexDigit a x
  pub b_is : IsHexDigit b y
  pub c_is : IsHexDigit c z
  pub d_is : IsHexDigit d w
  pub unit_is : unit ≡ ((x * 16 + y) * 16 + z) * 16 + w
  pub bytes_are : bytes ≡ a ∷ b ∷ c ∷ d ∷ left

abbrev pub IsHighSurrogate : ℕ → Type 0
IsHighSurrogate unit = (0xD800 ≤ unit) × (unit ≤ 0xDBFF)

abbrev pub IsLowSurrogate : ℕ → Type 0
IsLowSurrogate unit = (0xDC00 ≤ unit) × (unit ≤ 0xDFFF)

-- an escape that is a low surrogate, at the front of the bytes
abbrev pub LowAt : List ℕ → ℕ → List ℕ → Type 0
LowAt bytes low left = (middle : List ℕ) × (bytes ≡ 92 ∷ 117 ∷ middle) × UnitAt middle low left × IsLowSurrogate low

-- the character of a high and a low surrogate in a row
abbrev pub pair_char : ℕ → ℕ → ℕ
pair_char high low = 0x10000 + (high - 0xD800) * 0x400 + (low - 0xDC00)

-- Behind an opening quote: characters that stand for the content, and the closing quote.
pub data StringAt : List ℕ → List ℕ → List ℕ → Type 0 where
  closing : (left : List ℕ) → StringAt (34 ∷ left) [] left
  plain : (byte : ℕ) (bytes content left : List ℕ) → IsPlain byte → StringAt bytes content left → StringAt (byte ∷ bytes) (byte ∷ content) left
  short : (letter byte : ℕ) (bytes content left : List ℕ) → IsShortEscape letter byte → StringAt bytes content left → StringAt (92 ∷ letter ∷ bytes) (byte ∷ content) left
  unicode : (bytes : List ℕ) (unit : ℕ) (after content left : List ℕ) → UnitAt bytes unit after → IsScalar unit → StringAt after content left
      → StringAt (92 ∷ 117 ∷ bytes) (encode_utf8 unit ++ content) left
  pair : (bytes : List ℕ) (high : ℕ) (middle : List ℕ) (low : ℕ) (after content left : List ℕ) → UnitAt bytes high (92 ∷ 117 ∷ middle) → IsHighSurrogate high
      → UnitAt middle low after → IsLowSurrogate low → StringAt after content left → StringAt (92 ∷ 117 ∷ bytes) (encode_utf8 (pair_char high low) ++ content) left

-- Behind an opening quote: a string that stands for a text within the limits. A surrogate escape that is no
-- part of a pair stands for no character.
abbrev pub TextAt : List ℕ → List ℕ → List ℕ → Type 0
TextAt bytes content left = StringAt bytes content left × IsText content

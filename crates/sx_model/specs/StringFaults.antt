-- What is first wrong in a string (RFC 8259 section 7), read from left to right, piece by piece, and where. The
-- end is the length of the whole text, of which the bytes are a rest: their place is the end less their length.
-- Of the bytes 34 is a quote, 92 a backslash and 117 the letter u.
use Rattle.std.specs.Prelude.{ℕ, zero, suc, ◌≡◌, ◌≢◌, ◌≤◌, ◌<◌, ◌+◌, ◌-◌, ◌⊎◌, List, [], ◌∷◌, length, take, IsUtf8, encode_utf8}
use Rattle.std.specs.Char.{IsScalar}
use Rattle.std.specs.Str.{IsValidUpTo}
use Rattle.sx_model.specs.Strings.{IsPlain, IsShortEscape, DigitAt, NoDigit, UnitAt, LowAt, IsHighSurrogate, IsLowSurrogate, pair_char}
use Rattle.sx_model.specs.Grammar.{BeginsOther}
use Rattle.sx_tree.specs.declared.json_fault.JsonFault.{JsonFault}
use Rattle.sx_tree.specs.declared.json_fault.JsonFault.TheVariants.{BadByte, LoneSurrogate, StringTooLong, Ended}

-- No text goes on with the first of these bytes, or the text ends where it would have to go on.
abbrev pub unexpected : ℕ → List ℕ → JsonFault
unexpected end [] = Ended
unexpected end (byte ∷ bytes) = BadByte (end - length (byte ∷ bytes))

-- the four digits behind `\u`, or one surrogate's and then another's escape, and the character
abbrev pub UnicodeAt : List ℕ → ℕ → List ℕ → Type 0
UnicodeAt bytes character after =
    (UnitAt bytes character after × IsScalar character)
    ⊎ ((high : ℕ) × (middle : List ℕ) × (low : ℕ) × UnitAt bytes high middle × IsHighSurrogate high × LowAt middle low after × (character ≡ pair_char high low))

-- an escape behind its backslash, and the character that it stands for
abbrev pub EscapeAt : List ℕ → ℕ → List ℕ → Type 0
EscapeAt [] character after = ⊥
EscapeAt (letter ∷ bytes) character after = (IsShortEscape letter character × (bytes ≡ after)) ⊎ ((letter ≡ 117) × UnicodeAt bytes character after)

-- a byte that stands for itself or an escape, and what it stands for
abbrev pub PieceAt : List ℕ → List ℕ → List ℕ → Type 0
PieceAt [] content after = ⊥
PieceAt (byte ∷ bytes) content after =
    (IsPlain byte × (content ≡ byte ∷ []) × (bytes ≡ after)) ⊎ ((byte ≡ 92) × (character : ℕ) × EscapeAt bytes character after × (content ≡ encode_utf8 character))

-- Among this many hexadecimal digits one is missing.
abbrev pub DigitsFault : ℕ → ℕ → List ℕ → JsonFault → Type 0
DigitsFault end zero bytes f = ⊥
DigitsFault end (suc count) bytes f = (NoDigit bytes × (f ≡ unexpected end bytes)) ⊎ ((digit : ℕ) × (left : List ℕ) × DigitAt bytes digit left × DigitsFault end count left f)

-- the letter behind a backslash begins no escape
abbrev pub NoEscape : ℕ → Type 0
NoEscape letter = (letter ≢ 117) × ((byte : ℕ) → IsShortEscape letter byte → ⊥)

-- Behind a high surrogate's escape, which began at `start`, and a backslash: no low one's escape goes on.
abbrev pub LowEscapeFault : ℕ → ℕ → List ℕ → JsonFault → Type 0
LowEscapeFault end start [] f = f ≡ Ended
LowEscapeFault end start (letter ∷ digits) f =
    (NoEscape letter × (f ≡ unexpected end (letter ∷ digits)))
    ⊎ (((byte : ℕ) × IsShortEscape letter byte × (f ≡ LoneSurrogate start))
    ⊎ (((letter ≡ 117) × DigitsFault end 4 digits f)
    ⊎ ((letter ≡ 117) × (unit : ℕ) × (after : List ℕ) × UnitAt digits unit after × (IsLowSurrogate unit → ⊥) × (f ≡ LoneSurrogate start))))

-- Behind a high surrogate's escape, which began at `start`: no low one's escape stands there.
abbrev pub LowFault : ℕ → ℕ → List ℕ → JsonFault → Type 0
LowFault end start [] f = f ≡ Ended
LowFault end start (byte ∷ bytes) f =
    ((byte < 32) × (f ≡ unexpected end (byte ∷ bytes)))
    ⊎ (((32 ≤ byte) × (byte ≢ 92) × (f ≡ LoneSurrogate start))
    ⊎ ((byte ≡ 92) × LowEscapeFault end start bytes f))

-- Behind `\u`, whose backslash stands at `start`.
abbrev pub UnicodeFault : ℕ → ℕ → List ℕ → JsonFault → Type 0
UnicodeFault end start bytes f =
    DigitsFault end 4 bytes f
    ⊎ ((unit : ℕ) × (after : List ℕ) × UnitAt bytes unit after × ((IsLowSurrogate unit × (f ≡ LoneSurrogate start)) ⊎ (IsHighSurrogate unit × LowFault end start after f)))

-- Behind a backslash, which stands at `start`.
abbrev pub EscapeFault : ℕ → ℕ → List ℕ → JsonFault → Type 0
EscapeFault end start [] f = f ≡ Ended
EscapeFault end start (letter ∷ bytes) f = (NoEscape letter × (f ≡ unexpected end (letter ∷ bytes))) ⊎ ((letter ≡ 117) × UnicodeFault end start bytes f)

-- Where a byte, an escape or the closing quote is to come.
abbrev pub PieceFault : ℕ → List ℕ → JsonFault → Type 0
PieceFault end [] f = f ≡ Ended
PieceFault end (byte ∷ bytes) f = ((byte < 32) × (f ≡ unexpected end (byte ∷ bytes))) ⊎ ((byte ≡ 92) × EscapeFault end (end - length (byte ∷ bytes)) bytes f)

-- In the string whose opening quote stands at `start`, behind pieces that stand for this many bytes.
pub data StringFault (end start : ℕ) : ℕ → List ℕ → JsonFault → Type 0 where
  in_piece : (count : ℕ) (bytes : List ℕ) (f : JsonFault) → PieceFault end bytes f → StringFault end start count bytes f
  too_long : (count : ℕ) (bytes content after : List ℕ) (f : JsonFault) → PieceAt bytes content after → 1_048_576 < count + length content → f ≡ StringTooLong start → StringFault end start count bytes f
  behind : (count : ℕ) (bytes content after : List ℕ) (f : JsonFault) → PieceAt bytes content after → count + length content ≤ 1_048_576 → StringFault end start (count + length content) after f
      → StringFault end start count bytes f

-- In the string whose opening quote begins the bytes.
abbrev pub QuotedFault : ℕ → List ℕ → JsonFault → Type 0
QuotedFault end bytes f = (inside : List ℕ) × (bytes ≡ 34 ∷ inside) × StringFault end (end - length bytes) 0 inside f

-- Where a string is to come.
abbrev pub QuoteFault : ℕ → List ℕ → JsonFault → Type 0
QuoteFault end bytes f = (BeginsOther 34 bytes × (f ≡ unexpected end bytes)) ⊎ QuotedFault end bytes f

-- What the fault of the bytes in UTF-8 at the front of a text is for the text, where other bytes follow them:
-- it goes on with none of these.
abbrev pub cut : ℕ → JsonFault → JsonFault
cut valid Ended = BadByte valid
cut valid f = f

-- In the string at the front of a text, whatever follows it.
abbrev pub FrontFault : List ℕ → JsonFault → Type 0
FrontFault text f =
    (IsUtf8 text × QuoteFault (length text) text f)
    ⊎ ((IsUtf8 text → ⊥) × (valid : ℕ) × (known : JsonFault) × IsValidUpTo text valid × QuoteFault valid (take valid text) known × (f ≡ cut valid known))

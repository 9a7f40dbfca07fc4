-- The fault of a text: read from left to right, what is first wrong in it, construct by construct, and where
-- (RFC 8259, by the productions of Grammar). The end is the length of the text, of which the bytes are a rest:
-- their place is the end less their length. Of the bytes 34 is a quote, 44 a comma, 58 a colon, 91 and 93 are
-- brackets, 123 and 125 braces.
use Rattle.std.specs.Prelude.{ℕ, zero, suc, ◌≡◌, ◌≤◌, ◌<◌, ◌-◌, ◌⊎◌, List, [], ◌∷◌, ◌++◌, length, take, drop, get_or, codes, Contains, IsUtf8}
use Rattle.std.specs.Str.{IsValidUpTo}
use Rattle.sx_tree.specs.declared.json.Scalar.TheVariants.{Number}
use Rattle.sx_tree.specs.Number.{IsDigit, IsNumber, BeginsNumber, IsLongestFront}
use Rattle.sx_tree.specs.Value.{Value, scalar}
use Rattle.sx_model.specs.Strings.{TextAt}
use Rattle.sx_model.specs.Grammar.{BeginsNumberAt, IsSolid, BeginsOther, Skips, ValueAt, Spells}
use Rattle.sx_model.specs.StringFaults.{unexpected, QuotedFault, QuoteFault, cut}
use Rattle.sx_tree.specs.declared.json_fault.JsonFault.{JsonFault}
use Rattle.sx_tree.specs.declared.json_fault.JsonFault.TheVariants.{BadByte, TooDeep, DuplicateName, NumberTooLong}

-- white space, and then, where it ends, what P says
abbrev pub Next : (List ℕ → Type 0) → List ℕ → Type 0
Next P bytes = (rest : List ℕ) × Skips bytes rest × IsSolid rest × P rest

-- where a value begins: a quote, a minus or a digit, the letters t, f and n, a bracket or a brace
abbrev pub IsFirst : ℕ → Type 0
IsFirst byte = (byte ≡ 34) ⊎ (((byte ≡ 45) ⊎ IsDigit byte) ⊎ ((byte ≡ 116) ⊎ ((byte ≡ 102) ⊎ ((byte ≡ 110) ⊎ ((byte ≡ 91) ⊎ (byte ≡ 123))))))

abbrev pub IsLiteralName : List ℕ → Type 0
IsLiteralName word = (word ≡ codes "true") ⊎ ((word ≡ codes "false") ⊎ (word ≡ codes "null"))

-- Some letters of the word, and then another byte or the end.
abbrev pub WordFault : ℕ → List ℕ → List ℕ → JsonFault → Type 0
WordFault end word bytes f = (count : ℕ) × (rest : List ℕ) × (count < length word) × (bytes ≡ take count word ++ rest) × BeginsOther (get_or word count 0) rest × (f ≡ unexpected end rest)

-- A literal name of which the first letter stands there, and not all.
abbrev pub NameFault : ℕ → List ℕ → JsonFault → Type 0
NameFault end bytes f = (letter : ℕ) × (more : List ℕ) × (inside : List ℕ) × IsLiteralName (letter ∷ more) × (bytes ≡ letter ∷ inside) × WordFault end (letter ∷ more) bytes f

-- A number of which more than 64 bytes stand there, or which is not whole where no number goes on.
abbrev pub NumberFault : ℕ → List ℕ → JsonFault → Type 0
NumberFault end bytes f =
    ((65 ≤ length bytes) × BeginsNumber (take 65 bytes) × (f ≡ NumberTooLong (end - length bytes)))
    ⊎ ((len : ℕ) × (len ≤ 64) × IsLongestFront bytes len × (IsNumber (take len bytes) → ⊥) × (f ≡ unexpected end (drop len bytes)))

-- In a scalar, or at a byte with which no value begins.
abbrev pub ScalarFault : ℕ → List ℕ → JsonFault → Type 0
ScalarFault end bytes f =
    (((byte : ℕ) (rest : List ℕ) → bytes ≡ byte ∷ rest → IsFirst byte → ⊥) × (f ≡ unexpected end bytes))
    ⊎ (QuotedFault end bytes f
    ⊎ ((BeginsNumberAt bytes × NumberFault end bytes f) ⊎ NameFault end bytes f))

-- The value ends there: a number goes on as long as it can.
abbrev pub Ends : Value → List ℕ → Type 0
Ends (scalar (Number literal)) after = (byte : ℕ) (rest : List ℕ) → after ≡ byte ∷ rest → BeginsNumber (literal ++ byte ∷ []) → ⊥
Ends v after = Unit {0}

-- The value stands there, up to its end.
abbrev pub WholeAt : Value → ℕ → List ℕ → List ℕ → Type 0
WholeAt v room bytes after = ValueAt v room bytes after × Ends v after

-- Behind an element or a member: neither a comma nor the closing byte, or a comma, and then what P says.
abbrev pub CommaFault : ℕ → ℕ → (List ℕ → Type 0) → List ℕ → JsonFault → Type 0
CommaFault end closing P bytes f =
    (BeginsOther 44 bytes × BeginsOther closing bytes × (f ≡ unexpected end bytes)) ⊎ ((rest : List ℕ) × (bytes ≡ 44 ∷ rest) × Next P rest)

-- In an array where an element is to come, with at most this many whole elements before what is wrong. What is
-- wrong in an element, P says.
abbrev pub ElementsFault : ℕ → ℕ → (List ℕ → JsonFault → Type 0) → ℕ → List ℕ → JsonFault → Type 0
ElementsFault end room P zero bytes f = P bytes f
ElementsFault end room P (suc count) bytes f =
    (v : Value) × (after : List ℕ) × WholeAt v room bytes after × Next (λ b. CommaFault end 93 (λ d. ElementsFault end room P count d f) b f) after

-- A name that the object does not have, its colon, and then what P says.
abbrev pub NewName : List (List ℕ) → List ℕ → (List ℕ → Type 0) → List ℕ → Type 0
NewName names name P bytes = (inside : List ℕ) × (after : List ℕ) × (bytes ≡ 34 ∷ inside) × TextAt inside name after × (Contains names name → ⊥)
    × Next (λ b. (rest : List ℕ) × (b ≡ 58 ∷ rest) × Next P rest) after

-- In a name of an object that has these names, or behind it, where no colon stands.
abbrev pub MemberNameFault : ℕ → List (List ℕ) → List ℕ → JsonFault → Type 0
MemberNameFault end names bytes f =
    QuoteFault end bytes f
    ⊎ ((name : List ℕ) × (inside : List ℕ) × (after : List ℕ) × (bytes ≡ 34 ∷ inside) × TextAt inside name after
    × ((Contains names name × (f ≡ DuplicateName (end - length bytes))) ⊎ ((Contains names name → ⊥) × Next (λ b. BeginsOther 58 b × (f ≡ unexpected end b)) after)))

-- In an object with these names where a member is to come, with at most this many whole members before what
-- is wrong.
abbrev pub MembersFault : ℕ → ℕ → (List ℕ → JsonFault → Type 0) → ℕ → List (List ℕ) → List ℕ → JsonFault → Type 0
MembersFault end room P zero names bytes f = MemberNameFault end names bytes f ⊎ ((name : List ℕ) × NewName names name (λ d. P d f) bytes)
MembersFault end room P (suc count) names bytes f =
    (name : List ℕ) × NewName names name (λ d. (v : Value) × (after : List ℕ) × WholeAt v room d after
    × Next (λ b. CommaFault end 125 (λ e. MembersFault end room P count (names ++ name ∷ []) e f) b f) after) bytes

-- In the value that begins there. The room is how many arrays and objects may still nest.
unfoldable pub ValueFault : ℕ → ℕ → List ℕ → JsonFault → Type 0
ValueFault end zero bytes f = ScalarFault end bytes f ⊎ ((rest : List ℕ) × ((bytes ≡ 91 ∷ rest) ⊎ (bytes ≡ 123 ∷ rest)) × (f ≡ TooDeep (end - length bytes)))
ValueFault end (suc room) bytes f =
    ScalarFault end bytes f
    ⊎ (((rest : List ℕ) × (count : ℕ) × (bytes ≡ 91 ∷ rest) × Next (λ b. BeginsOther 93 b × ElementsFault end room (ValueFault end room) count b f) rest)
    ⊎ ((rest : List ℕ) × (count : ℕ) × (bytes ≡ 123 ∷ rest) × Next (λ b. BeginsOther 125 b × MembersFault end room (ValueFault end room) count [] b f) rest))

-- In the value of a text, or behind it.
abbrev pub TextFault : ℕ → List ℕ → JsonFault → Type 0
TextFault end text f =
    Next (λ b. ValueFault end 256 b f
    ⊎ ((v : Value) × (after : List ℕ) × WholeAt v 256 b after × Next (λ c. (byte : ℕ) × (rest : List ℕ) × (c ≡ byte ∷ rest) × (f ≡ unexpected end c)) after)) text

-- The fault of a text. Up to the first bytes that are not in UTF-8 it is read as if it ended there, and it
-- goes on with none of them.
abbrev pub Faults : List ℕ → JsonFault → Type 0
Faults text f =
    (IsUtf8 text × TextFault (length text) text f)
    ⊎ ((IsUtf8 text → ⊥) × (valid : ℕ) × IsValidUpTo text valid
    × (((known : JsonFault) × TextFault valid (take valid text) known × (f ≡ cut valid known)) ⊎ ((v : Value) × Spells (take valid text) v × (f ≡ BadByte valid))))

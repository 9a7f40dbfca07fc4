-- The canonical text of a value is no longer than any text that spells it.
use Rattle.std.proofs.Common.{◌≡◌, ℕ, suc, ◌+◌, ◌≤◌, ◌<◌, inl, inr, List, [], ◌∷◌, ◌++◌, ap, arith, length, flat_map, true, false, append-nil, encode_utf8}
use Rattle.std.proofs.lemmas.Bool.{cases_lt}
use Rattle.std.proofs.lemmas.Grind.{flat_map-append}
use Rattle.std.proofs.lemmas.List.{length-append}
use Rattle.std.proofs.lemmas.Str.{encode_ascii, length-encode, len_utf8_bounds}
use Rattle.sx_tree.specs.declared.json.Scalar.{Scalar}
use Rattle.sx_tree.specs.declared.json.Scalar.TheVariants.{Str, Number, Bool, Null}
use Rattle.sx_tree.specs.Value.{Value, scalar, array, object, Values, no_values, value_then, Fields, no_fields, field_then}
use Rattle.sx_model.specs.Canonical.{escaped, string_text, scalar_text, text, elements_text, more_elements_text, members_text, more_members_text}
use Rattle.sx_model.specs.Strings.{IsShortEscape, StringAt, closing, plain, short, unicode, pair, pair_char}
use Rattle.sx_model.specs.Grammar.{NameThen, ScalarAt, ValueAt, MoreElementsAt, MoreMembersAt, Spells}
use Rattle.sx_model.proofs.Tokens.{Element, Member, led_some, marked_some, named_some, behind_comma, member_behind_comma}
use Rattle.sx_model.proofs.WrittenStrings.{Written, by_itself, by_letter, by_number, written, escaped_plain, high_char}

-- ---- strings

escaped_length : (byte : ℕ) → length (escaped byte) ≤ 6
escaped_length byte = by_way (written byte)
  where
    by_way : Written byte → length (escaped byte) ≤ 6
    by_way (by_itself p e) = omega (arith, ap length e)
    by_way (by_letter letter p e) = omega (arith, ap length e)
    by_way (by_number small e) = omega (arith, ap length e)

char_length : (c : ℕ) → length (flat_map escaped (encode_utf8 c)) ≤ 6
char_length c = elim (cases_lt c 128) [
  | inl small ↦ rw (encode_ascii c small, append-nil) (escaped_length c)
  | inr big ↦ rw (high_char c big) (omega (arith, length-encode c, (len_utf8_bounds c).1))
]

short_length : (letter byte : ℕ) → IsShortEscape letter byte → length (escaped byte) ≤ 2
short_length letter byte (inl e) = rw e.1 (omega arith)
short_length letter byte (inr (inl e)) = rw e.1 (omega arith)
short_length letter byte (inr (inr (inl e))) = rw e.1 (omega arith)
short_length letter byte (inr (inr (inr (inl e)))) = rw e.1 (omega arith)
short_length letter byte (inr (inr (inr (inr (inl e))))) = rw e.1 (omega arith)
short_length letter byte (inr (inr (inr (inr (inr (inl e)))))) = rw e.1 (omega arith)
short_length letter byte (inr (inr (inr (inr (inr (inr (inl e))))))) = rw e.1 (omega arith)
short_length letter byte (inr (inr (inr (inr (inr (inr (inr e))))))) = rw e.1 (omega arith)

-- a character and what follows it
char_then : (c : ℕ) (content : List ℕ) → length (flat_map escaped (encode_utf8 c ++ content)) ≤ 6 + length (flat_map escaped content)
char_then c content =
    rw (flat_map-append escaped (encode_utf8 c) content)
    (omega (arith, length-append (flat_map escaped (encode_utf8 c)) (flat_map escaped content), char_length c))

content_short : (bytes content left : List ℕ) → StringAt bytes content left → length (flat_map escaped content) + suc (length left) ≤ length bytes
content_short bytes content left (closing l) = omega arith
content_short bytes content left (plain byte rest c l p s) =
    omega (arith, length-append (escaped byte) (flat_map escaped c), ap length (escaped_plain byte p), content_short rest c l s)
content_short bytes content left (short letter byte rest c l p s) =
    omega (arith, length-append (escaped byte) (flat_map escaped c), short_length letter byte p, content_short rest c l s)
content_short bytes content left (unicode rest unit after c l u p s) =
    omega (arith, char_then unit c, ap length u.bytes_are, content_short after c l s)
content_short bytes content left (pair rest high middle low after c l u p v q s) =
    omega (arith, char_then (pair_char high low) c, ap length u.bytes_are, ap length v.bytes_are, content_short after c l s)

string_short : (inside content left : List ℕ) → StringAt inside content left → length (string_text content) + length left ≤ suc (length inside)
string_short inside content left s = omega (arith, length-append (flat_map escaped content) (34 ∷ []), content_short inside content left s)

scalar_short : (s : Scalar) (bytes left : List ℕ) → ScalarAt s bytes left → length (scalar_text s) + length left ≤ length bytes
scalar_short (Str content) bytes left h = omega (arith, string_short h.0 content left h.2.0, ap length h.1)
scalar_short (Number literal) bytes left h = omega (arith, ap length h.1, length-append literal left)
scalar_short (Bool true) bytes left h = omega (arith, ap length h)
scalar_short (Bool false) bytes left h = omega (arith, ap length h)
scalar_short Null bytes left h = omega (arith, ap length h)

-- ---- arrays and objects

-- the closing byte behind white space
closed_short : (mark : ℕ) (bytes left : List ℕ) → (rest : List ℕ) × (length rest ≤ length bytes) × (rest ≡ mark ∷ left) → length left < length bytes
closed_short mark bytes left place = omega (arith, place.1, ap length place.2)

mutual
  value_short : (v : Value) (room : ℕ) (bytes left : List ℕ) → ValueAt v room bytes left → length (text v) + length left ≤ length bytes
  value_short (scalar s) room bytes left h = scalar_short s bytes left h
  value_short (array vs) room bytes left h =
      let more = behind_comma vs h.0 h.1 left h.4 in
      omega (arith, ap length h.3, length-append (elements_text vs) (93 ∷ []), more.2, elements_short vs h.0 more.0 left more.1)
  value_short (object fs) room bytes left h =
      let more = member_behind_comma fs h.0 h.1 left h.5 in
      omega (arith, ap length h.3, length-append (members_text fs) (125 ∷ []), more.2, members_short fs h.0 more.0 left more.1)

  elements_short : (vs : Values) (room : ℕ) (bytes left : List ℕ) → MoreElementsAt vs room bytes left → length (more_elements_text vs) + length left < length bytes
  elements_short no_values room bytes left h = omega (arith, closed_short 93 bytes left (led_some (λ b. b ≡ 93 ∷ left) bytes h))
  elements_short (value_then v vs) room bytes left h =
      let place = marked_some 44 (Element v vs room left) bytes h in
      omega (arith, place.1, length-append (text v) (more_elements_text vs), value_short v room place.0 place.2.0 place.2.1, elements_short vs room place.2.0 left place.2.2)

  members_short : (fs : Fields) (room : ℕ) (bytes left : List ℕ) → MoreMembersAt fs room bytes left → length (more_members_text fs) + length left < length bytes
  members_short no_fields room bytes left h = omega (arith, closed_short 125 bytes left (led_some (λ b. b ≡ 125 ∷ left) bytes h))
  members_short (field_then name v fs) room bytes left h =
      let place = marked_some 44 (NameThen name (Member v fs room left)) bytes h in
      let named = named_some name (Member v fs room left) place.0 place.2 in
      omega (
        arith,
        place.1,
        ap length named.3,
        string_short named.0 name named.1 named.4.0,
        named.5,
        length-append (string_text name) (58 ∷ text v ++ more_members_text fs),
        length-append (text v) (more_members_text fs),
        value_short v room named.2 named.6.0 named.6.1,
        members_short fs room named.6.0 left named.6.2,
      )

-- No text that spells a value is shorter than its canonical text.
pub spells_no_shorter : (bytes : List ℕ) (v : Value) → Spells bytes v → length (text v) ≤ length bytes
spells_no_shorter bytes v s =
    let place = led_some (λ b. ValueAt v 256 b s.1) bytes s.2 in
    omega (arith, place.1, value_short v 256 place.0 s.1 place.2)

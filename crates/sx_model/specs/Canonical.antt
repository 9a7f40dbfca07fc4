-- The one text that is written of a value (RFC 8259): no white space outside strings, elements and members
-- in their order.
use Rattle.std.specs.Prelude.{ℕ, zero, suc, ◌+◌, ◌/◌, ◌%◌, List, [], ◌∷◌, ◌++◌, true, false, if◌then◌else◌, ◌==◌, nat_lt, flat_map, codes}
use Rattle.sx_tree.specs.declared.json.Scalar.{Scalar}
use Rattle.sx_tree.specs.declared.json.Scalar.TheVariants.{Str, Number, Bool, Null}
use Rattle.sx_tree.specs.Value.{Value, scalar, array, object, Values, no_values, value_then, Fields, no_fields, field_then}

-- a digit to the base 16, in lower case
abbrev pub lower_hex_digit : ℕ → ℕ
lower_hex_digit n = if nat_lt n 10 then 48 + n else 87 + n

-- A byte as it stands in a string. The quote, the backslash and characters below U+0020 are escaped,
-- and each other byte stands as it is (section 7).
abbrev pub escaped : ℕ → List ℕ
escaped byte =
    if byte == 34 then codes "\\\"" else
    if byte == 92 then codes "\\\\" else
    if byte == 8 then codes "\\b" else
    if byte == 12 then codes "\\f" else
    if byte == 10 then codes "\\n" else
    if byte == 13 then codes "\\r" else
    if byte == 9 then codes "\\t" else
    if nat_lt byte 32 then codes "\\u00" ++ lower_hex_digit (byte / 16) ∷ lower_hex_digit (byte % 16) ∷ [] else
    byte ∷ []

abbrev pub string_text : List ℕ → List ℕ
string_text content = 34 ∷ flat_map escaped content ++ 34 ∷ []

abbrev pub scalar_text : Scalar → List ℕ
scalar_text (Str content) = string_text content
scalar_text (Number literal) = literal
scalar_text (Bool true) = codes "true"
scalar_text (Bool false) = codes "false"
scalar_text Null = codes "null"

-- what stands before the value at a place
abbrev pub comma_before : ℕ → List ℕ
comma_before zero = []
comma_before (suc place) = 44 ∷ []

abbrev mutual
  pub text : Value → List ℕ
  text (scalar s) = scalar_text s
  text (array vs) = 91 ∷ elements_text vs ++ 93 ∷ []
  text (object fs) = 123 ∷ members_text fs ++ 125 ∷ []

  -- the values with commas between them
  pub elements_text : Values → List ℕ
  elements_text no_values = []
  elements_text (value_then v vs) = text v ++ more_elements_text vs

  -- each value behind a comma
  pub more_elements_text : Values → List ℕ
  more_elements_text no_values = []
  more_elements_text (value_then v vs) = 44 ∷ text v ++ more_elements_text vs

  -- the names and values with commas between them
  pub members_text : Fields → List ℕ
  members_text no_fields = []
  members_text (field_then name v fs) = string_text name ++ (58 ∷ text v ++ more_members_text fs)

  -- each name and value behind a comma
  pub more_members_text : Fields → List ℕ
  more_members_text no_fields = []
  more_members_text (field_then name v fs) = 44 ∷ string_text name ++ (58 ∷ text v ++ more_members_text fs)

-- JSON texts of RFC 8259, by cases on the value. Each relation says what stands at the front of the bytes,
-- and what is left behind it.
use Rattle.std.specs.Prelude.{ℕ, suc, ◌≡◌, ◌⊎◌, List, [], ◌∷◌, ◌++◌, true, false, codes, IsUtf8}
use Rattle.sx_tree.specs.declared.json.Scalar.{Scalar}
use Rattle.sx_tree.specs.declared.json.Scalar.TheVariants.{Str, Number, Bool, Null}
use Rattle.sx_tree.specs.Names.{AreDistinct}
use Rattle.sx_tree.specs.Number.{IsDigit, IsLiteral}
use Rattle.sx_tree.specs.Value.{Value, scalar, array, object, Values, no_values, value_then, Fields, no_fields, field_then}
use Rattle.sx_model.specs.Strings.{TextAt}

-- white space (section 2)
abbrev pub IsBlank : ℕ → Type 0
IsBlank byte = (byte ≡ 32) ⊎ ((byte ≡ 9) ⊎ ((byte ≡ 10) ⊎ (byte ≡ 13)))

abbrev pub AreBlanks : List ℕ → Type 0
AreBlanks [] = Unit {0}
AreBlanks (byte ∷ bytes) = IsBlank byte × AreBlanks bytes

-- the bytes do not begin with white space
abbrev pub IsSolid : List ℕ → Type 0
IsSolid bytes = (byte : ℕ) (rest : List ℕ) → bytes ≡ byte ∷ rest → IsBlank byte → ⊥

-- the bytes do not begin with this one
abbrev pub BeginsOther : ℕ → List ℕ → Type 0
BeginsOther byte bytes = (rest : List ℕ) → bytes ≡ byte ∷ rest → ⊥

-- a minus or a digit begins the bytes
abbrev pub BeginsNumberAt : List ℕ → Type 0
BeginsNumberAt bytes = (byte : ℕ) × (rest : List ℕ) × (bytes ≡ byte ∷ rest) × ((byte ≡ 45) ⊎ IsDigit byte)

-- the bytes are white space and the rest
abbrev pub Skips : List ℕ → List ℕ → Type 0
Skips bytes rest = (blanks : List ℕ) × AreBlanks blanks × (bytes ≡ blanks ++ rest)

-- white space, and then what P says
abbrev pub Led : (List ℕ → Type 0) → List ℕ → Type 0
Led P [] = P []
Led P (byte ∷ bytes) = P (byte ∷ bytes) ⊎ (IsBlank byte × Led P bytes)

-- a string, a number of at most 64 bytes, or a literal name (sections 3, 6 and 7)
abbrev pub ScalarAt : Scalar → List ℕ → List ℕ → Type 0
ScalarAt (Str content) bytes left = (inside : List ℕ) × (bytes ≡ 34 ∷ inside) × TextAt inside content left
ScalarAt (Number literal) bytes left = IsLiteral literal × (bytes ≡ literal ++ left)
ScalarAt (Bool true) bytes left = bytes ≡ codes "true" ++ left
ScalarAt (Bool false) bytes left = bytes ≡ codes "false" ++ left
ScalarAt Null bytes left = bytes ≡ codes "null" ++ left

-- the names of an object's members
abbrev pub names_in : Fields → List (List ℕ)
names_in no_fields = []
names_in (field_then name v fs) = name ∷ names_in fs

-- a name and its colon, and then what P says (section 4)
abbrev pub NameThen : List ℕ → (List ℕ → Type 0) → List ℕ → Type 0
NameThen name P bytes = (inside : List ℕ) × (after : List ℕ) × (bytes ≡ 34 ∷ inside) × TextAt inside name after × Led (λ b. (behind : List ℕ) × (b ≡ 58 ∷ behind) × Led P behind) after

-- The room is how many arrays and objects may still nest there.
abbrev mutual
  pub ValueAt : Value → ℕ → List ℕ → List ℕ → Type 0
  ValueAt (scalar s) room bytes left = ScalarAt s bytes left
  ValueAt (array vs) room bytes left = (inner : ℕ) × (rest : List ℕ) × (room ≡ suc inner) × (bytes ≡ 91 ∷ rest) × ElementsAt vs inner rest left
  ValueAt (object fs) room bytes left = (inner : ℕ) × (rest : List ℕ) × (room ≡ suc inner) × (bytes ≡ 123 ∷ rest) × AreDistinct (names_in fs) × MembersAt fs inner rest left

  -- behind the opening bracket of an array, up to and with the closing one (section 5)
  pub ElementsAt : Values → ℕ → List ℕ → List ℕ → Type 0
  ElementsAt no_values room bytes left = Led (λ b. b ≡ 93 ∷ left) bytes
  ElementsAt (value_then v vs) room bytes left = Led (λ b. (after : List ℕ) × ValueAt v room b after × MoreElementsAt vs room after left) bytes

  -- the same behind a value
  pub MoreElementsAt : Values → ℕ → List ℕ → List ℕ → Type 0
  MoreElementsAt no_values room bytes left = Led (λ b. b ≡ 93 ∷ left) bytes
  MoreElementsAt (value_then v vs) room bytes left =
      Led (λ b. (behind : List ℕ) × (b ≡ 44 ∷ behind) × Led (λ d. (after : List ℕ) × ValueAt v room d after × MoreElementsAt vs room after left) behind) bytes

  -- behind the opening brace of an object, up to and with the closing one (section 4)
  pub MembersAt : Fields → ℕ → List ℕ → List ℕ → Type 0
  MembersAt no_fields room bytes left = Led (λ b. b ≡ 125 ∷ left) bytes
  MembersAt (field_then name v fs) room bytes left = Led (NameThen name (λ d. (after : List ℕ) × ValueAt v room d after × MoreMembersAt fs room after left)) bytes

  -- the same behind a value
  pub MoreMembersAt : Fields → ℕ → List ℕ → List ℕ → Type 0
  MoreMembersAt no_fields room bytes left = Led (λ b. b ≡ 125 ∷ left) bytes
  MoreMembersAt (field_then name v fs) room bytes left =
      Led (λ b. (behind : List ℕ) × (b ≡ 44 ∷ behind) × Led (NameThen name (λ d. (after : List ℕ) × ValueAt v room d after × MoreMembersAt fs room after left)) behind) bytes

-- The text is in UTF-8 and one spelling of the value, with white space around its tokens, at most 256 arrays
-- and objects nested, and no name twice in an object.
abbrev pub Spells : List ℕ → Value → Type 0
Spells text v = IsUtf8 text × (after : List ℕ) × Led (λ b. ValueAt v 256 b after) text × AreBlanks after

-- A value's text spells the value.
use Rattle.std.proofs.Common.{◌≡◌, ℕ, zero, suc, ◌≤◌, inl, List, [], ◌∷◌, ◌++◌, true, false, refl, ap, sym, subst, arith, append_assoc, append-nil, IsUtf8, flat_map}
use Rattle.std.proofs.lemmas.Str.{IsUtf8-append, IsUtf8-nil}
use Rattle.sx_tree.specs.declared.json.Scalar.{Scalar}
use Rattle.sx_tree.specs.declared.json.Scalar.TheVariants.{Str, Number, Bool, Null}
use Rattle.sx_tree.specs.Value.{Value, scalar, array, object, Values, no_values, value_then, Fields, no_fields, field_then, depth, depth_of_values, depth_of_fields}
use Rattle.sx_model.specs.Canonical.{escaped, string_text, scalar_text, text, elements_text, more_elements_text, members_text, more_members_text}
use Rattle.sx_model.specs.Grammar.{Led, NameThen, ScalarAt, ValueAt, ElementsAt, MoreElementsAt, MembersAt, MoreMembersAt, Spells}
use Rattle.sx_model.specs.Limits.{ScalarKeepsLimits, KeepsLimits, ElementsKeepLimits, MembersKeepLimits}
use Rattle.sx_model.specs.Strings.{TextAt}
use Rattle.sx_tree.specs.Text.{IsText}
use Rattle.sx_model.proofs.FirstBytes.{Led-from}
use Rattle.sx_model.proofs.Tokens.{Element, Member}
use Rattle.sx_model.proofs.WrittenStrings.{content_spelled, IsUtf8-string_text}
use Rattle.sx_tree.proofs.NumberTexts.{ascii_then, IsUtf8-number}

string_spelled : (content after : List ℕ) → IsText content → TextAt (flat_map escaped content ++ 34 ∷ after) content after
string_spelled content after h = (content_spelled content after, h)

-- a string's text, before what follows it
string_before : (content after : List ℕ) → string_text content ++ after ≡ 34 ∷ flat_map escaped content ++ 34 ∷ after
string_before content after = ap (λ l. 34 ∷ l) (append_assoc (flat_map escaped content) (34 ∷ []) after)

scalar_spelled : (s : Scalar) (left : List ℕ) → ScalarKeepsLimits s → ScalarAt s (scalar_text s ++ left) left
scalar_spelled (Str content) left h = (flat_map escaped content ++ 34 ∷ left, string_before content left, string_spelled content left h)
scalar_spelled (Number literal) left h = (h, refl)
scalar_spelled (Bool true) left h = refl
scalar_spelled (Bool false) left h = refl
scalar_spelled Null left h = refl

-- a name, its colon, and what P says of the rest
name_spelled : (name rest : List ℕ) (P : List ℕ → Type 0) → IsText name → P rest → NameThen name P (string_text name ++ (58 ∷ rest))
name_spelled name rest P h p =
    (flat_map escaped name ++ 34 ∷ 58 ∷ rest, 58 ∷ rest, string_before name (58 ∷ rest), string_spelled name (58 ∷ rest) h, inl (rest, refl, Led-from P rest p))

member_before : (name value more left : List ℕ) → (name ++ (58 ∷ value ++ more)) ++ left ≡ name ++ (58 ∷ value ++ (more ++ left))
member_before name value more left = simp append_assoc

element_led : (v : Value) (vs : Values) (room : ℕ) (left : List ℕ) → ValueAt v room (text v ++ (more_elements_text vs ++ 93 ∷ left)) (more_elements_text vs ++ 93 ∷ left)
    → MoreElementsAt vs room (more_elements_text vs ++ 93 ∷ left) left → Led (Element v vs room left) ((text v ++ more_elements_text vs) ++ 93 ∷ left)
element_led v vs room left h more =
    let after : List ℕ = more_elements_text vs ++ 93 ∷ left in
    subst (Led (Element v vs room left)) (sym (append_assoc (text v) (more_elements_text vs) (93 ∷ left))) (Led-from (Element v vs room left) (text v ++ after) (after, h, more))

member_led : (name : List ℕ) (v : Value) (fs : Fields) (room : ℕ) (left : List ℕ) → IsText name → ValueAt v room (text v ++ (more_members_text fs ++ 125 ∷ left)) (more_members_text fs ++ 125 ∷ left)
    → MoreMembersAt fs room (more_members_text fs ++ 125 ∷ left) left → Led (NameThen name (Member v fs room left)) ((string_text name ++ (58 ∷ text v ++ more_members_text fs)) ++ 125 ∷ left)
member_led name v fs room left t h more =
    let after : List ℕ = more_members_text fs ++ 125 ∷ left in
    subst (Led (NameThen name (Member v fs room left))) (sym (member_before (string_text name) (text v) (more_members_text fs) (125 ∷ left)))
    (Led-from (NameThen name (Member v fs room left)) (string_text name ++ (58 ∷ text v ++ after)) (name_spelled name (text v ++ after) (Member v fs room left) t (after, h, more)))

mutual
  value_spelled : (v : Value) (room : ℕ) (left : List ℕ) → KeepsLimits v → depth v ≤ room → ValueAt v room (text v ++ left) left
  value_spelled (scalar s) room left h d = scalar_spelled s left h
  value_spelled (array vs) zero left h d = absurd (omega (arith, d))
  value_spelled (array vs) (suc room) left h d =
      (room, elements_text vs ++ 93 ∷ left, refl, ap (λ l. 91 ∷ l) (append_assoc (elements_text vs) (93 ∷ []) left), elements_spelled vs room left h (omega (arith, d)))
  value_spelled (object fs) zero left h d = absurd (omega (arith, d))
  value_spelled (object fs) (suc room) left h d =
      (room, members_text fs ++ 125 ∷ left, refl, ap (λ l. 123 ∷ l) (append_assoc (members_text fs) (125 ∷ []) left), h.0, members_spelled fs room left h.1 (omega (arith, d)))

  elements_spelled : (vs : Values) (room : ℕ) (left : List ℕ) → ElementsKeepLimits vs → depth_of_values vs ≤ room → ElementsAt vs room (elements_text vs ++ 93 ∷ left) left
  elements_spelled no_values room left h d = inl refl
  elements_spelled (value_then v vs) room left h d =
      element_led v vs room left (value_spelled v room (more_elements_text vs ++ 93 ∷ left) h.0 (omega (arith, d))) (more_elements_spelled vs room left h.1 (omega (arith, d)))

  more_elements_spelled : (vs : Values) (room : ℕ) (left : List ℕ) → ElementsKeepLimits vs → depth_of_values vs ≤ room → MoreElementsAt vs room (more_elements_text vs ++ 93 ∷ left) left
  more_elements_spelled no_values room left h d = inl refl
  more_elements_spelled (value_then v vs) room left h d =
      let led : Led (Element v vs room left) ((text v ++ more_elements_text vs) ++ 93 ∷ left)
      = element_led v vs room left (value_spelled v room (more_elements_text vs ++ 93 ∷ left) h.0 (omega (arith, d))) (more_elements_spelled vs room left h.1 (omega (arith, d))) in
      inl ((text v ++ more_elements_text vs) ++ 93 ∷ left, refl, led)

  members_spelled : (fs : Fields) (room : ℕ) (left : List ℕ) → MembersKeepLimits fs → depth_of_fields fs ≤ room → MembersAt fs room (members_text fs ++ 125 ∷ left) left
  members_spelled no_fields room left h d = inl refl
  members_spelled (field_then name v fs) room left h d =
      member_led name v fs room left h.0 (value_spelled v room (more_members_text fs ++ 125 ∷ left) h.1 (omega (arith, d))) (more_members_spelled fs room left h.2 (omega (arith, d)))

  more_members_spelled : (fs : Fields) (room : ℕ) (left : List ℕ) → MembersKeepLimits fs → depth_of_fields fs ≤ room → MoreMembersAt fs room (more_members_text fs ++ 125 ∷ left) left
  more_members_spelled no_fields room left h d = inl refl
  more_members_spelled (field_then name v fs) room left h d =
      let led : Led (NameThen name (Member v fs room left)) ((string_text name ++ (58 ∷ text v ++ more_members_text fs)) ++ 125 ∷ left)
      = member_led name v fs room left h.0 (value_spelled v room (more_members_text fs ++ 125 ∷ left) h.1 (omega (arith, d))) (more_members_spelled fs room left h.2 (omega (arith, d))) in
      inl ((string_text name ++ (58 ∷ text v ++ more_members_text fs)) ++ 125 ∷ left, refl, led)

-- a byte below 128 behind bytes in UTF-8
closed_by : (byte : ℕ) (bytes : List ℕ) → byte ≤ 127 → IsUtf8 bytes → IsUtf8 (bytes ++ byte ∷ [])
closed_by byte bytes small u = IsUtf8-append bytes (byte ∷ []) u (ascii_then byte [] (omega arith) IsUtf8-nil)

mutual
  text_utf8 : (v : Value) → KeepsLimits v → IsUtf8 (text v)
  text_utf8 (scalar (Str content)) h = IsUtf8-string_text content h.0
  text_utf8 (scalar (Number literal)) h = IsUtf8-number literal h.0
  text_utf8 (scalar (Bool true)) h = ascii_then 116 (114 ∷ 117 ∷ 101 ∷ []) (omega arith) (ascii_then 114 (117 ∷ 101 ∷ []) (omega arith) (ascii_then 117 (101 ∷ []) (omega arith) (ascii_then 101 [] (omega arith) IsUtf8-nil)))
  text_utf8 (scalar (Bool false)) h =
      ascii_then 102 (97 ∷ 108 ∷ 115 ∷ 101 ∷ []) (omega arith)
      (ascii_then 97 (108 ∷ 115 ∷ 101 ∷ []) (omega arith) (ascii_then 108 (115 ∷ 101 ∷ []) (omega arith) (ascii_then 115 (101 ∷ []) (omega arith) (ascii_then 101 [] (omega arith) IsUtf8-nil))))
  text_utf8 (scalar Null) h = ascii_then 110 (117 ∷ 108 ∷ 108 ∷ []) (omega arith) (ascii_then 117 (108 ∷ 108 ∷ []) (omega arith) (ascii_then 108 (108 ∷ []) (omega arith) (ascii_then 108 [] (omega arith) IsUtf8-nil)))
  text_utf8 (array vs) h = ascii_then 91 (elements_text vs ++ 93 ∷ []) (omega arith) (closed_by 93 (elements_text vs) (omega arith) (elements_utf8 vs h))
  text_utf8 (object fs) h = ascii_then 123 (members_text fs ++ 125 ∷ []) (omega arith) (closed_by 125 (members_text fs) (omega arith) (members_utf8 fs h.1))

  elements_utf8 : (vs : Values) → ElementsKeepLimits vs → IsUtf8 (elements_text vs)
  elements_utf8 no_values h = IsUtf8-nil
  elements_utf8 (value_then v vs) h = IsUtf8-append (text v) (more_elements_text vs) (text_utf8 v h.0) (more_elements_utf8 vs h.1)

  more_elements_utf8 : (vs : Values) → ElementsKeepLimits vs → IsUtf8 (more_elements_text vs)
  more_elements_utf8 no_values h = IsUtf8-nil
  more_elements_utf8 (value_then v vs) h = ascii_then 44 (text v ++ more_elements_text vs) (omega arith) (IsUtf8-append (text v) (more_elements_text vs) (text_utf8 v h.0) (more_elements_utf8 vs h.1))

  members_utf8 : (fs : Fields) → MembersKeepLimits fs → IsUtf8 (members_text fs)
  members_utf8 no_fields h = IsUtf8-nil
  members_utf8 (field_then name v fs) h =
      IsUtf8-append (string_text name) (58 ∷ text v ++ more_members_text fs) (IsUtf8-string_text name h.0.0)
      (ascii_then 58 (text v ++ more_members_text fs) (omega arith) (IsUtf8-append (text v) (more_members_text fs) (text_utf8 v h.1) (more_members_utf8 fs h.2)))

  more_members_utf8 : (fs : Fields) → MembersKeepLimits fs → IsUtf8 (more_members_text fs)
  more_members_utf8 no_fields h = IsUtf8-nil
  more_members_utf8 (field_then name v fs) h =
      ascii_then 44 (string_text name ++ (58 ∷ text v ++ more_members_text fs)) (omega arith)
      (IsUtf8-append (string_text name) (58 ∷ text v ++ more_members_text fs) (IsUtf8-string_text name h.0.0)
      (ascii_then 58 (text v ++ more_members_text fs) (omega arith) (IsUtf8-append (text v) (more_members_text fs) (text_utf8 v h.1) (more_members_utf8 fs h.2))))

pub text_spelled : (v : Value) → KeepsLimits v → depth v ≤ 256 → Spells (text v) v
text_spelled v h d =
    (text_utf8 v h, [], subst (Led (λ b. ValueAt v 256 b [])) (append-nil (text v)) (Led-from (λ b. ValueAt v 256 b []) (text v ++ []) (value_spelled v 256 [] h d)), tt)

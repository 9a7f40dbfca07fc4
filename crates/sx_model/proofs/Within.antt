-- What is spelled is within the limits, and nests no deeper than there is room.
use Rattle.std.proofs.Common.{ℕ, ◌≤◌, List, true, false, arith}
use Rattle.sx_tree.specs.declared.json.Scalar.{Scalar}
use Rattle.sx_tree.specs.declared.json.Scalar.TheVariants.{Str, Number, Bool, Null}
use Rattle.sx_tree.specs.Value.{Value, scalar, array, object, Values, no_values, value_then, Fields, no_fields, field_then, depth, depth_of_values, depth_of_fields}
use Rattle.sx_model.specs.Grammar.{NameThen, ScalarAt, ValueAt, MoreElementsAt, MoreMembersAt, Spells}
use Rattle.sx_model.specs.Limits.{ScalarKeepsLimits, KeepsLimits, ElementsKeepLimits, MembersKeepLimits}
use Rattle.sx_model.proofs.Tokens.{Element, Member, led_some, marked_some, named_some, behind_comma, member_behind_comma}

scalar_within : (s : Scalar) (bytes left : List ℕ) → ScalarAt s bytes left → ScalarKeepsLimits s
scalar_within (Str content) bytes left h = h.2.1
scalar_within (Number literal) bytes left h = h.0
scalar_within (Bool true) bytes left h = tt
scalar_within (Bool false) bytes left h = tt
scalar_within Null bytes left h = tt

mutual
  value_within : (v : Value) (room : ℕ) (bytes left : List ℕ) → ValueAt v room bytes left → KeepsLimits v × (depth v ≤ room)
  value_within (scalar s) room bytes left h = (scalar_within s bytes left h, omega arith)
  value_within (array vs) room bytes left h =
      let more = behind_comma vs h.0 h.1 left h.4 in
      let all = elements_within vs h.0 more.0 left more.1 in (all.0, omega (arith, h.2, all.1))
  value_within (object fs) room bytes left h =
      let more = member_behind_comma fs h.0 h.1 left h.5 in
      let all = members_within fs h.0 more.0 left more.1 in ((h.4, all.0), omega (arith, h.2, all.1))

  elements_within : (vs : Values) (room : ℕ) (bytes left : List ℕ) → MoreElementsAt vs room bytes left → ElementsKeepLimits vs × (depth_of_values vs ≤ room)
  elements_within no_values room bytes left h = (tt, omega arith)
  elements_within (value_then v vs) room bytes left h =
      let place = marked_some 44 (Element v vs room left) bytes h in
      let one = value_within v room place.0 place.2.0 place.2.1 in
      let all = elements_within vs room place.2.0 left place.2.2 in ((one.0, all.0), omega (arith, one.1, all.1))

  members_within : (fs : Fields) (room : ℕ) (bytes left : List ℕ) → MoreMembersAt fs room bytes left → MembersKeepLimits fs × (depth_of_fields fs ≤ room)
  members_within no_fields room bytes left h = (tt, omega arith)
  members_within (field_then name v fs) room bytes left h =
      let place = marked_some 44 (NameThen name (Member v fs room left)) bytes h in
      let named = named_some name (Member v fs room left) place.0 place.2 in
      let one = value_within v room named.2 named.6.0 named.6.1 in
      let all = members_within fs room named.6.0 left named.6.2 in ((named.4.1, one.0, all.0), omega (arith, one.1, all.1))

-- What is spelled is within the limits and nests at most 256 deep.
pub spells_within : (text : List ℕ) (v : Value) → Spells text v → KeepsLimits v × (depth v ≤ 256)
spells_within text v s = let place = led_some (λ b. ValueAt v 256 b s.1) text s.2 in value_within v 256 place.0 s.1 place.2

-- What stands behind white space, behind commas and behind names.
use Rattle.std.proofs.Common.{◌≡◌, ℕ, ◌+◌, ◌≤◌, ◌<◌, inl, inr, List, [], ◌∷◌, refl, ap, arith, length}
use Rattle.sx_tree.specs.Value.{Value, Values, no_values, value_then, Fields, no_fields, field_then}
use Rattle.sx_model.specs.Canonical.{elements_text, more_elements_text, members_text, more_members_text}
use Rattle.sx_model.specs.Strings.{TextAt}
use Rattle.sx_model.specs.Grammar.{Led, NameThen, ValueAt, ElementsAt, MoreElementsAt, MembersAt, MoreMembersAt}

-- a value and what follows it in an array, and in an object
abbrev pub Element : Value → Values → ℕ → List ℕ → List ℕ → Type 0
Element v vs room left bytes = (after : List ℕ) × ValueAt v room bytes after × MoreElementsAt vs room after left

abbrev pub Member : Value → Fields → ℕ → List ℕ → List ℕ → Type 0
Member v fs room left bytes = (after : List ℕ) × ValueAt v room bytes after × MoreMembersAt fs room after left

-- a byte, white space, and then what P says
abbrev pub Marked : ℕ → (List ℕ → Type 0) → List ℕ → Type 0
Marked mark P bytes = (behind : List ℕ) × (bytes ≡ mark ∷ behind) × Led P behind

pub led_some : (P : List ℕ → Type 0) (bytes : List ℕ) → Led P bytes → (rest : List ℕ) × (length rest ≤ length bytes) × P rest
led_some P [] p = ([], omega arith, p)
led_some P (byte ∷ bytes) (inl p) = (byte ∷ bytes, omega arith, p)
led_some P (byte ∷ bytes) (inr p) = let s = led_some P bytes p.1 in (s.0, omega (arith, s.1), s.2)

pub marked_some : (mark : ℕ) (P : List ℕ → Type 0) (bytes : List ℕ) → Led (Marked mark P) bytes → (rest : List ℕ) × (length rest < length bytes) × P rest
marked_some mark P bytes h =
    let m = led_some (Marked mark P) bytes h in
    let s = led_some P m.2.0 m.2.2 in
    (s.0, omega (arith, m.1, ap length m.2.1, s.1), s.2)

pub named_some : (name : List ℕ) (P : List ℕ → Type 0) (bytes : List ℕ) → NameThen name P bytes
    → (inside : List ℕ) × (after : List ℕ) × (rest : List ℕ) × (bytes ≡ 34 ∷ inside) × TextAt inside name after × (length rest < length after) × P rest
named_some name P bytes h = let s = marked_some 58 P h.1 h.4 in (h.0, h.1, s.0, h.2, h.3, s.1, s.2)

-- A first element or member stands as one behind a comma does, and so it is written.
pub behind_comma : (vs : Values) (room : ℕ) (bytes left : List ℕ) → ElementsAt vs room bytes left
    → (longer : List ℕ) × MoreElementsAt vs room longer left × (length (elements_text vs) + length longer ≡ length (more_elements_text vs) + length bytes)
behind_comma no_values room bytes left h = (bytes, h, refl)
behind_comma (value_then v vs) room bytes left h = (44 ∷ bytes, inl (bytes, refl, h), omega arith)

pub member_behind_comma : (fs : Fields) (room : ℕ) (bytes left : List ℕ) → MembersAt fs room bytes left
    → (longer : List ℕ) × MoreMembersAt fs room longer left × (length (members_text fs) + length longer ≡ length (more_members_text fs) + length bytes)
member_behind_comma no_fields room bytes left h = (bytes, h, refl)
member_behind_comma (field_then name v fs) room bytes left h = (44 ∷ bytes, inl (bytes, refl, h), omega arith)

-- What the first byte of a value says of it.
use Rattle.std.proofs.Common.{◌≡◌, ℕ, suc, ◌≤◌, ◌<◌, ◌⊎◌, inl, inr, List, [], ◌∷◌, ◌++◌, refl, ap, sym, ◌∙◌, subst, arith, length, true, false, codes}
use Rattle.sx_tree.specs.declared.json.Scalar.TheVariants.{Str, Number, Bool, Null}
use Rattle.sx_tree.specs.Names.{AreDistinct}
use Rattle.sx_tree.specs.Number.{IsNumber, IsDigit, IsMinus, IsInt}
use Rattle.sx_tree.specs.Value.{Value, scalar, array, object, Values, Fields}
use Rattle.sx_model.specs.Strings.{TextAt}
use Rattle.sx_model.specs.Faults.{IsFirst}
use Rattle.sx_model.specs.Grammar.{IsBlank, IsSolid, BeginsOther, Led, ValueAt, ElementsAt, MembersAt, names_in}
use Rattle.sx_model.proofs.StringShapes.{heads, nothing_there}

pub blank_small : (byte : ℕ) → IsBlank byte → byte ≤ 32
blank_small byte (inl e) = omega (arith, e)
blank_small byte (inr (inl e)) = omega (arith, e)
blank_small byte (inr (inr (inl e))) = omega (arith, e)
blank_small byte (inr (inr (inr e))) = omega (arith, e)

pub Led-here : (P : List ℕ → Type 0) (byte : ℕ) (rest : List ℕ) → 32 < byte → Led P (byte ∷ rest) → P (byte ∷ rest)
Led-here P byte rest above (inl p) = p
Led-here P byte rest above (inr p) = absurd (omega (arith, blank_small byte p.0, above))

pub Led-from : (P : List ℕ → Type 0) (bytes : List ℕ) → P bytes → Led P bytes
Led-from P [] p = p
Led-from P (byte ∷ rest) p = inl p

pub Led-blank : (P : List ℕ → Type 0) (byte : ℕ) (rest : List ℕ) → (P (byte ∷ rest) → ⊥) → Led P (byte ∷ rest) → Led P rest
Led-blank P byte rest none (inl p) = absurd (none p)
Led-blank P byte rest none (inr p) = p.1

-- the first byte of a number
pub first_of_number : (literal : List ℕ) → IsNumber literal → (byte : ℕ) × (more : List ℕ) × (literal ≡ byte ∷ more) × ((byte ≡ 45) ⊎ IsDigit byte)
first_of_number literal n = with_parts n.minus n.int (n.frac ++ n.exp) n.is_minus n.is_int n.whole
  where
    with_parts : (minus int tail : List ℕ) → IsMinus minus → IsInt int → literal ≡ minus ++ (int ++ tail)
        → (byte : ℕ) × (more : List ℕ) × (literal ≡ byte ∷ more) × ((byte ≡ 45) ⊎ IsDigit byte)
    with_parts minus int tail (inr sign) is_int e = (45, int ++ tail, e ∙ rw sign refl, inl refl)
    with_parts minus [] tail (inl none) is_int e = absurd is_int
    with_parts minus (byte ∷ digits) tail (inl none) (inl zero) e = (byte, digits ++ tail, e ∙ rw none refl, inr (omega (arith, zero.0), omega (arith, zero.0)))
    with_parts minus (byte ∷ digits) tail (inl none) (inr other) e = (byte, digits ++ tail, e ∙ rw none refl, inr (omega (arith, other.0), other.1))

pub data First (x : Value) (room byte : ℕ) (rest left : List ℕ) : Type 0 where
  a_string : (content : List ℕ) → x ≡ scalar (Str content) → byte ≡ 34 → TextAt rest content left → First x room byte rest left
  a_number : (literal : List ℕ) → x ≡ scalar (Number literal) → (byte ≡ 45) ⊎ IsDigit byte → IsNumber literal → length literal ≤ 64 → byte ∷ rest ≡ literal ++ left → First x room byte rest left
  a_true : x ≡ scalar (Bool true) → byte ≡ 116 → byte ∷ rest ≡ codes "true" ++ left → First x room byte rest left
  a_false : x ≡ scalar (Bool false) → byte ≡ 102 → byte ∷ rest ≡ codes "false" ++ left → First x room byte rest left
  a_null : x ≡ scalar Null → byte ≡ 110 → byte ∷ rest ≡ codes "null" ++ left → First x room byte rest left
  an_array : (vs : Values) (inner : ℕ) → x ≡ array vs → byte ≡ 91 → room ≡ suc inner → ElementsAt vs inner rest left → First x room byte rest left
  an_object : (fs : Fields) (inner : ℕ) → x ≡ object fs → byte ≡ 123 → room ≡ suc inner → AreDistinct (names_in fs) → MembersAt fs inner rest left → First x room byte rest left

pub first_of : (x : Value) (room byte : ℕ) (rest left : List ℕ) → ValueAt x room (byte ∷ rest) left → First x room byte rest left
first_of (scalar (Str content)) room byte rest left h =
    let s = heads byte 34 rest h.0 h.1 in
    a_string content refl s.0 (subst (λ r. TextAt r content left) (sym s.1) h.2)
first_of (scalar (Number literal)) room byte rest left h =
    let f = first_of_number literal h.0.0 in
    let s = heads byte f.0 rest (f.1 ++ left) (h.1 ∙ ap (λ l. l ++ left) f.2) in
    a_number literal refl (subst (λ b. (b ≡ 45) ⊎ IsDigit b) (sym s.0) f.3) h.0.0 h.0.1 h.1
first_of (scalar (Bool true)) room byte rest left h =
    let s = heads byte 116 rest (114 ∷ 117 ∷ 101 ∷ left) h in a_true refl s.0 h
first_of (scalar (Bool false)) room byte rest left h =
    let s = heads byte 102 rest (97 ∷ 108 ∷ 115 ∷ 101 ∷ left) h in a_false refl s.0 h
first_of (scalar Null) room byte rest left h =
    let s = heads byte 110 rest (117 ∷ 108 ∷ 108 ∷ left) h in a_null refl s.0 h
first_of (array vs) room byte rest left h =
    let s = heads byte 91 rest h.1 h.3 in
    an_array vs h.0 refl s.0 h.2 (subst (λ r. ElementsAt vs h.0 r left) (sym s.1) h.4)
first_of (object fs) room byte rest left h =
    let s = heads byte 123 rest h.1 h.3 in
    an_object fs h.0 refl s.0 h.2 h.4 (subst (λ r. MembersAt fs h.0 r left) (sym s.1) h.5)

-- No value is spelled by nothing.
pub no_value_of_nothing : (x : Value) (room : ℕ) (left : List ℕ) → ValueAt x room [] left → ⊥
no_value_of_nothing (scalar (Str content)) room left h = nothing_there 34 h.0 h.1
no_value_of_nothing (scalar (Number literal)) room left h =
    let f = first_of_number literal h.0.0 in nothing_there f.0 (f.1 ++ left) (h.1 ∙ ap (λ l. l ++ left) f.2)
no_value_of_nothing (scalar (Bool true)) room left h = nothing_there 116 (114 ∷ 117 ∷ 101 ∷ left) h
no_value_of_nothing (scalar (Bool false)) room left h = nothing_there 102 (97 ∷ 108 ∷ 115 ∷ 101 ∷ left) h
no_value_of_nothing (scalar Null) room left h = nothing_there 110 (117 ∷ 108 ∷ 108 ∷ left) h
no_value_of_nothing (array vs) room left h = nothing_there 91 h.1 h.3
no_value_of_nothing (object fs) room left h = nothing_there 123 h.1 h.3

pub IsFirst-First : (x : Value) (room byte : ℕ) (rest left : List ℕ) → First x room byte rest left → IsFirst byte
IsFirst-First x room byte rest left (a_string c e b t) = inl b
IsFirst-First x room byte rest left (a_number l e b n s w) = inr (inl b)
IsFirst-First x room byte rest left (a_true e b w) = inr (inr (inl b))
IsFirst-First x room byte rest left (a_false e b w) = inr (inr (inr (inl b)))
IsFirst-First x room byte rest left (a_null e b w) = inr (inr (inr (inr (inl b))))
IsFirst-First x room byte rest left (an_array vs inner e b r h) = inr (inr (inr (inr (inr (inl b)))))
IsFirst-First x room byte rest left (an_object fs inner e b r d h) = inr (inr (inr (inr (inr (inr b)))))

pub no_value_from : (x : Value) (room byte : ℕ) (rest left : List ℕ) → (IsFirst byte → ⊥) → ValueAt x room (byte ∷ rest) left → ⊥
no_value_from x room byte rest left none h = none (IsFirst-First x room byte rest left (first_of x room byte rest left h))

pub blank_not_first : (byte : ℕ) → IsBlank byte → IsFirst byte → ⊥
blank_not_first byte b (inl e) = omega (arith, blank_small byte b, e)
blank_not_first byte b (inr (inl (inl e))) = omega (arith, blank_small byte b, e)
blank_not_first byte b (inr (inl (inr d))) = omega (arith, blank_small byte b, d.0)
blank_not_first byte b (inr (inr (inl e))) = omega (arith, blank_small byte b, e)
blank_not_first byte b (inr (inr (inr (inl e)))) = omega (arith, blank_small byte b, e)
blank_not_first byte b (inr (inr (inr (inr (inl e))))) = omega (arith, blank_small byte b, e)
blank_not_first byte b (inr (inr (inr (inr (inr (inl e)))))) = omega (arith, blank_small byte b, e)
blank_not_first byte b (inr (inr (inr (inr (inr (inr e)))))) = omega (arith, blank_small byte b, e)

pub value_solid : (x : Value) (room byte : ℕ) (rest left : List ℕ) → IsBlank byte → ValueAt x room (byte ∷ rest) left → ⊥
value_solid x room byte rest left blank h = no_value_from x room byte rest left (blank_not_first byte blank) h

pub solid_from : (byte : ℕ) (bytes rest : List ℕ) → 33 ≤ byte → bytes ≡ byte ∷ rest → IsSolid bytes
solid_from byte bytes rest above is b tail e blank = omega (arith, (heads b byte tail rest (sym e ∙ is)).0, blank_small b blank, above)

-- The bytes begin with another byte than one with which no value begins.
pub other_first : (v : Value) (room closing : ℕ) (b after : List ℕ) → (IsFirst closing → ⊥) → ValueAt v room b after → BeginsOther closing b
other_first v room closing b after none h rest is = no_value_from v room closing rest after none (subst (λ l. ValueAt v room l after) is h)

pub bracket_not_first : IsFirst 93 → ⊥
bracket_not_first (inl e) = omega (arith, e)
bracket_not_first (inr (inl (inl e))) = omega (arith, e)
bracket_not_first (inr (inl (inr d))) = omega (arith, d.1)
bracket_not_first (inr (inr (inl e))) = omega (arith, e)
bracket_not_first (inr (inr (inr (inl e)))) = omega (arith, e)
bracket_not_first (inr (inr (inr (inr (inl e))))) = omega (arith, e)
bracket_not_first (inr (inr (inr (inr (inr (inl e)))))) = omega (arith, e)
bracket_not_first (inr (inr (inr (inr (inr (inr e)))))) = omega (arith, e)

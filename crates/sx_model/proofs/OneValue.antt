-- A text spells one value at most.
use Rattle.std.proofs.Common.{◌≡◌, ℕ, ◌+◌, ◌-◌, ◌≤◌, inl, inr, List, [], ◌∷◌, ◌++◌, refl, ap, sym, ◌∙◌, subst, arith, min, true, false, codes}
use Rattle.sx_tree.specs.declared.json.Scalar.TheVariants.{Str, Number, Bool, Null}
use Rattle.sx_tree.specs.Value.{Value, scalar, array, object, Values, no_values, value_then, Fields, no_fields, field_then}
use Rattle.sx_model.specs.Strings.{StringAt}
use Rattle.sx_model.specs.Grammar.{AreBlanks, IsSolid, Led, NameThen, ValueAt, ElementsAt, MoreElementsAt, MembersAt, MoreMembersAt, Spells}
use Rattle.sx_model.proofs.StringShapes.{heads, same_tail}
use Rattle.sx_model.proofs.OneString.{string_same}
use Rattle.sx_model.proofs.FirstBytes.{blank_small, First, a_string, a_number, a_true, a_false, a_null, an_array, an_object, first_of, no_value_of_nothing, value_solid, solid_from, other_first, bracket_not_first}
use Rattle.sx_tree.proofs.NumberBytes.{AreNumberBytes, number_is}
use Rattle.sx_model.proofs.Ends.{IsEnd, apart, elements_end, members_end}
use Rattle.sx_model.proofs.Tokens.{Element, Member, Marked}

-- ---- one place behind white space

abbrev AreSolid : (List ℕ → Type 0) → Type 0
AreSolid P = (bytes : List ℕ) → P bytes → IsSolid bytes

led_one : (P Q : List ℕ → Type 0) (E : Type 0) (bytes : List ℕ) → AreSolid P → AreSolid Q → Led P bytes → Led Q bytes → ((rest : List ℕ) → P rest → Q rest → E) → E
led_one P Q E [] one other p q f = f [] p q
led_one P Q E (byte ∷ bytes) one other (inl p) (inl q) f = f (byte ∷ bytes) p q
led_one P Q E (byte ∷ bytes) one other (inl p) (inr q) f = absurd (one (byte ∷ bytes) p byte bytes refl q.0)
led_one P Q E (byte ∷ bytes) one other (inr p) (inl q) f = absurd (other (byte ∷ bytes) q byte bytes refl p.0)
led_one P Q E (byte ∷ bytes) one other (inr p) (inr q) f = led_one P Q E bytes one other p.1 q.1 f

solid_mark : (mark : ℕ) (left : List ℕ) → 33 ≤ mark → AreSolid (λ b. b ≡ mark ∷ left)
solid_mark mark left above bytes is = solid_from mark bytes left above is

solid_marked : (mark : ℕ) (P : List ℕ → Type 0) → 33 ≤ mark → AreSolid (Marked mark P)
solid_marked mark P above bytes m = solid_from mark bytes m.0 above m.1

solid_value : (v : Value) (room : ℕ) (after : List ℕ) → AreSolid (λ b. ValueAt v room b after)
solid_value v room after bytes h byte rest is blank = value_solid v room byte rest after blank (subst (λ l. ValueAt v room l after) is h)

solid_element : (v : Value) (vs : Values) (room : ℕ) (left : List ℕ) → AreSolid (Element v vs room left)
solid_element v vs room left bytes h = solid_value v room h.0 bytes h.1

solid_member : (v : Value) (fs : Fields) (room : ℕ) (left : List ℕ) → AreSolid (Member v fs room left)
solid_member v fs room left bytes h = solid_value v room h.0 bytes h.1

solid_name : (name : List ℕ) (P : List ℕ → Type 0) → AreSolid (NameThen name P)
solid_name name P bytes h = solid_from 34 bytes h.0 (omega arith) h.2

marked_one : (mark : ℕ) (P Q : List ℕ → Type 0) (E : Type 0) (bytes : List ℕ) → 33 ≤ mark → AreSolid P → AreSolid Q → Led (Marked mark P) bytes → Led (Marked mark Q) bytes → ((rest : List ℕ) → P rest → Q rest → E) → E
marked_one mark P Q E bytes above one other p q f =
    led_one (Marked mark P) (Marked mark Q) E bytes (solid_marked mark P above) (solid_marked mark Q above) p q
    (λ rest m n. led_one P Q E m.0 one other m.2 (subst (Led Q) (heads mark mark n.0 m.0 (sym n.1 ∙ m.1)).1 n.2) f)

named_one : (x y : List ℕ) (P Q : List ℕ → Type 0) (E : Type 0) (bytes : List ℕ) → AreSolid P → AreSolid Q → NameThen x P bytes → NameThen y Q bytes → ((rest : List ℕ) → x ≡ y → P rest → Q rest → E) → E
named_one x y P Q E bytes one other p q f =
    let inside : q.0 ≡ p.0 = (heads 34 34 q.0 p.0 (sym q.2 ∙ p.2)).1 in
    let same = string_same p.0 x y p.1 q.1 p.3.0 (subst (λ i. StringAt i y q.1) inside q.3.0) in
    marked_one 58 P Q E p.1 (omega arith) one other p.4 (subst (Led (Marked 58 Q)) (sym same.1) q.4) (λ rest m n. f rest same.0 m n)

-- ---- where a value ends

abbrev EndsAt : List ℕ → Type 0
EndsAt after = (byte : ℕ) (rest : List ℕ) → after ≡ byte ∷ rest → IsEnd byte

element_ends : (vs : Values) (room : ℕ) (after left : List ℕ) → MoreElementsAt vs room after left → EndsAt after
element_ends vs room after left h byte rest is = elements_end vs room byte rest left (subst (λ l. MoreElementsAt vs room l left) is h)

member_ends : (fs : Fields) (room : ℕ) (after left : List ℕ) → MoreMembersAt fs room after left → EndsAt after
member_ends fs room after left h byte rest is = members_end fs room byte rest left (subst (λ l. MoreMembersAt fs room l left) is h)

blank_ends : (after : List ℕ) → AreBlanks after → EndsAt after
blank_ends after all byte rest is = inl (blank_small byte (subst AreBlanks is all).0)

number_same : (l m a b : List ℕ) → AreNumberBytes l → AreNumberBytes m → EndsAt a → EndsAt b → l ++ a ≡ m ++ b → (l ≡ m) × (a ≡ b)
number_same [] [] a b n o ends clear e = (refl, e)
number_same [] (y ∷ ys) a b n o ends clear e = absurd (apart y o.0 (ends y (ys ++ b) e))
number_same (x ∷ xs) [] a b n o ends clear e = absurd (apart x n.0 (clear x (xs ++ a) (sym e)))
number_same (x ∷ xs) (y ∷ ys) a b n o ends clear e =
    let h = heads x y (xs ++ a) (ys ++ b) e in
    let s = number_same xs ys a b n.1 o.1 ends clear h.1 in
    (ap (λ z. z ∷ xs) h.0 ∙ ap (λ z. y ∷ z) s.0, s.1)

-- ---- the sort of a value is known at its first byte

-- a byte that begins it
abbrev first_byte : Value → ℕ
first_byte (scalar (Str content)) = 34
first_byte (scalar (Number literal)) = 45
first_byte (scalar (Bool true)) = 116
first_byte (scalar (Bool false)) = 102
first_byte (scalar Null) = 110
first_byte (array vs) = 91
first_byte (object fs) = 123

-- The bytes from 45 to 57 are of one sort, and each other byte is of its own.
abbrev sort_of : ℕ → ℕ
sort_of byte = min byte 45 + (byte - 57)

first_sort : (v : Value) (room byte : ℕ) (rest left : List ℕ) → First v room byte rest left → sort_of (first_byte v) ≡ sort_of byte
first_sort v room byte rest left (a_string c e b t) = ap (λ x. sort_of (first_byte x)) e ∙ ap sort_of (sym b)
first_sort v room byte rest left (a_number l e (inl b) n s w) = ap (λ x. sort_of (first_byte x)) e ∙ ap sort_of (sym b)
first_sort v room byte rest left (a_number l e (inr d) n s w) = ap (λ x. sort_of (first_byte x)) e ∙ omega (arith, d.0, d.1)
first_sort v room byte rest left (a_true e b w) = ap (λ x. sort_of (first_byte x)) e ∙ ap sort_of (sym b)
first_sort v room byte rest left (a_false e b w) = ap (λ x. sort_of (first_byte x)) e ∙ ap sort_of (sym b)
first_sort v room byte rest left (a_null e b w) = ap (λ x. sort_of (first_byte x)) e ∙ ap sort_of (sym b)
first_sort v room byte rest left (an_array vs inner e b r h) = ap (λ x. sort_of (first_byte x)) e ∙ ap sort_of (sym b)
first_sort v room byte rest left (an_object fs inner e b r d h) = ap (λ x. sort_of (first_byte x)) e ∙ ap sort_of (sym b)

abbrev AreOfOneSort : Value → Value → Type 0
AreOfOneSort v w = sort_of (first_byte v) ≡ sort_of (first_byte w)

same_sort : (v w : Value) (room : ℕ) (bytes a b : List ℕ) → ValueAt v room bytes a → ValueAt w room bytes b → AreOfOneSort v w
same_sort v w room [] a b h k = absurd (no_value_of_nothing v room a h)
same_sort v w room (byte ∷ rest) a b h k = first_sort v room byte rest a (first_of v room byte rest a h) ∙ sym (first_sort w room byte rest b (first_of w room byte rest b k))

-- ---- arrays and objects

abbrev IsOneList : Values → Values → List ℕ → List ℕ → Type 0
IsOneList vs ws a b = (vs ≡ ws) × (a ≡ b)

abbrev IsOneObject : Fields → Fields → List ℕ → List ℕ → Type 0
IsOneObject fs gs a b = (fs ≡ gs) × (a ≡ b)

not_closed : (v : Value) (vs : Values) (room : ℕ) (left a bytes : List ℕ) → bytes ≡ 93 ∷ a → Element v vs room left bytes → ⊥
not_closed v vs room left a bytes is h = other_first v room 93 bytes h.0 bracket_not_first h.1 a is

closed_same : (mark : ℕ) (a b rest : List ℕ) → rest ≡ mark ∷ a → rest ≡ mark ∷ b → a ≡ b
closed_same mark a b rest p q = (heads mark mark a b (sym p ∙ q)).1

other_mark : (mark other : ℕ) (a b rest : List ℕ) → (mark ≡ other → ⊥) → rest ≡ mark ∷ a → rest ≡ other ∷ b → ⊥
other_mark mark other a b rest apart p q = apart (heads mark other a b (sym p ∙ q)).0

-- A first element is one behind a comma.
elements_same : (vs ws : Values) (room : ℕ) (bytes a b : List ℕ) → ((longer : List ℕ) → MoreElementsAt vs room longer a → MoreElementsAt ws room longer b → IsOneList vs ws a b) → ElementsAt vs room bytes a → ElementsAt ws room bytes b
    → IsOneList vs ws a b
elements_same no_values no_values room bytes a b more h k = more bytes h k
elements_same no_values (value_then w ws) room bytes a b more h k =
    led_one (λ d. d ≡ 93 ∷ a) (Element w ws room b) (IsOneList no_values (value_then w ws) a b) bytes (solid_mark 93 a (omega arith)) (solid_element w ws room b) h k (λ d p q. absurd (not_closed w ws room b a d p q))
elements_same (value_then v vs) no_values room bytes a b more h k =
    led_one (Element v vs room a) (λ d. d ≡ 93 ∷ b) (IsOneList (value_then v vs) no_values a b) bytes (solid_element v vs room a) (solid_mark 93 b (omega arith)) h k (λ d p q. absurd (not_closed v vs room a b d q p))
elements_same (value_then v vs) (value_then w ws) room bytes a b more h k = more (44 ∷ bytes) (inl (bytes, refl, h)) (inl (bytes, refl, k))

members_same : (fs gs : Fields) (room : ℕ) (bytes a b : List ℕ) → ((longer : List ℕ) → MoreMembersAt fs room longer a → MoreMembersAt gs room longer b → IsOneObject fs gs a b) → MembersAt fs room bytes a → MembersAt gs room bytes b
    → IsOneObject fs gs a b
members_same no_fields no_fields room bytes a b more h k = more bytes h k
members_same no_fields (field_then name w gs) room bytes a b more h k =
    led_one (λ d. d ≡ 125 ∷ a) (NameThen name (Member w gs room b)) (IsOneObject no_fields (field_then name w gs) a b) bytes (solid_mark 125 a (omega arith)) (solid_name name (Member w gs room b)) h k
    (λ d p q. absurd (other_mark 125 34 a q.0 d (λ e. omega (arith, e)) p q.2))
members_same (field_then name v fs) no_fields room bytes a b more h k =
    led_one (NameThen name (Member v fs room a)) (λ d. d ≡ 125 ∷ b) (IsOneObject (field_then name v fs) no_fields a b) bytes (solid_name name (Member v fs room a)) (solid_mark 125 b (omega arith)) h k
    (λ d p q. absurd (other_mark 34 125 p.0 b d (λ e. omega (arith, e)) p.2 q))
members_same (field_then name v fs) (field_then other w gs) room bytes a b more h k = more (44 ∷ bytes) (inl (bytes, refl, h)) (inl (bytes, refl, k))

mutual
  value_same : (v w : Value) (room : ℕ) (bytes a b : List ℕ) → AreOfOneSort v w → ValueAt v room bytes a → ValueAt w room bytes b → EndsAt a → EndsAt b → (v ≡ w) × (a ≡ b)
  value_same (scalar (Str c)) (scalar (Str d)) room bytes a b sorts h k ends clear =
      let inside : k.0 ≡ h.0 = (heads 34 34 k.0 h.0 (sym k.1 ∙ h.1)).1 in
      let same = string_same h.0 c d a b h.2.0 (subst (λ i. StringAt i d b) inside k.2.0) in (ap (λ x. scalar (Str x)) same.0, same.1)
  value_same (scalar (Number l)) (scalar (Number m)) room bytes a b sorts h k ends clear =
      let same = number_same l m a b (number_is l h.0.0) (number_is m k.0.0) ends clear (sym h.1 ∙ k.1) in (ap (λ x. scalar (Number x)) same.0, same.1)
  value_same (scalar (Bool true)) (scalar (Bool true)) room bytes a b sorts h k ends clear = (refl, same_tail (codes "true") a b (sym h ∙ k))
  value_same (scalar (Bool false)) (scalar (Bool false)) room bytes a b sorts h k ends clear = (refl, same_tail (codes "false") a b (sym h ∙ k))
  value_same (scalar Null) (scalar Null) room bytes a b sorts h k ends clear = (refl, same_tail (codes "null") a b (sym h ∙ k))
  value_same (array vs) (array ws) room bytes a b sorts h k ends clear =
      let inner : k.0 ≡ h.0 = omega (arith, h.2, k.2) in
      let rest : k.1 ≡ h.1 = closed_same 91 k.1 h.1 bytes k.3 h.3 in
      let same = elements_same vs ws h.0 h.1 a b (λ longer p q. more_elements_same vs ws h.0 longer a b p q) h.4 (subst (λ r. ElementsAt ws h.0 r b) rest (subst (λ n. ElementsAt ws n k.1 b) inner k.4)) in
      (ap array same.0, same.1)
  value_same (object fs) (object gs) room bytes a b sorts h k ends clear =
      let inner : k.0 ≡ h.0 = omega (arith, h.2, k.2) in
      let rest : k.1 ≡ h.1 = closed_same 123 k.1 h.1 bytes k.3 h.3 in
      let same = members_same fs gs h.0 h.1 a b (λ longer p q. more_members_same fs gs h.0 longer a b p q) h.5 (subst (λ r. MembersAt gs h.0 r b) rest (subst (λ n. MembersAt gs n k.1 b) inner k.5)) in
      (ap object same.0, same.1)
  value_same v (scalar (Bool true)) room bytes a b sorts h k ends clear = absurd (omega (arith, sorts))
  value_same v (scalar (Bool false)) room bytes a b sorts h k ends clear = absurd (omega (arith, sorts))
  value_same v w room bytes a b sorts h k ends clear = absurd (omega (arith, sorts))

  more_elements_same : (vs ws : Values) (room : ℕ) (bytes a b : List ℕ) → MoreElementsAt vs room bytes a → MoreElementsAt ws room bytes b → IsOneList vs ws a b
  more_elements_same no_values no_values room bytes a b h k =
      led_one (λ d. d ≡ 93 ∷ a) (λ d. d ≡ 93 ∷ b) (IsOneList no_values no_values a b) bytes (solid_mark 93 a (omega arith)) (solid_mark 93 b (omega arith)) h k (λ d p q. (refl, closed_same 93 a b d p q))
  more_elements_same no_values (value_then w ws) room bytes a b h k =
      led_one (λ d. d ≡ 93 ∷ a) (Marked 44 (Element w ws room b)) (IsOneList no_values (value_then w ws) a b) bytes (solid_mark 93 a (omega arith)) (solid_marked 44 (Element w ws room b) (omega arith)) h k
      (λ d p q. absurd (other_mark 93 44 a q.0 d (λ e. omega (arith, e)) p q.1))
  more_elements_same (value_then v vs) no_values room bytes a b h k =
      led_one (Marked 44 (Element v vs room a)) (λ d. d ≡ 93 ∷ b) (IsOneList (value_then v vs) no_values a b) bytes (solid_marked 44 (Element v vs room a) (omega arith)) (solid_mark 93 b (omega arith)) h k
      (λ d p q. absurd (other_mark 44 93 p.0 b d (λ e. omega (arith, e)) p.1 q))
  more_elements_same (value_then v vs) (value_then w ws) room bytes a b h k =
      marked_one 44 (Element v vs room a) (Element w ws room b) (IsOneList (value_then v vs) (value_then w ws) a b) bytes (omega arith) (solid_element v vs room a) (solid_element w ws room b) h k
      (λ d p q.
      let one = value_same v w room d p.0 q.0 (same_sort v w room d p.0 q.0 p.1 q.1) p.1 q.1 (element_ends vs room p.0 a p.2) (element_ends ws room q.0 b q.2) in
      let more = more_elements_same vs ws room p.0 a b p.2 (subst (λ l. MoreElementsAt ws room l b) (sym one.1) q.2) in
      (ap (λ x. value_then x vs) one.0 ∙ ap (value_then w) more.0, more.1))

  more_members_same : (fs gs : Fields) (room : ℕ) (bytes a b : List ℕ) → MoreMembersAt fs room bytes a → MoreMembersAt gs room bytes b → IsOneObject fs gs a b
  more_members_same no_fields no_fields room bytes a b h k =
      led_one (λ d. d ≡ 125 ∷ a) (λ d. d ≡ 125 ∷ b) (IsOneObject no_fields no_fields a b) bytes (solid_mark 125 a (omega arith)) (solid_mark 125 b (omega arith)) h k (λ d p q. (refl, closed_same 125 a b d p q))
  more_members_same no_fields (field_then y w gs) room bytes a b h k =
      led_one (λ d. d ≡ 125 ∷ a) (Marked 44 (NameThen y (Member w gs room b))) (IsOneObject no_fields (field_then y w gs) a b) bytes (solid_mark 125 a (omega arith)) (solid_marked 44 (NameThen y (Member w gs room b)) (omega arith)) h k
      (λ d p q. absurd (other_mark 125 44 a q.0 d (λ e. omega (arith, e)) p q.1))
  more_members_same (field_then x v fs) no_fields room bytes a b h k =
      led_one (Marked 44 (NameThen x (Member v fs room a))) (λ d. d ≡ 125 ∷ b) (IsOneObject (field_then x v fs) no_fields a b) bytes (solid_marked 44 (NameThen x (Member v fs room a)) (omega arith)) (solid_mark 125 b (omega arith)) h k
      (λ d p q. absurd (other_mark 44 125 p.0 b d (λ e. omega (arith, e)) p.1 q))
  more_members_same (field_then x v fs) (field_then y w gs) room bytes a b h k =
      marked_one 44 (NameThen x (Member v fs room a)) (NameThen y (Member w gs room b)) (IsOneObject (field_then x v fs) (field_then y w gs) a b) bytes (omega arith) (solid_name x (Member v fs room a)) (solid_name y (Member w gs room b)) h k
      (λ c m n. named_one x y (Member v fs room a) (Member w gs room b) (IsOneObject (field_then x v fs) (field_then y w gs) a b) c (solid_member v fs room a) (solid_member w gs room b) m n
      (λ d name p q.
      let one = value_same v w room d p.0 q.0 (same_sort v w room d p.0 q.0 p.1 q.1) p.1 q.1 (member_ends fs room p.0 a p.2) (member_ends gs room q.0 b q.2) in
      let more = more_members_same fs gs room p.0 a b p.2 (subst (λ l. MoreMembersAt gs room l b) (sym one.1) q.2) in
      (ap (λ z. field_then z v fs) name ∙ ap (λ z. field_then y z fs) one.0 ∙ ap (field_then y w) more.0, more.1)))

pub spells_one : (text : List ℕ) (v w : Value) → Spells text v → Spells text w → v ≡ w
spells_one text v w s t =
    led_one (λ b. ValueAt v 256 b s.1) (λ b. ValueAt w 256 b t.1) (v ≡ w) text (solid_value v 256 s.1) (solid_value w 256 t.1) s.2 t.2
    (λ b h k. (value_same v w 256 b s.1 t.1 (same_sort v w 256 b s.1 t.1 h k) h k (blank_ends s.1 s.3) (blank_ends t.1 t.3)).0)

-- A text has at most one fault, and none where it spells a value.
use Rattle.std.proofs.Common.{Some, slice_get, cond, eqb, ltb, lt-ltb, le-ltb, ne_eqb, ◌≡◌, ◌&&◌, ℕ, zero, suc, ◌-◌, ◌≤◌, ◌<◌, ◌⊎◌, inl, inr, List, [], ◌∷◌, ◌++◌, refl, ap, sym, ◌∙◌, subst, arith, append_assoc, length, take, drop, get_or, codes, false, Contains}
use Rattle.std.proofs.lemmas.List.{get_or-take, length-take-le, take-take}
use Rattle.std.proofs.lemmas.Str.{utf8_valid_len-IsValidUpTo}
use Rattle.std.specs.Str.{IsValidUpTo}
use Rattle.std.proofs.lemmas.Bool.{cases_lt, cases_order}
use Rattle.std.proofs.Math.Seq.{take-append_seam, drop-append_seam}
use Rattle.sx_json.proofs.Skipping.{word_differs}
use Rattle.sx_model.proofs.StringShapes.{same_tail, heads, nothing_there}
use Rattle.std.proofs.lemmas.Option.{slice_get_within}
use Rattle.sx_tree.specs.declared.json.Scalar.TheVariants.{Str, Number, Bool, Null}
use Rattle.sx_tree.specs.Names.{AreDistinct}
use Rattle.sx_tree.specs.Number.{IsDigit, IsNumber, IsLongestFront}
use Rattle.sx_tree.specs.Value.{Value, scalar, array, object, Values, no_values, value_then, Fields, no_fields, field_then}
use Rattle.sx_model.specs.Strings.{TextAt}
use Rattle.sx_model.specs.Grammar.{IsBlank, AreBlanks, IsSolid, BeginsOther, Skips, Led, NameThen, ValueAt, ElementsAt, MoreElementsAt, MembersAt, MoreMembersAt, names_in, Spells}
use Rattle.sx_model.specs.StringFaults.{unexpected, QuotedFault, QuoteFault, FrontFault, cut}
use Rattle.sx_model.specs.Faults.{Next, IsFirst, IsLiteralName, WordFault, NumberFault, ScalarFault, Ends, WholeAt, ElementsFault, NewName, MemberNameFault, MembersFault, ValueFault, TextFault, Faults}
use Rattle.sx_tree.specs.declared.json_fault.JsonFault.{JsonFault}
use Rattle.sx_tree.specs.declared.json_fault.JsonFault.TheVariants.{BadByte, TooDeep, DuplicateName, Ended}
use Rattle.sx_json.proofs.OneStringFault.{quoted_not_fault, quoted_fault_same, quote_not_fault, quote_fault_same}
use Rattle.sx_model.proofs.OneString.{string_same}
use Rattle.sx_model.proofs.FirstBytes.{blank_small, First, a_string, a_number, a_true, a_false, a_null, an_array, an_object, first_of, no_value_of_nothing, other_first, bracket_not_first}
use Rattle.sx_json.proofs.FaultScalars.{number_longest, longest_one}
use Rattle.sx_json.proofs.Places.{next_here, next_map, next_skips}
use Rattle.sx_model.proofs.FirstBytes.{solid_from}
use Rattle.sx_model.proofs.FirstBytes.{value_solid}
use Rattle.sx_tree.proofs.NumberBytes.{AreNumberBytes-at, front_is}
use Rattle.sx_model.proofs.Ends.{IsEnd, apart, elements_end, members_end}
use Rattle.sx_model.proofs.Tokens as token
use Rattle.sx_tree.proofs.NameLists.{slice_get-Contains}

slice_get_left : (xs ys : List (List ℕ)) (i : ℕ) (x : List ℕ) → slice_get xs i ≡ Some x → slice_get (xs ++ ys) i ≡ Some x
slice_get_left [] ys i x e = absurd (cc)
slice_get_left (y ∷ xs) ys zero x e = e
slice_get_left (y ∷ xs) ys (suc i) x e = slice_get_left xs ys i x e

slice_get_seam : (xs ys : List (List ℕ)) (x : List ℕ) → slice_get (xs ++ x ∷ ys) (length xs) ≡ Some x
slice_get_seam [] ys x = refl
slice_get_seam (y ∷ xs) ys x = slice_get_seam xs ys x

-- what reading comes to: the rest behind what is whole, or a fault
pub data Out : Type 0 where
  whole : List ℕ → Out
  wrong : JsonFault → Out

-- Behind white space there is one place.
skips_same : (bytes r q : List ℕ) → Skips bytes r → IsSolid r → Skips bytes q → IsSolid q → r ≡ q
skips_same bytes r q ([], all, is) solid ([], every, at) clear = sym is ∙ at
skips_same bytes r q ([], all, is) solid (b ∷ bs, every, at) clear = absurd (solid b (bs ++ q) (sym is ∙ at) every.0)
skips_same bytes r q (b ∷ bs, all, is) solid ([], every, at) clear = absurd (clear b (bs ++ r) (sym at ∙ is) all.0)
skips_same bytes r q (b ∷ bs, all, is) solid (c ∷ cs, every, at) clear =
    skips_same (bs ++ r) r q (bs, all.1, refl) solid (cs, every.1, (heads b c (bs ++ r) (cs ++ q) (sym is ∙ at)).1) clear

next_one : (P Q : List ℕ → Type 0) (E : Type 0) (bytes : List ℕ) → Next P bytes → Next Q bytes → ((b : List ℕ) → P b → Q b → E) → E
next_one P Q E bytes n m f = f n.0 n.3 (subst Q (skips_same bytes m.0 n.0 m.1 m.2 n.1 n.2) m.3)

led_next : (P : List ℕ → Type 0) (bytes : List ℕ) → ((b : List ℕ) → P b → IsSolid b) → Led P bytes → Next P bytes
led_next P [] solid p = next_here P [] (solid [] p) p
led_next P (byte ∷ bytes) solid (inl p) = next_here P (byte ∷ bytes) (solid (byte ∷ bytes) p) p
led_next P (byte ∷ bytes) solid (inr p) = next_skips P (byte ∷ bytes) bytes (byte ∷ [], (p.0, tt), refl) (led_next P bytes solid p.1)

-- Behind an element or a member.
AfterItem : ℕ → ℕ → (List ℕ → Type 0) → List ℕ → Out → Type 0
AfterItem end closing P bytes out =
    (BeginsOther 44 bytes × BeginsOther closing bytes × (out ≡ wrong (unexpected end bytes)))
    ⊎ (((rest : List ℕ) × (bytes ≡ 44 ∷ rest) × Next P rest) ⊎ ((rest : List ℕ) × (bytes ≡ closing ∷ rest) × (out ≡ whole rest)))

after_one : (end closing : ℕ) (P Q : List ℕ → Type 0) (bytes : List ℕ) (out other : Out) → (44 ≡ closing → ⊥) → ((b : List ℕ) → P b → Q b → out ≡ other) → AfterItem end closing P bytes out → AfterItem end closing Q bytes other → out ≡ other
unfolding AfterItem
after_one end closing P Q bytes out other apart f (inl h) (inl k) = h.2 ∙ sym k.2
after_one end closing P Q bytes out other apart f (inl h) (inr (inl k)) = absurd (h.0 k.0 k.1)
after_one end closing P Q bytes out other apart f (inl h) (inr (inr k)) = absurd (h.1 k.0 k.1)
after_one end closing P Q bytes out other apart f (inr (inl h)) (inl k) = absurd (k.0 h.0 h.1)
after_one end closing P Q bytes out other apart f (inr (inl h)) (inr (inl k)) = next_one P Q (out ≡ other) h.0 h.2 (subst (Next Q) (heads 44 44 k.0 h.0 (sym k.1 ∙ h.1)).1 k.2) f
after_one end closing P Q bytes out other apart f (inr (inl h)) (inr (inr k)) = absurd (apart (heads 44 closing h.0 k.0 (sym h.1 ∙ k.1)).0)
after_one end closing P Q bytes out other apart f (inr (inr h)) (inl k) = absurd (k.1 h.0 h.1)
after_one end closing P Q bytes out other apart f (inr (inr h)) (inr (inl k)) = absurd (apart (heads 44 closing k.0 h.0 (sym k.1 ∙ h.1)).0)
after_one end closing P Q bytes out other apart f (inr (inr h)) (inr (inr k)) = h.2 ∙ ap whole (heads closing closing h.0 k.0 (sym h.1 ∙ k.1)).1 ∙ sym k.2

-- In a value.
ValueOut : ℕ → ℕ → List ℕ → Out → Type 0
ValueOut end room bytes (whole after) = (v : Value) × WholeAt v room bytes after
ValueOut end room bytes (wrong f) = ValueFault end room bytes f

IsOne : ℕ → ℕ → Type 0
IsOne end room = (bytes : List ℕ) (out other : Out) → ValueOut end room bytes out → ValueOut end room bytes other → out ≡ other

-- In an array where an element is to come, with at most this many before.
Items : ℕ → ℕ → ℕ → List ℕ → Out → Type 0
Items end room zero bytes out = (f : JsonFault) × (out ≡ wrong f) × ValueFault end room bytes f
Items end room (suc count) bytes out = (v : Value) × (after : List ℕ) × WholeAt v room bytes after × Next (λ b. AfterItem end 93 (λ d. Items end room count d out) b out) after

whole_not_wrong : (a : List ℕ) (f : JsonFault) (E : Type 0) → whole a ≡ wrong f → E
whole_not_wrong a f E e = absurd (cc)

whole_inner : (a b : List ℕ) → whole a ≡ whole b → a ≡ b
whole_inner a b e = cc

wrong_inner : (f g : JsonFault) → wrong f ≡ wrong g → f ≡ g
wrong_inner f g e = cc

items_one : (end room : ℕ) → IsOne end room → (n m : ℕ) (bytes : List ℕ) (out other : Out) → Items end room n bytes out → Items end room m bytes other → out ≡ other
unfolding IsOne ValueOut Items
items_one end room one zero zero bytes out other h k = h.1 ∙ one bytes (wrong h.0) (wrong k.0) h.2 k.2 ∙ sym k.1
items_one end room one zero (suc m) bytes out other h k = whole_not_wrong k.1 h.0 (out ≡ other) (one bytes (whole k.1) (wrong h.0) (k.0, k.2) h.2)
items_one end room one (suc n) zero bytes out other h k = whole_not_wrong h.1 k.0 (out ≡ other) (one bytes (whole h.1) (wrong k.0) (h.0, h.2) k.2)
items_one end room one (suc n) (suc m) bytes out other h k =
    let same : k.1 ≡ h.1 = whole_inner k.1 h.1 (one bytes (whole k.1) (whole h.1) (k.0, k.2) (h.0, h.2)) in
    next_one (λ b. AfterItem end 93 (λ d. Items end room n d out) b out) (λ b. AfterItem end 93 (λ d. Items end room m d other) b other) (out ≡ other) h.1 h.3
    (subst (Next (λ b. AfterItem end 93 (λ d. Items end room m d other) b other)) same k.3)
    (λ b p q. after_one end 93 (λ d. Items end room n d out) (λ d. Items end room m d other) b out other (λ e. omega (arith, e)) (λ d x y. items_one end room one n m d out other x y) p q)

-- In an object.
Members : ℕ → ℕ → ℕ → List (List ℕ) → List ℕ → Out → Type 0
Members end room zero names bytes out = (f : JsonFault) × (out ≡ wrong f) × (MemberNameFault end names bytes f ⊎ ((name : List ℕ) × NewName names name (λ d. ValueFault end room d f) bytes))
Members end room (suc count) names bytes out =
    (name : List ℕ) × NewName names name (λ d. (v : Value) × (after : List ℕ) × WholeAt v room d after × Next (λ b. AfterItem end 125 (λ e. Members end room count (names ++ name ∷ []) e out) b out) after) bytes

new_name_one : (names : List (List ℕ)) (x y : List ℕ) (P Q : List ℕ → Type 0) (E : Type 0) (bytes : List ℕ) → NewName names x P bytes → NewName names y Q bytes → ((d : List ℕ) → x ≡ y → P d → Q d → E) → E
new_name_one names x y P Q E bytes h k f =
    let inside : k.0 ≡ h.0 = (heads 34 34 k.0 h.0 (sym k.2 ∙ h.2)).1 in
    let same = string_same h.0 x y h.1 k.1 h.3.0 (subst (λ i. TextAt i y k.1) inside k.3).0 in
    next_one (λ b. (rest : List ℕ) × (b ≡ 58 ∷ rest) × Next P rest) (λ b. (rest : List ℕ) × (b ≡ 58 ∷ rest) × Next Q rest) E h.1 h.5 (subst (Next (λ b. (rest : List ℕ) × (b ≡ 58 ∷ rest) × Next Q rest)) (sym same.1) k.5)
    (λ b p q. next_one P Q E p.0 p.2 (subst (Next Q) (heads 58 58 q.0 p.0 (sym q.1 ∙ p.1)).1 q.2) (λ d u v. f d same.0 u v))

name_not_fault : (end : ℕ) (names : List (List ℕ)) (name : List ℕ) (P : List ℕ → Type 0) (bytes : List ℕ) (f : JsonFault) → NewName names name P bytes → MemberNameFault end names bytes f → ⊥
name_not_fault end names name P bytes f h (inl k) = quote_not_fault end bytes h.0 name h.1 f h.2 h.3 k
name_not_fault end names name P bytes f h (inr (x, inside, after, is, text, k)) =
    let in_same : inside ≡ h.0 = (heads 34 34 inside h.0 (sym is ∙ h.2)).1 in
    let same = string_same h.0 name x h.1 after h.3.0 (subst (λ i. TextAt i x after) in_same text).0 in by_cases same.0 same.1 k
  where
    by_cases : name ≡ x → h.1 ≡ after → ((Contains names x × (f ≡ DuplicateName (end - length bytes))) ⊎ ((Contains names x → ⊥) × Next (λ b. BeginsOther 58 b × (f ≡ unexpected end b)) after)) → ⊥
    by_cases one at (inl c) = h.4 (subst (Contains names) (sym one) c.0)
    by_cases one at (inr c) =
        next_one (λ b. (rest : List ℕ) × (b ≡ 58 ∷ rest) × Next P rest) (λ b. BeginsOther 58 b × (f ≡ unexpected end b)) ⊥ h.1 h.5 (subst (Next (λ b. BeginsOther 58 b × (f ≡ unexpected end b))) (sym at) c.1) (λ b p q. q.0 p.0 p.1)

name_fault_same : (end : ℕ) (names : List (List ℕ)) (bytes : List ℕ) (f g : JsonFault) → MemberNameFault end names bytes f → MemberNameFault end names bytes g → f ≡ g
name_fault_same end names bytes f g (inl h) (inl k) = quote_fault_same end bytes f g h k
name_fault_same end names bytes f g (inl h) (inr (y, inside, after, is, text, k)) = absurd (quote_not_fault end bytes inside y after f is text h)
name_fault_same end names bytes f g (inr (x, inside, after, is, text, h)) (inl k) = absurd (quote_not_fault end bytes inside x after g is text k)
name_fault_same end names bytes f g (inr (x, inside, after, is, text, h)) (inr (y, within, behind, at, content, k)) =
    let in_same : within ≡ inside = (heads 34 34 within inside (sym at ∙ is)).1 in
    let same = string_same inside x y after behind text.0 (subst (λ i. TextAt i y behind) in_same content).0 in by_cases same.0 same.1 h k
  where
    by_cases : x ≡ y → after ≡ behind → (Contains names x × (f ≡ DuplicateName (end - length bytes))) ⊎ ((Contains names x → ⊥) × Next (λ b. BeginsOther 58 b × (f ≡ unexpected end b)) after)
        → (Contains names y × (g ≡ DuplicateName (end - length bytes))) ⊎ ((Contains names y → ⊥) × Next (λ b. BeginsOther 58 b × (g ≡ unexpected end b)) behind) → f ≡ g
    by_cases one rest (inl p) (inl q) = p.1 ∙ sym q.1
    by_cases one rest (inl p) (inr q) = absurd (q.0 (subst (Contains names) one p.0))
    by_cases one rest (inr p) (inl q) = absurd (p.0 (subst (Contains names) (sym one) q.0))
    by_cases one rest (inr p) (inr q) =
        next_one (λ b. BeginsOther 58 b × (f ≡ unexpected end b)) (λ b. BeginsOther 58 b × (g ≡ unexpected end b)) (f ≡ g) after p.1 (subst (Next (λ b. BeginsOther 58 b × (g ≡ unexpected end b))) (sym rest) q.1) (λ b u v. u.1 ∙ sym v.1)

-- the value of a whole member, and what comes behind it
abbrev Member : ℕ → ℕ → ℕ → List (List ℕ) → Out → List ℕ → Type 0
Member end room count names out d = (v : Value) × (after : List ℕ) × WholeAt v room d after × Next (λ b. AfterItem end 125 (λ e. Members end room count names e out) b out) after

members_one : (end room : ℕ) → IsOne end room → (n m : ℕ) (names : List (List ℕ)) (bytes : List ℕ) (out other : Out) → Members end room n names bytes out → Members end room m names bytes other → out ≡ other
unfolding IsOne ValueOut Members
members_one end room one zero zero names bytes out other (f, is, inl h) (g, at, inl k) = is ∙ ap wrong (name_fault_same end names bytes f g h k) ∙ sym at
members_one end room one zero zero names bytes out other (f, is, inl h) (g, at, inr k) = absurd (name_not_fault end names k.0 (λ d. ValueFault end room d g) bytes f k.1 h)
members_one end room one zero zero names bytes out other (f, is, inr h) (g, at, inl k) = absurd (name_not_fault end names h.0 (λ d. ValueFault end room d f) bytes g h.1 k)
members_one end room one zero zero names bytes out other (f, is, inr h) (g, at, inr k) =
    is ∙ new_name_one names h.0 k.0 (λ d. ValueFault end room d f) (λ d. ValueFault end room d g) (wrong f ≡ wrong g) bytes h.1 k.1 (λ d same p q. one d (wrong f) (wrong g) p q) ∙ sym at
members_one end room one zero (suc m) names bytes out other (f, is, inl h) k = absurd (name_not_fault end names k.0 (Member end room m (names ++ k.0 ∷ []) other) bytes f k.1 h)
members_one end room one zero (suc m) names bytes out other (f, is, inr h) k =
    new_name_one names h.0 k.0 (λ d. ValueFault end room d f) (Member end room m (names ++ k.0 ∷ []) other) (out ≡ other) bytes h.1 k.1 (λ d same p q. whole_not_wrong q.1 f (out ≡ other) (one d (whole q.1) (wrong f) (q.0, q.2) p))
members_one end room one (suc n) zero names bytes out other h (g, at, inl k) = absurd (name_not_fault end names h.0 (Member end room n (names ++ h.0 ∷ []) out) bytes g h.1 k)
members_one end room one (suc n) zero names bytes out other h (g, at, inr k) =
    new_name_one names h.0 k.0 (Member end room n (names ++ h.0 ∷ []) out) (λ d. ValueFault end room d g) (out ≡ other) bytes h.1 k.1 (λ d same p q. whole_not_wrong p.1 g (out ≡ other) (one d (whole p.1) (wrong g) (p.0, p.2) q))
members_one end room one (suc n) (suc m) names bytes out other h k =
    new_name_one names h.0 k.0 (Member end room n (names ++ h.0 ∷ []) out) (Member end room m (names ++ k.0 ∷ []) other) (out ≡ other) bytes h.1 k.1
    (λ d name p q.
    let rest : q.1 ≡ p.1 = whole_inner q.1 p.1 (one d (whole q.1) (whole p.1) (q.0, q.2) (p.0, p.2)) in
    next_one (λ b. AfterItem end 125 (λ e. Members end room n (names ++ h.0 ∷ []) e out) b out) (λ b. AfterItem end 125 (λ e. Members end room m (names ++ k.0 ∷ []) e other) b other) (out ≡ other) p.1 p.3
    (subst (Next (λ b. AfterItem end 125 (λ e. Members end room m (names ++ k.0 ∷ []) e other) b other)) rest q.3)
    (λ b u v.
    after_one end 125 (λ e. Members end room n (names ++ h.0 ∷ []) e out) (λ e. Members end room m (names ++ k.0 ∷ []) e other) b out other (λ e. omega (arith, e))
    (λ e x y. members_one end room one n m (names ++ h.0 ∷ []) e out other x (subst (λ z. Members end room m (names ++ z ∷ []) e other) (sym name) y)) u v))

-- Faults and whole arrays and objects, so seen.
fault_items : (end room count : ℕ) (bytes : List ℕ) (f : JsonFault) → ElementsFault end room (ValueFault end room) count bytes f → Items end room count bytes (wrong f)
unfolding Items AfterItem
fault_items end room zero bytes f h = (f, refl, h)
fault_items end room (suc n) bytes f (v, after, w, (c, skips, solid, inl h)) = (v, after, w, (c, skips, solid, inl (h.0, h.1, ap wrong h.2)))
fault_items end room (suc n) bytes f (v, after, w, (c, skips, solid, inr (rest, is, (d, over, clear, h)))) = (v, after, w, (c, skips, solid, inr (inl (rest, is, (d, over, clear, fault_items end room n d f h)))))

fault_members : (end room count : ℕ) (names : List (List ℕ)) (bytes : List ℕ) (f : JsonFault) → MembersFault end room (ValueFault end room) count names bytes f → Members end room count names bytes (wrong f)
unfolding Members AfterItem
fault_members end room zero names bytes f h = (f, refl, h)
fault_members end room (suc n) names bytes f (name, (inside, after, is, text, fresh, (c, skips, solid, (rest, at, (d, over, clear, (v, end_of, w, (e, beyond, free, inl h))))))) =
    (name, (inside, after, is, text, fresh, (c, skips, solid, (rest, at, (d, over, clear, (v, end_of, w, (e, beyond, free, inl (h.0, h.1, ap wrong h.2))))))))
fault_members end room (suc n) names bytes f (name, (inside, after, is, text, fresh, (c, skips, solid, (rest, at, (d, over, clear, (v, end_of, w, (e, beyond, free, inr (tail, comma, (x, past, plain, h))))))))) =
    (name, (inside, after, is, text, fresh, (c, skips, solid, (rest, at, (d, over, clear, (v, end_of, w, (e, beyond, free, inr (inl (tail, comma, (x, past, plain, fault_members end room n (names ++ name ∷ []) x f h))))))))))

-- A value ends before white space, a comma or a closing byte.
pub ends_before : (v : Value) (after : List ℕ) → ((byte : ℕ) (rest : List ℕ) → after ≡ byte ∷ rest → IsEnd byte) → Ends v after
ends_before (scalar (Number literal)) after h = λ byte rest is b. apart byte (AreNumberBytes-at literal [] byte (front_is (literal ++ byte ∷ []) b)) (h byte rest is)
ends_before (scalar (Str content)) after h = tt
ends_before (scalar (Bool b)) after h = tt
ends_before (scalar Null) after h = tt
ends_before (array vs) after h = tt
ends_before (object fs) after h = tt

abbrev Element : Value → ℕ → Values → List ℕ → List ℕ → Type 0
Element v room vs left d = (a : List ℕ) × ValueAt v room d a × MoreElementsAt vs room a left

element_solid : (v : Value) (room : ℕ) (vs : Values) (left d : List ℕ) → Element v room vs left d → IsSolid d
element_solid v room vs left d h byte rest is blank = value_solid v room byte rest h.0 blank (subst (λ l. ValueAt v room l h.0) is h.1)

whole_items : (end room : ℕ) (vs : Values) (after left : List ℕ) → MoreElementsAt vs room after left → (n : ℕ) × Next (λ b. AfterItem end 93 (λ d. Items end room n d (whole left)) b (whole left)) after
unfolding AfterItem Items
whole_items end room no_values after left h =
    (0, next_map (λ b. b ≡ 93 ∷ left) (λ b. AfterItem end 93 (λ d. Items end room 0 d (whole left)) b (whole left)) after (λ b is. inr (inr (left, is, refl))) (led_next (λ b. b ≡ 93 ∷ left) after (λ b is. solid_from 93 b left (omega arith) is) h))
whole_items end room (value_then v vs) after left h =
    let comma = led_next (λ b. (behind : List ℕ) × (b ≡ 44 ∷ behind) × Led (Element v room vs left) behind) after (λ b p. solid_from 44 b p.0 (omega arith) p.1) h in
    let element = led_next (Element v room vs left) comma.3.0 (element_solid v room vs left) comma.3.2 in
    let a = element.3.0 in
    let more = whole_items end room vs a left element.3.2 in
    let ends = ends_before v a (λ byte rest is. elements_end vs room byte rest left (subst (λ l. MoreElementsAt vs room l left) is element.3.2)) in
    (suc more.0, (comma.0, comma.1, comma.2, inr (inl (comma.3.0, comma.3.1, (element.0, element.1, element.2, (v, a, (element.3.1, ends), more.1))))))

named : (names : List (List ℕ)) (name : List ℕ) (P : List ℕ → Type 0) (bytes : List ℕ) → ((b : List ℕ) → P b → IsSolid b) → (Contains names name → ⊥) → NameThen name P bytes → NewName names name P bytes
named names name P bytes solid fresh h =
    let colon = led_next (λ b. (behind : List ℕ) × (b ≡ 58 ∷ behind) × Led P behind) h.1 (λ b p. solid_from 58 b p.0 (omega arith) p.1) h.4 in
    (h.0, h.1, h.2, h.3, fresh, (colon.0, colon.1, colon.2, (colon.3.0, colon.3.1, led_next P colon.3.0 solid colon.3.2)))

distinct_fresh : (names : List (List ℕ)) (name : List ℕ) (more : List (List ℕ)) → AreDistinct (names ++ name ∷ more) → Contains names name → ⊥
distinct_fresh names name more distinct has =
    let there = slice_get-Contains names name has in
    let at : there.0 ≡ length names = distinct there.0 (length names) name (slice_get_left names (name ∷ more) there.0 name there.1) (slice_get_seam names more name) in
    omega (arith, at, slice_get_within names there.0 name there.1)

whole_members : (end room : ℕ) (fs : Fields) (names : List (List ℕ)) (after left : List ℕ) → AreDistinct (names ++ names_in fs) → MoreMembersAt fs room after left
    → (n : ℕ) × Next (λ b. AfterItem end 125 (λ e. Members end room n names e (whole left)) b (whole left)) after
unfolding AfterItem Members
whole_members end room no_fields names after left distinct h =
    (0, next_map (λ b. b ≡ 125 ∷ left) (λ b. AfterItem end 125 (λ e. Members end room 0 names e (whole left)) b (whole left)) after (λ b is. inr (inr (left, is, refl))) (led_next (λ b. b ≡ 125 ∷ left) after (λ b is. solid_from 125 b left (omega arith) is) h))
whole_members end room (field_then name v fs) names after left distinct h =
    let comma = led_next (λ b. (behind : List ℕ) × (b ≡ 44 ∷ behind) × Led (NameThen name (token.Member v fs room left)) behind) after (λ b p. solid_from 44 b p.0 (omega arith) p.1) h in
    let place = led_next (NameThen name (token.Member v fs room left)) comma.3.0 (λ b p. solid_from 34 b p.0 (omega arith) p.2) comma.3.2 in
    let new = named names name (token.Member v fs room left) place.0 (λ b p byte rest is blank. value_solid v room byte rest p.0 blank (subst (λ l. ValueAt v room l p.0) is p.1)) (distinct_fresh names name (names_in fs) distinct) place.3 in
    let value = new.5.3.2 in
    let a = value.3.0 in
    let more = whole_members end room fs (names ++ name ∷ []) a left (subst AreDistinct (sym (append_assoc names (name ∷ []) (names_in fs))) distinct) value.3.2 in
    let ends = ends_before v a (λ byte rest is. members_end fs room byte rest left (subst (λ l. MoreMembersAt fs room l left) is value.3.2)) in
    let member : NewName names name (Member end room more.0 (names ++ name ∷ []) (whole left)) place.0
    = (new.0, new.1, new.2, new.3, new.4, (new.5.0, new.5.1, new.5.2, (new.5.3.0, new.5.3.1, (value.0, value.1, value.2, (v, a, (value.3.1, ends), more.1))))) in
    (suc more.0, (comma.0, comma.1, comma.2, inr (inl (comma.3.0, comma.3.1, (place.0, place.1, place.2, (name, member))))))

behind_comma : (end closing : ℕ) (P : List ℕ → Type 0) (rest : List ℕ) (out : Out) → (44 ≡ closing → ⊥) → Next (λ b. AfterItem end closing P b out) (44 ∷ rest) → Next P rest
unfolding AfterItem
behind_comma end closing P rest out apart n =
    next_one (λ b. b ≡ 44 ∷ rest) (λ b. AfterItem end closing P b out) (Next P rest) (44 ∷ rest) (next_here (λ b. b ≡ 44 ∷ rest) (44 ∷ rest) (solid_from 44 (44 ∷ rest) rest (omega arith) refl) refl) n (λ b is p. by_cases b is p)
  where
    by_cases : (b : List ℕ) → b ≡ 44 ∷ rest → AfterItem end closing P b out → Next P rest
    by_cases b is (inl h) = absurd (h.0 rest is)
    by_cases b is (inr (inl h)) = subst (Next P) (heads 44 44 h.0 rest (sym h.1 ∙ is)).1 h.2
    by_cases b is (inr (inr h)) = absurd (apart (heads 44 closing rest h.0 (sym is ∙ h.1)).0)

-- Behind an opening bracket and brace.
abbrev Listed : ℕ → (ℕ → List ℕ → Out → Type 0) → Out → List ℕ → Type 0
Listed closing P out b = ((r : List ℕ) × (b ≡ closing ∷ r) × (out ≡ whole r)) ⊎ (BeginsOther closing b × (n : ℕ) × P n b out)

abbrev ListOut : ℕ → (ℕ → List ℕ → Out → Type 0) → List ℕ → Out → Type 0
ListOut closing P rest out = Next (Listed closing P out) rest

list_one : (closing : ℕ) (P : ℕ → List ℕ → Out → Type 0) (rest : List ℕ) (out other : Out) → ((n m : ℕ) (b : List ℕ) → P n b out → P m b other → out ≡ other) → ListOut closing P rest out → ListOut closing P rest other → out ≡ other
list_one closing P rest out other f h k = next_one (Listed closing P out) (Listed closing P other) (out ≡ other) rest h k by_cases
  where
    by_cases : (b : List ℕ) → Listed closing P out b → Listed closing P other b → out ≡ other
    by_cases b (inl p) (inl q) = p.2 ∙ ap whole (heads closing closing p.0 q.0 (sym p.1 ∙ q.1)).1 ∙ sym q.2
    by_cases b (inl p) (inr q) = absurd (q.0 p.0 p.1)
    by_cases b (inr p) (inl q) = absurd (p.0 q.0 q.1)
    by_cases b (inr p) (inr q) = f p.1 q.1 b p.2 q.2

next_pair : (P Q : List ℕ → Type 0) (bytes : List ℕ) → Next P bytes → Next Q bytes → Next (λ b. P b × Q b) bytes
next_pair P Q bytes n m = (n.0, n.1, n.2, (n.3, subst Q (skips_same bytes m.0 n.0 m.1 m.2 n.1 n.2) m.3))

list_ends : (closing : ℕ) (P : ℕ → List ℕ → Out → Type 0) (rest left : List ℕ) → 33 ≤ closing → Led (λ b. b ≡ closing ∷ left) rest → ListOut closing P rest (whole left)
list_ends closing P rest left above h =
    next_map (λ b. b ≡ closing ∷ left) (Listed closing P (whole left)) rest (λ b is. inl (left, is, refl)) (led_next (λ b. b ≡ closing ∷ left) rest (λ b is. solid_from closing b left above is) h)

array_out : (end room : ℕ) (vs : Values) (rest left : List ℕ) → ElementsAt vs room rest left → ListOut 93 (Items end room) rest (whole left)
array_out end room no_values rest left h = list_ends 93 (Items end room) rest left (omega arith) h
array_out end room (value_then v vs) rest left h =
    let more = whole_items end room (value_then v vs) (44 ∷ rest) left (inl (rest, refl, h)) in
    let items = behind_comma end 93 (λ d. Items end room more.0 d (whole left)) rest (whole left) (λ e. omega (arith, e)) more.1 in
    let element = led_next (Element v room vs left) rest (element_solid v room vs left) h in
    next_map (λ b. Element v room vs left b × Items end room more.0 b (whole left)) (Listed 93 (Items end room) (whole left)) rest (λ b p. inr (other_first v room 93 b p.0.0 bracket_not_first p.0.1, more.0, p.1))
    (next_pair (Element v room vs left) (λ d. Items end room more.0 d (whole left)) rest element items)

object_out : (end room : ℕ) (fs : Fields) (rest left : List ℕ) → AreDistinct (names_in fs) → MembersAt fs room rest left → ListOut 125 (λ n b out. Members end room n [] b out) rest (whole left)
object_out end room no_fields rest left distinct h = list_ends 125 (λ n b out. Members end room n [] b out) rest left (omega arith) h
object_out end room (field_then name v fs) rest left distinct h =
    let more = whole_members end room (field_then name v fs) [] (44 ∷ rest) left distinct (inl (rest, refl, h)) in
    let members = behind_comma end 125 (λ d. Members end room more.0 [] d (whole left)) rest (whole left) (λ e. omega (arith, e)) more.1 in
    let place = led_next (NameThen name (token.Member v fs room left)) rest (λ b p. solid_from 34 b p.0 (omega arith) p.2) h in
    next_map (λ b. NameThen name (token.Member v fs room left) b × Members end room more.0 [] b (whole left)) (Listed 125 (λ n b out. Members end room n [] b out) (whole left)) rest
    (λ b p. inr (λ r is. omega (arith, (heads 34 125 p.0.0 r (sym p.0.2 ∙ is)).0), more.0, p.1)) (next_pair (NameThen name (token.Member v fs room left)) (λ d. Members end room more.0 [] d (whole left)) rest place members)

-- A literal name.
abbrev WordOut : ℕ → List ℕ → List ℕ → Out → Type 0
WordOut end word bytes (whole after) = bytes ≡ word ++ after
WordOut end word bytes (wrong f) = WordFault end word bytes f

word_shorter : (word bytes rest tail : List ℕ) (i j : ℕ) → i < j → j < length word → bytes ≡ take i word ++ rest → BeginsOther (get_or word i 0) rest → bytes ≡ take j word ++ tail → ⊥
word_shorter word bytes rest tail i j less small is other at =
    let cut : take i (take j word) ≡ take i word = take-take i j word (omega arith) in
    let same : get_or (take j word) i 0 ≡ get_or word i 0 = get_or-take j word i 0 less in
    word_differs bytes (take j word) rest tail i (omega (arith, length-take-le j word (omega arith))) (is ∙ ap (λ l. l ++ rest) (sym cut)) (subst (λ b. BeginsOther b rest) (sym same) other) at

word_one : (end : ℕ) (word bytes : List ℕ) (out other : Out) → WordOut end word bytes out → WordOut end word bytes other → out ≡ other
word_one end word bytes (whole a) (whole b) h k = ap whole (same_tail word a b (sym h ∙ k))
word_one end word bytes (whole a) (wrong f) h (i, rest, below, is, not, at) = absurd (word_differs bytes word rest a i below is not h)
word_one end word bytes (wrong f) (whole b) (i, rest, below, is, not, at) k = absurd (word_differs bytes word rest b i below is not k)
word_one end word bytes (wrong f) (wrong g) (i, rest, below, is, not, at) (j, tail, under, on, none, to) = by_cases (cases_order i j)
  where
    by_cases : (i ≡ j) ⊎ ((i < j) ⊎ (j < i)) → wrong f ≡ wrong g
    by_cases (inr (inl less)) = absurd (word_shorter word bytes rest tail i j less under is not on)
    by_cases (inr (inr less)) = absurd (word_shorter word bytes tail rest j i less below on none is)
    by_cases (inl same) =
        let tails : rest ≡ tail = same_tail (take i word) rest tail (sym is ∙ on ∙ ap (λ n. take n word ++ tail) (sym same)) in ap wrong (at ∙ ap (unexpected end) tails ∙ sym to)

-- A number.
abbrev NumberOut : ℕ → List ℕ → Out → Type 0
NumberOut end bytes (whole after) = (l : List ℕ) × IsNumber l × (length l ≤ 64) × (bytes ≡ l ++ after) × IsLongestFront bytes (length l)
NumberOut end bytes (wrong f) = NumberFault end bytes f

number_right : (end : ℕ) (bytes a : List ℕ) (f : JsonFault) → NumberOut end bytes (whole a) → NumberFault end bytes f → ⊥
number_right end bytes a f (l, n, short, is, longest) (inl k) = omega (arith, short, longest.longest 65 k.0 k.1)
number_right end bytes a f (l, n, short, is, longest) (inr k) =
    let same : k.0 ≡ length l = longest_one bytes k.0 (length l) k.2 longest in
    k.3 (subst IsNumber (sym (ap (λ m. take m bytes) same ∙ ap (take (length l)) is ∙ take-append_seam l a)) n)

number_one : (end : ℕ) (bytes : List ℕ) (out other : Out) → NumberOut end bytes out → NumberOut end bytes other → out ≡ other
number_one end bytes (whole a) (whole b) (l, n, short, is, longest) (m, o, small, at, most) =
    let same : length l ≡ length m = longest_one bytes (length l) (length m) longest most in
    ap whole (sym (drop-append_seam l a) ∙ ap (drop (length l)) (sym is) ∙ ap (λ x. drop x bytes) same ∙ ap (drop (length m)) at ∙ drop-append_seam m b)
number_one end bytes (whole a) (wrong f) h k = absurd (number_right end bytes a f h k)
number_one end bytes (wrong f) (whole b) h k = absurd (number_right end bytes b f k h)
number_one end bytes (wrong f) (wrong g) (inl h) (inl k) = ap wrong (h.2 ∙ sym k.2)
number_one end bytes (wrong f) (wrong g) (inl h) (inr k) = absurd (omega (arith, k.1, k.2.longest 65 h.0 h.1))
number_one end bytes (wrong f) (wrong g) (inr h) (inl k) = absurd (omega (arith, h.1, h.2.longest 65 k.0 k.1))
number_one end bytes (wrong f) (wrong g) (inr h) (inr k) = ap wrong (h.4 ∙ ap (λ n. unexpected end (drop n bytes)) (longest_one bytes h.0 k.0 h.2 k.2) ∙ sym k.4)

-- A string.
abbrev QuotedOut : ℕ → List ℕ → Out → Type 0
QuotedOut end bytes (whole after) = (content : List ℕ) × (inside : List ℕ) × (bytes ≡ 34 ∷ inside) × TextAt inside content after
QuotedOut end bytes (wrong f) = QuotedFault end bytes f

quoted_one : (end : ℕ) (bytes : List ℕ) (out other : Out) → QuotedOut end bytes out → QuotedOut end bytes other → out ≡ other
quoted_one end bytes (whole a) (whole b) (c, inside, is, s) (d, within, at, t) =
    let same : within ≡ inside = (heads 34 34 within inside (sym at ∙ is)).1 in ap whole (string_same inside c d a b s.0 (subst (λ i. TextAt i d b) same t).0).1
quoted_one end bytes (whole a) (wrong f) (c, inside, is, s) k = absurd (quoted_not_fault end bytes inside c a f is s k)
quoted_one end bytes (wrong f) (whole b) h (d, within, at, t) = absurd (quoted_not_fault end bytes within d b f at t h)
quoted_one end bytes (wrong f) (wrong g) h k = ap wrong (quoted_fault_same end bytes f g h k)

-- what the first byte of a value says that it is
data Tag : Type 0 where
  other quote number letter_t letter_f letter_n bracket brace : Tag

tag : ℕ → Tag
tag byte = cond (ltb 47 byte && ltb byte 58) number (cond (eqb byte 45) number (cond (eqb byte 34) quote (cond (eqb byte 116) letter_t (cond (eqb byte 102) letter_f (cond (eqb byte 110) letter_n (cond (eqb byte 91) bracket (cond (eqb byte 123) brace other)))))))

tag_number : (byte : ℕ) → (byte ≡ 45) ⊎ IsDigit byte → tag byte ≡ number
unfolding tag
tag_number byte (inl e) = rw e refl
tag_number byte (inr d) = rw (lt-ltb 47 byte (omega (arith, d.0)), lt-ltb byte 58 (omega (arith, d.1))) refl

tag_at : (byte literal : ℕ) (t : Tag) → byte ≡ literal → tag literal ≡ t → tag byte ≡ t
tag_at byte literal t is e = ap tag is ∙ e

tag_quote : tag 34 ≡ quote
unfolding tag
tag_quote = refl

tag_t : tag 116 ≡ letter_t
unfolding tag
tag_t = refl

tag_f : tag 102 ≡ letter_f
unfolding tag
tag_f = refl

tag_n : tag 110 ≡ letter_n
unfolding tag
tag_n = refl

tag_bracket : tag 91 ≡ bracket
unfolding tag
tag_bracket = refl

tag_brace : tag 123 ≡ brace
unfolding tag
tag_brace = refl

no_digit : (byte : ℕ) → (IsDigit byte → ⊥) → ltb 47 byte && ltb byte 58 ≡ false
no_digit byte none = by_cases (cases_lt 47 byte) (cases_lt byte 58)
  where
    by_cases : (47 < byte) ⊎ (byte ≤ 47) → (byte < 58) ⊎ (58 ≤ byte) → ltb 47 byte && ltb byte 58 ≡ false
    by_cases (inr le) under = rw (le-ltb 47 byte le) refl
    by_cases (inl lt) (inl less) = absurd (none (omega arith, omega arith))
    by_cases (inl lt) (inr more) = rw (lt-ltb 47 byte lt, le-ltb byte 58 more) refl

tag_other : (byte : ℕ) → (IsFirst byte → ⊥) → tag byte ≡ other
unfolding tag
tag_other byte none =
    rw (no_digit byte (λ d. none (inr (inl (inr d)))), ne_eqb byte 45 (λ e. none (inr (inl (inl e)))), ne_eqb byte 34 (λ e. none (inl e)), ne_eqb byte 116 (λ e. none (inr (inr (inl e)))), ne_eqb byte 102 (λ e. none (inr (inr (inr (inl e))))), ne_eqb byte 110 (λ e. none (inr (inr (inr (inr (inl e)))))), ne_eqb byte 91 (λ e. none (inr (inr (inr (inr (inr (inl e))))))), ne_eqb byte 123 (λ e. none (inr (inr (inr (inr (inr (inr e)))))))) refl

-- what a value is, by its first byte
Class : ℕ → ℕ → Tag → List ℕ → Out → Type 0
Class end room other bytes out = out ≡ wrong (unexpected end bytes)
Class end room quote bytes out = QuotedOut end bytes out
Class end room number bytes out = NumberOut end bytes out
Class end room letter_t bytes out = WordOut end (codes "true") bytes out
Class end room letter_f bytes out = WordOut end (codes "false") bytes out
Class end room letter_n bytes out = WordOut end (codes "null") bytes out
Class end zero bracket bytes out = out ≡ wrong (TooDeep (end - length bytes))
Class end (suc room) bracket bytes out = (rest : List ℕ) × (bytes ≡ 91 ∷ rest) × ListOut 93 (Items end room) rest out
Class end zero brace bytes out = out ≡ wrong (TooDeep (end - length bytes))
Class end (suc room) brace bytes out = (rest : List ℕ) × (bytes ≡ 123 ∷ rest) × ListOut 125 (λ n b x. Members end room n [] b x) rest out

class_one : (end room : ℕ) → ((inner : ℕ) → room ≡ suc inner → IsOne end inner) → (t : Tag) (bytes : List ℕ) (out another : Out) → Class end room t bytes out → Class end room t bytes another → out ≡ another
unfolding Class
class_one end room below other bytes out another h k = h ∙ sym k
class_one end room below quote bytes out another h k = quoted_one end bytes out another h k
class_one end room below number bytes out another h k = number_one end bytes out another h k
class_one end room below letter_t bytes out another h k = word_one end (codes "true") bytes out another h k
class_one end room below letter_f bytes out another h k = word_one end (codes "false") bytes out another h k
class_one end room below letter_n bytes out another h k = word_one end (codes "null") bytes out another h k
class_one end zero below bracket bytes out another h k = h ∙ sym k
class_one end (suc room) below bracket bytes out another h k =
    let same : k.0 ≡ h.0 = (heads 91 91 k.0 h.0 (sym k.1 ∙ h.1)).1 in
    list_one 93 (Items end room) h.0 out another (λ n m b p q. items_one end room (below room refl) n m b out another p q) h.2 (subst (λ r. ListOut 93 (Items end room) r another) same k.2)
class_one end zero below brace bytes out another h k = h ∙ sym k
class_one end (suc room) below brace bytes out another h k =
    let same : k.0 ≡ h.0 = (heads 123 123 k.0 h.0 (sym k.1 ∙ h.1)).1 in
    list_one 125 (λ n b x. Members end room n [] b x) h.0 out another (λ n m b p q. members_one end room (below room refl) n m [] b out another p q) h.2 (subst (λ r. ListOut 125 (λ n b x. Members end room n [] b x) r another) same k.2)

class_at : (end room byte : ℕ) (t : Tag) (bytes : List ℕ) (out : Out) → tag byte ≡ t → Class end room t bytes out → Class end room (tag byte) bytes out
class_at end room byte t bytes out is h = subst (λ u. Class end room u bytes out) (sym is) h

whole_class : (end room byte : ℕ) (rest a : List ℕ) (v : Value) → WholeAt v room (byte ∷ rest) a → Class end room (tag byte) (byte ∷ rest) (whole a)
unfolding Class
whole_class end room byte rest a v w = by_cases (first_of v room byte rest a w.0)
  where
    by_cases : First v room byte rest a → Class end room (tag byte) (byte ∷ rest) (whole a)
    by_cases (a_string content e b t) = class_at end room byte quote (byte ∷ rest) (whole a) (tag_at byte 34 quote b tag_quote) (content, rest, ap (λ x. x ∷ rest) b, t)
    by_cases (a_number l e b n s is) =
        class_at end room byte number (byte ∷ rest) (whole a) (tag_number byte b) (l, n, s, is, number_longest (byte ∷ rest) l a n is (subst (λ x. Ends x a) e w.1))
    by_cases (a_true e b is) = class_at end room byte letter_t (byte ∷ rest) (whole a) (tag_at byte 116 letter_t b tag_t) is
    by_cases (a_false e b is) = class_at end room byte letter_f (byte ∷ rest) (whole a) (tag_at byte 102 letter_f b tag_f) is
    by_cases (a_null e b is) = class_at end room byte letter_n (byte ∷ rest) (whole a) (tag_at byte 110 letter_n b tag_n) is
    by_cases (an_array vs inner e b r h) =
        class_at end room byte bracket (byte ∷ rest) (whole a) (tag_at byte 91 bracket b tag_bracket)
        (subst (λ z. Class end z bracket (byte ∷ rest) (whole a)) (sym r) (rest, ap (λ x. x ∷ rest) b, array_out end inner vs rest a h))
    by_cases (an_object fs inner e b r d h) =
        class_at end room byte brace (byte ∷ rest) (whole a) (tag_at byte 123 brace b tag_brace)
        (subst (λ z. Class end z brace (byte ∷ rest) (whole a)) (sym r) (rest, ap (λ x. x ∷ rest) b, object_out end inner fs rest a d h))

scalar_class : (end room byte : ℕ) (rest : List ℕ) (f : JsonFault) → ScalarFault end (byte ∷ rest) f → Class end room (tag byte) (byte ∷ rest) (wrong f)
unfolding Class
scalar_class end room byte rest f (inl h) = class_at end room byte other (byte ∷ rest) (wrong f) (tag_other byte (h.0 byte rest refl)) (ap wrong h.1)
scalar_class end room byte rest f (inr (inl h)) = class_at end room byte quote (byte ∷ rest) (wrong f) (tag_at byte 34 quote (heads byte 34 rest h.0 h.1).0 tag_quote) h
scalar_class end room byte rest f (inr (inr (inl ((b, r, is, first), h)))) =
    class_at end room byte number (byte ∷ rest) (wrong f) (tag_number byte (subst (λ x. (x ≡ 45) ⊎ IsDigit x) (sym (heads byte b rest r is).0) first)) h
scalar_class end room byte rest f (inr (inr (inr (letter, more, inside, which, is, h)))) = by_cases which
  where
    by_cases : IsLiteralName (letter ∷ more) → Class end room (tag byte) (byte ∷ rest) (wrong f)
    by_cases (inl e) =
        class_at end room byte letter_t (byte ∷ rest) (wrong f) (tag_at byte 116 letter_t ((heads byte letter rest inside is).0 ∙ (heads letter 116 more (114 ∷ 117 ∷ 101 ∷ []) e).0) tag_t) (subst (λ word. WordFault end word (byte ∷ rest) f) e h)
    by_cases (inr (inl e)) =
        class_at end room byte letter_f (byte ∷ rest) (wrong f) (tag_at byte 102 letter_f ((heads byte letter rest inside is).0 ∙ (heads letter 102 more (97 ∷ 108 ∷ 115 ∷ 101 ∷ []) e).0) tag_f) (subst (λ word. WordFault end word (byte ∷ rest) f) e h)
    by_cases (inr (inr e)) =
        class_at end room byte letter_n (byte ∷ rest) (wrong f) (tag_at byte 110 letter_n ((heads byte letter rest inside is).0 ∙ (heads letter 110 more (117 ∷ 108 ∷ 108 ∷ []) e).0) tag_n) (subst (λ word. WordFault end word (byte ∷ rest) f) e h)

wrong_class : (end room byte : ℕ) (rest : List ℕ) (f : JsonFault) → ValueFault end room (byte ∷ rest) f → Class end room (tag byte) (byte ∷ rest) (wrong f)
unfolding ValueFault Class
wrong_class end zero byte rest f (inl h) = scalar_class end 0 byte rest f h
wrong_class end zero byte rest f (inr (r, inl is, at)) = class_at end 0 byte bracket (byte ∷ rest) (wrong f) (tag_at byte 91 bracket (heads byte 91 rest r is).0 tag_bracket) (ap wrong at)
wrong_class end zero byte rest f (inr (r, inr is, at)) = class_at end 0 byte brace (byte ∷ rest) (wrong f) (tag_at byte 123 brace (heads byte 123 rest r is).0 tag_brace) (ap wrong at)
wrong_class end (suc room) byte rest f (inl h) = scalar_class end (suc room) byte rest f h
wrong_class end (suc room) byte rest f (inr (inl (r, count, is, (b, skips, solid, h)))) =
    class_at end (suc room) byte bracket (byte ∷ rest) (wrong f) (tag_at byte 91 bracket (heads byte 91 rest r is).0 tag_bracket) (r, is, (b, skips, solid, inr (h.0, count, fault_items end room count b f h.1)))
wrong_class end (suc room) byte rest f (inr (inr (r, count, is, (b, skips, solid, h)))) =
    class_at end (suc room) byte brace (byte ∷ rest) (wrong f) (tag_at byte 123 brace (heads byte 123 rest r is).0 tag_brace) (r, is, (b, skips, solid, inr (h.0, count, fault_members end room count [] b f h.1)))

scalar_at_end : (end : ℕ) (f : JsonFault) → ScalarFault end [] f → f ≡ Ended
scalar_at_end end f (inl h) = h.1
scalar_at_end end f (inr (inl h)) = absurd (nothing_there 34 h.0 h.1)
scalar_at_end end f (inr (inr (inl h))) = absurd (nothing_there h.0.0 h.0.1 h.0.2)
scalar_at_end end f (inr (inr (inr h))) = absurd (nothing_there h.0 h.2 h.4)

value_at_end : (end room : ℕ) (f : JsonFault) → ValueFault end room [] f → f ≡ Ended
unfolding ValueFault
value_at_end end zero f (inl h) = scalar_at_end end f h
value_at_end end zero f (inr (rest, inl is, at)) = absurd (nothing_there 91 rest is)
value_at_end end zero f (inr (rest, inr is, at)) = absurd (nothing_there 123 rest is)
value_at_end end (suc room) f (inl h) = scalar_at_end end f h
value_at_end end (suc room) f (inr (inl h)) = absurd (nothing_there 91 h.0 h.2)
value_at_end end (suc room) f (inr (inr h)) = absurd (nothing_there 123 h.0 h.2)

value_class : (end room byte : ℕ) (rest : List ℕ) (out : Out) → ValueOut end room (byte ∷ rest) out → Class end room (tag byte) (byte ∷ rest) out
unfolding ValueOut
value_class end room byte rest (whole a) h = whole_class end room byte rest a h.0 h.1
value_class end room byte rest (wrong f) h = wrong_class end room byte rest f h

in_room : (end room : ℕ) → ((inner : ℕ) → room ≡ suc inner → IsOne end inner) → (bytes : List ℕ) (out another : Out) → ValueOut end room bytes out → ValueOut end room bytes another → out ≡ another
unfolding ValueOut
in_room end room below [] (whole a) another h k = absurd (no_value_of_nothing h.0 room a h.1.0)
in_room end room below [] (wrong f) (whole b) h k = absurd (no_value_of_nothing k.0 room b k.1.0)
in_room end room below [] (wrong f) (wrong g) h k = ap wrong (value_at_end end room f h ∙ sym (value_at_end end room g k))
in_room end room below (byte ∷ rest) out another h k = class_one end room below (tag byte) (byte ∷ rest) out another (value_class end room byte rest out h) (value_class end room byte rest another k)

value_one : (end room : ℕ) → IsOne end room
unfolding IsOne
value_one end zero bytes out another h k = in_room end 0 (λ inner e. absurd (omega (arith, e))) bytes out another h k
value_one end (suc room) bytes out another h k =
    in_room end (suc room) (λ inner e. subst (λ r. (b : List ℕ) (x y : Out) → ValueOut end r b x → ValueOut end r b y → x ≡ y) (suc_same e) (value_one end room)) bytes out another h k
  where
    suc_same : {inner : ℕ} → suc room ≡ suc inner → room ≡ inner
    suc_same e = omega (arith, e)

-- Behind the value of a text.
abbrev Trailing : ℕ → JsonFault → List ℕ → Type 0
Trailing end f c = (byte : ℕ) × (rest : List ℕ) × (c ≡ byte ∷ rest) × (f ≡ unexpected end c)

abbrev InText : ℕ → JsonFault → List ℕ → Type 0
InText end f b = ValueFault end 256 b f ⊎ ((v : Value) × (after : List ℕ) × WholeAt v 256 b after × Next (Trailing end f) after)

right_not_fault : (end : ℕ) (b after : List ℕ) (v : Value) (f : JsonFault) → WholeAt v 256 b after → ValueFault end 256 b f → ⊥
unfolding IsOne ValueOut
right_not_fault end b after v f w h = whole_not_wrong after f ⊥ (value_one end 256 b (whole after) (wrong f) (v, w) h)

right_same : (end : ℕ) (b a c : List ℕ) (v x : Value) → WholeAt v 256 b a → WholeAt x 256 b c → a ≡ c
unfolding IsOne ValueOut
right_same end b a c v x p q = whole_inner a c (value_one end 256 b (whole a) (whole c) (v, p) (x, q))

wrong_same : (end : ℕ) (b : List ℕ) (f g : JsonFault) → ValueFault end 256 b f → ValueFault end 256 b g → f ≡ g
unfolding IsOne ValueOut
wrong_same end b f g p q = wrong_inner f g (value_one end 256 b (wrong f) (wrong g) p q)

text_fault_same : (end : ℕ) (text : List ℕ) (f g : JsonFault) → TextFault end text f → TextFault end text g → f ≡ g
text_fault_same end text f g h k = next_one (InText end f) (InText end g) (f ≡ g) text h k by_cases
  where
    by_cases : (b : List ℕ) → InText end f b → InText end g b → f ≡ g
    by_cases b (inl p) (inl q) = wrong_same end b f g p q
    by_cases b (inl p) (inr q) = absurd (right_not_fault end b q.1 q.0 f q.2 p)
    by_cases b (inr p) (inl q) = absurd (right_not_fault end b p.1 p.0 g p.2 q)
    by_cases b (inr p) (inr q) =
        next_one (Trailing end f) (Trailing end g) (f ≡ g) p.1 p.3 (subst (Next (Trailing end g)) (right_same end b q.1 p.1 q.0 p.0 q.2 p.2) q.3) (λ c x y. x.3 ∙ sym y.3)

blanks_behind : (xs ys : List ℕ) → AreBlanks (xs ++ ys) → AreBlanks ys
blanks_behind [] ys all = all
blanks_behind (x ∷ xs) ys all = blanks_behind xs ys all.1

blank_first : (after : List ℕ) (byte : ℕ) (rest : List ℕ) → after ≡ byte ∷ rest → AreBlanks after → IsBlank byte
blank_first after byte rest is all = (subst AreBlanks is all).0

spelled_not_fault : (end : ℕ) (text after : List ℕ) (v : Value) (f : JsonFault) → Led (λ b. ValueAt v 256 b after) text → AreBlanks after → TextFault end text f → ⊥
spelled_not_fault end text after v f led all h =
    next_one (λ b. ValueAt v 256 b after) (InText end f) ⊥ text (led_next (λ b. ValueAt v 256 b after) text (λ b p byte rest is blank. value_solid v 256 byte rest after blank (subst (λ l. ValueAt v 256 l after) is p)) led) h (λ b p q. by_cases b (p, ends) q)
  where
    ends : Ends v after
    ends = ends_before v after (λ byte rest is. inl (blank_small byte (blank_first after byte rest is all)))

    by_cases : (b : List ℕ) → WholeAt v 256 b after → InText end f b → ⊥
    by_cases b w (inl p) = right_not_fault end b after v f w p
    by_cases b w (inr (x, a, u, (c, skips, solid, (byte, rest, is, at)))) =
        let same : after ≡ a = right_same end b after a v x w u in
        solid byte rest is (blank_first c byte rest is (blanks_behind skips.0 c (subst AreBlanks (same ∙ skips.2) all)))

valid_one : (text : List ℕ) (n m : ℕ) → IsValidUpTo text n → IsValidUpTo text m → n ≡ m
valid_one text n m p q = sym (utf8_valid_len-IsValidUpTo text n p) ∙ utf8_valid_len-IsValidUpTo text m q

-- A text has one fault at most.
pub faults_one : (text : List ℕ) (f g : JsonFault) → Faults text f → Faults text g → f ≡ g
faults_one text f g (inl h) (inl k) = text_fault_same (length text) text f g h.1 k.1
faults_one text f g (inl h) (inr k) = absurd (k.0 h.0)
faults_one text f g (inr h) (inl k) = absurd (h.0 k.0)
faults_one text f g (inr (none, n, at, h)) (inr (no_text, m, to, k)) = by_cases h (subst (CutFault g) (valid_one text m n to at) k)
  where
    CutFault : JsonFault → ℕ → Type 0
    CutFault e l = ((known : JsonFault) × TextFault l (take l text) known × (e ≡ cut l known)) ⊎ ((v : Value) × Spells (take l text) v × (e ≡ BadByte l))

    by_cases : CutFault f n → CutFault g n → f ≡ g
    by_cases (inl p) (inl q) = p.2 ∙ ap (cut n) (text_fault_same n (take n text) p.0 q.0 p.1 q.1) ∙ sym q.2
    by_cases (inl p) (inr q) = absurd (spelled_not_fault n (take n text) q.1.1 q.0 p.0 q.1.2 q.1.3 p.1)
    by_cases (inr p) (inl q) = absurd (spelled_not_fault n (take n text) p.1.1 p.0 q.0 p.1.2 p.1.3 q.1)
    by_cases (inr p) (inr q) = p.2 ∙ sym q.2

-- A text that spells a value has none.
pub spells_no_fault : (text : List ℕ) (v : Value) (f : JsonFault) → Spells text v → Faults text f → ⊥
spells_no_fault text v f s (inl h) = spelled_not_fault (length text) text s.1 v f s.2 s.3 h.1
spells_no_fault text v f s (inr h) = h.0 s.0

pub front_faults_one : (text : List ℕ) (f g : JsonFault) → FrontFault text f → FrontFault text g → f ≡ g
front_faults_one text f g (inl h) (inl k) = quote_fault_same (length text) text f g h.1 k.1
front_faults_one text f g (inl h) (inr k) = absurd (k.0 h.0)
front_faults_one text f g (inr h) (inl k) = absurd (h.0 k.0)
front_faults_one text f g (inr (none, n, x, at, h, is)) (inr (no_text, m, y, to, k, on)) =
    let same = valid_one text m n to at in
    is ∙ ap (cut n) (quote_fault_same n (take n text) x y h (subst (λ l. QuoteFault l (take l text) y) same k)) ∙ ap (λ l. cut l y) (sym same) ∙ sym on

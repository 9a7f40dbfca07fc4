-- Arrays and objects, element by element and member by member.
use Rattle.std.proofs.Common.{◌≡◌, ◌⊎◌, ◌-◌, Bool, true, false, IsTrue, ◌↔◌, Contains, ℕ, zero, suc, inl, inr, List, [], ◌∷◌, ◌++◌, refl, ap, sym, ◌∙◌, subst, arith, append_assoc, length, map, rules, take, IsUtf8}
use Rattle.std.proofs.lemmas.List.{append-nil, length-take-le, map-append}
use Rattle.std.specs.Str.{IsValidUpTo}
use Rattle.sx_tree.specs.declared.json.Json as json
use Rattle.sx_tree.specs.declared.json.Json.{Json, the_lemmas}
use Rattle.sx_tree.specs.declared.json.Scalar.{Scalar}
use Rattle.sx_tree.specs.declared.json_fault.JsonFault.{JsonFault}
use Rattle.sx_tree.specs.declared.json_fault.JsonFault.TheVariants.{DuplicateName, TooDeep}
use Rattle.sx_tree.specs.Names.{AreDistinct, names_of}
use Rattle.sx_tree.specs.Value.{Value, scalar, object, Values, value_then, value_of, fields_of}
use Rattle.sx_model.specs.Grammar.{AreBlanks, Skips, Led, NameThen, ValueAt, ElementsAt, MoreElementsAt, MembersAt}
use Rattle.sx_model.specs.StringFaults.{cut}
use Rattle.sx_model.specs.Faults.{Faults, TextFault, WholeAt, ElementsFault, MembersFault, ScalarFault, ValueFault}
use Rattle.sx_model.proofs.FirstBytes.{Led-from}
use Rattle.sx_model.proofs.Tokens.{Element}
use Rattle.sx_json.specs.Reading.{UnlessMemory}
use Rattle.sx_json.specs.Nested.{MarkThen, NoStep, IsFirstFault, IsName, BehindNameFault, QuotedAt, ArrayFault, ObjectFault}
use Rattle.sx_json.proofs.Growing.{names_in-fields_of}
use Rattle.sx_json.proofs.Places.{led_skips, comma_then, comma_led, name_then}

-- ---- values

scalar_is : (s : Scalar) → value_of (json.Scalar s) ≡ scalar s
scalar_is s = search (rules, the_lemmas)

object_is : (members : List (List ℕ × Json)) → value_of (json.Object members) ≡ object (fields_of members)
object_is members = search (rules, the_lemmas)

pub whole_scalar : (s : Scalar) (room : ℕ) (bytes left : List ℕ) → WholeAt (scalar s) room bytes left → WholeAt (value_of (json.Scalar s)) room bytes left
whole_scalar s room bytes left w = subst (λ v. WholeAt v room bytes left) (sym (scalar_is s)) w

pub whole_object : (members : List (List ℕ × Json)) (room inner : ℕ) (bytes inside left : List ℕ) → room ≡ suc inner → bytes ≡ 123 ∷ inside → AreDistinct (names_of members) → MembersAt (fields_of members) inner inside left
    → WholeAt (value_of (json.Object members)) room bytes left
whole_object members room inner bytes inside left e is distinct h =
    subst (λ v. WholeAt v room bytes left) (sym (object_is members)) ((inner, inside, e, is, subst AreDistinct (sym (names_in-fields_of members)) distinct, h), tt)

pub fault_scalar : (end room : ℕ) (bytes : List ℕ) (f : JsonFault) → ScalarFault end bytes f → ValueFault end room bytes f
unfolding ValueFault
fault_scalar end zero bytes f h = inl h
fault_scalar end (suc room) bytes f h = inl h

pub fault_array : (end room inner : ℕ) (bytes inside : List ℕ) (f : JsonFault) → room ≡ suc inner → bytes ≡ 91 ∷ inside → ArrayFault end inner inside f → ValueFault end room bytes f
unfolding ValueFault
fault_array end room inner bytes inside f e is h = subst (λ r. ValueFault end r bytes f) (sym e) (inr (inl (inside, h.0, is, h.1)))

pub fault_object : (end room inner : ℕ) (bytes inside : List ℕ) (f : JsonFault) → room ≡ suc inner → bytes ≡ 123 ∷ inside → ObjectFault end inner inside f → ValueFault end room bytes f
unfolding ValueFault
fault_object end room inner bytes inside f e is h = subst (λ r. ValueFault end r bytes f) (sym e) (inr (inr (inside, h.0, is, h.1)))

pub fault_deep : (end room : ℕ) (bytes inside : List ℕ) (f : JsonFault) → room ≡ 0 → (bytes ≡ 91 ∷ inside) ⊎ (bytes ≡ 123 ∷ inside) → f ≡ TooDeep (end - length bytes) → ValueFault end room bytes f
unfolding ValueFault
fault_deep end room bytes inside f e is at = subst (λ r. ValueFault end r bytes f) (sym e) (inr (inside, is, at))

-- ---- elements

-- one more at the end
pub pushed : {A B : Type 0} (f : A → B) (xs : List A) (x : A) (ys : List B) → map f (xs ++ x ∷ []) ++ ys ≡ map f xs ++ f x ∷ ys
pushed f xs x ys = ap (λ l. l ++ ys) (map-append f xs (x ∷ [])) ∙ append_assoc (map f xs) (f x ∷ []) ys

pub closes : (closing : ℕ) (bytes rest left : List ℕ) → Skips bytes rest → rest ≡ closing ∷ left → Led (λ b. b ≡ closing ∷ left) bytes
closes closing bytes rest left s is = led_skips (λ b. b ≡ closing ∷ left) bytes rest s (Led-from (λ b. b ≡ closing ∷ left) rest is)

pub first_element : (v : Value) (vs : Values) (room : ℕ) (bytes rest after left : List ℕ) → Skips bytes rest → ValueAt v room rest after → MoreElementsAt vs room after left → ElementsAt (value_then v vs) room bytes left
first_element v vs room bytes rest after left s h more = led_skips (Element v vs room left) bytes rest s (Led-from (Element v vs room left) rest (after, h, more))

pub next_element : (v : Value) (vs : Values) (room : ℕ) (bytes rest after left : List ℕ) → MarkThen 44 bytes rest → ValueAt v room rest after → MoreElementsAt vs room after left → MoreElementsAt (value_then v vs) room bytes left
next_element v vs room bytes rest after left c h more = comma_led (Element v vs room left) bytes rest c (after, h, more)

pub fault_behind_element : (end room : ℕ) (v : Value) (bytes after : List ℕ) (f : JsonFault) → WholeAt v room bytes after → NoStep end 93 after f → ElementsFault end room (ValueFault end room) 1 bytes f
fault_behind_element end room v bytes after f w n = (v, after, w, (n.0, n.1, n.2, inl n.3))

pub fault_further : (end room count : ℕ) (v : Value) (bytes after rest : List ℕ) (f : JsonFault) → WholeAt v room bytes after → MarkThen 44 after rest → ElementsFault end room (ValueFault end room) count rest f
    → ElementsFault end room (ValueFault end room) (suc count) bytes f
fault_further end room count v bytes after rest f w c h =
    let n = comma_then (λ d. ElementsFault end room (ValueFault end room) count d f) after rest c h in (v, after, w, (n.0, n.1, n.2, inr n.3))

-- ---- members

pub fresh_name : (names : List (List ℕ)) (name : List ℕ) (found : Bool) → IsTrue found ↔ Contains names name → found ≡ false → Contains names name → ⊥
fresh_name names name found has absent there =
    let yes : found ≡ true = has.1 there in cc

-- a member with the value that it stands for
abbrev pub seen : List ℕ × Json → List ℕ × Value
seen member = (member.0, value_of member.1)

pub next_member : (name : List ℕ) (P : List ℕ → Type 0) (bytes rest : List ℕ) → MarkThen 44 bytes rest → NameThen name P rest → Led (λ b. (behind : List ℕ) × (b ≡ 44 ∷ behind) × Led (NameThen name P) behind) bytes
next_member name P bytes rest c h = comma_led (NameThen name P) bytes rest c h

-- What is wrong in a member, behind its name.
pub fault_in_member : (end room : ℕ) (names : List (List ℕ)) (name : List ℕ) (at : ℕ) (bytes colon : List ℕ) (found f : JsonFault) → QuotedAt name bytes colon → at ≡ end - length bytes
    → UnlessMemory (BehindNameFault end room colon) found → IsFirstFault names name at found f → UnlessMemory (MembersFault end room (ValueFault end room) 0 names bytes) f
fault_in_member end room names name at bytes colon found f n is h (inl taken) = inr (inl (inr (name, n.0, colon, n.1, n.2, inl (taken.0, taken.1 ∙ ap DuplicateName is))))
fault_in_member end room names name at bytes colon found f n is (inl memory) (inr (fresh, same)) = inl (same ∙ memory)
fault_in_member end room names name at bytes colon found f n is (inr (inl none)) (inr (fresh, same)) = inr (inl (inr (name, n.0, colon, n.1, n.2, inr (fresh, (none.0, none.1, none.2, (none.3.0, same ∙ none.3.1))))))
fault_in_member end room names name at bytes colon found f n is (inr (inr (rest, then, h))) (inr (fresh, same)) =
    inr (inr (name, name_then names name (λ d. ValueFault end room d f) bytes rest (n.0, colon, n.1, n.2, fresh, then) (subst (ValueFault end room rest) (sym same) h)))

pub fault_behind_member : (end room : ℕ) (names : List (List ℕ)) (name : List ℕ) (v : Value) (bytes inside after : List ℕ) (f : JsonFault) → IsName names name bytes inside → WholeAt v room inside after → NoStep end 125 after f
    → MembersFault end room (ValueFault end room) 1 names bytes f
fault_behind_member end room names name v bytes inside after f is w n = (name, name_then names name _ bytes inside is (v, after, w, (n.0, n.1, n.2, inl n.3)))

pub fault_further_member : (end room count : ℕ) (names : List (List ℕ)) (name : List ℕ) (v : Value) (bytes inside after rest : List ℕ) (f : JsonFault) → IsName names name bytes inside → WholeAt v room inside after → MarkThen 44 after rest
    → MembersFault end room (ValueFault end room) count (names ++ name ∷ []) rest f → MembersFault end room (ValueFault end room) (suc count) names bytes f
fault_further_member end room count names name v bytes inside after rest f is w c h =
    let n = comma_then (λ d. MembersFault end room (ValueFault end room) count (names ++ name ∷ []) d f) after rest c h in (name, name_then names name _ bytes inside is (v, after, w, (n.0, n.1, n.2, inr n.3)))

-- ---- texts

pub blanks_alone : (bytes rest : List ℕ) → Skips bytes rest → length rest ≡ 0 → AreBlanks bytes
blanks_alone bytes [] s none = subst AreBlanks (sym (s.2 ∙ append-nil s.0)) s.1
blanks_alone bytes (b ∷ bs) s none = absurd (omega (arith, none))

pub cut_fault : (text : List ℕ) (valid : ℕ) (f : JsonFault) → (IsUtf8 text → ⊥) → IsValidUpTo text valid → UnlessMemory (TextFault (length (take valid text)) (take valid text)) f → UnlessMemory (Faults text) (cut valid f)
cut_fault text valid f none at (inl e) = inl (ap (cut valid) e)
cut_fault text valid f none at (inr h) =
    let counted : length (take valid text) ≡ valid = length-take-le valid text (omega (arith, at.short)) in inr (inr (none, valid, at, inl (f, subst (λ n. TextFault n (take valid text) f) counted h, refl)))

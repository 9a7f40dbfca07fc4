-- What is within the limits grows by one element or member.
use Rattle.std.proofs.Common.{◌≡◌, refl, ℕ, ◌+◌, ◌<◌, length, get_or, take, List, [], ◌∷◌, ◌++◌, ap, sym, ◌∙◌, subst, Result, Ok, Err, OnOk}
use Rattle.std.proofs.lemmas.List.{take_more}
use Rattle.sx_tree.specs.declared.json.Json.{Json}
use Rattle.sx_tree.specs.Text.{IsText}
use Rattle.sx_tree.specs.Value.{value_of, values_of, fields_of}
use Rattle.sx_tree.specs.Names.{names_of}
use Rattle.sx_model.specs.Grammar.{names_in}
use Rattle.sx_model.specs.Limits.{KeepsLimits, ElementsKeepLimits, MembersKeepLimits}

elements_keep-push : (xs : List Json) (x : Json) → ElementsKeepLimits (values_of xs) → KeepsLimits (value_of x) → ElementsKeepLimits (values_of (xs ++ x ∷ []))
elements_keep-push [] x h k = (k, tt)
elements_keep-push (y ∷ ys) x h k = (h.0, elements_keep-push ys x h.1 k)

pub elements_keep-more : (xs : List Json) (i : ℕ) (x : Json) → i < length xs → x ≡ get_or xs i x → ElementsKeepLimits (values_of (take i xs)) → KeepsLimits (value_of x) → ElementsKeepLimits (values_of (take (i + 1) xs))
elements_keep-more xs i x below is h k =
    subst (λ l. ElementsKeepLimits (values_of l)) (sym (take_more xs i x below ∙ ap (λ y. take i xs ++ y ∷ []) (sym is))) (elements_keep-push (take i xs) x h k)

members_keep-push : (ms : List (List ℕ × Json)) (m : List ℕ × Json) → MembersKeepLimits (fields_of ms) → IsText m.0 → KeepsLimits (value_of m.1) → MembersKeepLimits (fields_of (ms ++ m ∷ []))
members_keep-push [] m h t k = (t, k, tt)
members_keep-push (n ∷ ns) m h t k = (h.0, h.1, members_keep-push ns m h.2 t k)

pub members_keep-more : (ms : List (List ℕ × Json)) (i : ℕ) (m : List ℕ × Json) → i < length ms → m ≡ get_or ms i m → MembersKeepLimits (fields_of (take i ms)) → IsText m.0 → KeepsLimits (value_of m.1)
    → MembersKeepLimits (fields_of (take (i + 1) ms))
members_keep-more ms i m below is h t k =
    subst (λ l. MembersKeepLimits (fields_of l)) (sym (take_more ms i m below ∙ ap (λ y. take i ms ++ y ∷ []) (sym is))) (members_keep-push (take i ms) m h t k)

pub on_ok : {T E : Type 0} (P : Type 0) (r : Result T E) → P → OnOk r P
on_ok P (Ok x) p = p
on_ok P (Err e) p = tt

pub names_in-fields_of : (members : List (List ℕ × Json)) → names_in (fields_of members) ≡ names_of members
names_in-fields_of [] = refl
names_in-fields_of (m ∷ ms) = ap (λ l. m.0 ∷ l) (names_in-fields_of ms)

-- A text is written value by value.
use Rattle.std.proofs.Common.{◌≡◌, ℕ, zero, suc, ◌+◌, ◌<◌, List, [], ◌∷◌, ◌++◌, ap, sym, ◌∙◌, length, map, get_or, take, append_assoc, arith}
use Rattle.std.proofs.lemmas.List.{take_more, append-nil, length-take}
use Rattle.sx_tree.specs.declared.json.Json.{Json}
use Rattle.sx_tree.specs.Value.{value_of, values_of, fields_of}
use Rattle.sx_model.specs.Canonical.{comma_before, string_text, text, elements_text, more_elements_text, members_text, more_members_text}

more_elements_text-push : (xs : List Json) (x : Json) → more_elements_text (values_of (xs ++ x ∷ [])) ≡ more_elements_text (values_of xs) ++ 44 ∷ text (value_of x)
more_elements_text-push [] x = ap (λ l. 44 ∷ l) (append-nil (text (value_of x)))
more_elements_text-push (y ∷ ys) x =
    ap (λ l. 44 ∷ text (value_of y) ++ l) (more_elements_text-push ys x) ∙ sym (ap (λ l. 44 ∷ l) (append_assoc (text (value_of y)) (more_elements_text (values_of ys)) (44 ∷ text (value_of x))))

pub elements_text-push : (xs : List Json) (x : Json) → elements_text (values_of (xs ++ x ∷ [])) ≡ elements_text (values_of xs) ++ (comma_before (length xs) ++ text (value_of x))
elements_text-push [] x = append-nil (text (value_of x))
elements_text-push (y ∷ ys) x =
    ap (λ l. text (value_of y) ++ l) (more_elements_text-push ys x) ∙ sym (append_assoc (text (value_of y)) (more_elements_text (values_of ys)) (44 ∷ text (value_of x)))

-- a member, as it is written
abbrev pub member_text : List ℕ × Json → List ℕ
member_text m = string_text m.0 ++ (58 ∷ text (value_of m.1))

first_member : (name tail rest : List ℕ) → name ++ (58 ∷ tail ++ rest) ≡ (name ++ (58 ∷ tail)) ++ rest
first_member name tail rest = sym (append_assoc name (58 ∷ tail) rest)

more_members_text-push : (ms : List (List ℕ × Json)) (m : List ℕ × Json) → more_members_text (fields_of (ms ++ m ∷ [])) ≡ more_members_text (fields_of ms) ++ 44 ∷ member_text m
more_members_text-push [] m = ap (λ l. 44 ∷ l) (first_member (string_text m.0) (text (value_of m.1)) [] ∙ append-nil (member_text m))
more_members_text-push (n ∷ ns) m =
    ap (λ l. 44 ∷ string_text n.0 ++ (58 ∷ text (value_of n.1) ++ l)) (more_members_text-push ns m)
    ∙ ap (λ l. 44 ∷ l) (first_member (string_text n.0) (text (value_of n.1)) (more_members_text (fields_of ns) ++ 44 ∷ member_text m)
    ∙ sym (append_assoc (member_text n) (more_members_text (fields_of ns)) (44 ∷ member_text m))
    ∙ ap (λ l. l ++ 44 ∷ member_text m) (sym (first_member (string_text n.0) (text (value_of n.1)) (more_members_text (fields_of ns)))))

pub members_text-push : (ms : List (List ℕ × Json)) (m : List ℕ × Json) → members_text (fields_of (ms ++ m ∷ [])) ≡ members_text (fields_of ms) ++ (comma_before (length ms) ++ member_text m)
members_text-push [] m = first_member (string_text m.0) (text (value_of m.1)) [] ∙ append-nil (member_text m)
members_text-push (n ∷ ns) m =
    ap (λ l. string_text n.0 ++ (58 ∷ text (value_of n.1) ++ l)) (more_members_text-push ns m)
    ∙ first_member (string_text n.0) (text (value_of n.1)) (more_members_text (fields_of ns) ++ 44 ∷ member_text m)
    ∙ sym (append_assoc (member_text n) (more_members_text (fields_of ns)) (44 ∷ member_text m))
    ∙ ap (λ l. l ++ 44 ∷ member_text m) (sym (first_member (string_text n.0) (text (value_of n.1)) (more_members_text (fields_of ns))))

pub elements_text-more : (xs : List Json) (i : ℕ) (x : Json) → i < length xs → x ≡ get_or xs i x
    → elements_text (values_of (take (i + 1) xs)) ≡ elements_text (values_of (take i xs)) ++ (comma_before i ++ text (value_of x))
elements_text-more xs i x below is =
    let counted : length (take i xs) ≡ i = length-take i xs ∙ omega arith in
    ap (λ l. elements_text (values_of l)) (take_more xs i x below ∙ ap (λ y. take i xs ++ y ∷ []) (sym is))
    ∙ elements_text-push (take i xs) x ∙ ap (λ n. elements_text (values_of (take i xs)) ++ (comma_before n ++ text (value_of x))) counted

pub members_text-more : (ms : List (List ℕ × Json)) (i : ℕ) (m : List ℕ × Json) → i < length ms → m ≡ get_or ms i m
    → members_text (fields_of (take (i + 1) ms)) ≡ members_text (fields_of (take i ms)) ++ (comma_before i ++ member_text m)
members_text-more ms i m below is =
    let counted : length (take i ms) ≡ i = length-take i ms ∙ omega arith in
    ap (λ l. members_text (fields_of l)) (take_more ms i m below ∙ ap (λ y. take i ms ++ y ∷ []) (sym is))
    ∙ members_text-push (take i ms) m ∙ ap (λ n. members_text (fields_of (take i ms)) ++ (comma_before n ++ member_text m)) counted

pub regrouped : (start done comma next : List ℕ) → ((start ++ done) ++ comma) ++ next ≡ start ++ (done ++ (comma ++ next))
regrouped start done comma next = append_assoc (start ++ done) comma next ∙ append_assoc start done (comma ++ next)

pub regrouped_member : (start done comma name value : List ℕ) → ((((start ++ done) ++ comma) ++ name) ++ 58 ∷ []) ++ value ≡ start ++ (done ++ (comma ++ (name ++ (58 ∷ value))))
regrouped_member start done comma name value = simp append_assoc

pub member_at : (ms : List (List ℕ × Json)) (i : ℕ) (name : List ℕ) (value : Json) → i < length ms → name ≡ get_or (map (λ m. m.0) ms) i name → value ≡ get_or (map (λ m. m.1) ms) i value
    → (name, value) ≡ get_or ms i (name, value)
member_at [] i name value below n v = absurd (omega arith)
member_at (m ∷ ms) zero name value below n v = λ k. (n k, v k)
member_at (m ∷ ms) (suc i) name value below n v = member_at ms i name value (omega arith) n v

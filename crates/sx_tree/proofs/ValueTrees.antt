-- The tree of a `Json`, level by level, and what its numbers are from value to value.
use Rattle.std.proofs.Common.{◌≡◌, ℕ, suc, ◌+◌, ◌<◌, get_or, take, max, List, [], ◌∷◌, ◌++◌, refl, ap, sym, ◌∙◌, length, map, arith, rules}
use Rattle.std.proofs.Math.ListN.{length-map}
use Rattle.std.proofs.lemmas.List.{take_more}
use Rattle.sx_tree.specs.declared.json.Json as json
use Rattle.sx_tree.specs.declared.json.Json.{Json, the_lemmas}
use Rattle.sx_tree.specs.Value.{object, value_of, values_of, fields_of, depth, depth_of_values, depth_of_fields, nodes, nodes_of_values, nodes_of_fields}

pub value_of-Object : (members : List (List ℕ × Json)) → value_of (json.Object members) ≡ object (fields_of members)
value_of-Object members = search (rules, the_lemmas)

pub depth_of_values-push : (xs : List Json) (x : Json) → depth_of_values (values_of (xs ++ x ∷ [])) ≡ max (depth (value_of x)) (depth_of_values (values_of xs))
depth_of_values-push [] x = refl
depth_of_values-push (y ∷ ys) x = omega (arith, depth_of_values-push ys x)

pub nodes_of_values-push : (xs : List Json) (x : Json) → nodes_of_values (values_of (xs ++ x ∷ [])) ≡ nodes_of_values (values_of xs) + nodes (value_of x)
nodes_of_values-push [] x = omega arith
nodes_of_values-push (y ∷ ys) x = omega (arith, nodes_of_values-push ys x)

pub depth_of_fields-values : (ms : List (List ℕ × Json)) → depth_of_fields (fields_of ms) ≡ depth_of_values (values_of (map (λ m. m.1) ms))
depth_of_fields-values [] = refl
depth_of_fields-values (m ∷ ms) = ap (max (depth (value_of m.1))) (depth_of_fields-values ms)

pub nodes_of_fields-values : (ms : List (List ℕ × Json)) → nodes_of_fields (fields_of ms) ≡ nodes_of_values (values_of (map (λ m. m.1) ms)) + length ms
nodes_of_fields-values [] = refl
nodes_of_fields-values (m ∷ ms) = omega (arith, nodes_of_fields-values ms)

taken : (xs : List Json) (i : ℕ) (x : Json) → i < length xs → x ≡ get_or xs i x → take (i + 1) xs ≡ take i xs ++ x ∷ []
taken xs i x below is = take_more xs i x below ∙ ap (λ y. take i xs ++ y ∷ []) (sym is)

pub depth_of_values-more : (xs : List Json) (i : ℕ) (x : Json) → i < length xs → x ≡ get_or xs i x
    → depth_of_values (values_of (take (i + 1) xs)) ≡ max (depth (value_of x)) (depth_of_values (values_of (take i xs)))
depth_of_values-more xs i x below is = ap (λ l. depth_of_values (values_of l)) (taken xs i x below is) ∙ depth_of_values-push (take i xs) x

pub nodes_of_values-more : (xs : List Json) (i : ℕ) (x : Json) → i < length xs → x ≡ get_or xs i x
    → nodes_of_values (values_of (take (i + 1) xs)) ≡ nodes_of_values (values_of (take i xs)) + nodes (value_of x)
nodes_of_values-more xs i x below is = ap (λ l. nodes_of_values (values_of l)) (taken xs i x below is) ∙ nodes_of_values-push (take i xs) x

pub depth-Object : (members : List (List ℕ × Json)) (values : List Json) → values ≡ map (λ m. m.1) members → depth (value_of (json.Object members)) ≡ suc (depth_of_values (values_of values))
depth-Object members values is = ap depth (value_of-Object members) ∙ ap suc (depth_of_fields-values members ∙ ap (λ l. depth_of_values (values_of l)) (sym is))

pub nodes-Object : (members : List (List ℕ × Json)) (values : List Json) → values ≡ map (λ m. m.1) members → nodes (value_of (json.Object members)) ≡ suc (nodes_of_values (values_of values) + length values)
nodes-Object members values is =
    ap nodes (value_of-Object members)
    ∙ ap suc (nodes_of_fields-values members ∙ rw is (ap (λ n. nodes_of_values (values_of (map (λ m. m.1) members)) + n) (sym (length-map members (λ m. m.1)))))

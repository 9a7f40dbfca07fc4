-- The names and the values of members are the lists that the members were zipped of.
use Rattle.std.proofs.Common.{◌≡◌, ℕ, List, [], ◌∷◌, ◌++◌, refl, ap, length, map, arith}
use Rattle.std.specs.List.{zip}
use Rattle.sx_tree.specs.Names.{names_of}

module _ {T : Type 0} where
  pub names_of-zip : (names : List (List ℕ)) (values : List T) → length values ≡ length names → names_of (zip names values) ≡ names
  names_of-zip [] values e = refl
  names_of-zip (name ∷ names) [] e = absurd (omega arith)
  names_of-zip (name ∷ names) (value ∷ values) e = ap (λ l. name ∷ l) (names_of-zip names values (omega arith))

  pub values-zip : (names : List (List ℕ)) (values : List T) → length values ≡ length names → map (λ m. m.1) (zip names values) ≡ values
  values-zip [] [] e = refl
  values-zip [] (value ∷ values) e = absurd (omega arith)
  values-zip (name ∷ names) [] e = refl
  values-zip (name ∷ names) (value ∷ values) e = ap (λ l. value ∷ l) (values-zip names values (omega arith))

  pub zip-push : (names : List (List ℕ)) (values : List T) (name : List ℕ) (value : T) → length values ≡ length names
      → zip (names ++ name ∷ []) (values ++ value ∷ []) ≡ zip names values ++ (name, value) ∷ []
  zip-push [] [] name value e = refl
  zip-push [] (v ∷ vs) name value e = absurd (omega arith)
  zip-push (n ∷ ns) [] name value e = absurd (omega arith)
  zip-push (n ∷ ns) (v ∷ vs) name value e = ap (λ l. (n, v) ∷ l) (zip-push ns vs name value (omega arith))

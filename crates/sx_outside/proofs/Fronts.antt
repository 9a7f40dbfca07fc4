-- Lemmas on pieces that are taken from the front of a list.
use Rattle.std.proofs.Common.{◌≡◌, ℕ, List, [], ◌∷◌, ◌++◌, Some, refl, sym, ◌∙◌, take, drop, zero, suc, take-append-drop}
use Rattle.sx_outside.specs.Transfer.{Takes}

-- no front of a list is empty but that of length 0
pub take-nil : (n : ℕ) (xs : List ℕ) → (n ≡ 0 → xs ≡ []) → take n xs ≡ [] → xs ≡ []
take-nil zero xs h e = h refl
take-nil (suc n) [] h e = refl
take-nil (suc n) (x ∷ xs) h e = cc

pub take_of_nil : (n : ℕ) (xs : List ℕ) → xs ≡ [] → take n xs ≡ []
take_of_nil zero xs e = refl
take_of_nil (suc n) [] e = refl
take_of_nil (suc n) (x ∷ xs) e = cc

-- a front is taken, and not an empty one unless nothing is left
pub Takes-front : (xs piece rest : List ℕ) (n : ℕ) → piece ≡ take n xs → rest ≡ drop n xs → (n ≡ 0 → xs ≡ [])
    → Takes (Some xs) piece (Some rest)
Takes-front xs piece rest n p r h =
    let whole : xs ≡ take n xs ++ drop n xs = sym (take-append-drop n xs) in
    (rest, cc, refl, (λ e. take-nil n xs h (sym p ∙ e), λ e. p ∙ take_of_nil n xs e))

-- Lists stand at the front of a list in one way.
use Rattle.std.proofs.Common.{◌≡◌, ◌∙◌, ℕ, List, [], ◌∷◌, ◌++◌, length, refl, ap, arith}

-- fronts of the same length
pub same_front : (xs ys r s : List ℕ) → length xs ≡ length ys → xs ++ r ≡ ys ++ s → (xs ≡ ys) × (r ≡ s)
same_front [] [] r s long is = (refl, is)
same_front [] (y ∷ ys) r s long is = absurd (omega (arith, long))
same_front (x ∷ xs) [] r s long is = absurd (omega (arith, long))
same_front (x ∷ xs) (y ∷ ys) r s long is =
    let heads : x ≡ y = cc is in
    let tails : xs ++ r ≡ ys ++ s = cc is in
    let rest = same_front xs ys r s (omega (arith, long)) tails in
    (ap (λ (b : ℕ). b ∷ xs) heads ∙ ap (λ (list : List ℕ). y ∷ list) rest.0, rest.1)

-- Fronts that are kept.
use Rattle.std.proofs.Common.{◌≡◌, ◌∙◌, ℕ, zero, suc, ◌+◌, ◌-◌, ◌≤◌, List, [], ◌∷◌, ◌++◌, length, take, min, refl, ◌<◌, ap, sym, arith}
use Rattle.std.proofs.lemmas.List.{take_all, take_min, length-take}
use Rattle.sx_script.specs.Waiting.{kept}
use Rattle.std.proofs.Math.Seq.{take-append-add}

-- what is kept of two lists, where the first is kept whole
pub take-append : (n : ℕ) (xs ys : List ℕ) → length xs ≤ n → take n (xs ++ ys) ≡ xs ++ take (n - length xs) ys
take-append n xs ys within =
    let split : n ≡ length xs + (n - length xs) = omega arith in
    ap (λ k. take k (xs ++ ys)) split ∙ take-append-add xs ys (n - length xs)

-- a front of a front
pub take-kept : (n : ℕ) (xs ys : List ℕ) → take n (take n xs ++ ys) ≡ take n (xs ++ ys)
take-kept zero xs ys = refl
take-kept (suc n) [] ys = refl
take-kept (suc n) (x ∷ xs) ys = ap (λ (rest : List ℕ). x ∷ rest) (take-kept n xs ys)

-- what is kept of a line and a piece that is cut to the room that is left
pub append_kept : (room : ℕ) (line old piece : List ℕ) → line ≡ old → length line ≤ 8388609 → room ≡ 8388609 - length line
    → line ++ take (min room (length piece)) piece ≡ kept (old ++ piece)
unfolding kept
append_kept room line old piece same within is =
    ap (λ (rest : List ℕ). line ++ rest) (take_min room piece ∙ ap (λ k. take k piece) is)
    ∙ sym (take-append 8388609 line piece within)
    ∙ ap (λ (l : List ℕ). take 8388609 (l ++ piece)) same

-- a line that is kept whole
pub kept_whole : (line : List ℕ) → length line ≤ 8388609 → kept line ≡ line
unfolding kept
kept_whole line within = take_all 8388609 line within

-- what is kept of a line comes from what is kept of its front
pub kept-append : (front more : List ℕ) → kept (kept front ++ more) ≡ kept (front ++ more)
unfolding kept
kept-append front more = take-kept 8388609 front more

-- A line of which no more than the limit is kept is whole.
pub kept-short : (line front : List ℕ) → line ≡ kept front → length line ≤ 8388608 → line ≡ front
unfolding kept
kept-short line front is within =
    let long = length-take 8388609 front in
    let same : length line ≡ length (take 8388609 front) = ap length is in
    is ∙ take_all 8388609 front (omega (arith, long))

-- A line of which more than the limit is kept is too long.
pub kept-long : (line front : List ℕ) → line ≡ kept front → 8388608 < length line → 8388608 < length front
unfolding kept
kept-long line front is beyond =
    let long = length-take 8388609 front in
    let same : length line ≡ length (take 8388609 front) = ap length is in
    omega (arith, long)

-- Pieces of a chunk.
use Rattle.std.proofs.Common.{◌≡◌, ◌∙◌, ℕ, ◌+◌, ◌-◌, ◌≤◌, List, length, take, drop, slice_range, ap, sym, arith}
use Rattle.std.proofs.lemmas.List.{drop-drop, drop-take, length-take}

-- a range without its first bytes
pub slice_range-skip : (bytes : List ℕ) (at end count : ℕ) → count ≤ length (slice_range bytes at end) → slice_range bytes (at + count) end ≡ drop count (slice_range bytes at end)
slice_range-skip bytes at end count within =
    let long = length-take (end - at) (drop at bytes) in
    let left : ℕ = end - (at + count) in
    let whole : end - at ≡ count + left = omega (arith, long) in
    sym (ap (λ n. drop count (take n (drop at bytes))) whole
    ∙ drop-take count left (drop at bytes)
    ∙ ap (λ (rest : List ℕ). take left rest) (drop-drop count at bytes))

-- A load of 16 bytes, whose mask tells how many of them stand for themselves.
use Rattle.std.proofs.Common.{◌≡◌, ℕ, zero, suc, ◌+◌, ◌-◌, ◌%◌, ◌^◌, ◌<◌, ◌≤◌, ltb, eqb, Bool, true, false, not, cond, List, [], ◌∷◌, ◌++◌, map, length, take, drop, refl, sym, ap, ◌∙◌, subst, arith, inl, inr, replicate}
use Rattle.std.proofs.lemmas.Bool.{agree_below_at, cases_lt}
use Rattle.std.proofs.lemmas.List.{length-drop, length-map, length-take-le, take-append-drop, take_all}
use Rattle.std.proofs.lemmas.List.Sums.{prefix_len-le-length}
use Rattle.std.proofs.lemmas.Simd.{map-map, mask_l-mod, leading_from_mask_l, trailing_mask_l, zip2_of_maps, zip2_splat}
use Rattle.std.specs.List.{prefix_len}
use lib.Bits.{bit_or}
use lib.Count.{count_trailing_zeros}
use lib.Lanes.{chunk, mask_l, top, zip2}
use Rattle.sx_model.specs.Strings.{IsPlain}
use Rattle.sx_json.specs.Piece.{ArePlain}

-- what the comparisons leave of a byte, and whether a run stops there
abbrev hit : ℕ → ℕ → ℕ
hit a b = cond (eqb a b) 255 0

abbrev below : ℕ → ℕ → ℕ
below a b = cond (ltb a b) 255 0

abbrev pub lane : ℕ → ℕ
lane x = bit_or (bit_or (hit x 34) (hit x 92)) (below x 32)

abbrev pub stops : ℕ → Bool
stops x = top 7 (lane x)

goes_plain : (x : ℕ) → not (stops x) ≡ true → IsPlain x
goes_plain x goes = (
  elim (cases_lt x 32) as (λ _. 32 ≤ x) [
    | inl low ↦
        let stop : stops x ≡ true = agree_below_at stops (λ _. true) 32 x refl low in
        let no : false ≡ true = sym (ap not stop) ∙ goes in
        absurd (cc)
    | inr high ↦ high
  ],
  λ same. let no : false ≡ true = subst (λ y. not (stops y) ≡ true) same goes in cc,
  λ same. let no : false ≡ true = subst (λ y. not (stops y) ≡ true) same goes in cc,
)

run_plain : (run rest : List ℕ) → ArePlain (take (prefix_len (λ x. not (stops x)) run) (run ++ rest))
run_plain [] rest = tt
run_plain (x ∷ xs) rest = by (not (stops x)) refl (run_plain xs rest)
  where
    by : (b : Bool) → not (stops x) ≡ b → ArePlain (take (prefix_len (λ y. not (stops y)) xs) (xs ++ rest)) → ArePlain (take (cond b (1 + prefix_len (λ y. not (stops y)) xs) 0) (x ∷ xs ++ rest))
    by true goes more = let one : suc (prefix_len (λ y. not (stops y)) xs) ≡ 1 + prefix_len (λ y. not (stops y)) xs = omega arith in subst (λ n. ArePlain (take n (x ∷ xs ++ rest))) one (goes_plain x goes, more)
    by false stop more = tt

-- the lanes of a load, compared
abbrev pub compared : List ℕ → List ℕ
compared run = zip2 bit_or (zip2 bit_or (zip2 hit run (replicate 16 34)) (zip2 hit run (replicate 16 92))) (zip2 below run (replicate 16 32))

abbrev pub mask_of : List ℕ → ℕ
mask_of bytes = mask_l (map (top 7) (compared (chunk 0 16 bytes))) % 2 ^ 64

mask_is : (run : List ℕ) → length run ≡ 16 → mask_l (map (top 7) (compared run)) % 2 ^ 64 ≡ mask_l (map stops run)
mask_is run long =
    let quotes = zip2_of_maps bit_or _ _ run (zip2_splat hit run 16 34 long) (zip2_splat hit run 16 92 long) in
    let lanes : compared run ≡ map lane run = zip2_of_maps bit_or _ _ run quotes (zip2_splat below run 16 32 long) in
    ap (λ l. mask_l l % 2 ^ 64) (ap (map (top 7)) lanes ∙ map-map (top 7) lane run) ∙ mask_l-mod (map stops run) 64 (omega (arith, length-map run stops, long))

-- as many of the first bytes are plain as the mask has zeros below its lowest bit
pub mask_plain : (bytes : List ℕ) → 16 ≤ length bytes
    → (mask_of bytes ≡ 0 → ArePlain (take 16 bytes))
    × (0 < mask_of bytes → (count_trailing_zeros 64 (mask_of bytes) ≤ 16) × ArePlain (take (count_trailing_zeros 64 (mask_of bytes)) bytes))
mask_plain bytes room =
    let run = take 16 bytes in
    let long : length run ≡ 16 = length-take-le 16 bytes room in
    let goes : ℕ → Bool = λ x. not (stops x) in
    let mask : mask_of bytes ≡ mask_l (map stops run) = mask_is run long in
    let plain : ArePlain (take (prefix_len goes run) bytes) = subst (λ l. ArePlain (take (prefix_len goes run) l)) (take-append-drop 16 bytes) (run_plain run (drop 16 bytes)) in (
      λ none. subst (λ n. ArePlain (take n bytes)) (leading_from_mask_l stops run (sym mask ∙ none) ∙ long) plain,
      λ some.
          let count : count_trailing_zeros 64 (mask_of bytes) ≡ prefix_len goes run = ap (count_trailing_zeros 64) mask ∙ trailing_mask_l stops 64 run (omega (arith, long)) (omega (arith, mask, some)) in
          (omega (arith, count, long, prefix_len-le-length goes run), subst (λ n. ArePlain (take n bytes)) (sym count) plain),
    )

plain_join : (bytes : List ℕ) (i n : ℕ) → ArePlain (take i bytes) → ArePlain (take n (drop i bytes)) → ArePlain (take (i + n) bytes)
plain_join bytes zero n first next = let same : n ≡ 0 + n = omega arith in subst (λ k. ArePlain (take k bytes)) same next
plain_join [] (suc i) n first next = let one : suc (i + n) ≡ suc i + n = omega arith in subst (λ k. ArePlain (take k [])) one tt
plain_join (x ∷ xs) (suc i) n first next = let one : suc (i + n) ≡ suc i + n = omega arith in subst (λ k. ArePlain (take k (x ∷ xs))) one (first.0, plain_join xs i n first.1 next)

-- a plain run, and one behind it
pub plain_behind : (bytes : List ℕ) (i n : ℕ) → ArePlain (take i bytes) → ArePlain (take n (take (length bytes - i) (drop i bytes))) → ArePlain (take (i + n) bytes)
plain_behind bytes i n first next =
    plain_join bytes i n first (subst (λ l. ArePlain (take n l)) (take_all (length bytes - i) (drop i bytes) (omega (arith, length-drop i bytes))) next)

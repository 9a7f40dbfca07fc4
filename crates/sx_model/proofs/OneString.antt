-- A string is read in one way.
use Rattle.std.proofs.Common.{◌≡◌, ◌==◌, ℕ, ◌≤◌, ◌<◌, ◌⊎◌, inl, inr, List, [], ◌∷◌, ◌++◌, refl, ap, sym, ◌∙◌, subst, arith, encode_utf8, if◌then◌else◌}
use Rattle.std.proofs.lemmas.Str.{encode_ascii}
use Rattle.std.proofs.Math.Utf8.{scalar_cases}
use Rattle.std.specs.Char.{IsScalar}
use Rattle.sx_model.specs.Strings.{IsShortEscape, UnitAt, LowAt, pair_char, StringAt, closing, plain, short, unicode, pair}
use Rattle.sx_model.specs.StringFaults.{UnicodeAt, EscapeAt, PieceAt}
use Rattle.sx_model.proofs.Units.{unit_same}
use Rattle.sx_model.proofs.StringShapes.{heads, seconds, short_small}

-- what the letter of a short escape stands for
short_value : ℕ → ℕ
short_value letter = if letter == 98 then 8 else (if letter == 102 then 12 else (if letter == 110 then 10 else (if letter == 114 then 13 else (if letter == 116 then 9 else letter))))

short_is : (letter byte : ℕ) → IsShortEscape letter byte → byte ≡ short_value letter
unfolding short_value
short_is letter byte (inl e) = rw e.0 e.1
short_is letter byte (inr (inl e)) = rw e.0 e.1
short_is letter byte (inr (inr (inl e))) = rw e.0 e.1
short_is letter byte (inr (inr (inr (inl e)))) = rw e.0 e.1
short_is letter byte (inr (inr (inr (inr (inl e))))) = rw e.0 e.1
short_is letter byte (inr (inr (inr (inr (inr (inl e)))))) = rw e.0 e.1
short_is letter byte (inr (inr (inr (inr (inr (inr (inl e))))))) = rw e.0 e.1
short_is letter byte (inr (inr (inr (inr (inr (inr (inr e))))))) = rw e.0 e.1

pub short_not_u : (byte : ℕ) → IsShortEscape 117 byte → ⊥
short_not_u byte (inl e) = omega (arith, e.0)
short_not_u byte (inr (inl e)) = omega (arith, e.0)
short_not_u byte (inr (inr (inl e))) = omega (arith, e.0)
short_not_u byte (inr (inr (inr (inl e)))) = omega (arith, e.0)
short_not_u byte (inr (inr (inr (inr (inl e))))) = omega (arith, e.0)
short_not_u byte (inr (inr (inr (inr (inr (inl e)))))) = omega (arith, e.0)
short_not_u byte (inr (inr (inr (inr (inr (inr (inl e))))))) = omega (arith, e.0)
short_not_u byte (inr (inr (inr (inr (inr (inr (inr e))))))) = omega (arith, e.0)

pub not_u : (letter byte : ℕ) → letter ≡ 117 → IsShortEscape letter byte → ⊥
not_u letter byte is h = short_not_u byte (subst (λ l. IsShortEscape l byte) is h)

pub scalar_or : (u : ℕ) → IsScalar u → 0xD800 ≤ u → u ≤ 0xDFFF → ⊥
scalar_or u s above below = by_cases (scalar_cases u s)
  where
    by_cases : (u < 55296) ⊎ ((57344 ≤ u) × (u < 1114112)) → ⊥
    by_cases (inl h) = omega arith
    by_cases (inr h) = omega (arith, h.0)

-- the low surrogate behind a high one
low_same : (bytes : List ℕ) (u v : ℕ) (a b : List ℕ) → LowAt bytes u a → LowAt bytes v b → (u ≡ v) × (a ≡ b)
low_same bytes u v a b p q =
    let same : p.0 ≡ q.0 = (seconds 92 117 92 117 p.0 q.0 (sym p.1 ∙ q.1)).2 in unit_same p.0 u v a b p.2 (subst (λ m. UnitAt m v b) (sym same) q.2)

-- what stands behind `\u`
pub unicode_same : (bytes : List ℕ) (c d : ℕ) (a b : List ℕ) → UnicodeAt bytes c a → UnicodeAt bytes d b → (c ≡ d) × (a ≡ b)
unicode_same bytes c d a b (inl p) (inl q) = unit_same bytes c d a b p.0 q.0
unicode_same bytes c d a b (inl p) (inr q) =
    let same = unit_same bytes c q.0 a q.1 p.0 q.3 in absurd (scalar_or c p.1 (omega (arith, same.0, q.4.0)) (omega (arith, same.0, q.4.1)))
unicode_same bytes c d a b (inr p) (inl q) =
    let same = unit_same bytes d p.0 b p.1 q.0 p.3 in absurd (scalar_or d q.1 (omega (arith, same.0, p.4.0)) (omega (arith, same.0, p.4.1)))
unicode_same bytes c d a b (inr p) (inr q) =
    let same = unit_same bytes p.0 q.0 p.1 q.1 p.3 q.3 in
    let lows = low_same p.1 p.2 q.2 a b p.5 (subst (λ m. LowAt m q.2 b) (sym same.1) q.5) in
    (p.6 ∙ ap (λ h. pair_char h p.2) same.0 ∙ ap (pair_char q.0) lows.0 ∙ sym q.6, lows.1)

-- an escape
pub escape_same : (bytes : List ℕ) (c d : ℕ) (a b : List ℕ) → EscapeAt bytes c a → EscapeAt bytes d b → (c ≡ d) × (a ≡ b)
escape_same [] c d a b p q = absurd p
escape_same (letter ∷ bytes) c d a b (inl p) (inl q) = (short_is letter c p.0 ∙ sym (short_is letter d q.0), sym p.1 ∙ q.1)
escape_same (letter ∷ bytes) c d a b (inl p) (inr q) = absurd (not_u letter c q.0 p.0)
escape_same (letter ∷ bytes) c d a b (inr p) (inl q) = absurd (not_u letter d p.0 q.0)
escape_same (letter ∷ bytes) c d a b (inr p) (inr q) = unicode_same bytes c d a b p.1 q.1

-- a piece
pub piece_same : (bytes x y a b : List ℕ) → PieceAt bytes x a → PieceAt bytes y b → (x ≡ y) × (a ≡ b)
piece_same [] x y a b p q = absurd p
piece_same (byte ∷ bytes) x y a b (inl p) (inl q) = (p.1 ∙ sym q.1, sym p.2 ∙ q.2)
piece_same (byte ∷ bytes) x y a b (inl p) (inr q) = absurd (p.0.2 q.0)
piece_same (byte ∷ bytes) x y a b (inr p) (inl q) = absurd (q.0.2 p.0)
piece_same (byte ∷ bytes) x y a b (inr p) (inr q) =
    let same = escape_same bytes p.1 q.1 a b p.2 q.2 in (p.3 ∙ ap encode_utf8 same.0 ∙ sym q.3, same.1)

-- a string, piece by piece
pub data Chain : List ℕ → List ℕ → List ℕ → Type 0 where
  ends : (bytes content left : List ℕ) → bytes ≡ 34 ∷ left → content ≡ [] → Chain bytes content left
  goes : (bytes content left x after more : List ℕ) → PieceAt bytes x after → Chain after more left → content ≡ x ++ more → Chain bytes content left

pub chain_of : (bytes content left : List ℕ) → StringAt bytes content left → Chain bytes content left
chain_of bytes content left (closing l) = ends (34 ∷ l) [] l refl refl
chain_of bytes content left (plain byte rest c l p s) = goes (byte ∷ rest) (byte ∷ c) l (byte ∷ []) rest c (inl (p, refl, refl)) (chain_of rest c l s) refl
chain_of bytes content left (short letter byte rest c l p s) =
    goes (92 ∷ letter ∷ rest) (byte ∷ c) l (byte ∷ []) rest c (inr (refl, byte, inl (p, refl), sym (encode_ascii byte (short_small letter byte p).1))) (chain_of rest c l s) refl
chain_of bytes content left (unicode rest unit after c l u p s) =
    goes (92 ∷ 117 ∷ rest) (encode_utf8 unit ++ c) l (encode_utf8 unit) after c (inr (refl, unit, inr (refl, inl (u, p)), refl)) (chain_of after c l s) refl
chain_of bytes content left (pair rest high middle low after c l u p v q s) =
    goes (92 ∷ 117 ∷ rest) (encode_utf8 (pair_char high low) ++ c) l (encode_utf8 (pair_char high low)) after c
    (inr (refl, pair_char high low, inr (refl, inr (high, 92 ∷ 117 ∷ middle, low, u, p, (middle, refl, v, q), refl)), refl)) (chain_of after c l s) refl

pub no_piece_at_quote : (bytes rest x a : List ℕ) → bytes ≡ 34 ∷ rest → PieceAt bytes x a → ⊥
no_piece_at_quote bytes rest x a is p = by_cases (subst (λ b. PieceAt b x a) is p)
  where
    by_cases : PieceAt (34 ∷ rest) x a → ⊥
    by_cases (inl q) = q.0.1 refl
    by_cases (inr q) = omega (arith, q.0)

chain_same : (bytes c d l m : List ℕ) → Chain bytes c l → Chain bytes d m → (c ≡ d) × (l ≡ m)
chain_same bytes c d l m (ends b c' l' is none) (ends b' d' m' at empty) = (none ∙ sym empty, (heads 34 34 l m (sym is ∙ at)).1)
chain_same bytes c d l m (ends b c' l' is none) (goes b' d' m' y a more q t at) = absurd (no_piece_at_quote bytes l y a is q)
chain_same bytes c d l m (goes b c' l' x a more p s is) (ends b' d' m' at empty) = absurd (no_piece_at_quote bytes m x a at p)
chain_same bytes c d l m (goes b c' l' x a more p s is) (goes b' d' m' y z rest q t at) =
    let same = piece_same bytes x y a z p q in
    let tails = chain_same a more rest l m s (subst (λ r. Chain r rest m) (sym same.1) t) in
    (is ∙ ap (λ w. w ++ more) same.0 ∙ ap (λ w. y ++ w) tails.0 ∙ sym at, tails.1)

-- Two strings at the front of the bytes are one.
pub string_same : (bytes c d l m : List ℕ) → StringAt bytes c l → StringAt bytes d m → (c ≡ d) × (l ≡ m)
string_same bytes c d l m s t = chain_same bytes c d l m (chain_of bytes c l s) (chain_of bytes d m t)

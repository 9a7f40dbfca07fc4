-- Strings, piece by piece.
use Rattle.std.proofs.Common.{◌≡◌, ℕ, ◌<◌, inl, inr, List, [], ◌∷◌, ◌++◌, sym, subst, arith, encode_utf8}
use Rattle.std.proofs.lemmas.Str.{encode_ascii}
use Rattle.sx_model.specs.Strings.{IsShortEscape, UnitAt, StringAt, plain, short, unicode, pair}
use Rattle.sx_model.specs.StringFaults.{UnicodeAt, EscapeAt, PieceAt}

-- what two equal lists have in common
pub heads : (a b : ℕ) (xs ys : List ℕ) → a ∷ xs ≡ b ∷ ys → (a ≡ b) × (xs ≡ ys)
heads a b xs ys e = (cc, cc)

pub seconds : (a b c d : ℕ) (xs ys : List ℕ) → a ∷ b ∷ xs ≡ c ∷ d ∷ ys → (a ≡ c) × (b ≡ d) × (xs ≡ ys)
seconds a b c d xs ys e = (cc, cc, cc)

pub same_tail : (word a b : List ℕ) → word ++ a ≡ word ++ b → a ≡ b
same_tail [] a b e = e
same_tail (x ∷ xs) a b e = same_tail xs a b (heads x x (xs ++ a) (xs ++ b) e).1

pub nothing_there : (byte : ℕ) (rest : List ℕ) → [] ≡ byte ∷ rest → ⊥
nothing_there byte rest e = cc

pub short_small : (letter byte : ℕ) → IsShortEscape letter byte → (letter < 128) × (byte < 128)
short_small letter byte (inl e) = (omega (arith, e.0), omega (arith, e.1))
short_small letter byte (inr (inl e)) = (omega (arith, e.0), omega (arith, e.1))
short_small letter byte (inr (inr (inl e))) = (omega (arith, e.0), omega (arith, e.1))
short_small letter byte (inr (inr (inr (inl e)))) = (omega (arith, e.0), omega (arith, e.1))
short_small letter byte (inr (inr (inr (inr (inl e))))) = (omega (arith, e.0), omega (arith, e.1))
short_small letter byte (inr (inr (inr (inr (inr (inl e)))))) = (omega (arith, e.0), omega (arith, e.1))
short_small letter byte (inr (inr (inr (inr (inr (inr (inl e))))))) = (omega (arith, e.0), omega (arith, e.1))
short_small letter byte (inr (inr (inr (inr (inr (inr (inr e))))))) = (omega (arith, e.0), omega (arith, e.1))

unicode_then : (bytes : List ℕ) (character : ℕ) (after more left : List ℕ) → UnicodeAt bytes character after → StringAt after more left → StringAt (92 ∷ 117 ∷ bytes) (encode_utf8 character ++ more) left
unicode_then bytes character after more left (inl p) s = unicode bytes character after more left p.0 p.1 s
unicode_then bytes character after more left (inr (high, middle, low, unit, is_high, at, is)) s =
    rw is (pair bytes high at.0 low after more left (subst (λ m. UnitAt bytes high m) at.1 unit) is_high at.2 at.3 s)

-- A string is a piece and then a string.
pub piece_then : (bytes content after more left : List ℕ) → PieceAt bytes content after → StringAt after more left → StringAt bytes (content ++ more) left
piece_then [] content after more left p s = absurd p
piece_then (byte ∷ bytes) content after more left (inl p) s = rw p.1 (plain byte bytes more left p.0 (subst (λ l. StringAt l more left) (sym p.2) s))
piece_then (byte ∷ bytes) content after more left (inr (is, character, escape, stands)) s = rw (is, stands) (by_escape bytes escape)
  where
    by_escape : (rest : List ℕ) → EscapeAt rest character after → StringAt (92 ∷ rest) (encode_utf8 character ++ more) left
    by_escape [] e = absurd e
    by_escape (letter ∷ rest) (inl e) =
        rw (encode_ascii character (short_small letter character e.0).1) (short letter character rest more left e.0 (subst (λ l. StringAt l more left) (sym e.1) s))
    by_escape (letter ∷ rest) (inr e) = rw e.0 (unicode_then rest character after more left e.1 s)

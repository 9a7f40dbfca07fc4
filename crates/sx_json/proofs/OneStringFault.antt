-- A string has at most one fault, and none where it is whole.
use Rattle.std.proofs.Common.{◌≡◌, ℕ, zero, suc, ◌+◌, ◌-◌, ◌≤◌, inl, inr, List, [], ◌∷◌, ◌++◌, refl, ap, sym, ◌∙◌, subst, arith, length}
use Rattle.std.proofs.lemmas.List.{append-nil, length-append}
use Rattle.sx_model.specs.Strings.{DigitAt, UnitAt, LowAt, IsLowSurrogate, StringAt, TextAt, closing}
use Rattle.sx_model.specs.StringFaults.{UnicodeAt, EscapeAt, PieceAt, DigitsFault, LowEscapeFault, LowFault, UnicodeFault, EscapeFault, PieceFault, QuotedFault, QuoteFault, StringFault, in_piece, too_long, behind}
use Rattle.sx_tree.specs.Text.{IsText}
use Rattle.sx_tree.specs.declared.json_fault.JsonFault.{JsonFault}
use Rattle.sx_model.proofs.Units.{DigitAt-same, first_digit, unit_same}
use Rattle.sx_model.proofs.StringShapes.{heads}
use Rattle.sx_model.proofs.OneString.{short_not_u, not_u, scalar_or, piece_same, Chain, ends, goes, chain_of, no_piece_at_quote}

digits_step : (end count : ℕ) (bytes left : List ℕ) (digit : ℕ) (f : JsonFault) → DigitAt bytes digit left → DigitsFault end (suc count) bytes f → DigitsFault end count left f
digits_step end count bytes left digit f at (inl h) = absurd (h.0 digit left at)
digits_step end count bytes left digit f at (inr h) = subst (λ l. DigitsFault end count l f) (DigitAt-same bytes h.1 left h.0 digit h.2 at).1 h.3

unit_not_fault : (end : ℕ) (bytes : List ℕ) (u : ℕ) (a : List ℕ) (f : JsonFault) → UnitAt bytes u a → DigitsFault end 4 bytes f → ⊥
unit_not_fault end bytes u a f p h =
    digits_step end 0 (p.d ∷ a) a p.w f (p.d, p.d_is, refl)
    (digits_step end 1 (p.c ∷ p.d ∷ a) (p.d ∷ a) p.z f (p.c, p.c_is, refl)
    (digits_step end 2 (p.b ∷ p.c ∷ p.d ∷ a) (p.c ∷ p.d ∷ a) p.y f (p.b, p.b_is, refl) (digits_step end 3 bytes (p.b ∷ p.c ∷ p.d ∷ a) p.x f (first_digit bytes u a p) h)))

digits_fault_same : (end count : ℕ) (bytes : List ℕ) (f g : JsonFault) → DigitsFault end count bytes f → DigitsFault end count bytes g → f ≡ g
digits_fault_same end zero bytes f g h k = absurd h
digits_fault_same end (suc count) bytes f g (inl h) (inl k) = h.1 ∙ sym k.1
digits_fault_same end (suc count) bytes f g (inl h) (inr k) = absurd (h.0 k.0 k.1 k.2)
digits_fault_same end (suc count) bytes f g (inr h) k = digits_fault_same end count h.1 f g h.3 (digits_step end count bytes h.1 h.0 g h.2 k)

low_not_fault : (end start : ℕ) (bytes : List ℕ) (u : ℕ) (a : List ℕ) (f : JsonFault) → LowAt bytes u a → LowFault end start bytes f → ⊥
low_not_fault end start bytes u a f p h = by_cases (subst (λ b. LowFault end start b f) p.1 h)
  where
    by_cases : LowFault end start (92 ∷ 117 ∷ p.0) f → ⊥
    by_cases (inl k) = omega (arith, k.0)
    by_cases (inr (inl k)) = k.1 refl
    by_cases (inr (inr (k, inl e))) = e.0.0 refl
    by_cases (inr (inr (k, inr (inl e)))) = short_not_u e.0 e.1
    by_cases (inr (inr (k, inr (inr (inl e))))) = unit_not_fault end p.0 u a f p.2 e.1
    by_cases (inr (inr (k, inr (inr (inr e))))) = e.4 (subst IsLowSurrogate (unit_same p.0 u e.1 a e.2 p.2 e.3).0 p.3)

low_escape_fault_same : (end start : ℕ) (bytes : List ℕ) (f g : JsonFault) → LowEscapeFault end start bytes f → LowEscapeFault end start bytes g → f ≡ g
low_escape_fault_same end start [] f g h k = h ∙ sym k
low_escape_fault_same end start (letter ∷ bytes) f g (inl h) (inl k) = h.1 ∙ sym k.1
low_escape_fault_same end start (letter ∷ bytes) f g (inl h) (inr (inl k)) = absurd (h.0.1 k.0 k.1)
low_escape_fault_same end start (letter ∷ bytes) f g (inl h) (inr (inr (inl k))) = absurd (h.0.0 k.0)
low_escape_fault_same end start (letter ∷ bytes) f g (inl h) (inr (inr (inr k))) = absurd (h.0.0 k.0)
low_escape_fault_same end start (letter ∷ bytes) f g (inr (inl h)) (inl k) = absurd (k.0.1 h.0 h.1)
low_escape_fault_same end start (letter ∷ bytes) f g (inr (inl h)) (inr (inl k)) = h.2 ∙ sym k.2
low_escape_fault_same end start (letter ∷ bytes) f g (inr (inl h)) (inr (inr (inl k))) = absurd (not_u letter h.0 k.0 h.1)
low_escape_fault_same end start (letter ∷ bytes) f g (inr (inl h)) (inr (inr (inr k))) = absurd (not_u letter h.0 k.0 h.1)
low_escape_fault_same end start (letter ∷ bytes) f g (inr (inr (inl h))) (inl k) = absurd (k.0.0 h.0)
low_escape_fault_same end start (letter ∷ bytes) f g (inr (inr (inl h))) (inr (inl k)) = absurd (not_u letter k.0 h.0 k.1)
low_escape_fault_same end start (letter ∷ bytes) f g (inr (inr (inl h))) (inr (inr (inl k))) = digits_fault_same end 4 bytes f g h.1 k.1
low_escape_fault_same end start (letter ∷ bytes) f g (inr (inr (inl h))) (inr (inr (inr k))) = absurd (unit_not_fault end bytes k.1 k.2 f k.3 h.1)
low_escape_fault_same end start (letter ∷ bytes) f g (inr (inr (inr h))) (inl k) = absurd (k.0.0 h.0)
low_escape_fault_same end start (letter ∷ bytes) f g (inr (inr (inr h))) (inr (inl k)) = absurd (not_u letter k.0 h.0 k.1)
low_escape_fault_same end start (letter ∷ bytes) f g (inr (inr (inr h))) (inr (inr (inl k))) = absurd (unit_not_fault end bytes h.1 h.2 g h.3 k.1)
low_escape_fault_same end start (letter ∷ bytes) f g (inr (inr (inr h))) (inr (inr (inr k))) = h.5 ∙ sym k.5

low_fault_same : (end start : ℕ) (bytes : List ℕ) (f g : JsonFault) → LowFault end start bytes f → LowFault end start bytes g → f ≡ g
low_fault_same end start [] f g h k = h ∙ sym k
low_fault_same end start (byte ∷ bytes) f g (inl h) (inl k) = h.1 ∙ sym k.1
low_fault_same end start (byte ∷ bytes) f g (inl h) (inr (inl k)) = absurd (omega (arith, h.0, k.0))
low_fault_same end start (byte ∷ bytes) f g (inl h) (inr (inr k)) = absurd (omega (arith, h.0, k.0))
low_fault_same end start (byte ∷ bytes) f g (inr (inl h)) (inl k) = absurd (omega (arith, h.0, k.0))
low_fault_same end start (byte ∷ bytes) f g (inr (inl h)) (inr (inl k)) = h.2 ∙ sym k.2
low_fault_same end start (byte ∷ bytes) f g (inr (inl h)) (inr (inr k)) = absurd (h.1 k.0)
low_fault_same end start (byte ∷ bytes) f g (inr (inr h)) (inl k) = absurd (omega (arith, h.0, k.0))
low_fault_same end start (byte ∷ bytes) f g (inr (inr h)) (inr (inl k)) = absurd (k.1 h.0)
low_fault_same end start (byte ∷ bytes) f g (inr (inr h)) (inr (inr k)) = low_escape_fault_same end start bytes f g h.1 k.1

unicode_not_fault : (end start : ℕ) (bytes : List ℕ) (c : ℕ) (a : List ℕ) (f : JsonFault) → UnicodeAt bytes c a → UnicodeFault end start bytes f → ⊥
unicode_not_fault end start bytes c a f (inl p) (inl h) = unit_not_fault end bytes c a f p.0 h
unicode_not_fault end start bytes c a f (inl p) (inr (unit, left, at, inl h)) =
    let same = unit_same bytes c unit a left p.0 at in scalar_or c p.1 (omega (arith, same.0, h.0.0)) (omega (arith, same.0, h.0.1))
unicode_not_fault end start bytes c a f (inl p) (inr (unit, left, at, inr h)) =
    let same = unit_same bytes c unit a left p.0 at in scalar_or c p.1 (omega (arith, same.0, h.0.0)) (omega (arith, same.0, h.0.1))
unicode_not_fault end start bytes c a f (inr p) (inl h) = unit_not_fault end bytes p.0 p.1 f p.3 h
unicode_not_fault end start bytes c a f (inr p) (inr (unit, left, at, inl h)) =
    let same = unit_same bytes p.0 unit p.1 left p.3 at in omega (arith, same.0, p.4.1, h.0.0)
unicode_not_fault end start bytes c a f (inr p) (inr (unit, left, at, inr h)) =
    let same = unit_same bytes p.0 unit p.1 left p.3 at in low_not_fault end start p.1 p.2 a f p.5 (subst (λ l. LowFault end start l f) (sym same.1) h.1)

unicode_fault_same : (end start : ℕ) (bytes : List ℕ) (f g : JsonFault) → UnicodeFault end start bytes f → UnicodeFault end start bytes g → f ≡ g
unicode_fault_same end start bytes f g (inl h) (inl k) = digits_fault_same end 4 bytes f g h k
unicode_fault_same end start bytes f g (inl h) (inr k) = absurd (unit_not_fault end bytes k.0 k.1 f k.2 h)
unicode_fault_same end start bytes f g (inr h) (inl k) = absurd (unit_not_fault end bytes h.0 h.1 g h.2 k)
unicode_fault_same end start bytes f g (inr (u, a, p, inl h)) (inr (v, b, q, inl k)) = h.1 ∙ sym k.1
unicode_fault_same end start bytes f g (inr (u, a, p, inl h)) (inr (v, b, q, inr k)) =
    let same = unit_same bytes u v a b p q in absurd (omega (arith, same.0, h.0.0, k.0.1))
unicode_fault_same end start bytes f g (inr (u, a, p, inr h)) (inr (v, b, q, inl k)) =
    let same = unit_same bytes u v a b p q in absurd (omega (arith, same.0, h.0.1, k.0.0))
unicode_fault_same end start bytes f g (inr (u, a, p, inr h)) (inr (v, b, q, inr k)) =
    low_fault_same end start a f g h.1 (subst (λ l. LowFault end start l g) (sym (unit_same bytes u v a b p q).1) k.1)

escape_not_fault : (end start : ℕ) (bytes : List ℕ) (c : ℕ) (a : List ℕ) (f : JsonFault) → EscapeAt bytes c a → EscapeFault end start bytes f → ⊥
escape_not_fault end start [] c a f p h = p
escape_not_fault end start (letter ∷ bytes) c a f (inl p) (inl h) = h.0.1 c p.0
escape_not_fault end start (letter ∷ bytes) c a f (inl p) (inr h) = not_u letter c h.0 p.0
escape_not_fault end start (letter ∷ bytes) c a f (inr p) (inl h) = h.0.0 p.0
escape_not_fault end start (letter ∷ bytes) c a f (inr p) (inr h) = unicode_not_fault end start bytes c a f p.1 h.1

escape_fault_same : (end start : ℕ) (bytes : List ℕ) (f g : JsonFault) → EscapeFault end start bytes f → EscapeFault end start bytes g → f ≡ g
escape_fault_same end start [] f g h k = h ∙ sym k
escape_fault_same end start (letter ∷ bytes) f g (inl h) (inl k) = h.1 ∙ sym k.1
escape_fault_same end start (letter ∷ bytes) f g (inl h) (inr k) = absurd (h.0.0 k.0)
escape_fault_same end start (letter ∷ bytes) f g (inr h) (inl k) = absurd (k.0.0 h.0)
escape_fault_same end start (letter ∷ bytes) f g (inr h) (inr k) = unicode_fault_same end start bytes f g h.1 k.1

piece_not_fault : (end : ℕ) (bytes x a : List ℕ) (f : JsonFault) → PieceAt bytes x a → PieceFault end bytes f → ⊥
piece_not_fault end [] x a f p h = p
piece_not_fault end (byte ∷ bytes) x a f (inl p) (inl h) = omega (arith, p.0.0, h.0)
piece_not_fault end (byte ∷ bytes) x a f (inl p) (inr h) = p.0.2 h.0
piece_not_fault end (byte ∷ bytes) x a f (inr p) (inl h) = omega (arith, p.0, h.0)
piece_not_fault end (byte ∷ bytes) x a f (inr p) (inr h) = escape_not_fault end (end - length (byte ∷ bytes)) bytes p.1 a f p.2 h.1

piece_fault_same : (end : ℕ) (bytes : List ℕ) (f g : JsonFault) → PieceFault end bytes f → PieceFault end bytes g → f ≡ g
piece_fault_same end [] f g h k = h ∙ sym k
piece_fault_same end (byte ∷ bytes) f g (inl h) (inl k) = h.1 ∙ sym k.1
piece_fault_same end (byte ∷ bytes) f g (inl h) (inr k) = absurd (omega (arith, h.0, k.0))
piece_fault_same end (byte ∷ bytes) f g (inr h) (inl k) = absurd (omega (arith, h.0, k.0))
piece_fault_same end (byte ∷ bytes) f g (inr h) (inr k) = escape_fault_same end (end - length (byte ∷ bytes)) bytes f g h.1 k.1

no_fault_at_quote : (end : ℕ) (bytes rest : List ℕ) (f : JsonFault) → bytes ≡ 34 ∷ rest → PieceFault end bytes f → ⊥
no_fault_at_quote end bytes rest f is h = by_cases (subst (λ b. PieceFault end b f) is h)
  where
    by_cases : PieceFault end (34 ∷ rest) f → ⊥
    by_cases (inl k) = omega (arith, k.0)
    by_cases (inr k) = omega (arith, k.0)

chain_not_fault : (end start count : ℕ) (bytes c l : List ℕ) (f : JsonFault) → Chain bytes c l → StringFault end start count bytes f → count + length c ≤ 1_048_576 → ⊥
chain_not_fault end start count bytes c l f (ends b c' l' is none) (in_piece k b' g h) fits = no_fault_at_quote end bytes l f is h
chain_not_fault end start count bytes c l f (ends b c' l' is none) (too_long k b' y z g q long at) fits = no_piece_at_quote bytes l y z is q
chain_not_fault end start count bytes c l f (ends b c' l' is none) (behind k b' y z g q small h) fits = no_piece_at_quote bytes l y z is q
chain_not_fault end start count bytes c l f (goes b c' l' x a more p s is) (in_piece k b' g h) fits = piece_not_fault end bytes x a f p h
chain_not_fault end start count bytes c l f (goes b c' l' x a more p s is) (too_long k b' y z g q long at) fits =
    omega (arith, long, fits, ap length (piece_same bytes x y a z p q).0, ap length is, length-append x more)
chain_not_fault end start count bytes c l f (goes b c' l' x a more p s is) (behind k b' y z g q small h) fits =
    let same = piece_same bytes x y a z p q in
    chain_not_fault end start (count + length y) a more l f s (subst (λ r. StringFault end start (count + length y) r f) (sym same.1) h) (omega (arith, fits, ap length same.0, ap length is, length-append x more))

pub text_read : (bytes content left after text : List ℕ) → ((more l : List ℕ) → StringAt left more l → StringAt bytes (content ++ more) l) → left ≡ 34 ∷ after → text ≡ content → IsText content → TextAt bytes text after
text_read bytes content left after text leads is same good =
    (subst (λ t. StringAt bytes t after) (append-nil content ∙ sym same) (leads [] after (subst (λ l. StringAt l [] after) (sym is) (closing after))), subst IsText (sym same) good)

-- A string that is whole within the limit has no fault.
pub string_not_fault : (end start : ℕ) (bytes c l : List ℕ) (f : JsonFault) → TextAt bytes c l → StringFault end start 0 bytes f → ⊥
string_not_fault end start bytes c l f s h = chain_not_fault end start 0 bytes c l f (chain_of bytes c l s.0) h (omega (arith, s.1.1))

pub string_fault_same : (end start count : ℕ) (bytes : List ℕ) (f g : JsonFault) → StringFault end start count bytes f → StringFault end start count bytes g → f ≡ g
string_fault_same end start count bytes f g (in_piece k b f' h) (in_piece k' b' g' i) = piece_fault_same end bytes f g h i
string_fault_same end start count bytes f g (in_piece k b f' h) (too_long k' b' y c g' q long is) = absurd (piece_not_fault end bytes y c f q h)
string_fault_same end start count bytes f g (in_piece k b f' h) (behind k' b' y c g' q small i) = absurd (piece_not_fault end bytes y c f q h)
string_fault_same end start count bytes f g (too_long k b x a f' p long is) (in_piece k' b' g' i) = absurd (piece_not_fault end bytes x a g p i)
string_fault_same end start count bytes f g (too_long k b x a f' p long is) (too_long k' b' y c g' q far at) = is ∙ sym at
string_fault_same end start count bytes f g (too_long k b x a f' p long is) (behind k' b' y c g' q small i) =
    absurd (omega (arith, long, small, ap length (piece_same bytes x y a c p q).0))
string_fault_same end start count bytes f g (behind k b x a f' p small h) (in_piece k' b' g' i) = absurd (piece_not_fault end bytes x a g p i)
string_fault_same end start count bytes f g (behind k b x a f' p small h) (too_long k' b' y c g' q long is) =
    absurd (omega (arith, long, small, ap length (piece_same bytes x y a c p q).0))
string_fault_same end start count bytes f g (behind k b x a f' p small h) (behind k' b' y c g' q tight i) =
    let same = piece_same bytes x y a c p q in
    string_fault_same end start (count + length x) a f g h (subst (λ n. StringFault end start n a g) (ap (λ z. count + length z) (sym same.0)) (subst (λ r. StringFault end start (count + length y) r g) (sym same.1) i))

-- Where a string is to come.
pub quoted_not_fault : (end : ℕ) (bytes inside c l : List ℕ) (f : JsonFault) → bytes ≡ 34 ∷ inside → TextAt inside c l → QuotedFault end bytes f → ⊥
quoted_not_fault end bytes inside c l f is s h =
    let same : h.0 ≡ inside = (heads 34 34 h.0 inside (sym h.1 ∙ is)).1 in string_not_fault end (end - length bytes) inside c l f s (subst (λ i. StringFault end (end - length bytes) 0 i f) same h.2)

pub quoted_fault_same : (end : ℕ) (bytes : List ℕ) (f g : JsonFault) → QuotedFault end bytes f → QuotedFault end bytes g → f ≡ g
quoted_fault_same end bytes f g h k =
    let same : k.0 ≡ h.0 = (heads 34 34 k.0 h.0 (sym k.1 ∙ h.1)).1 in string_fault_same end (end - length bytes) 0 h.0 f g h.2 (subst (λ i. StringFault end (end - length bytes) 0 i g) same k.2)

pub quote_not_fault : (end : ℕ) (bytes inside c l : List ℕ) (f : JsonFault) → bytes ≡ 34 ∷ inside → TextAt inside c l → QuoteFault end bytes f → ⊥
quote_not_fault end bytes inside c l f is s (inl h) = h.0 inside is
quote_not_fault end bytes inside c l f is s (inr h) = quoted_not_fault end bytes inside c l f is s h

pub quote_fault_same : (end : ℕ) (bytes : List ℕ) (f g : JsonFault) → QuoteFault end bytes f → QuoteFault end bytes g → f ≡ g
quote_fault_same end bytes f g (inl h) (inl k) = h.1 ∙ sym k.1
quote_fault_same end bytes f g (inl h) (inr k) = absurd (h.0 k.0 k.1)
quote_fault_same end bytes f g (inr h) (inl k) = absurd (k.0 h.0 h.1)
quote_fault_same end bytes f g (inr h) (inr k) = quoted_fault_same end bytes f g h k

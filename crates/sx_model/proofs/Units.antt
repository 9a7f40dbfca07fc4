-- Four digits are one number.
use Rattle.std.proofs.Common.{◌≡◌, ℕ, ◌+◌, ◌*◌, inl, inr, List, ◌∷◌, refl, ap, sym, ◌∙◌, subst, arith}
use Rattle.sx_model.specs.Strings.{DigitAt, IsHexDigit, UnitAt}

pub digits_same : (byte d e : ℕ) → IsHexDigit byte d → IsHexDigit byte e → d ≡ e
digits_same byte d e (inl p) (inl q) = omega (arith, p.2, q.2)
digits_same byte d e (inl p) (inr (inl q)) = absurd (omega (arith, p.1, q.0))
digits_same byte d e (inl p) (inr (inr q)) = absurd (omega (arith, p.1, q.0))
digits_same byte d e (inr (inl p)) (inl q) = absurd (omega (arith, p.0, q.1))
digits_same byte d e (inr (inl p)) (inr (inl q)) = omega (arith, p.2, q.2)
digits_same byte d e (inr (inl p)) (inr (inr q)) = absurd (omega (arith, p.1, q.0))
digits_same byte d e (inr (inr p)) (inl q) = absurd (omega (arith, p.0, q.1))
digits_same byte d e (inr (inr p)) (inr (inl q)) = absurd (omega (arith, p.0, q.1))
digits_same byte d e (inr (inr p)) (inr (inr q)) = omega (arith, p.2, q.2)

pub DigitAt-same : (bytes left others : List ℕ) (d e : ℕ) → DigitAt bytes d left → DigitAt bytes e others → (d ≡ e) × (left ≡ others)
DigitAt-same bytes left others d e p q =
    let same : p.0 ∷ left ≡ q.0 ∷ others = sym p.2 ∙ q.2 in
    let byte : p.0 ≡ q.0 = cc in
    let rest : left ≡ others = cc in
    (digits_same q.0 d e (subst (λ b. IsHexDigit b d) byte p.1) q.1, rest)

-- the digits of a unit, one by one
pub first_digit : (bytes : List ℕ) (unit : ℕ) (left : List ℕ) (u : UnitAt bytes unit left) → DigitAt bytes u.x (u.b ∷ u.c ∷ u.d ∷ left)
first_digit bytes unit left u = (u.a, u.a_is, u.bytes_are)

pub UnitAt-digits : (bytes one two three after : List ℕ) (x y z w : ℕ) → DigitAt bytes x one → DigitAt one y two → DigitAt two z three → DigitAt three w after → UnitAt bytes (((x * 16 + y) * 16 + z) * 16 + w) after
UnitAt-digits bytes one two three after x y z w p q r o = record {
  a = p.0;
  b = q.0;
  c = r.0;
  d = o.0;
  x = x;
  y = y;
  z = z;
  w = w;
  a_is = p.1;
  b_is = q.1;
  c_is = r.1;
  d_is = o.1;
  unit_is = refl;
  bytes_are = p.2 ∙ ap (λ l. p.0 ∷ l) (q.2 ∙ ap (λ l. q.0 ∷ l) (r.2 ∙ ap (λ l. r.0 ∷ l) o.2));
}

pub unit_same : (bytes : List ℕ) (u v : ℕ) (a b : List ℕ) → UnitAt bytes u a → UnitAt bytes v b → (u ≡ v) × (a ≡ b)
unit_same bytes u v a b p q =
    let s = DigitAt-same bytes (p.b ∷ p.c ∷ p.d ∷ a) (q.b ∷ q.c ∷ q.d ∷ b) p.x q.x (first_digit bytes u a p) (first_digit bytes v b q) in
    let t = DigitAt-same (p.b ∷ p.c ∷ p.d ∷ a) (p.c ∷ p.d ∷ a) (q.c ∷ q.d ∷ b) p.y q.y (p.b, p.b_is, refl) (q.b, q.b_is, s.1) in
    let w = DigitAt-same (p.c ∷ p.d ∷ a) (p.d ∷ a) (q.d ∷ b) p.z q.z (p.c, p.c_is, refl) (q.c, q.c_is, t.1) in
    let e = DigitAt-same (p.d ∷ a) a b p.w q.w (p.d, p.d_is, refl) (q.d, q.d_is, w.1) in
    (p.unit_is ∙ rw (s.0, t.0, w.0, e.0) (sym q.unit_is), e.1)

-- The rests that complete a number from its start are the numbers of the grammar.
use Rattle.std.proofs.Common.{◌≡◌, ℕ, inl, inr, List, [], ◌∷◌, ◌++◌, refl, ap, ◌∙◌, arith}
use Rattle.sx_tree.specs.Number.{IsDigit, AreDigits, AreSomeDigits, IsMinus, IsInt, IsFrac, IsSign, IsExp, IsNumber}
use Rattle.sx_tree.specs.NumberState.{DigitsThen, FollowsMark, FollowsFraction, FollowsInt, FollowsMinus, FollowsStart, Follows}
use Rattle.sx_tree.specs.declared.number.NumberState.{NumberState}
use Rattle.sx_tree.specs.declared.number.NumberState.TheVariants.{Start, Minus, Zero, Whole, Point, Fraction, Mark, Sign, Exponent}

pub DigitsThen-append : (P : List ℕ → Type 0) (digits rest : List ℕ) → AreDigits digits → P rest → DigitsThen P (digits ++ rest)
DigitsThen-append P [] [] _ p = p
DigitsThen-append P [] (byte ∷ rest) _ p = inl p
DigitsThen-append P (digit ∷ digits) rest h p = inr (h.0, DigitsThen-append P digits rest h.1 p)

pub mark_from_digits : (digits : List ℕ) → AreSomeDigits digits → FollowsMark digits
mark_from_digits [] some = some
mark_from_digits (digit ∷ digits) some = inr some

pub mark_from : (sign digits : List ℕ) → IsSign sign → AreSomeDigits digits → FollowsMark (sign ++ digits)
mark_from sign digits (inl none) some = rw none (mark_from_digits digits some)
mark_from sign digits (inr (inl plus)) some = rw plus (inl (inl refl, some))
mark_from sign digits (inr (inr minus)) some = rw minus (inl (inr refl, some))

pub fraction_from : (exp : List ℕ) → IsExp exp → FollowsFraction exp
fraction_from [] _ = tt
fraction_from (byte ∷ rest) h = (h.0, rw h.5 (mark_from h.1 h.2 h.3 h.4))

pub int_from : (frac exp : List ℕ) → IsFrac frac → IsExp exp → FollowsInt (frac ++ exp)
int_from [] [] _ _ = tt
int_from [] (byte ∷ rest) _ h = inr (fraction_from (byte ∷ rest) h)
int_from (point ∷ []) exp h _ = absurd h.1
int_from (point ∷ digit ∷ digits) exp h is_exp =
    inl (h.0, (h.1.0, DigitsThen-append FollowsFraction digits exp h.1.1 (fraction_from exp is_exp)))

pub minus_from : (int rest : List ℕ) → IsInt int → FollowsInt rest → FollowsMinus (int ++ rest)
minus_from [] rest h _ = absurd h
minus_from (byte ∷ digits) rest (inl zero) follows = rw zero.1 (inl (zero.0, follows))
minus_from (byte ∷ digits) rest (inr other) follows =
    inr (other.0, other.1, DigitsThen-append FollowsInt digits rest other.2 follows)

pub start_from_rest : (rest : List ℕ) → FollowsMinus rest → FollowsStart rest
start_from_rest [] h = h
start_from_rest (byte ∷ rest) h = inr h

pub start_from : (minus rest : List ℕ) → IsMinus minus → FollowsMinus rest → FollowsStart (minus ++ rest)
start_from minus rest (inl none) h = rw none (start_from_rest rest h)
start_from minus rest (inr sign) h = rw sign (inl (refl, h))

pub FollowsStart-number : (bytes : List ℕ) → IsNumber bytes → FollowsStart bytes
FollowsStart-number bytes n =
    rw n.whole (start_from n.minus (n.int ++ (n.frac ++ n.exp)) n.is_minus
    (minus_from n.int (n.frac ++ n.exp) n.is_int (int_from n.frac n.exp n.is_frac n.is_exp)))

-- The parts that stand where digits and then P stand.
pub digits_of : (P : List ℕ → Type 0) (bytes : List ℕ) → DigitsThen P bytes → (digits : List ℕ) × (rest : List ℕ) × AreDigits digits × P rest × (bytes ≡ digits ++ rest)
digits_of P [] h = ([], [], tt, h, refl)
digits_of P (byte ∷ bytes) (inl h) = ([], byte ∷ bytes, tt, h, refl)
digits_of P (byte ∷ bytes) (inr h) =
    let s = digits_of P bytes h.1 in (byte ∷ s.0, s.1, (h.0, s.2), s.3, ap (λ x. byte ∷ x) s.4)

pub sign_of : (bytes : List ℕ) → FollowsMark bytes → (sign : List ℕ) × (digits : List ℕ) × IsSign sign × AreSomeDigits digits × (bytes ≡ sign ++ digits)
sign_of [] h = absurd h
sign_of (byte ∷ rest) (inl (inl plus, some)) = (43 ∷ [], rest, inr (inl refl), some, rw plus refl)
sign_of (byte ∷ rest) (inl (inr minus, some)) = (45 ∷ [], rest, inr (inr refl), some, rw minus refl)
sign_of (byte ∷ rest) (inr some) = ([], byte ∷ rest, inl refl, some, refl)

pub exp_of : (bytes : List ℕ) → FollowsFraction bytes → IsExp bytes
exp_of [] _ = tt
exp_of (byte ∷ rest) h = let s = sign_of rest h.1 in (h.0, s.0, s.1, s.2, s.3, s.4)

pub frac_of : (bytes : List ℕ) → FollowsInt bytes → (frac : List ℕ) × (exp : List ℕ) × IsFrac frac × IsExp exp × (bytes ≡ frac ++ exp)
frac_of [] _ = ([], [], tt, tt, refl)
frac_of (byte ∷ []) (inl h) = absurd h.1
frac_of (byte ∷ digit ∷ rest) (inl h) =
    let s = digits_of FollowsFraction rest h.1.1 in
    (byte ∷ digit ∷ s.0, s.1, (h.0, (h.1.0, s.2)), exp_of s.1 s.3, ap (λ x. byte ∷ digit ∷ x) s.4)
frac_of (byte ∷ rest) (inr h) = ([], byte ∷ rest, tt, exp_of (byte ∷ rest) h, refl)

-- A number without its minus.
pub record Unsigned (bytes : List ℕ) : Type 0 where
  pub int : List ℕ
  pub frac : List ℕ
  pub exp : List ℕ
  pub is_int : IsInt int
  pub is_frac : IsFrac frac
  pub is_exp : IsExp exp
  pub whole : bytes ≡ int ++ (frac ++ exp)

pub unsigned_of : (bytes : List ℕ) → FollowsMinus bytes → Unsigned bytes
unsigned_of [] h = absurd h
unsigned_of (byte ∷ rest) (inl h) =
    let s = frac_of rest h.1 in
    record { int = byte ∷ []; frac = s.0; exp = s.1; is_int = inl (h.0, refl); is_frac = s.2; is_exp = s.3; whole = ap (λ x. byte ∷ x) s.4 }
unsigned_of (byte ∷ rest) (inr h) =
    let d = digits_of FollowsInt rest h.2 in
    let s = frac_of d.1 d.3 in
    record { int = byte ∷ d.0; frac = s.0; exp = s.1; is_int = inr (h.0, h.1, d.2); is_frac = s.2; is_exp = s.3; whole = ap (λ x. byte ∷ x) (d.4 ∙ ap (λ x. d.0 ++ x) s.4) }

pub number_of : (bytes : List ℕ) → FollowsStart bytes → IsNumber bytes
number_of [] h = absurd h
number_of (byte ∷ rest) (inl h) =
    let u = unsigned_of rest h.1 in
    record { minus = 45 ∷ []; int = u.int; frac = u.frac; exp = u.exp; is_minus = inr refl; is_int = u.is_int; is_frac = u.is_frac; is_exp = u.is_exp; whole = rw h.0 (ap (λ x. 45 ∷ x) u.whole) }
number_of (byte ∷ rest) (inr h) =
    let u = unsigned_of (byte ∷ rest) h in
    record { minus = []; int = u.int; frac = u.frac; exp = u.exp; is_minus = inl refl; is_int = u.is_int; is_frac = u.is_frac; is_exp = u.is_exp; whole = u.whole }

zero_digit : IsDigit 48
zero_digit = (omega arith, omega arith)

-- Each state leads to a number.
pub some_rest : (state : NumberState) → (rest : List ℕ) × Follows state rest
some_rest Start = (48 ∷ [], inr (inl (refl, tt)))
some_rest Minus = (48 ∷ [], inl (refl, tt))
some_rest Zero = ([], tt)
some_rest Whole = ([], tt)
some_rest Point = (48 ∷ [], (zero_digit, tt))
some_rest Fraction = ([], tt)
some_rest Mark = (48 ∷ [], inr (zero_digit, tt))
some_rest Sign = (48 ∷ [], (zero_digit, tt))
some_rest Exponent = ([], tt)

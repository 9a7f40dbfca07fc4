-- The bytes that a number has.
use Rattle.std.proofs.Common.{◌≡◌, ℕ, ◌<◌, ◌⊎◌, inl, inr, List, [], ◌∷◌, ◌++◌, refl, arith}
use Rattle.sx_tree.specs.Number.{IsNumber, IsDigit, AreDigits, AreSomeDigits, IsMinus, IsInt, IsFrac, IsSign, IsExp, BeginsNumber}

abbrev pub IsNumberByte : ℕ → Type 0
IsNumberByte byte = IsDigit byte ⊎ ((byte ≡ 43) ⊎ ((byte ≡ 45) ⊎ ((byte ≡ 46) ⊎ ((byte ≡ 69) ⊎ (byte ≡ 101)))))

abbrev pub AreNumberBytes : List ℕ → Type 0
AreNumberBytes [] = Unit {0}
AreNumberBytes (byte ∷ bytes) = IsNumberByte byte × AreNumberBytes bytes

AreNumberBytes-append : (xs ys : List ℕ) → AreNumberBytes xs → AreNumberBytes ys → AreNumberBytes (xs ++ ys)
AreNumberBytes-append [] ys a b = b
AreNumberBytes-append (x ∷ xs) ys a b = (a.0, AreNumberBytes-append xs ys a.1 b)

AreNumberBytes-left : (xs ys : List ℕ) → AreNumberBytes (xs ++ ys) → AreNumberBytes xs
AreNumberBytes-left [] ys a = tt
AreNumberBytes-left (x ∷ xs) ys a = (a.0, AreNumberBytes-left xs ys a.1)

pub AreNumberBytes-at : (xs ys : List ℕ) (byte : ℕ) → AreNumberBytes (xs ++ byte ∷ ys) → IsNumberByte byte
AreNumberBytes-at [] ys byte a = a.0
AreNumberBytes-at (x ∷ xs) ys byte a = AreNumberBytes-at xs ys byte a.1

digits_are : (digits : List ℕ) → AreDigits digits → AreNumberBytes digits
digits_are [] h = tt
digits_are (d ∷ ds) h = (inl h.0, digits_are ds h.1)

some_digits_are : (digits : List ℕ) → AreSomeDigits digits → AreNumberBytes digits
some_digits_are [] h = tt
some_digits_are (d ∷ ds) h = (inl h.0, digits_are ds h.1)

minus_is : (minus : List ℕ) → IsMinus minus → AreNumberBytes minus
minus_is minus (inl e) = rw e tt
minus_is minus (inr e) = rw e (inr (inr (inl refl)), tt)

sign_is : (sign : List ℕ) → IsSign sign → AreNumberBytes sign
sign_is sign (inl e) = rw e tt
sign_is sign (inr (inl e)) = rw e (inr (inl refl), tt)
sign_is sign (inr (inr e)) = rw e (inr (inr (inl refl)), tt)

int_is : (int : List ℕ) → IsInt int → AreNumberBytes int
int_is [] h = absurd h
int_is (b ∷ bs) (inl z) = rw z.1 (inl (omega (arith, z.0), omega (arith, z.0)), tt)
int_is (b ∷ bs) (inr o) = (inl (omega (arith, o.0), o.1), digits_are bs o.2)

frac_is : (frac : List ℕ) → IsFrac frac → AreNumberBytes frac
frac_is [] h = tt
frac_is (b ∷ bs) h = (inr (inr (inr (inl h.0))), some_digits_are bs h.1)

exp_is : (exp : List ℕ) → IsExp exp → AreNumberBytes exp
exp_is [] h = tt
exp_is (b ∷ bs) h = (mark h.0, rw h.5 (AreNumberBytes-append h.1 h.2 (sign_is h.1 h.3) (some_digits_are h.2 h.4)))
  where
    mark : (b ≡ 101) ⊎ (b ≡ 69) → IsNumberByte b
    mark (inl e) = inr (inr (inr (inr (inr e))))
    mark (inr e) = inr (inr (inr (inr (inl e))))

pub number_is : (literal : List ℕ) → IsNumber literal → AreNumberBytes literal
number_is literal n =
    rw n.whole (AreNumberBytes-append n.minus (n.int ++ (n.frac ++ n.exp)) (minus_is n.minus n.is_minus)
    (AreNumberBytes-append n.int (n.frac ++ n.exp) (int_is n.int n.is_int) (AreNumberBytes-append n.frac n.exp (frac_is n.frac n.is_frac) (exp_is n.exp n.is_exp))))

pub front_is : (front : List ℕ) → BeginsNumber front → AreNumberBytes front
front_is front b = AreNumberBytes-left front b.0 (number_is (front ++ b.0) b.1)

-- They are ASCII.
pub number_small : (byte : ℕ) → IsNumberByte byte → byte < 128
number_small byte (inl d) = omega (arith, d.1)
number_small byte (inr (inl e)) = omega (arith, e)
number_small byte (inr (inr (inl e))) = omega (arith, e)
number_small byte (inr (inr (inr (inl e)))) = omega (arith, e)
number_small byte (inr (inr (inr (inr (inl e))))) = omega (arith, e)
number_small byte (inr (inr (inr (inr (inr e))))) = omega (arith, e)

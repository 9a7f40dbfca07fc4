-- Numbers in decimal.
use Rattle.std.proofs.Common.{◌≡◌, ◌≢◌, ℕ, ℤ, ◌+◌, ◌<◌, ◌^◌, ◌%◌, List, [], ◌∷◌, subst, sym, arith}
use Rattle.std.specs.Prelude.{FitsSigned}
use Rattle.std.specs.Fmt.{decimal, signed_decimal}
use Rattle.std.specs.Int.{w64}
use Rattle.std.specs.Str.{IsUtf8}
use Rattle.std.proofs.lemmas.Fmt.{IsAscii-decimal, IsAscii-signed, decimal_by_steps}
use Rattle.std.proofs.lemmas.Str.{IsUtf8-from_ascii}
use Rattle.sx_script.proofs.Fronts.{Lacks, Lacks-append}

-- a number in decimal is text
pub IsUtf8-decimal : (n : ℕ) (digits : List ℕ) → n < 2 ^ 32 → digits ≡ decimal n → IsUtf8 digits
IsUtf8-decimal n digits below is = subst (λ (b : List ℕ). IsUtf8 b) (sym is) (IsUtf8-from_ascii (decimal n) (IsAscii-decimal n (omega arith)))

-- what is no digit does not stand in a number
pub Lacks-decimal : (end n : ℕ) → ((digit : ℕ) → digit < 10 → 48 + digit ≢ end) → n < 2 ^ 64 → Lacks end (decimal n)
Lacks-decimal end n other below =
    decimal_by_steps (λ k digits. Lacks end digits)
    (λ k small. (other k small, tt))
    (λ k digits large lacks. Lacks-append end digits ((48 + k % 10) ∷ []) lacks (let digit : k % 10 < 10 = omega arith in (other (k % 10) digit, tt)))
    n below

-- a moment is text
pub IsUtf8-signed : (t : ℤ) (digits : List ℕ) → FitsSigned w64 t → digits ≡ signed_decimal t → IsUtf8 digits
IsUtf8-signed t digits fits is = subst (λ (b : List ℕ). IsUtf8 b) (sym is) (IsUtf8-from_ascii (signed_decimal t) (IsAscii-signed t fits.sfits))

-- The numbers of RFC 8259 section 6, by the productions of its grammar, on the bytes of the text.
use Rattle.std.specs.Prelude.{ℕ, ◌≡◌, ◌≤◌, ◌⊎◌, List, [], ◌∷◌, ◌++◌, length, take}

-- DIGIT = 0 to 9
abbrev pub IsDigit : ℕ → Type 0
IsDigit byte = (48 ≤ byte) × (byte ≤ 57)

-- *DIGIT
abbrev pub AreDigits : List ℕ → Type 0
AreDigits [] = Unit {0}
AreDigits (byte ∷ bytes) = IsDigit byte × AreDigits bytes

-- 1*DIGIT
abbrev pub AreSomeDigits : List ℕ → Type 0
AreSomeDigits [] = ⊥
AreSomeDigits (byte ∷ bytes) = IsDigit byte × AreDigits bytes

-- [ minus ]
abbrev pub IsMinus : List ℕ → Type 0
IsMinus bytes = (bytes ≡ []) ⊎ (bytes ≡ 45 ∷ [])

-- int = zero / ( digit1-9 *DIGIT )
abbrev pub IsInt : List ℕ → Type 0
IsInt [] = ⊥
IsInt (byte ∷ bytes) = ((byte ≡ 48) × (bytes ≡ [])) ⊎ ((49 ≤ byte) × (byte ≤ 57) × AreDigits bytes)

-- [ frac ], where frac = decimal-point 1*DIGIT
abbrev pub IsFrac : List ℕ → Type 0
IsFrac [] = Unit {0}
IsFrac (byte ∷ bytes) = (byte ≡ 46) × AreSomeDigits bytes

-- [ minus / plus ]
abbrev pub IsSign : List ℕ → Type 0
IsSign bytes = (bytes ≡ []) ⊎ ((bytes ≡ 43 ∷ []) ⊎ (bytes ≡ 45 ∷ []))

-- [ exp ], where exp = e [ minus / plus ] 1*DIGIT, and e = "e" / "E"
abbrev pub IsExp : List ℕ → Type 0
IsExp [] = Unit {0}
IsExp (byte ∷ bytes) = ((byte ≡ 101) ⊎ (byte ≡ 69)) × (sign : List ℕ) × (digits : List ℕ) × IsSign sign × AreSomeDigits digits × (bytes ≡ sign ++ digits)

-- number = [ minus ] int [ frac ] [ exp ]
pub record IsNumber (bytes : List ℕ) : Type 0 where
  pub minus : List ℕ
  pub int : List ℕ
  pub frac : List ℕ
  pub exp : List ℕ
  pub is_minus : IsMinus minus
  pub is_int : IsInt int
  pub is_frac : IsFrac frac
  pub is_exp : IsExp exp
  pub whole : bytes ≡ minus ++ (int ++ (frac ++ exp))

-- a number within the limits
abbrev pub IsLiteral : List ℕ → Type 0
IsLiteral literal = IsNumber literal × (length literal ≤ 64)

-- some number begins with these bytes
abbrev pub BeginsNumber : List ℕ → Type 0
BeginsNumber front = (rest : List ℕ) × IsNumber (front ++ rest)

-- The longest front of the bytes with which some number begins has this length: no number goes on with
-- the byte behind it, where there is one.
pub record IsLongestFront (bytes : List ℕ) (len : ℕ) : Type 0 where
  pub within : len ≤ length bytes
  pub begins : BeginsNumber (take len bytes)
  pub longest : (n : ℕ) → n ≤ length bytes → BeginsNumber (take n bytes) → n ≤ len

-- What may follow where the reading of a number stands: the rests that complete a number.
use Rattle.std.specs.Prelude.{ℕ, ◌≡◌, ◌≤◌, ◌⊎◌, List, [], ◌∷◌}
use Rattle.sx_tree.specs.Number.{IsDigit, AreDigits, AreSomeDigits}
use Rattle.sx_tree.specs.declared.number.NumberState.{NumberState}
use Rattle.sx_tree.specs.declared.number.NumberState.TheVariants.{Start, Minus, Zero, Whole, Point, Fraction, Mark, Sign, Exponent}

-- digits, and then what P says
abbrev pub DigitsThen : (List ℕ → Type 0) → List ℕ → Type 0
DigitsThen P [] = P []
DigitsThen P (byte ∷ rest) = P (byte ∷ rest) ⊎ (IsDigit byte × DigitsThen P rest)

-- behind an e or E
abbrev pub FollowsMark : List ℕ → Type 0
FollowsMark [] = ⊥
FollowsMark (byte ∷ rest) = (((byte ≡ 43) ⊎ (byte ≡ 45)) × AreSomeDigits rest) ⊎ (IsDigit byte × AreDigits rest)

-- an exponent or none
abbrev pub FollowsFraction : List ℕ → Type 0
FollowsFraction [] = Unit {0}
FollowsFraction (byte ∷ rest) = ((byte ≡ 101) ⊎ (byte ≡ 69)) × FollowsMark rest

-- behind a decimal point
abbrev pub FollowsPoint : List ℕ → Type 0
FollowsPoint [] = ⊥
FollowsPoint (byte ∷ rest) = IsDigit byte × DigitsThen FollowsFraction rest

-- a fraction or none, and an exponent or none
abbrev pub FollowsInt : List ℕ → Type 0
FollowsInt [] = Unit {0}
FollowsInt (byte ∷ rest) = ((byte ≡ 46) × FollowsPoint rest) ⊎ (((byte ≡ 101) ⊎ (byte ≡ 69)) × FollowsMark rest)

-- an int and what follows one
abbrev pub FollowsMinus : List ℕ → Type 0
FollowsMinus [] = ⊥
FollowsMinus (byte ∷ rest) = ((byte ≡ 48) × FollowsInt rest) ⊎ ((49 ≤ byte) × (byte ≤ 57) × DigitsThen FollowsInt rest)

-- a whole number
abbrev pub FollowsStart : List ℕ → Type 0
FollowsStart [] = ⊥
FollowsStart (byte ∷ rest) = ((byte ≡ 45) × FollowsMinus rest) ⊎ FollowsMinus (byte ∷ rest)

abbrev pub Follows : NumberState → List ℕ → Type 0
Follows Start = FollowsStart
Follows Minus = FollowsMinus
Follows Zero = FollowsInt
Follows Whole = DigitsThen FollowsInt
Follows Point = FollowsPoint
Follows Fraction = DigitsThen FollowsFraction
Follows Mark = FollowsMark
Follows Sign = AreSomeDigits
Follows Exponent = AreDigits

-- the byte leads from one state to the other
abbrev pub LeadsTo : NumberState → ℕ → NumberState → Type 0
LeadsTo state byte next = (rest : List ℕ) → (Follows state (byte ∷ rest) → Follows next rest) × (Follows next rest → Follows state (byte ∷ rest))

-- no number goes on with the byte
abbrev pub LeadsNowhere : NumberState → ℕ → Type 0
LeadsNowhere state byte = (rest : List ℕ) → Follows state (byte ∷ rest) → ⊥

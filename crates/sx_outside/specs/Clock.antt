-- What a clock that tells its moments to come answers.
use Rattle.std.specs.Prelude.{◌≡◌, ℤ, List, [], ◌∷◌, Option, None, Some}

-- The clock answers the first of its moments to come and takes it out, but keeps the last one.
abbrev pub Ticks : Option (List ℤ) → ℤ → Option (List ℤ) → Type 0
Ticks None now later = Unit {0}
Ticks (Some []) now later = ⊥
Ticks (Some (moment ∷ [])) now later = (now ≡ moment) × (later ≡ Some (moment ∷ []))
Ticks (Some (moment ∷ next ∷ more)) now later = (now ≡ moment) × (later ≡ Some (next ∷ more))

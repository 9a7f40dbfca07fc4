-- Objects that are valid at a time.
use Rattle.std.proofs.Common.{◌≡◌, ℕ, ℤ, pos, List, [], ◌∷◌, codes, refl}
use Rattle.jiff.proofs.OnLiterals.{jiff_on_literals}
use Rattle.sx_tree.specs.Value.{Value, array, object, no_fields, field_then}
use Rattle.sx_model.specs.Edit.{load}
use Rattle.sx_model.specs.Valid.{valid}
use Rattle.sx_model.proofs.Examples.{string, values, state_after}

-- [{"validFrom":"2024-01-01T00:00:00Z","validTo":"2025-01-01T00:00:00Z"},{"validFrom":"2024-06-01T00:00:00Z"}]
abbrev spans : Value
spans = array (values (
    object (field_then (codes "validFrom") (string (codes "2024-01-01T00:00:00Z")) (field_then (codes "validTo") (string (codes "2025-01-01T00:00:00Z")) no_fields))
    ∷ object (field_then (codes "validFrom") (string (codes "2024-06-01T00:00:00Z")) no_fields) ∷ []
    ))

abbrev at : ℤ → List ℕ
at t = valid (codes "validFrom") (codes "validTo") t (state_after (load spans ∷ [])).trees

-- a millisecond before the second one begins, where the first one holds
one : at (pos 1717199999999) ≡ 2 ∷ []
unfolding jiff_on_literals
one = refl

both : at (pos 1717200000000) ≡ 2 ∷ 7 ∷ []
unfolding jiff_on_literals
both = refl

-- at the instant at which the first one ends
ended : at (pos 1735689600000) ≡ 7 ∷ []
unfolding jiff_on_literals
ended = refl

none : at (pos 1704067199999) ≡ []
unfolding jiff_on_literals
none = refl

-- What each step of an edit leaves.
use Rattle.std.specs.Prelude.{ℕ, ◌≡◌, ◌≤◌, Bool, Option, None}
use Rattle.sx_bytes.specs.declared.damage.Damage.{Damage}

-- The mark stands as it did, no count of faults falls, the object below has no damage that it had not, and records that were told are told.
pub record GoesOn {V T : Type 0} (told : V → Option T) (faults : V → ℕ) (damages : V → Damage → Type 0) (has_mark : V → Bool) (marks : V → V → Type 0) (old new : V) : Type 0 where
  pub same_mark : has_mark new ≡ has_mark old
  pub same_marked : (a : V) → marks a old → marks a new
  pub never_falls : faults old ≤ faults new
  pub same_damages : (damage : Damage) → damages new damage → damages old damage
  pub still_told : told new ≡ None → told old ≡ None

-- A rule that is broken, and what is told of it.
use Rattle.std.specs.Prelude.{ℕ, List}
use Rattle.sx_bytes.specs.Damage.{wide}
use Rattle.sx_bytes.specs.declared.damage.Damage.{Damage}

-- the number of the rule, what it asks for and what stands there instead: two digests, or two numbers of 32 bytes
pub record Violation : Type 0 where
  pub rule : ℕ
  pub kept : List ℕ
  pub found : List ℕ

-- what is told of it at this place
abbrev pub damage_at : ℕ → Violation → Damage
damage_at place violation = record { place = place; rule = violation.rule; kept = violation.kept; found = violation.found }

-- the rule on a number, with the value or bound that it asks for, and the value that stands there
abbrev pub tell : ℕ → ℕ → ℕ → Violation
tell rule kept found = record { rule = rule; kept = wide kept; found = wide found }

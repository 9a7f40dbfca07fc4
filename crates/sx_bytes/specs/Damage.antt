-- What is told of a rule on a number.
use Rattle.std.specs.Prelude.{ℕ, List, ◌++◌, replicate}
use Rattle.std.specs.Int.{to_be_bytes, w64}
use Rattle.sx_bytes.specs.declared.damage.Damage.{Damage}

-- a number of 32 bytes, the highest first
abbrev pub wide : ℕ → List ℕ
wide n = replicate 24 0 ++ to_be_bytes w64 n

-- by the value or bound that the rule asks for, and the value that stands at the place
abbrev pub number_damage : ℕ → ℕ → ℕ → ℕ → Damage
number_damage place rule kept found = record { place = place; rule = rule; kept = wide kept; found = wide found }

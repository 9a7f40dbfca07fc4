-- Rules that are tested one after another.
use Rattle.std.specs.Prelude.{Bool, List, [], ◌∷◌, Option, None, Some, if◌then◌else◌}
use Rattle.sx_frame.specs.Violation.{Violation}

-- Of rules in their order, each with whether it is broken and what is then told, the first that is broken.
abbrev pub first_broken : List (Bool × Violation) → Option Violation
first_broken [] = None
first_broken (rule ∷ rules) = if rule.0 then Some rule.1 else first_broken rules

-- What the words behind the program's name give it to do.
use Rattle.std.specs.Prelude.{ℕ, List, Option, None, Some}
use Rattle.sx_shell.specs.declared.command.Wanted.{Wanted}
use Rattle.sx_shell.specs.declared.command.Wanted.TheVariants.{Live, Create, Show, Check}

-- the words want a command that runs no script
abbrev pub IsStill : Option Wanted → Type 0
IsStill None = ⊥
IsStill (Some (Live file)) = ⊥
IsStill (Some (Create file window from to)) = Unit {0}
IsStill (Some (Show file revision)) = Unit {0}
IsStill (Some (Check file)) = Unit {0}

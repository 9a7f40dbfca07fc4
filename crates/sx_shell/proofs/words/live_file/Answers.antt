use Rattle.std.proofs.Common.{◌≡◌, Some, map, refl, arith}
use Rattle.std.proofs.lemmas.Grind.{common_steps}
use Rattle.std.specs.String.{string_bytes}
use Rattle.sx_shell.specs.Words.{wanted}
use Rattle.sx_shell.specs.declared.command.Wanted.TheVariants.{Live}
use Rattle.sx_shell.proofs.words.live_file.Goals as goal

pub returns-in-Some-eq1-clause-live : goal.returns-in-Some-eq1-clause-live
returns-in-Some-eq1-clause-live c =
    let is : wanted (map string_bytes c.args.words.now) ≡ Some (Live c.in-Some-eq1.file.now) = grind (arith, common_steps) in
    (λ some. (c.in-Some-eq1.file.now, is), λ live. refl)

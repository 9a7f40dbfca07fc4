use Rattle.std.proofs.Common.{◌≡◌, ℕ, ◌<◌, ◌^◌, Option, IfSome, subst, arith}
use Rattle.std.specs.Fmt.{decimal}
use Rattle.sx_script.proofs.OneFront.{number_one}
use Rattle.sx_script.proofs.words.number.Goals as goal

pub returns-else-n-lt-NUMBERS-clause-none : goal.returns-else-n-lt-NUMBERS-clause-none
returns-else-n-lt-NUMBERS-clause-none c = λ n numbered.
    let found : (c.in-Some.n < 2 ^ 32) × (c.args.word.now ≡ decimal c.in-Some.n) =
    subst (λ (found : Option ℕ). IfSome found (λ m. (m < 2 ^ 32) × (c.args.word.now ≡ decimal m))) c.in-Some.is c.in_ok-n.ensures.found in
    let same : c.in-Some.n ≡ n = number_one c.args.word.now c.in-Some.n n found.0 found.1 numbered in
    absurd (omega (arith, same, numbered.0, c.if-n-lt-NUMBERS.false))

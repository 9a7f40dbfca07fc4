use Rattle.std.proofs.Common.{◌≡◌, rules}
use Rattle.std.specs.Prelude.{codes}
use Rattle.sx_script.proofs.Found.{at_none, none_told}
use Rattle.sx_script.proofs.Spelt.{no_query}
use Rattle.sx_script.proofs.questions.question.Goals as goal

pub returns-in-None-clause-none : goal.returns-in-None-clause-none
returns-in-None-clause-none c =
    let paths : c.args.text.now ≡ codes "paths" → ⊥ = search rules in
    no_query c.args.text.now
    (at_none c.in_ok-query.field-0 _ c.in_default.not-Some c.in_ok-query.ensures.none)
    (at_none c.in_ok-axis.field-0 _ c.in_default-2.not-Some c.in_ok-axis.ensures.none)
    (at_none c.in_ok-path.field-0 _ c.in_default-3.not-Some c.in_ok-path.ensures.none)
    (none_told c.in_ok-moment.field-0 _ c.in-None.is c.in_ok-moment.ensures.none) paths

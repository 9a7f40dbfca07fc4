use Rattle.sx_view.proofs.Failing.{rest-later}
use Rattle.sx_valid.specs.Valid.{IsBroken}
use Rattle.sx_valid.proofs.survey.Survey.search.Goals as goal

pub returns-clause-fault : goal.returns-clause-fault
returns-clause-fault g c =
    rest-later _ (λ x. IsBroken x c.args.count) _ _ _ _ _ _ _ (g.met.N.Records.keeps_damages _ _ c.in_ok-enter.ensures.keeps) c.in_ok-enter.ensures.same c.in_ok-enter.ensures.never_falls c.finish.ensures.fault

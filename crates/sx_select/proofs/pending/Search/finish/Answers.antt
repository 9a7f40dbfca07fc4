use Rattle.sx_view.proofs.Failing.{err-later}
use Rattle.sx_text.specs.Text.{IsBroken}
use Rattle.sx_select.proofs.pending.Search.finish.Goals as goal

pub returns-in_err-advance-clause-fault : goal.returns-in_err-advance-clause-fault
returns-in_err-advance-clause-fault g c =
    err-later _ (λ x. IsBroken x c.args.count) _ _ _ _ _ _ _ _ c.from_residual.ensures.1 (g.met.N.Records.keeps_damages _ _ c.loop-search.invariant.keeps)
    c.loop-search.invariant.same c.loop-search.invariant.never_falls c.in_err-advance.ensures.fault

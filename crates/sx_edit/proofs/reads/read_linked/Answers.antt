use Rattle.std.proofs.Common.{◌∙◌, sym}
use Rattle.sx_edit.proofs.Results.{err_again}
use Rattle.sx_edit.proofs.Going.{lost_link}
use Rattle.sx_edit.proofs.reads.read_linked.Goals as goal

pub returns-in_err-record-clause-fault : goal.returns-in_err-record-clause-fault
returns-in_err-record-clause-fault g c = λ next. err_again c.from_residual.result _ _ c.from_residual.ensures.1 (c.in_err-record.ensures.fault next)

pub returns-in-None-clause-fault : goal.returns-in-None-clause-fault
returns-in-None-clause-fault g c = λ next. lost_link next _ (g.N.Records.damages c.args.nodes.now) _ _ _ c.requires (λ m e. sym (c.in_ok-record.ensures.found m e) ∙ c.in-None.is) c.broken_link.ensures

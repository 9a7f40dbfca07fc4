use Rattle.sx_edit.proofs.Results.{err_again}
use Rattle.sx_edit.proofs.loading.document_child.Goals as goal

pub returns-in_err-entry-clause-fault : goal.returns-in_err-entry-clause-fault
returns-in_err-entry-clause-fault g c = λ next. err_again c.from_residual.result _ _ c.from_residual.ensures.1 (c.in_err-entry.ensures.fault next)

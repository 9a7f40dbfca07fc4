use Rattle.sx_edit.proofs.Results.{err_again}
use Rattle.sx_edit.proofs.Going.{reached-one}
use Rattle.sx_edit.proofs.Upward.{no-sight, sight-none, sight-some}
use Rattle.sx_edit.proofs.climb.sight.Goals as goal

pub read_linked-requires : goal.read_linked-requires
read_linked-requires g c = reached-one _ _ _ _ c.in-Some.is c.requires

pub returns-in_default-clause-sight : goal.returns-in_default-clause-sight
returns-in_default-clause-sight g c = sight-none _ _ c.in_default.is

pub returns-in_err-record-clause-cannot : goal.returns-in_err-record-clause-cannot
returns-in_err-record-clause-cannot g c = err_again c.from_residual.result _ _ c.from_residual.ensures.1 (λ damaged. no-sight _ _ _ c.in-Some.is (c.in_err-record.ensures.absent damaged))

pub returns-in_err-record-clause-fault : goal.returns-in_err-record-clause-fault
returns-in_err-record-clause-fault g c = λ next. err_again c.from_residual.result _ _ c.from_residual.ensures.1 (c.in_err-record.ensures.fault next)

pub returns-clause-sight : goal.returns-clause-sight
returns-clause-sight g c = sight-some _ _ _ c.in-Some.is c.in_ok-record.ensures.found

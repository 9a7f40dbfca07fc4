use Rattle.sx_edit.proofs.Pathing.{memory-stops}
use Rattle.sx_edit.proofs.insertion.path_into.Goals as goal

pub returns-in_err-step-clause-stops : goal.returns-in_err-step-clause-stops
returns-in_err-step-clause-stops c = memory-stops _ _ _ _ c.from_residual.result c.from_residual.ensures.1

pub returns-clause-fault : goal.returns-clause-fault
returns-clause-fault c = λ o table reach plus minus needs base drifts. c.step_onto.ensures.fault o table reach plus minus needs base drifts

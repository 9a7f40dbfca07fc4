use Rattle.sx_text.proofs.Failing.{fault_later}
use Rattle.sx_text.proofs.pen.Pen.advance.Goals as goal

pub returns-in-None-clause-fault : goal.returns-in-None-clause-fault
returns-in-None-clause-fault g c = fault_later _ _ _ c.leave.result (c.leave.ensures.fault c.args.count _ c.requires.read)

use Rattle.std.proofs.Common.{inr}
use Rattle.sx_edit.proofs.reads.parent_of.Goals as goal

pub returns-in-None-clause-fault : goal.returns-in-None-clause-fault
returns-in-None-clause-fault c = λ o next there below. inr (inr (c.args.node, (c.args.entry.now, (there, below, c.in-None.is, c.misplaced_kind.ensures))))

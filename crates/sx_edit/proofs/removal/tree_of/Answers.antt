use Rattle.std.proofs.Common.{arith}
use Rattle.sx_edit.proofs.Upward.{spent-tree}
use Rattle.sx_edit.proofs.removal.tree_of.Goals as goal

pub returns-in-None-clause-fault : goal.returns-in-None-clause-fault
returns-in-None-clause-fault c = λ o reach node_is there. spent-tree o reach c.args.node c.args.entry.now _ _ node_is there (omega arith) (omega arith) c.misplaced.ensures

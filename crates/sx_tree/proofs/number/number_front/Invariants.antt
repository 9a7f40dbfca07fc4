use Rattle.std.proofs.Common.{take}
use Rattle.sx_tree.proofs.NumberFronts.{Reaches}
use Rattle.sx_tree.proofs.number.number_front.Given as goal

abbrev pub invariant-loop-len : goal.invariant-loop-len
invariant-loop-len l = Reaches (take l.len l.bytes) l.state

use Rattle.std.proofs.Common.{length}
use Rattle.sx_select.proofs.Steps.{IsFront}
use Rattle.sx_select.proofs.path.steps_of.Given as goal

abbrev pub invariant-loop-rest : goal.invariant-loop-rest
invariant-loop-rest l = IsFront l.text l.rest l.steps

abbrev pub decreases-loop-rest : goal.decreases-loop-rest
decreases-loop-rest l = length l.rest

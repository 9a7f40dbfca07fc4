use Rattle.std.proofs.Common.{◌≡◌, ◌++◌, length}
use Rattle.sx_select.specs.Marks.{no_marks}
use Rattle.sx_select.proofs.level.Level.top.Given as goal

abbrev pub invariant-loop-rest : goal.invariant-loop-rest
invariant-loop-rest l = l.marks.items ++ no_marks l.rest ≡ no_marks l.fn.steps

abbrev pub decreases-loop-rest : goal.decreases-loop-rest
decreases-loop-rest l = length l.rest

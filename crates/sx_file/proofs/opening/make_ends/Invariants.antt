use Rattle.std.proofs.Common.{vec_len, ◌-◌, ◌≤◌}
use Rattle.sx_file.proofs.opening.make_ends.Given as goal

abbrev pub decreases-loop-ends : goal.decreases-loop-ends
decreases-loop-ends l = l.count - vec_len l.ends

abbrev pub invariant-loop-ends : goal.invariant-loop-ends
invariant-loop-ends l = vec_len l.ends ≤ l.count

use Rattle.std.proofs.Common.{vec_len, ◌-◌, ◌≤◌}
use Rattle.sx_rows.proofs.run.make_ends.Given as goal

abbrev pub decreases-loop-alloc : goal.decreases-loop-alloc
decreases-loop-alloc l = 32 - vec_len l.ends

abbrev pub invariant-loop-alloc : goal.invariant-loop-alloc
invariant-loop-alloc l = vec_len l.ends ≤ 32

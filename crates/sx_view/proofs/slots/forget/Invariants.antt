use Rattle.std.proofs.Common.{◌≡◌}
use Rattle.sx_view.specs.Slots.{held}
use Rattle.sx_view.proofs.slots.forget.Given as goal

abbrev pub invariant-loop-k : goal.invariant-loop-k
invariant-loop-k g l = held l.slots.entries ≡ held l.fn.slots.entries

abbrev pub decreases-loop-k : goal.decreases-loop-k
decreases-loop-k g l = goal.left-loop-k g l

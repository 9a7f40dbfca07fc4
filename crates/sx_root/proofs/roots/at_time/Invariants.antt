use Rattle.std.proofs.Common.{ℕ, ◌+◌, ◌<◌, ◌≤◌, length, ◌≤ℤ◌, ◌<ℤ◌}
use Rattle.sx_root.specs.Times.{time_of}
use Rattle.sx_root.proofs.roots.at_time.Given as goal

abbrev pub invariant-loop-left : goal.invariant-loop-left
invariant-loop-left g l = record {
  within : l.found + l.left ≤ length (g.L.Roots.times l.list);
  by_then : 1 ≤ l.found → time_of (g.L.Roots.times l.list) l.found ≤ℤ l.time;
  later : (r : ℕ) → l.found + l.left < r → r ≤ length (g.L.Roots.times l.list) → l.time <ℤ time_of (g.L.Roots.times l.list) r;
}

abbrev pub decreases-loop-left : goal.decreases-loop-left
decreases-loop-left g l = l.left

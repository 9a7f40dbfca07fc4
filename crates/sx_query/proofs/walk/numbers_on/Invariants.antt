use Rattle.std.proofs.Common.{◌≡◌, ◌≤◌}
use Rattle.sx_axes.specs.Gives.{Passes}
use Rattle.sx_query.proofs.walk.numbers_on.Given as goal

-- the walk has passed the numbers that are listed
abbrev pub invariant-loop-step : goal.invariant-loop-step
invariant-loop-step g l = record {
  passes : Passes (g.N.Records.told l.fn.nodes) l.initial.step-iterator.course l.numbers l.step-iterator.course;
  count : l.step-iterator.course.count ≡ l.count;
  lender : l.step-iterator.records.ghost_name ≡ l.initial.step-iterator.records.ghost_name;
  keeps : g.N.Records.keeps l.fn.nodes l.step-iterator.records.now;
  never_falls : g.N.Records.faults l.fn.nodes ≤ g.N.Records.faults l.step-iterator.records.now;
}

use Rattle.std.proofs.Common.{◌≡◌, ◌+◌, ◌≤◌, ℕ, drop, length}
use Rattle.sx_log.specs.Kept.{listed}
use Rattle.sx_outside.specs.Faults.{Rose}
use Rattle.sx_reader.specs.Asked.{ExplainsEach, KeepEach, asked_in}
use Rattle.sx_reader.specs.Cells.{placed_in}
use Rattle.sx_view.specs.declared.fault.Fault.{Fault}
use Rattle.sx_reader.proofs.check.check_frames.Given as goal

abbrev pub invariant-loop-group : goal.invariant-loop-group
invariant-loop-group g l = record {
  fits : l.before + length (placed_in (drop l.group-index (listed l.fn.log.groups))) ≡ length l.fn.cells;
  telling : g.E.ReadEnd.tells l.fn.end → g.E.ReadEnd.tells l.end;
  never_falls : g.E.ReadEnd.faults l.fn.end ≤ g.E.ReadEnd.faults l.end;
  kept : g.E.ReadEnd.tells l.fn.end → KeepEach g.S.Spot (asked_in l.before (drop l.group-index (listed l.fn.log.groups))) (drop l.before l.fn.cells)
      → KeepEach g.S.Spot (asked_in 0 (listed l.fn.log.groups)) l.fn.cells;
  fault : (n : ℕ) (fault : Fault) → ExplainsEach g.S.Spot (g.E.ReadEnd.tells l.fn.end) (Rose (g.E.ReadEnd.faults l.fn.end) n) (asked_in l.before (drop l.group-index (listed l.fn.log.groups))) (drop l.before l.fn.cells) fault
      → ExplainsEach g.S.Spot (g.E.ReadEnd.tells l.fn.end) (Rose (g.E.ReadEnd.faults l.fn.end) n) (asked_in 0 (listed l.fn.log.groups)) l.fn.cells fault;
}

use Rattle.std.proofs.Common.{◌≡◌, ◌+◌, ◌≤◌, ℕ, drop}
use Rattle.sx_outside.specs.Faults.{Rose}
use Rattle.sx_reader.specs.Asked.{ExplainsEach, KeepEach, asked_from}
use Rattle.sx_view.specs.declared.fault.Fault.{Fault}
use Rattle.sx_reader.proofs.check.check_group.Given as goal

abbrev pub invariant-loop-cell : goal.invariant-loop-cell
invariant-loop-cell g l = record {
  number : l.number ≡ l.fn.before + l.cell-index;
  telling : g.E.ReadEnd.tells l.fn.end → g.E.ReadEnd.tells l.end;
  never_falls : g.E.ReadEnd.faults l.fn.end ≤ g.E.ReadEnd.faults l.end;
  kept : g.E.ReadEnd.tells l.fn.end → KeepEach g.S.Spot (asked_from l.fn.node_root l.number (drop l.cell-index l.fn.cells)) (drop l.cell-index l.fn.cells)
      → KeepEach g.S.Spot (asked_from l.fn.node_root l.fn.before l.fn.cells) l.fn.cells;
  fault : (n : ℕ) (fault : Fault) → ExplainsEach g.S.Spot (g.E.ReadEnd.tells l.fn.end) (Rose (g.E.ReadEnd.faults l.fn.end) n) (asked_from l.fn.node_root l.number (drop l.cell-index l.fn.cells)) (drop l.cell-index l.fn.cells) fault
      → ExplainsEach g.S.Spot (g.E.ReadEnd.tells l.fn.end) (Rose (g.E.ReadEnd.faults l.fn.end) n) (asked_from l.fn.node_root l.fn.before l.fn.cells) l.fn.cells fault;
}

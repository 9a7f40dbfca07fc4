use Rattle.std.proofs.Common.{◌≡◌, ◌≤◌, ◌+◌, ◌-◌}
use Rattle.sx_log.specs.Calls.{OnlyReads}
use Rattle.sx_log.specs.Kept.{listed, rows_size}
use Rattle.sx_log.specs.Opening.{Begins}
use Rattle.sx_log.proofs.opening.read_groups.Given as goal

abbrev pub invariant-loop-log : goal.invariant-loop-log
invariant-loop-log g l = record {
  len : g.V.Volume.size l.volume ≡ l.len;
  begins : Begins (g.V.Volume.bytes l.fn.volume) (g.V.Volume.size l.fn.volume) l.log;
  counted : g.V.Volume.bytes_read l.volume ≤ g.V.Volume.bytes_read l.fn.volume + rows_size (listed l.log.groups);
  kept : OnlyReads g.V.Volume l.fn.volume l.volume;
  no_fault : g.V.Volume.faults l.volume ≡ g.V.Volume.faults l.fn.volume;
}

abbrev pub decreases-loop-log : goal.decreases-loop-log
decreases-loop-log g l = g.V.Volume.size l.fn.volume - l.log.end

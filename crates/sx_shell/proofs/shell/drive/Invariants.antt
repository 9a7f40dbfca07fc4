use Rattle.std.proofs.Common.{◌≡◌}
use Rattle.sx_layout.specs.Birth.{Birth}
use Rattle.sx_script.specs.Waiting.{nothing_taken}
use Rattle.sx_shell.specs.Done.{Continues, place}
use Rattle.sx_shell.specs.Medium.{EndsGoOn, medium}
use Rattle.sx_shell.specs.Progress.{Progress, Start}
use Rattle.sx_shell.specs.Shows.{IsReady}
use Rattle.sx_shell.proofs.shell.drive.Given as goal

abbrev pub invariant-loop : goal.invariant-loop
invariant-loop g l = record {
  same_reference : l.desk.writer.volume.ghost_name ≡ l.fn.desk.writer.volume.ghost_name;
  ready : IsReady g.V.Volume g.V.Spot.Spot l.desk.writer.volume.now l.desk.writer.ledger l.ends l.desk.revisions;
  continues : Continues g.V.Volume g.V.Spot.Spot l.fn.desk.writer.volume.now l.desk.writer.volume.now l.fn.desk.writer.ledger l.desk.writer.ledger;
  goes : EndsGoOn g.V.End.ReadEnd l.fn.ends l.ends;
  ran : (birth : Birth) (start : Start _) → Progress (medium birth g.V.Volume g.V.Spot.Spot g.V.End.ReadEnd) start (g.S.Source.left l.fn.source) nothing_taken (place l.fn.desk.writer.volume.now l.fn.desk.writer.ledger l.fn.ends l.fn.desk.revisions (g.K.Sink.written l.fn.sink) (g.C.Clock.moments l.fn.clock))
      → Progress (medium birth g.V.Volume g.V.Spot.Spot g.V.End.ReadEnd) start (g.S.Source.left l.source) l.reader (place l.desk.writer.volume.now l.desk.writer.ledger l.ends l.desk.revisions (g.K.Sink.written l.sink) (g.C.Clock.moments l.clock));
  source_faults : g.S.Source.faults l.source ≡ g.S.Source.faults l.fn.source;
  sink_faults : g.K.Sink.faults l.sink ≡ g.K.Sink.faults l.fn.sink;
}

use Rattle.std.proofs.Common.{◌∙◌, refl, subst, sym}
use Rattle.sx_shell.proofs.EndFaults.{ends_same, ends_then}
use Rattle.sx_shell.proofs.Still.{continues_still, continues_then}
use Rattle.sx_shell.proofs.StoreLaws.{grows_none}
use Rattle.sx_script.specs.Waiting.{Waiting}
use Rattle.sx_shell.specs.Done.{place}
use Rattle.sx_shell.specs.Medium.{medium}
use Rattle.sx_shell.specs.Progress.{Progress}
use Rattle.sx_shell.proofs.shell.drive.Goals as goal

pub returns-in-Some-advance-clause-continues : goal.returns-in-Some-advance-clause-continues
returns-in-Some-advance-clause-continues g c =
    continues_then g.V.Volume g.V.Spot.Spot c.args.desk.now.writer.volume.now c.loop.desk.writer.volume.now c.advance.new.desk.writer.volume.now c.args.desk.now.writer.ledger c.loop.desk.writer.ledger c.advance.new.desk.writer.ledger
    c.loop.invariant.continues c.in-Some-advance.ensures.continues

pub returns-in-Some-advance-clause-ends : goal.returns-in-Some-advance-clause-ends
returns-in-Some-advance-clause-ends g c = ends_then g.V.End.ReadEnd c.args.ends.now c.loop.ends c.advance.new.ends c.loop.invariant.goes c.in-Some-advance.ensures.ends

pub loop-init : goal.loop-init
loop-init g c = record {
  same_reference = refl;
  ready = c.requires.ready;
  continues = continues_still g.V.Volume g.V.Spot.Spot c.args.desk.now.writer.volume.now c.args.desk.now.writer.volume.now c.args.desk.now.writer.ledger c.args.desk.now.writer.ledger refl
      (g.met.V.Volume.counts_now c.args.desk.now.writer.volume.now) (g.met.V.Volume.only_now c.args.desk.now.writer.volume.now) refl (grows_none g.V.Spot.Spot c.args.desk.now.writer.ledger) refl;
  goes = ends_same g.V.End.ReadEnd c.args.ends.now;
  ran = λ birth start p. subst (λ (waiting : Waiting). Progress (medium birth g.V.Volume g.V.Spot.Spot g.V.End.ReadEnd) start (g.S.Source.left c.args.source.now) waiting (place c.args.desk.now.writer.volume.now c.args.desk.now.writer.ledger c.args.ends.now c.args.desk.now.revisions (g.K.Sink.written c.args.sink.now) (g.C.Clock.moments c.args.clock.now))) (sym c.new-reader.ensures) p;
  source_faults = refl;
  sink_faults = refl;
}

pub loop-preserved : goal.loop-preserved
loop-preserved g c = record {
  same_reference = c.in_default.ensures.same_reference ∙ c.loop.invariant.same_reference;
  ready = c.in_default.ensures.ready;
  continues = continues_then g.V.Volume g.V.Spot.Spot c.args.desk.now.writer.volume.now c.loop.desk.writer.volume.now c.advance.new.desk.writer.volume.now c.args.desk.now.writer.ledger c.loop.desk.writer.ledger c.advance.new.desk.writer.ledger
      c.loop.invariant.continues c.in_default.ensures.continues;
  goes = ends_then g.V.End.ReadEnd c.args.ends.now c.loop.ends c.advance.new.ends c.loop.invariant.goes c.in_default.ensures.ends;
  ran = λ birth start p. c.in_default.ensures.ran birth start (c.loop.invariant.ran birth start p);
  source_faults = c.in_default.ensures.no_read_fault tt ∙ c.loop.invariant.source_faults;
  sink_faults = c.in_default.ensures.no_write_fault tt ∙ c.loop.invariant.sink_faults;
}

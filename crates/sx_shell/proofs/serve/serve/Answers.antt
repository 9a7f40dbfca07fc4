use Rattle.std.proofs.Common.{None, refl, sym, subst}
use Rattle.sx_run.specs.Item.{IsSingle}
use Rattle.sx_run.specs.Reply.{reply_bytes}
use Rattle.sx_run.specs.Run.{Replies}
use Rattle.sx_run.specs.declared.line.Line.{Line}
use Rattle.sx_run.specs.declared.reply.Said.TheVariants as said
use Rattle.sx_shell.proofs.EndFaults.{ends_same}
use Rattle.sx_shell.proofs.Serving.{written_ended, skip_served, fixed_served, answered_served, goes_on}
use Rattle.sx_shell.specs.Done.{place}
use Rattle.sx_shell.specs.Medium.{medium, terms_of}
use Rattle.sx_store.specs.Shows.{stage_of}
use Rattle.sx_shell.proofs.serve.serve.Goals as goal

pub returns-in-Skip-clause-served : goal.returns-in-Skip-clause-served
returns-in-Skip-clause-served g c = λ birth course at.
    skip_served (medium birth g.V.Volume g.V.Spot.Spot g.V.End.ReadEnd) c.args.desk.now.writer.volume.now c.args.desk.now.writer.ledger c.args.ends.now c.args.desk.now.revisions (g.C.Clock.moments c.args.clock.now) course at.1 c.args.line.now (g.K.Sink.written c.args.sink.now) c.in-Skip.is

pub returns-in-Refused-clause-served : goal.returns-in-Refused-clause-served
returns-in-Refused-clause-served g c = λ birth course at.
    fixed_served (medium birth g.V.Volume g.V.Spot.Spot g.V.End.ReadEnd) c.args.desk.now.writer.volume.now c.args.desk.now.writer.ledger c.args.ends.now c.args.desk.now.revisions (g.C.Clock.moments c.args.clock.now) course at.1 c.args.line.now said.NoCommand
    (g.K.Sink.written c.args.sink.now) (g.K.Sink.written c.say.new.sink) c.say.result
    (subst IsSingle (sym c.in-Refused.is) tt) (subst (λ (l : Line). Replies (terms_of birth) course l (reply_bytes None said.NoCommand) course) (sym c.in-Refused.is) (refl, refl)) c.say.ensures.written

pub returns-in-BadJson-clause-served : goal.returns-in-BadJson-clause-served
returns-in-BadJson-clause-served g c = λ birth course at.
    fixed_served (medium birth g.V.Volume g.V.Spot.Spot g.V.End.ReadEnd) c.args.desk.now.writer.volume.now c.args.desk.now.writer.ledger c.args.ends.now c.args.desk.now.revisions (g.C.Clock.moments c.args.clock.now) course at.1 c.args.line.now (said.Json c.in-BadJson.fault)
    (g.K.Sink.written c.args.sink.now) (g.K.Sink.written c.say-in-BadJson.new.sink) c.say-in-BadJson.result
    (subst IsSingle (sym c.in-BadJson.is) tt) (subst (λ (l : Line). Replies (terms_of birth) course l (reply_bytes None (said.Json c.in-BadJson.fault)) course) (sym c.in-BadJson.is) (refl, refl)) c.say-in-BadJson.ensures.written

pub returns-in-Ok-clause-served : goal.returns-in-Ok-clause-served
returns-in-Ok-clause-served g c = λ birth course at.
    answered_served (medium birth g.V.Volume g.V.Spot.Spot g.V.End.ReadEnd) course
    (place c.args.desk.now.writer.volume.now c.args.desk.now.writer.ledger c.args.ends.now c.args.desk.now.revisions None (g.C.Clock.moments c.args.clock.now))
    (place c.run.new.self.writer.volume.now c.run.new.self.writer.ledger c.run.new.ends c.run.new.self.revisions None (g.C.Clock.moments c.run.new.clock))
    c.args.line.now c.in-Command.client c.in-Command.command c.in-Ok.said (g.K.Sink.written c.args.sink.now) (g.K.Sink.written c.say-in-Ok.new.sink) c.say-in-Ok.result c.in-Command.is
    (goes_on c.in-Command.command c.in_default.not-Quit) (c.in-Ok.ensures.answered birth course at) c.say-in-Ok.ensures.written

pub returns-in-Ok-clause-ended : goal.returns-in-Ok-clause-ended
returns-in-Ok-clause-ended g c =
    written_ended (stage_of c.run.new.self.writer.ledger) (reply_bytes None c.in-Ok.said) (g.K.Sink.written c.args.sink.now) (g.K.Sink.written c.say-in-Ok.new.sink) c.say-in-Ok.result c.say-in-Ok.ensures.written

pub returns-in-Skip-clause-ends : goal.returns-in-Skip-clause-ends
returns-in-Skip-clause-ends g c = ends_same g.V.End.ReadEnd c.args.ends.now

pub returns-in-Refused-clause-ends : goal.returns-in-Refused-clause-ends
returns-in-Refused-clause-ends g c = ends_same g.V.End.ReadEnd c.args.ends.now

pub returns-in-BadJson-clause-ends : goal.returns-in-BadJson-clause-ends
returns-in-BadJson-clause-ends g c = ends_same g.V.End.ReadEnd c.args.ends.now

pub returns-in-Quit-clause-ends : goal.returns-in-Quit-clause-ends
returns-in-Quit-clause-ends g c = ends_same g.V.End.ReadEnd c.args.ends.now

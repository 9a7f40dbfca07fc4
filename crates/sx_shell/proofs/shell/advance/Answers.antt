use Rattle.std.proofs.Common.{ℕ, List, inl, inr, refl, subst}
use Rattle.sx_run.specs.declared.line.Line.TheVariants as lines
use Rattle.sx_script.proofs.Following.{follow, follow_failed, follow_memory, given_front}
use Rattle.sx_script.specs.Waiting.{IsAtEnd, IsPulled, IsUnpulled}
use Rattle.sx_script.specs.declared.line_reader.PullFault.{PullFault}
use Rattle.sx_script.specs.declared.line_reader.Pulled.{Pulled}
use Rattle.sx_script.specs.declared.line_reader.Pulled.TheVariants as pulls
use Rattle.sx_shell.proofs.Advancing.{more_advanced, short_ended, line_advanced, still_ended, end_outcome, failed_outcome, leads_still}
use Rattle.sx_shell.proofs.EndFaults.{ends_same}
use Rattle.sx_shell.specs.Desk.{IsRead}
use Rattle.sx_shell.specs.Done.{place}
use Rattle.sx_shell.specs.Medium.{medium}
use Rattle.sx_shell.specs.declared.status.Status.TheVariants as status
use Rattle.sx_shell.proofs.shell.advance.Goals as goal

pub returns-in-Ok-Line-clause-ran : goal.returns-in-Ok-Line-clause-ran
returns-in-Ok-Line-clause-ran g c = λ birth start p.
    let before = g.S.Source.left c.args.source.now in
    let after = g.S.Source.left c.pull.new.source in
    let step = c.in-Ok-Line.ensures.pulled in
    let next = follow c.args.reader.now c.pull.new.self start.input p.rest step.0 p.given before after (pulls.Line c.in-Ok-Line.line) p.left_is step.2 p.at
    (subst (λ (pulled : Pulled). IsPulled c.args.reader.now step.0 (IsAtEnd before after) pulled c.pull.new.self) c.in-Ok-Line.field-0-is step.3) in
    line_advanced (medium birth g.V.Volume g.V.Spot.Spot g.V.End.ReadEnd) start before c.args.reader.now (place c.args.desk.now.writer.volume.now c.args.desk.now.writer.ledger c.args.ends.now c.args.desk.now.revisions (g.K.Sink.written c.args.sink.now) (g.C.Clock.moments c.args.clock.now)) p after next.0 c.pull.new.self
    (place c.read_line.new.desk.writer.volume.now c.read_line.new.desk.writer.ledger c.read_line.new.ends c.read_line.new.desk.revisions (g.K.Sink.written c.read_line.new.sink) (g.C.Clock.moments c.read_line.new.clock))
    next.1 (c.read_line.ensures.continues.told p.told) c.in-Ok-Line.line next.2 c.read_line.result
    (subst (λ (line : List ℕ). IsRead (medium birth g.V.Volume g.V.Spot.Spot g.V.End.ReadEnd) p.course line (place c.args.desk.now.writer.volume.now c.args.desk.now.writer.ledger c.args.ends.now c.args.desk.now.revisions (g.K.Sink.written c.args.sink.now) (g.C.Clock.moments c.args.clock.now))
    (place c.read_line.new.desk.writer.volume.now c.read_line.new.desk.writer.ledger c.read_line.new.ends c.read_line.new.desk.revisions (g.K.Sink.written c.read_line.new.sink) (g.C.Clock.moments c.read_line.new.clock)) c.read_line.result) c.as_slice.ensures (c.read_line.ensures.read birth p.course (p.told, p.shows)))

pub returns-in-Ok-Line-clause-read_fault : goal.returns-in-Ok-Line-clause-read_fault
returns-in-Ok-Line-clause-read_fault g c = λ is. absurd (c.read_line.ensures.no_read is)

pub returns-in-Ok-Long-clause-ran : goal.returns-in-Ok-Long-clause-ran
returns-in-Ok-Long-clause-ran g c = λ birth start p.
    let before = g.S.Source.left c.args.source.now in
    let after = g.S.Source.left c.pull.new.source in
    let step = c.in-Ok-Long.ensures.pulled in
    let next = follow c.args.reader.now c.pull.new.self start.input p.rest step.0 p.given before after pulls.Long p.left_is step.2 p.at
    (subst (λ (pulled : Pulled). IsPulled c.args.reader.now step.0 (IsAtEnd before after) pulled c.pull.new.self) c.in-Ok-Long.field-0-is step.3) in
    line_advanced (medium birth g.V.Volume g.V.Spot.Spot g.V.End.ReadEnd) start before c.args.reader.now (place c.args.desk.now.writer.volume.now c.args.desk.now.writer.ledger c.args.ends.now c.args.desk.now.revisions (g.K.Sink.written c.args.sink.now) (g.C.Clock.moments c.args.clock.now)) p after next.0 c.pull.new.self
    (place c.serve.new.desk.writer.volume.now c.serve.new.desk.writer.ledger c.serve.new.ends c.serve.new.desk.revisions (g.K.Sink.written c.serve.new.sink) (g.C.Clock.moments c.serve.new.clock))
    next.1 (c.serve.ensures.continues.told p.told) next.2.0 next.2.2 c.serve.result (inl (lines.Refused 0, inr (next.2.1, refl), c.serve.ensures.served birth p.course (p.told, p.shows)))

pub returns-in-Ok-Long-clause-read_fault : goal.returns-in-Ok-Long-clause-read_fault
returns-in-Ok-Long-clause-read_fault g c = λ is. absurd (c.serve.ensures.no_read is)

pub returns-in-Ok-More-clause-ran : goal.returns-in-Ok-More-clause-ran
returns-in-Ok-More-clause-ran g c = λ birth start p.
    let before = g.S.Source.left c.args.source.now in
    let after = g.S.Source.left c.pull.new.source in
    let step = c.in-Ok-More.ensures.pulled in
    let next = follow c.args.reader.now c.pull.new.self start.input p.rest step.0 p.given before after pulls.More p.left_is step.2 p.at
    (subst (λ (pulled : Pulled). IsPulled c.args.reader.now step.0 (IsAtEnd before after) pulled c.pull.new.self) c.in-Ok-More.field-0-is step.3) in
    more_advanced (medium birth g.V.Volume g.V.Spot.Spot g.V.End.ReadEnd) start before c.args.reader.now (place c.args.desk.now.writer.volume.now c.args.desk.now.writer.ledger c.args.ends.now c.args.desk.now.revisions (g.K.Sink.written c.args.sink.now) (g.C.Clock.moments c.args.clock.now)) p after next.0 c.pull.new.self
    (place c.args.desk.now.writer.volume.now c.args.desk.now.writer.ledger c.args.ends.now c.args.desk.now.revisions (g.K.Sink.written c.args.sink.now) (g.C.Clock.moments c.args.clock.now))
    next.1 p.told next.2 refl

pub returns-in-Ok-End-clause-ran : goal.returns-in-Ok-End-clause-ran
returns-in-Ok-End-clause-ran g c = λ birth start p.
    let before = g.S.Source.left c.args.source.now in
    let after = g.S.Source.left c.pull.new.source in
    let step = c.in-Ok-End.ensures.pulled in
    let next = follow c.args.reader.now c.pull.new.self start.input p.rest step.0 p.given before after pulls.End p.left_is step.2 p.at
    (subst (λ (pulled : Pulled). IsPulled c.args.reader.now step.0 (IsAtEnd before after) pulled c.pull.new.self) c.in-Ok-End.field-0-is step.3) in
    still_ended (medium birth g.V.Volume g.V.Spot.Spot g.V.End.ReadEnd) start before c.args.reader.now (place c.args.desk.now.writer.volume.now c.args.desk.now.writer.ledger c.args.ends.now c.args.desk.now.revisions (g.K.Sink.written c.args.sink.now) (g.C.Clock.moments c.args.clock.now)) p after next.0 c.pull.new.self
    (place c.args.desk.now.writer.volume.now c.args.desk.now.writer.ledger c.args.ends.now c.args.desk.now.revisions (g.K.Sink.written c.args.sink.now) (g.C.Clock.moments c.args.clock.now))
    next.1 p.told c.end.result (leads_still (medium birth g.V.Volume g.V.Spot.Spot g.V.End.ReadEnd) (place c.args.desk.now.writer.volume.now c.args.desk.now.writer.ledger c.args.ends.now c.args.desk.now.revisions (g.K.Sink.written c.args.sink.now) (g.C.Clock.moments c.args.clock.now)) (place c.args.desk.now.writer.volume.now c.args.desk.now.writer.ledger c.args.ends.now c.args.desk.now.revisions (g.K.Sink.written c.args.sink.now) (g.C.Clock.moments c.args.clock.now)) p.course refl p.shows.book) refl
    (end_outcome (medium birth g.V.Volume g.V.Spot.Spot g.V.End.ReadEnd) start before c.args.reader.now (place c.args.desk.now.writer.volume.now c.args.desk.now.writer.ledger c.args.ends.now c.args.desk.now.revisions (g.K.Sink.written c.args.sink.now) (g.C.Clock.moments c.args.clock.now)) p after next.0 c.pull.new.self
    (place c.args.desk.now.writer.volume.now c.args.desk.now.writer.ledger c.args.ends.now c.args.desk.now.revisions (g.K.Sink.written c.args.sink.now) (g.C.Clock.moments c.args.clock.now)) next.1 p.told c.end.result next.2.2 next.2.1 c.end.ensures.end)

pub returns-in-Err-Failed-clause-ran : goal.returns-in-Err-Failed-clause-ran
returns-in-Err-Failed-clause-ran g c = λ birth start p.
    let before = g.S.Source.left c.args.source.now in
    let after = g.S.Source.left c.pull.new.source in
    let step = c.in-Err-Failed.ensures.unpulled in
    let next = follow_failed c.args.reader.now c.pull.new.self start.input p.rest step.0 p.given before after p.left_is step.2 p.at
    (subst (λ (fault : PullFault). IsUnpulled c.args.reader.now step.0 fault c.pull.new.self) c.in-Err-Failed.field-0-is step.3) in
    still_ended (medium birth g.V.Volume g.V.Spot.Spot g.V.End.ReadEnd) start before c.args.reader.now (place c.args.desk.now.writer.volume.now c.args.desk.now.writer.ledger c.args.ends.now c.args.desk.now.revisions (g.K.Sink.written c.args.sink.now) (g.C.Clock.moments c.args.clock.now)) p after next.0 c.pull.new.self
    (place c.args.desk.now.writer.volume.now c.args.desk.now.writer.ledger c.args.ends.now c.args.desk.now.revisions (g.K.Sink.written c.args.sink.now) (g.C.Clock.moments c.args.clock.now))
    next.1 p.told status.ReadFault (leads_still (medium birth g.V.Volume g.V.Spot.Spot g.V.End.ReadEnd) (place c.args.desk.now.writer.volume.now c.args.desk.now.writer.ledger c.args.ends.now c.args.desk.now.revisions (g.K.Sink.written c.args.sink.now) (g.C.Clock.moments c.args.clock.now)) (place c.args.desk.now.writer.volume.now c.args.desk.now.writer.ledger c.args.ends.now c.args.desk.now.revisions (g.K.Sink.written c.args.sink.now) (g.C.Clock.moments c.args.clock.now)) p.course refl p.shows.book) refl
    (failed_outcome (medium birth g.V.Volume g.V.Spot.Spot g.V.End.ReadEnd) start before c.args.reader.now (place c.args.desk.now.writer.volume.now c.args.desk.now.writer.ledger c.args.ends.now c.args.desk.now.revisions (g.K.Sink.written c.args.sink.now) (g.C.Clock.moments c.args.clock.now)) p after next.0 c.pull.new.self
    (place c.args.desk.now.writer.volume.now c.args.desk.now.writer.ledger c.args.ends.now c.args.desk.now.revisions (g.K.Sink.written c.args.sink.now) (g.C.Clock.moments c.args.clock.now)) next.1 p.told next.3 next.4 next.5)

pub returns-in-Err-OutOfMemory-clause-ran : goal.returns-in-Err-OutOfMemory-clause-ran
returns-in-Err-OutOfMemory-clause-ran g c = λ birth start p.
    let before = g.S.Source.left c.args.source.now in
    let after = g.S.Source.left c.pull.new.source in
    let step = c.in-Err-OutOfMemory.ensures.unpulled in
    let next = follow_memory c.args.reader.now c.pull.new.self start.input p.rest step.0 p.given before after p.left_is step.2 p.at
    (subst (λ (fault : PullFault). IsUnpulled c.args.reader.now step.0 fault c.pull.new.self) c.in-Err-OutOfMemory.field-0-is step.3) in
    let front = given_front c.args.reader.now start.input p.rest p.given p.at in
    short_ended (medium birth g.V.Volume g.V.Spot.Spot g.V.End.ReadEnd) start before c.args.reader.now (place c.args.desk.now.writer.volume.now c.args.desk.now.writer.ledger c.args.ends.now c.args.desk.now.revisions (g.K.Sink.written c.args.sink.now) (g.C.Clock.moments c.args.clock.now)) p after next.0 c.pull.new.self
    (place c.args.desk.now.writer.volume.now c.args.desk.now.writer.ledger c.args.ends.now c.args.desk.now.revisions (g.K.Sink.written c.args.sink.now) (g.C.Clock.moments c.args.clock.now))
    next.1 p.told (leads_still (medium birth g.V.Volume g.V.Spot.Spot g.V.End.ReadEnd) (place c.args.desk.now.writer.volume.now c.args.desk.now.writer.ledger c.args.ends.now c.args.desk.now.revisions (g.K.Sink.written c.args.sink.now) (g.C.Clock.moments c.args.clock.now)) (place c.args.desk.now.writer.volume.now c.args.desk.now.writer.ledger c.args.ends.now c.args.desk.now.revisions (g.K.Sink.written c.args.sink.now) (g.C.Clock.moments c.args.clock.now)) p.course refl p.shows.book) refl front.0 front.1

pub returns-in-Ok-More-clause-ends : goal.returns-in-Ok-More-clause-ends
returns-in-Ok-More-clause-ends g c = ends_same g.V.End.ReadEnd c.args.ends.now

pub returns-in-Ok-End-clause-ends : goal.returns-in-Ok-End-clause-ends
returns-in-Ok-End-clause-ends g c = ends_same g.V.End.ReadEnd c.args.ends.now

pub returns-in-Err-Failed-clause-ends : goal.returns-in-Err-Failed-clause-ends
returns-in-Err-Failed-clause-ends g c = ends_same g.V.End.ReadEnd c.args.ends.now

pub returns-in-Err-OutOfMemory-clause-ends : goal.returns-in-Err-OutOfMemory-clause-ends
returns-in-Err-OutOfMemory-clause-ends g c = ends_same g.V.End.ReadEnd c.args.ends.now

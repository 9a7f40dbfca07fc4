use Rattle.std.proofs.Common.{ℕ, [], Ok, refl}
use Rattle.sx_run.specs.declared.line.Command.TheVariants as commands
use Rattle.sx_run.specs.declared.reply.Said.TheVariants as said
use Rattle.sx_shell.proofs.Desks.{answered_as, open_said, said_edits}
use Rattle.sx_shell.proofs.EndFaults.{ends_same}
use Rattle.sx_shell.proofs.Still.{birth_same}
use Rattle.sx_shell.specs.Medium.{medium}
use Rattle.sx_shell.proofs.desk.Desk.run.Goals as goal

pub returns-in-Edit-clause-answered : goal.returns-in-Edit-clause-answered
returns-in-Edit-clause-answered g c = λ birth course at.
    answered_as (medium birth g.V.Volume g.V.Spot.Spot g.V.End.ReadEnd) _ c.args.client c.args.command.now (commands.Edit c.in-Edit.edit) c.edit.result c.in-Edit.is
    (c.edit.ensures.answered birth (g.C.Clock.moments c.args.clock.now) course at)

pub returns-in-Rollback-clause-ends : goal.returns-in-Rollback-clause-ends
returns-in-Rollback-clause-ends g c = ends_same g.V.End.ReadEnd c.args.ends.now

pub returns-in-Rollback-clause-answered : goal.returns-in-Rollback-clause-answered
returns-in-Rollback-clause-answered g c = λ birth course at.
    answered_as {X = ℕ} (medium birth g.V.Volume g.V.Spot.Spot g.V.End.ReadEnd) _ c.args.client c.args.command.now commands.Rollback (Ok said.Done) c.in-Rollback.is (
      record course { book = record course.book { edits = [] } },
      (refl, refl),
      said_edits (medium birth g.V.Volume g.V.Spot.Spot g.V.End.ReadEnd) c.args.self.now.writer.volume.now c.args.self.now.writer.ledger c.args.ends.now c.args.self.now.revisions
          (g.C.Clock.moments c.args.clock.now) course at.1 c.rollback.new.self.volume.now c.rollback.new.self.ledger c.args.ends.now [] c.rollback.ensures.same_volume
          (birth_same c.args.self.now.writer.ledger c.rollback.new.self.ledger c.rollback.ensures.same) (ends_same g.V.End.ReadEnd c.args.ends.now) (c.rollback.ensures.dropped course.book at.1.book),
    )

pub returns-in-Commit-clause-answered : goal.returns-in-Commit-clause-answered
returns-in-Commit-clause-answered g c = λ birth course at.
    answered_as (medium birth g.V.Volume g.V.Spot.Spot g.V.End.ReadEnd) _ c.args.client c.args.command.now commands.Commit c.commit.result c.in-Commit.is (c.commit.ensures.answered birth course at)

pub returns-in-Open-clause-ends : goal.returns-in-Open-clause-ends
returns-in-Open-clause-ends g c = ends_same g.V.End.ReadEnd c.args.ends.now

pub returns-in-Open-clause-answered : goal.returns-in-Open-clause-answered
returns-in-Open-clause-answered g c = λ birth course at.
    answered_as {X = ℕ} (medium birth g.V.Volume g.V.Spot.Spot g.V.End.ReadEnd) _ c.args.client c.args.command.now (commands.Open c.in-Open.which) (Ok c.open.result) c.in-Open.is
    (open_said (medium birth g.V.Volume g.V.Spot.Spot g.V.End.ReadEnd) c.args.self.now.writer.volume.now c.args.self.now.writer.ledger c.args.ends.now c.args.self.now.revisions
    (g.C.Clock.moments c.args.clock.now) course at.1 c.args.client c.count-seen.result c.in-Open.which c.open.result c.open.new.revisions (c.count-seen.ensures.shown course.book at.1.book) c.open.ensures.opens)

pub returns-in-Ask-clause-answered : goal.returns-in-Ask-clause-answered
returns-in-Ask-clause-answered g c = λ birth course at.
    answered_as (medium birth g.V.Volume g.V.Spot.Spot g.V.End.ReadEnd) _ c.args.client c.args.command.now (commands.Ask c.in-Ask.query) c.ask.result c.in-Ask.is
    (c.ask.ensures.answered birth (g.C.Clock.moments c.args.clock.now) course at)

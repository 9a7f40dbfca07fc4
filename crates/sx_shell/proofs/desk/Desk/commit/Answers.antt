use Rattle.std.proofs.Common.{arith, refl, subst, get_or, ap}
use Rattle.sx_layout.specs.Birth.{Birth}
use Rattle.sx_run.specs.Run.{next_commit}
use Rattle.sx_shell.proofs.Commits.{Ends, OnlyReads, but_draft, commit_answered, commit_continues, ends_on}
use Rattle.sx_shell.proofs.EndFaults.{tells_at}
use Rattle.sx_shell.proofs.Still.{when_some}
use Rattle.sx_shell.specs.Medium.{medium}
use Rattle.sx_store.specs.Commits.{Leaves}
use Rattle.sx_store.specs.Shows.{stage_of}
use Rattle.sx_shell.proofs.desk.Desk.commit.Given.{Over}
use Rattle.sx_shell.proofs.desk.Desk.commit.Goals as goal
use Rattle.sx_shell.proofs.desk.Desk.commit.Goals.{After-committed_said}

ends_of : (g : Over) (c : After-committed_said g) → Ends g.V.Volume g.V.Spot.Spot c.args.self.now.writer.volume.now c.commit.new.self.volume.now c.args.self.now.writer.ledger c.commit.new.self.ledger c.commit.result
ends_of g c = record {
  sound = c.commit.ensures.sound;
  goes_on = c.commit.ensures.goes_on;
  fails = c.commit.ensures.fails;
  stopped = c.commit.ensures.stopped;
  same_stopped = c.commit.ensures.same_stopped;
  same_ledger = but_draft _ c.args.self.now.writer.ledger c.commit.new.self.ledger c.commit.result c.commit.ensures.same_ledger;
  same_volume = c.commit.ensures.same_volume;
  same_birth = c.commit.ensures.same_birth;
  grows = c.commit.ensures.grows;
  keeps = c.commit.ensures.keeps;
  told = c.commit.ensures.told;
  time = c.commit.ensures.time;
  cause = c.commit.ensures.cause;
  no_fault = c.commit.ensures.no_fault;
  never_falls = c.commit.ensures.never_falls;
}

-- the client's end, and no other, is read
read_of : (g : Over) (c : After-committed_said g) → OnlyReads g.V.End.ReadEnd (record { ends = c.args.ends.now; client = c.args.client; old = get_or c.args.ends.now c.args.client c.index-ends-client.result; new = c.commit.new.end })
read_of g c = record {
  known = let known = c.requires.known in let each = c.requires.ready.each in omega (arith, known, each);
  is = ap (λ end. get_or c.args.ends.now c.args.client end) c.index-ends-client.is;
  tells_on = c.commit.ensures.goes_on_telling;
  more = c.commit.ensures.end_never_falls;
}

pub returns-clause-ends : goal.returns-clause-ends
returns-clause-ends g c = ends_on g.V.End.ReadEnd (record { ends = c.args.ends.now; client = c.args.client; old = get_or c.args.ends.now c.args.client c.index-ends-client.result; new = c.commit.new.end }) (read_of g c)

pub returns-clause-continues : goal.returns-clause-continues
returns-clause-continues g c =
    commit_continues g.V.Volume g.V.Spot.Spot c.args.self.now.writer.volume.now c.commit.new.self.volume.now c.args.self.now.writer.ledger c.commit.new.self.ledger c.commit.result (ends_of g c)

pub returns-clause-answered : goal.returns-clause-answered
returns-clause-answered g c = λ birth course at.
    let read = read_of g c in
    let tells = tells_at g.V.End.ReadEnd c.args.ends.now c.args.client (get_or c.args.ends.now c.args.client c.index-ends-client.result) read.known read.is at.1.tell in
    let old = c.args.self.now.writer.volume.now in
    let new = c.commit.new.self.volume.now in
    commit_answered (medium birth g.V.Volume g.V.Spot.Spot g.V.End.ReadEnd) old new c.args.self.now.writer.ledger c.commit.new.self.ledger
    (record { ends = c.args.ends.now; client = c.args.client; old = get_or c.args.ends.now c.args.client c.index-ends-client.result; new = c.commit.new.end }) read c.args.self.now.revisions
    (g.C.Clock.moments c.args.clock.now) (g.C.Clock.moments c.commit.new.clock) course at.1 at.0 (g.met.V.Volume.only_now new) c.commit.ensures.same_clock
    c.commit.result c.committed_said.result (ends_of g c) c.commit.ensures.read_failed
    (λ going.
    let went = c.commit.ensures.commits tells course.book at.1.book going in
    let both = when_some (g.V.Volume.bytes old) at.0 went.3 in (
      went.0,
      went.1,
      went.2,
      both.0,
      subst (λ (b : Birth). Leaves b course.book (next_commit course.book went.0) c.commit.result (g.V.Volume.moment old) (g.V.Volume.was_image new) (g.V.Volume.synced new)) at.1.birth both.1,
    )) c.committed_said.ensures.said (stage_of c.args.self.now.writer.ledger) refl

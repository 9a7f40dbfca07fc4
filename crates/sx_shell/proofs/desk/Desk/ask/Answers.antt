use Rattle.std.proofs.Common.{◌≡◌, ◌∙◌, ℕ, List, get_or, ap, arith}
use Rattle.sx_run.specs.Run.{client_of}
use Rattle.sx_shell.proofs.Commits.{OnlyReads, ask_answered, ends_on}
use Rattle.sx_shell.proofs.Desks.{revision_at}
use Rattle.sx_shell.proofs.EndFaults.{tells_at}
use Rattle.sx_shell.specs.Medium.{medium}
use Rattle.sx_shell.proofs.desk.Desk.ask.Given.{Over}
use Rattle.sx_shell.proofs.desk.Desk.ask.Goals as goal
use Rattle.sx_shell.proofs.desk.Desk.ask.Goals.{After-asked_said}

-- the client's end, and no other, is read
read_of : (g : Over) (c : After-asked_said g) → OnlyReads g.V.End.ReadEnd (record { ends = c.args.ends.now; client = c.args.client; old = get_or c.args.ends.now c.args.client c.index-ends-client.result; new = c.answer.new.end })
read_of g c = record {
  known = let known = c.requires.known in let each = c.requires.ready.each in omega (arith, known, each);
  is = ap (λ end. get_or c.args.ends.now c.args.client end) c.index-ends-client.is;
  tells_on = c.answer.ensures.goes_on_telling;
  more = c.answer.ensures.never_falls;
}

pub returns-clause-ends : goal.returns-clause-ends
returns-clause-ends g c = ends_on g.V.End.ReadEnd (record { ends = c.args.ends.now; client = c.args.client; old = get_or c.args.ends.now c.args.client c.index-ends-client.result; new = c.answer.new.end }) (read_of g c)

pub returns-clause-answered : goal.returns-clause-answered
returns-clause-answered g c = λ birth moments course at.
    let read = read_of g c in
    let tells = tells_at g.V.End.ReadEnd c.args.ends.now c.args.client (get_or c.args.ends.now c.args.client c.index-ends-client.result) read.known read.is at.1.tell in
    let revision : get_or c.args.self.now.revisions c.args.client 0 ≡ (client_of course c.args.client).revision =
    ap (λ (values : List ℕ). get_or values c.args.client 0) at.1.clients ∙ revision_at course.clients c.args.client in
    ask_answered (medium birth g.V.Volume g.V.Spot.Spot g.V.End.ReadEnd) c.args.self.now.writer.volume.now c.args.self.now.writer.ledger
    (record { ends = c.args.ends.now; client = c.args.client; old = get_or c.args.ends.now c.args.client c.index-ends-client.result; new = c.answer.new.end }) read c.args.self.now.revisions moments course at.1 c.args.query.now
    (get_or c.args.self.now.revisions c.args.client 0) revision c.answer.result c.asked_said.result c.answer.ensures.failed (c.answer.ensures.answers tells course.book at.1.book) c.asked_said.ensures.said

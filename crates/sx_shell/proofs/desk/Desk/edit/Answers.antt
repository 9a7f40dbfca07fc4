use Rattle.std.proofs.Common.{arith, refl, get_or, ap}
use Rattle.sx_shell.proofs.Commits.{OnlyReads, edit_answered, ends_on}
use Rattle.sx_shell.proofs.EndFaults.{tells_at}
use Rattle.sx_shell.proofs.Still.{birth_same}
use Rattle.sx_shell.specs.Medium.{medium}
use Rattle.sx_store.specs.Shows.{stage_of}
use Rattle.sx_shell.proofs.desk.Desk.edit.Given.{Over}
use Rattle.sx_shell.proofs.desk.Desk.edit.Goals as goal
use Rattle.sx_shell.proofs.desk.Desk.edit.Goals.{After-edit_said}

-- the client's end, and no other, is read
read_of : (g : Over) (c : After-edit_said g) → OnlyReads g.V.End.ReadEnd (record { ends = c.args.ends.now; client = c.args.client; old = get_or c.args.ends.now c.args.client c.index-ends-client.result; new = c.edit.new.end })
read_of g c = record {
  known = let known = c.requires.known in let each = c.requires.ready.each in omega (arith, known, each);
  is = ap (λ end. get_or c.args.ends.now c.args.client end) c.index-ends-client.is;
  tells_on = c.edit.ensures.goes_on_telling;
  more = c.edit.ensures.never_falls;
}

pub returns-clause-ends : goal.returns-clause-ends
returns-clause-ends g c = ends_on g.V.End.ReadEnd (record { ends = c.args.ends.now; client = c.args.client; old = get_or c.args.ends.now c.args.client c.index-ends-client.result; new = c.edit.new.end }) (read_of g c)

pub returns-clause-answered : goal.returns-clause-answered
returns-clause-answered g c = λ birth moments course at.
    let read = read_of g c in
    let tells = tells_at g.V.End.ReadEnd c.args.ends.now c.args.client (get_or c.args.ends.now c.args.client c.index-ends-client.result) read.known read.is at.1.tell in
    edit_answered (medium birth g.V.Volume g.V.Spot.Spot g.V.End.ReadEnd) c.args.self.now.writer.volume.now c.edit.new.self.volume.now c.args.self.now.writer.ledger c.edit.new.self.ledger
    (record { ends = c.args.ends.now; client = c.args.client; old = get_or c.args.ends.now c.args.client c.index-ends-client.result; new = c.edit.new.end }) read c.args.self.now.revisions moments course at.1 c.edit.ensures.same_volume
    (birth_same c.args.self.now.writer.ledger c.edit.new.self.ledger c.edit.ensures.same) c.args.edit.now c.edit.ensures.same_stopped c.edit.result c.edit_said.result c.edit.ensures.stopped c.edit.ensures.failed
    (λ going. c.edit.ensures.edited tells course.book at.1.book going) c.edit_said.ensures.said (stage_of c.args.self.now.writer.ledger) refl

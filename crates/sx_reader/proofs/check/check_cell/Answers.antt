use Rattle.std.proofs.Common.{subst}
use Rattle.std.specs.Prelude.{Bool}
use Rattle.std.proofs.Common.{sym}
use Rattle.sx_reader.specs.Asked.{KeepsAsking}
use Rattle.sx_reader.proofs.Keeping.{document-asking, frame-asking}
use Rattle.sx_reader.proofs.check.check_cell.Goals as goal

pub returns-in_ok-read_whole-clause-kept : goal.returns-in_ok-read_whole-clause-kept
returns-in_ok-read_whole-clause-kept g c now =
    let read = c.in_ok-read_whole.ensures.document in
    subst (λ (b : Bool). KeepsAsking g.S.Spot b c.args.cell.now) (sym c.if-whole.true)
    (document-asking g.S.Spot (g.E.ReadEnd.tells c.args.end.now) c.args.cell.now read.0 _ read.1 read.2 now)

pub returns-in_ok-read_frame-clause-kept : goal.returns-in_ok-read_frame-clause-kept
returns-in_ok-read_frame-clause-kept g c now =
    subst (λ (b : Bool). KeepsAsking g.S.Spot b c.args.cell.now) (sym c.if-whole.false)
    (frame-asking g.S.Spot (g.E.ReadEnd.tells c.args.end.now) c.args.cell.now _ c.in_ok-read_frame.ensures.frame c.in_ok-read_frame.ensures.whole now)

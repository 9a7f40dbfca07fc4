use Rattle.std.proofs.Common.{arith}
use Rattle.sx_store.proofs.Telling.{cells-shown}
use Rattle.sx_store.proofs.Wholes.{numbers}
use Rattle.sx_store.proofs.ledger.Ledger.frames.Goals as goal

pub overflow_cast-result : goal.overflow_cast-result
overflow_cast-result g c =
    let all = numbers g.S.Spot c.args.self.now c.requires.whole in
    omega (arith, all.cells, all.frames, c.len.ensures)

pub returns-clause-frames : goal.returns-clause-frames
returns-clause-frames g c =
    let all = numbers g.S.Spot c.args.self.now c.requires.whole in
    omega (arith, all.cells, c.len.ensures)

pub returns-clause-shown : goal.returns-clause-shown
returns-clause-shown g c book shows =
    let all = cells-shown g.S.Spot c.args.self.now book shows in
    omega (arith, all, c.len.ensures)

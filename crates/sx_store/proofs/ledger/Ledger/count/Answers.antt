use Rattle.std.proofs.Common.{◌∙◌, ap, arith, length}
use Rattle.sx_store.proofs.Telling.{count-shown}
use Rattle.sx_store.proofs.Wholes.{numbers}
use Rattle.sx_store.proofs.ledger.Ledger.count.Goals as goal

pub overflow_cast-result : goal.overflow_cast-result
overflow_cast-result g c =
    let all = numbers g.S.Spot c.args.self.now c.requires.whole in
    let long = ap length c.as_slice.ensures in
    omega (arith, all.count, long)

pub returns-clause-shown : goal.returns-clause-shown
returns-clause-shown g c book shows = ap length c.as_slice.ensures ∙ count-shown g.S.Spot c.args.self.now book shows

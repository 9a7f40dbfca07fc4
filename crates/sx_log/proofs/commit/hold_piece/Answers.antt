use Rattle.std.proofs.Common.{rules}
use Rattle.sx_log.proofs.Behind.{holds_then}
use Rattle.sx_log.specs.Committing.{OnlyHolds}
use Rattle.sx_log.proofs.commit.hold_piece.Goals as goal

pub returns-clause-only : goal.returns-clause-only
returns-clause-only g c =
    let first : OnlyHolds g.V.Volume c.args.volume.now c.ready.new.self = search rules in
    let second : OnlyHolds g.V.Volume c.ready.new.self c.hold.new.self = search rules in
    holds_then g.V.Volume c.args.volume.now c.ready.new.self c.hold.new.self (g.met.V.Volume.counts_now c.ready.new.self) first second

use Rattle.std.proofs.Common.{refl}
use Rattle.sx_log.proofs.Committed.{keeps_held}
use Rattle.sx_log.proofs.commit.hold.Goals as goal

pub returns-in_err-hold_piece-clause-keeps : goal.returns-in_err-hold_piece-clause-keeps
returns-in_err-hold_piece-clause-keeps g c = λ groups keeps.
    keeps_held g.V.Volume c.args.log.now _ c.args.volume.now c.hold_piece.new.volume (record { birth = refl; rows = c.reserve.ensures.items; end = refl }) groups (g.met.V.Volume.counts_now c.hold_piece.new.volume) c.hold_piece.ensures.only keeps

pub returns-clause-keeps : goal.returns-clause-keeps
returns-clause-keeps g c = λ groups keeps.
    keeps_held g.V.Volume c.args.log.now _ c.args.volume.now c.hold_piece.new.volume (record { birth = refl; rows = c.reserve.ensures.items; end = refl }) groups (g.met.V.Volume.counts_now c.hold_piece.new.volume) c.hold_piece.ensures.only keeps

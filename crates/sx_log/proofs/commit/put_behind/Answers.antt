use Rattle.std.proofs.Common.{◌+◌, length, arith}
use Rattle.sx_log.proofs.Behind.{then_appends, then_within}
use Rattle.sx_log.specs.Committing.{IsBehind}
use Rattle.sx_volume.specs.Held.{held_piece}
use Rattle.sx_volume.specs.Images.{Follows}
use Rattle.sx_log.proofs.commit.put_behind.Goals as goal

pub returns-in_err-append-clause-images : goal.returns-in_err-append-clause-images
returns-in_err-append-clause-images g c =
    then_appends g.V.Volume c.args.gate c.args.volume.now c.cut_behind.new.volume c.append.new.self c.cut_behind.ensures.on.time.later (g.met.V.Volume.counts_now c.cut_behind.new.volume) c.cut_behind.ensures.images c.append.ensures.time
    (g.V.Volume.size c.cut_behind.new.volume + length (held_piece (g.V.Volume.held c.cut_behind.new.volume))) c.append.ensures.images

pub returns-clause-images : goal.returns-clause-images
returns-clause-images g c =
    let appended : Follows (IsBehind c.args.gate) (g.V.Volume.is_image c.args.volume.now) (g.V.Volume.was_image c.append.new.self (g.V.Volume.moment c.args.volume.now)) =
    then_appends g.V.Volume c.args.gate c.args.volume.now c.cut_behind.new.volume c.append.new.self c.cut_behind.ensures.on.time.later (g.met.V.Volume.counts_now c.cut_behind.new.volume) c.cut_behind.ensures.images c.append.ensures.time
    (g.V.Volume.size c.cut_behind.new.volume + length (held_piece (g.V.Volume.held c.cut_behind.new.volume))) c.append.ensures.images in
    then_within g.V.Volume c.args.gate c.args.volume.now c.append.new.self c.sync.new.self (omega (arith, c.cut_behind.ensures.on.time.later, c.append.ensures.time.later)) (g.met.V.Volume.counts_now c.append.new.self) appended c.sync.ensures.time c.sync.ensures.images

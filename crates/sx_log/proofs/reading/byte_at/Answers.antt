use Rattle.sx_log.proofs.Placed.{byte_read}
use Rattle.sx_log.proofs.reading.byte_at.Goals as goal

pub returns-clause-byte : goal.returns-clause-byte
returns-clause-byte g c =
    byte_read (g.V.Volume.bytes c.args.volume.now) (g.V.Volume.size c.args.volume.now) c.args.place c.read_at.new.room (g.met.V.Volume.told_size c.args.volume.now) c.requires c.in_ok-read_at.ensures.filled

use Rattle.std.proofs.Common.{rules, arith}
use Rattle.sx_log.proofs.Finding.{short_told}
use Rattle.sx_log.proofs.reading.find_birth.Goals as goal

pub returns-in_default-clause-found : goal.returns-in_default-clause-found
returns-in_default-clause-found g c =
    short_told (g.V.Volume.bytes c.args.volume.now) (g.V.Volume.size c.args.volume.now) c.in_ok-first.first (g.met.V.Volume.told_size c.args.volume.now) (omega (arith, c.len-len.ensures.value)) (omega (arith, c.len-len.ensures.value)) c.in_ok-first.ensures.byte (search rules)

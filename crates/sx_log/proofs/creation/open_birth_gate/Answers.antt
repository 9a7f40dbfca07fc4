use Rattle.sx_layout.specs.Born.{StandsForNone}
use Rattle.sx_log.proofs.Made.{part_puts, step_images, then_same}
use Rattle.sx_volume.specs.Images.{Puts}
use Rattle.sx_log.proofs.creation.open_birth_gate.Goals as goal

pub returns-in_err-put_byte-clause-images : goal.returns-in_err-put_byte-clause-images
returns-in_err-put_byte-clause-images g c =
    step_images (Puts 0) StandsForNone (g.V.Volume.bytes c.args.volume.now) (g.V.Volume.is_image c.args.volume.now) (g.V.Volume.was_image c.put_byte.new.self (g.V.Volume.moment c.args.volume.now)) c.requires.settled (part_puts (g.V.Volume.bytes c.args.volume.now) c.requires.part) c.put_byte.ensures.images

pub returns-clause-images : goal.returns-clause-images
returns-clause-images g c =
    then_same StandsForNone (g.V.Volume.bytes c.args.volume.now) (g.V.Volume.moment c.args.volume.now) (g.V.Volume.moment c.put_byte.new.self) (g.V.Volume.moment c.sync.new.self) (g.V.Volume.is_image c.put_byte.new.self) (g.V.Volume.was_image c.put_byte.new.self) (g.V.Volume.was_image c.sync.new.self)
    (g.V.Volume.synced c.put_byte.new.self) (g.V.Volume.synced c.sync.new.self) c.put_byte.ensures.time.later (λ d image. g.met.V.Volume.counts_now c.put_byte.new.self (g.V.Volume.moment c.args.volume.now) d c.put_byte.ensures.time.later image)
    (step_images (Puts 0) StandsForNone (g.V.Volume.bytes c.args.volume.now) (g.V.Volume.is_image c.args.volume.now) (g.V.Volume.was_image c.put_byte.new.self (g.V.Volume.moment c.args.volume.now)) c.requires.settled (part_puts (g.V.Volume.bytes c.args.volume.now) c.requires.part) c.put_byte.ensures.images)
    c.sync.ensures.images c.sync.ensures.time

use Rattle.sx_layout.specs.Born.{StandsForNone}
use Rattle.sx_log.proofs.Made.{then_same}
use Rattle.sx_log.proofs.creation.close_birth_gate.Goals as goal

pub returns-in_err-sync-clause-images : goal.returns-in_err-sync-clause-images
returns-in_err-sync-clause-images g c =
    then_same StandsForNone (g.V.Volume.bytes c.args.volume.now) (g.V.Volume.moment c.args.volume.now) (g.V.Volume.moment c.shut_birth_gate.new.volume) (g.V.Volume.moment c.sync.new.self) (g.V.Volume.is_image c.shut_birth_gate.new.volume) (g.V.Volume.was_image c.shut_birth_gate.new.volume) (g.V.Volume.was_image c.sync.new.self)
    (g.V.Volume.synced c.shut_birth_gate.new.volume) (g.V.Volume.synced c.sync.new.self) c.shut_birth_gate.ensures.on.time.later (λ d image. g.met.V.Volume.counts_now c.shut_birth_gate.new.volume (g.V.Volume.moment c.args.volume.now) d c.shut_birth_gate.ensures.on.time.later image)
    c.shut_birth_gate.ensures.images c.sync.ensures.images c.sync.ensures.time

pub returns-clause-images : goal.returns-clause-images
returns-clause-images g c =
    then_same StandsForNone (g.V.Volume.bytes c.args.volume.now) (g.V.Volume.moment c.args.volume.now) (g.V.Volume.moment c.shut_birth_gate.new.volume) (g.V.Volume.moment c.sync.new.self) (g.V.Volume.is_image c.shut_birth_gate.new.volume) (g.V.Volume.was_image c.shut_birth_gate.new.volume) (g.V.Volume.was_image c.sync.new.self)
    (g.V.Volume.synced c.shut_birth_gate.new.volume) (g.V.Volume.synced c.sync.new.self) c.shut_birth_gate.ensures.on.time.later (λ d image. g.met.V.Volume.counts_now c.shut_birth_gate.new.volume (g.V.Volume.moment c.args.volume.now) d c.shut_birth_gate.ensures.on.time.later image)
    c.shut_birth_gate.ensures.images c.sync.ensures.images c.sync.ensures.time

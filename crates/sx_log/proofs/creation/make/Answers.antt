use Rattle.std.proofs.Common.{◌∷◌}
use Rattle.std.specs.Arc.{arc_value}
use Rattle.sx_layout.specs.Born.{StandsForNone}
use Rattle.sx_log.proofs.Made.{made_told, shut_none, some_mapped, then_images}
use Rattle.sx_volume.proofs.Images.{elapses_then}
use Rattle.sx_log.proofs.creation.make.Goals as goal

pub returns-in_err-write_part-clause-images : goal.returns-in_err-write_part-clause-images
returns-in_err-write_part-clause-images g c =
    let bytes = g.V.Volume.bytes c.args.volume.now in
    let closed = g.V.Volume.bytes c.close_birth_gate.new.volume in
    let written = then_images StandsForNone bytes closed (g.V.Volume.moment c.args.volume.now) (g.V.Volume.moment c.close_birth_gate.new.volume) (g.V.Volume.moment c.write_part.new.volume) (g.V.Volume.was_image c.close_birth_gate.new.volume) (g.V.Volume.was_image c.write_part.new.volume) (g.V.Volume.synced c.close_birth_gate.new.volume) (g.V.Volume.synced c.write_part.new.volume)
    c.close_birth_gate.ensures.goes_on_telling c.close_birth_gate.ensures.on.time.later c.close_birth_gate.ensures.images (shut_none closed (g.V.Volume.was_image c.write_part.new.volume (g.V.Volume.moment c.close_birth_gate.new.volume)) c.write_part.ensures.images) c.write_part.ensures.on.time in
    written

pub returns-in_err-open_birth_gate-clause-images : goal.returns-in_err-open_birth_gate-clause-images
returns-in_err-open_birth_gate-clause-images g c =
    let bytes = g.V.Volume.bytes c.args.volume.now in
    let closed = g.V.Volume.bytes c.close_birth_gate.new.volume in
    let written = then_images StandsForNone bytes closed (g.V.Volume.moment c.args.volume.now) (g.V.Volume.moment c.close_birth_gate.new.volume) (g.V.Volume.moment c.write_part.new.volume) (g.V.Volume.was_image c.close_birth_gate.new.volume) (g.V.Volume.was_image c.write_part.new.volume) (g.V.Volume.synced c.close_birth_gate.new.volume) (g.V.Volume.synced c.write_part.new.volume)
    c.close_birth_gate.ensures.goes_on_telling c.close_birth_gate.ensures.on.time.later c.close_birth_gate.ensures.images (shut_none closed (g.V.Volume.was_image c.write_part.new.volume (g.V.Volume.moment c.close_birth_gate.new.volume)) c.write_part.ensures.images) c.write_part.ensures.on.time in
    let earlier = elapses_then (g.V.Volume.moment c.args.volume.now) (g.V.Volume.moment c.close_birth_gate.new.volume) (g.V.Volume.moment c.write_part.new.volume) (g.V.Volume.was_image c.args.volume.now) (g.V.Volume.was_image c.close_birth_gate.new.volume) (g.V.Volume.was_image c.write_part.new.volume) (g.V.Volume.synced c.args.volume.now) (g.V.Volume.synced c.close_birth_gate.new.volume) (g.V.Volume.synced c.write_part.new.volume) c.close_birth_gate.ensures.on.time c.write_part.ensures.on.time in
    then_images StandsForNone bytes (g.V.Volume.bytes c.write_part.new.volume) (g.V.Volume.moment c.args.volume.now) (g.V.Volume.moment c.write_part.new.volume) (g.V.Volume.moment c.open_birth_gate.new.volume) (g.V.Volume.was_image c.write_part.new.volume) (g.V.Volume.was_image c.open_birth_gate.new.volume) (g.V.Volume.synced c.write_part.new.volume) (g.V.Volume.synced c.open_birth_gate.new.volume)
    (λ some. some_mapped closed (g.V.Volume.bytes c.write_part.new.volume) (0 ∷ (arc_value c.args.part).items) c.in_ok-write_part.ensures.written (c.close_birth_gate.ensures.goes_on_telling some)) earlier.later written c.open_birth_gate.ensures.images c.open_birth_gate.ensures.on.time

pub returns-clause-images : goal.returns-clause-images
returns-clause-images g c =
    let bytes = g.V.Volume.bytes c.args.volume.now in
    let closed = g.V.Volume.bytes c.close_birth_gate.new.volume in
    let written = then_images StandsForNone bytes closed (g.V.Volume.moment c.args.volume.now) (g.V.Volume.moment c.close_birth_gate.new.volume) (g.V.Volume.moment c.write_part.new.volume) (g.V.Volume.was_image c.close_birth_gate.new.volume) (g.V.Volume.was_image c.write_part.new.volume) (g.V.Volume.synced c.close_birth_gate.new.volume) (g.V.Volume.synced c.write_part.new.volume)
    c.close_birth_gate.ensures.goes_on_telling c.close_birth_gate.ensures.on.time.later c.close_birth_gate.ensures.images (shut_none closed (g.V.Volume.was_image c.write_part.new.volume (g.V.Volume.moment c.close_birth_gate.new.volume)) c.write_part.ensures.images) c.write_part.ensures.on.time in
    let earlier = elapses_then (g.V.Volume.moment c.args.volume.now) (g.V.Volume.moment c.close_birth_gate.new.volume) (g.V.Volume.moment c.write_part.new.volume) (g.V.Volume.was_image c.args.volume.now) (g.V.Volume.was_image c.close_birth_gate.new.volume) (g.V.Volume.was_image c.write_part.new.volume) (g.V.Volume.synced c.args.volume.now) (g.V.Volume.synced c.close_birth_gate.new.volume) (g.V.Volume.synced c.write_part.new.volume) c.close_birth_gate.ensures.on.time c.write_part.ensures.on.time in
    then_images StandsForNone bytes (g.V.Volume.bytes c.write_part.new.volume) (g.V.Volume.moment c.args.volume.now) (g.V.Volume.moment c.write_part.new.volume) (g.V.Volume.moment c.open_birth_gate.new.volume) (g.V.Volume.was_image c.write_part.new.volume) (g.V.Volume.was_image c.open_birth_gate.new.volume) (g.V.Volume.synced c.write_part.new.volume) (g.V.Volume.synced c.open_birth_gate.new.volume)
    (λ some. some_mapped closed (g.V.Volume.bytes c.write_part.new.volume) (0 ∷ (arc_value c.args.part).items) c.in_ok-write_part.ensures.written (c.close_birth_gate.ensures.goes_on_telling some)) earlier.later written c.open_birth_gate.ensures.images c.open_birth_gate.ensures.on.time

pub returns-clause-made : goal.returns-clause-made
returns-clause-made g c =
    made_told (g.V.Volume.bytes c.args.volume.now) (g.V.Volume.bytes c.close_birth_gate.new.volume) (g.V.Volume.bytes c.write_part.new.volume) (g.V.Volume.bytes c.open_birth_gate.new.volume) (arc_value c.args.part).items c.close_birth_gate.ensures.goes_on_telling c.in_ok-write_part.ensures.written c.in_ok-open_birth_gate.ensures.opened

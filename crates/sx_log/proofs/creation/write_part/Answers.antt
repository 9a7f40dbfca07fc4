use Rattle.std.proofs.Common.{◌≡◌, ◌∙◌, ◌++◌, [], ◌∷◌, List, ℕ, Some, Option, ap}
use Rattle.std.specs.Arc.{arc_value}
use Rattle.std.specs.Option.{option_map}
use Rattle.std.specs.Prelude.{slice_get}
use Rattle.sx_log.proofs.Made.{mapped_then, some_mapped, stay_mapped, then_images, then_same, within_shut}
use Rattle.sx_volume.proofs.Images.{elapses_then}
use Rattle.sx_log.proofs.creation.write_part.Goals as goal

pub append_part-requires-clause-shut : goal.append_part-requires-clause-shut
append_part-requires-clause-shut g c =
    stay_mapped (g.V.Volume.bytes c.args.volume.now) (g.V.Volume.bytes c.cut_to_gate.new.volume) (g.V.Volume.is_image c.cut_to_gate.new.volume) (0 ∷ []) c.in_ok-cut_to_gate.ensures.cut
    (within_shut (g.V.Volume.bytes c.args.volume.now) (g.V.Volume.was_image c.cut_to_gate.new.volume (g.V.Volume.moment c.args.volume.now)) (g.V.Volume.is_image c.cut_to_gate.new.volume) c.cut_to_gate.ensures.images (λ d image. g.met.V.Volume.counts_now c.cut_to_gate.new.volume (g.V.Volume.moment c.args.volume.now) d c.cut_to_gate.ensures.on.time.later image))

pub returns-in_err-append_part-clause-images : goal.returns-in_err-append_part-clause-images
returns-in_err-append_part-clause-images g c =
    let bytes = g.V.Volume.bytes c.args.volume.now in
    let cut = g.V.Volume.bytes c.cut_to_gate.new.volume in
    let later = c.cut_to_gate.ensures.on.time.later in
    let appended = then_images (λ (d : List ℕ). slice_get d 0 ≡ Some 0) bytes cut (g.V.Volume.moment c.args.volume.now) (g.V.Volume.moment c.cut_to_gate.new.volume) (g.V.Volume.moment c.append_part.new.volume) (g.V.Volume.was_image c.cut_to_gate.new.volume) (g.V.Volume.was_image c.append_part.new.volume) (g.V.Volume.synced c.cut_to_gate.new.volume) (g.V.Volume.synced c.append_part.new.volume)
    (some_mapped bytes cut (0 ∷ []) c.in_ok-cut_to_gate.ensures.cut) later c.cut_to_gate.ensures.images c.append_part.ensures.images c.append_part.ensures.on.time in
    appended

pub returns-in_err-sync-clause-images : goal.returns-in_err-sync-clause-images
returns-in_err-sync-clause-images g c =
    let bytes = g.V.Volume.bytes c.args.volume.now in
    let cut = g.V.Volume.bytes c.cut_to_gate.new.volume in
    let later = c.cut_to_gate.ensures.on.time.later in
    let appended = then_images (λ (d : List ℕ). slice_get d 0 ≡ Some 0) bytes cut (g.V.Volume.moment c.args.volume.now) (g.V.Volume.moment c.cut_to_gate.new.volume) (g.V.Volume.moment c.append_part.new.volume) (g.V.Volume.was_image c.cut_to_gate.new.volume) (g.V.Volume.was_image c.append_part.new.volume) (g.V.Volume.synced c.cut_to_gate.new.volume) (g.V.Volume.synced c.append_part.new.volume)
    (some_mapped bytes cut (0 ∷ []) c.in_ok-cut_to_gate.ensures.cut) later c.cut_to_gate.ensures.images c.append_part.ensures.images c.append_part.ensures.on.time in
    let earlier = elapses_then (g.V.Volume.moment c.args.volume.now) (g.V.Volume.moment c.cut_to_gate.new.volume) (g.V.Volume.moment c.append_part.new.volume) (g.V.Volume.was_image c.args.volume.now) (g.V.Volume.was_image c.cut_to_gate.new.volume) (g.V.Volume.was_image c.append_part.new.volume) (g.V.Volume.synced c.args.volume.now) (g.V.Volume.synced c.cut_to_gate.new.volume) (g.V.Volume.synced c.append_part.new.volume) c.cut_to_gate.ensures.on.time c.append_part.ensures.on.time in
    then_same (λ (d : List ℕ). slice_get d 0 ≡ Some 0) bytes (g.V.Volume.moment c.args.volume.now) (g.V.Volume.moment c.append_part.new.volume) (g.V.Volume.moment c.sync.new.self) (g.V.Volume.is_image c.append_part.new.volume) (g.V.Volume.was_image c.append_part.new.volume) (g.V.Volume.was_image c.sync.new.self) (g.V.Volume.synced c.append_part.new.volume) (g.V.Volume.synced c.sync.new.self) earlier.later
    (λ d image. g.met.V.Volume.counts_now c.append_part.new.volume (g.V.Volume.moment c.args.volume.now) d earlier.later image) appended c.sync.ensures.images c.sync.ensures.time

pub returns-clause-images : goal.returns-clause-images
returns-clause-images g c =
    let bytes = g.V.Volume.bytes c.args.volume.now in
    let cut = g.V.Volume.bytes c.cut_to_gate.new.volume in
    let later = c.cut_to_gate.ensures.on.time.later in
    let appended = then_images (λ (d : List ℕ). slice_get d 0 ≡ Some 0) bytes cut (g.V.Volume.moment c.args.volume.now) (g.V.Volume.moment c.cut_to_gate.new.volume) (g.V.Volume.moment c.append_part.new.volume) (g.V.Volume.was_image c.cut_to_gate.new.volume) (g.V.Volume.was_image c.append_part.new.volume) (g.V.Volume.synced c.cut_to_gate.new.volume) (g.V.Volume.synced c.append_part.new.volume)
    (some_mapped bytes cut (0 ∷ []) c.in_ok-cut_to_gate.ensures.cut) later c.cut_to_gate.ensures.images c.append_part.ensures.images c.append_part.ensures.on.time in
    let earlier = elapses_then (g.V.Volume.moment c.args.volume.now) (g.V.Volume.moment c.cut_to_gate.new.volume) (g.V.Volume.moment c.append_part.new.volume) (g.V.Volume.was_image c.args.volume.now) (g.V.Volume.was_image c.cut_to_gate.new.volume) (g.V.Volume.was_image c.append_part.new.volume) (g.V.Volume.synced c.args.volume.now) (g.V.Volume.synced c.cut_to_gate.new.volume) (g.V.Volume.synced c.append_part.new.volume) c.cut_to_gate.ensures.on.time c.append_part.ensures.on.time in
    then_same (λ (d : List ℕ). slice_get d 0 ≡ Some 0) bytes (g.V.Volume.moment c.args.volume.now) (g.V.Volume.moment c.append_part.new.volume) (g.V.Volume.moment c.sync.new.self) (g.V.Volume.is_image c.append_part.new.volume) (g.V.Volume.was_image c.append_part.new.volume) (g.V.Volume.was_image c.sync.new.self) (g.V.Volume.synced c.append_part.new.volume) (g.V.Volume.synced c.sync.new.self) earlier.later
    (λ d image. g.met.V.Volume.counts_now c.append_part.new.volume (g.V.Volume.moment c.args.volume.now) d earlier.later image) appended c.sync.ensures.images c.sync.ensures.time

pub returns-clause-written : goal.returns-clause-written
returns-clause-written g c =
    c.in_ok-sync.ensures.same_bytes ∙ c.in_ok-append_part.ensures.written ∙ ap (λ (b : Option (List ℕ)). option_map (λ all. all ++ (arc_value c.args.part).items) b) c.in_ok-cut_to_gate.ensures.cut
    ∙ mapped_then (g.V.Volume.bytes c.args.volume.now) (0 ∷ []) (arc_value c.args.part).items

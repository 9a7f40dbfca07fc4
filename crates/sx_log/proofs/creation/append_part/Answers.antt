use Rattle.std.proofs.Common.{◌≡◌, ◌+◌, List, ℕ, Some, Option, length, sym, subst}
use Rattle.std.specs.Prelude.{slice_get}
use Rattle.sx_log.proofs.Made.{append_shut, same_told, then_images, within_shut}
use Rattle.sx_log.specs.Creating.{StayShut}
use Rattle.sx_volume.specs.Held.{held_piece}
use Rattle.sx_log.proofs.creation.append_part.Goals as goal

pub returns-in_err-hold-clause-images : goal.returns-in_err-hold-clause-images
returns-in_err-hold-clause-images g c =
    let bytes = g.V.Volume.bytes c.args.volume.now in
    let held = g.V.Volume.bytes c.hold.new.self in
    let later = c.hold.ensures.time.later in
    let first : StayShut bytes (g.V.Volume.was_image c.hold.new.self (g.V.Volume.moment c.args.volume.now)) = within_shut bytes (g.V.Volume.is_image c.args.volume.now) (g.V.Volume.was_image c.hold.new.self (g.V.Volume.moment c.args.volume.now)) c.requires.shut c.hold.ensures.no_image_more in
    first

pub returns-in_err-append-clause-images : goal.returns-in_err-append-clause-images
returns-in_err-append-clause-images g c =
    let bytes = g.V.Volume.bytes c.args.volume.now in
    let held = g.V.Volume.bytes c.hold.new.self in
    let later = c.hold.ensures.time.later in
    let first : StayShut bytes (g.V.Volume.was_image c.hold.new.self (g.V.Volume.moment c.args.volume.now)) = within_shut bytes (g.V.Volume.is_image c.args.volume.now) (g.V.Volume.was_image c.hold.new.self (g.V.Volume.moment c.args.volume.now)) c.requires.shut c.hold.ensures.no_image_more in
    let now : StayShut held (g.V.Volume.is_image c.hold.new.self) =
    subst (λ (b : Option (List ℕ)). StayShut b (g.V.Volume.is_image c.hold.new.self)) (sym c.hold.ensures.same_bytes) (within_shut bytes (g.V.Volume.was_image c.hold.new.self (g.V.Volume.moment c.args.volume.now)) (g.V.Volume.is_image c.hold.new.self) first (λ d image. g.met.V.Volume.counts_now c.hold.new.self (g.V.Volume.moment c.args.volume.now) d later image)) in
    then_images (λ (d : List ℕ). slice_get d 0 ≡ Some 0) bytes held (g.V.Volume.moment c.args.volume.now) (g.V.Volume.moment c.hold.new.self) (g.V.Volume.moment c.append.new.self) (g.V.Volume.was_image c.hold.new.self) (g.V.Volume.was_image c.append.new.self) (g.V.Volume.synced c.hold.new.self) (g.V.Volume.synced c.append.new.self) (same_told bytes held c.hold.ensures.same_bytes) later first
    (append_shut held (g.V.Volume.size c.hold.new.self + length (held_piece (g.V.Volume.held c.hold.new.self))) (g.V.Volume.is_image c.hold.new.self) (g.V.Volume.was_image c.append.new.self (g.V.Volume.moment c.hold.new.self)) now c.append.ensures.images) c.append.ensures.time

pub returns-clause-images : goal.returns-clause-images
returns-clause-images g c =
    let bytes = g.V.Volume.bytes c.args.volume.now in
    let held = g.V.Volume.bytes c.hold.new.self in
    let later = c.hold.ensures.time.later in
    let first : StayShut bytes (g.V.Volume.was_image c.hold.new.self (g.V.Volume.moment c.args.volume.now)) = within_shut bytes (g.V.Volume.is_image c.args.volume.now) (g.V.Volume.was_image c.hold.new.self (g.V.Volume.moment c.args.volume.now)) c.requires.shut c.hold.ensures.no_image_more in
    let now : StayShut held (g.V.Volume.is_image c.hold.new.self) =
    subst (λ (b : Option (List ℕ)). StayShut b (g.V.Volume.is_image c.hold.new.self)) (sym c.hold.ensures.same_bytes) (within_shut bytes (g.V.Volume.was_image c.hold.new.self (g.V.Volume.moment c.args.volume.now)) (g.V.Volume.is_image c.hold.new.self) first (λ d image. g.met.V.Volume.counts_now c.hold.new.self (g.V.Volume.moment c.args.volume.now) d later image)) in
    then_images (λ (d : List ℕ). slice_get d 0 ≡ Some 0) bytes held (g.V.Volume.moment c.args.volume.now) (g.V.Volume.moment c.hold.new.self) (g.V.Volume.moment c.append.new.self) (g.V.Volume.was_image c.hold.new.self) (g.V.Volume.was_image c.append.new.self) (g.V.Volume.synced c.hold.new.self) (g.V.Volume.synced c.append.new.self) (same_told bytes held c.hold.ensures.same_bytes) later first
    (append_shut held (g.V.Volume.size c.hold.new.self + length (held_piece (g.V.Volume.held c.hold.new.self))) (g.V.Volume.is_image c.hold.new.self) (g.V.Volume.was_image c.append.new.self (g.V.Volume.moment c.hold.new.self)) now c.append.ensures.images) c.append.ensures.time

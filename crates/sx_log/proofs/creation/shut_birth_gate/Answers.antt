use Rattle.std.proofs.Common.{◌≡◌, sym, subst, arith, List, ℕ, Option, IfSome}
use Rattle.sx_layout.specs.Born.{StandsForNone}
use Rattle.sx_log.proofs.Made.{put_shut, puts_told, read_images, same_told, step_images, still_only, then_images, unborn_told}
use Rattle.sx_log.specs.Creating.{IsShut}
use Rattle.sx_volume.specs.Images.{Only, Puts}
use Rattle.sx_log.proofs.creation.shut_birth_gate.Goals as goal

pub returns-in_err-put_byte-clause-images : goal.returns-in_err-put_byte-clause-images
returns-in_err-put_byte-clause-images g c =
    let bytes = g.V.Volume.bytes c.args.volume.now in
    let now = g.V.Volume.bytes c.byte_at.new.volume in
    let same : now ≡ bytes = c.byte_at.ensures.kept.same_bytes in
    let settled : IfSome now (λ all. Only all (g.V.Volume.is_image c.byte_at.new.volume)) =
    still_only bytes now (g.V.Volume.is_image c.args.volume.now) (g.V.Volume.is_image c.byte_at.new.volume) same (λ d image. c.byte_at.ensures.kept.no_image_more d (g.met.V.Volume.counts_now c.byte_at.new.volume (g.V.Volume.moment c.args.volume.now) d c.byte_at.ensures.kept.time.later image)) c.requires.settled in
    let puts = step_images (Puts 0) StandsForNone now (g.V.Volume.is_image c.byte_at.new.volume) (g.V.Volume.was_image c.put_byte.new.self (g.V.Volume.moment c.byte_at.new.volume)) settled
    (subst (λ (b : Option (List ℕ)). IfSome b (λ all. (d : List ℕ) → Puts 0 all d → StandsForNone d)) (sym same) (puts_told bytes c.in_ok-byte_at.field-0 c.requires.unborn c.in_ok-byte_at.ensures.byte c.if-branch-ne-CLOSED.true))
    c.put_byte.ensures.images in
    let reads = read_images StandsForNone bytes (g.V.Volume.is_image c.args.volume.now) (g.V.Volume.was_image c.byte_at.new.volume (g.V.Volume.moment c.args.volume.now)) c.requires.settled (unborn_told bytes c.requires.unborn) c.byte_at.ensures.kept.no_image_more in
    then_images StandsForNone bytes now (g.V.Volume.moment c.args.volume.now) (g.V.Volume.moment c.byte_at.new.volume) (g.V.Volume.moment c.put_byte.new.self) (g.V.Volume.was_image c.byte_at.new.volume) (g.V.Volume.was_image c.put_byte.new.self) (g.V.Volume.synced c.byte_at.new.volume) (g.V.Volume.synced c.put_byte.new.self)
    (same_told bytes now same) c.byte_at.ensures.kept.time.later reads puts c.put_byte.ensures.time

pub returns-in_ok-put_byte-clause-images : goal.returns-in_ok-put_byte-clause-images
returns-in_ok-put_byte-clause-images g c =
    let bytes = g.V.Volume.bytes c.args.volume.now in
    let now = g.V.Volume.bytes c.byte_at.new.volume in
    let same : now ≡ bytes = c.byte_at.ensures.kept.same_bytes in
    let settled : IfSome now (λ all. Only all (g.V.Volume.is_image c.byte_at.new.volume)) =
    still_only bytes now (g.V.Volume.is_image c.args.volume.now) (g.V.Volume.is_image c.byte_at.new.volume) same (λ d image. c.byte_at.ensures.kept.no_image_more d (g.met.V.Volume.counts_now c.byte_at.new.volume (g.V.Volume.moment c.args.volume.now) d c.byte_at.ensures.kept.time.later image)) c.requires.settled in
    let puts = step_images (Puts 0) StandsForNone now (g.V.Volume.is_image c.byte_at.new.volume) (g.V.Volume.was_image c.put_byte.new.self (g.V.Volume.moment c.byte_at.new.volume)) settled
    (subst (λ (b : Option (List ℕ)). IfSome b (λ all. (d : List ℕ) → Puts 0 all d → StandsForNone d)) (sym same) (puts_told bytes c.in_ok-byte_at.field-0 c.requires.unborn c.in_ok-byte_at.ensures.byte c.if-branch-ne-CLOSED.true))
    c.put_byte.ensures.images in
    let reads = read_images StandsForNone bytes (g.V.Volume.is_image c.args.volume.now) (g.V.Volume.was_image c.byte_at.new.volume (g.V.Volume.moment c.args.volume.now)) c.requires.settled (unborn_told bytes c.requires.unborn) c.byte_at.ensures.kept.no_image_more in
    then_images StandsForNone bytes now (g.V.Volume.moment c.args.volume.now) (g.V.Volume.moment c.byte_at.new.volume) (g.V.Volume.moment c.put_byte.new.self) (g.V.Volume.was_image c.byte_at.new.volume) (g.V.Volume.was_image c.put_byte.new.self) (g.V.Volume.synced c.byte_at.new.volume) (g.V.Volume.synced c.put_byte.new.self)
    (same_told bytes now same) c.byte_at.ensures.kept.time.later reads puts c.put_byte.ensures.time

pub returns-in_ok-put_byte-clause-shut : goal.returns-in_ok-put_byte-clause-shut
returns-in_ok-put_byte-clause-shut g c =
    subst IsShut (sym c.in_ok-put_byte.ensures.written)
    (put_shut (g.V.Volume.bytes c.byte_at.new.volume) (g.V.Volume.size c.byte_at.new.volume) (g.met.V.Volume.told_size c.byte_at.new.volume) (omega (arith, c.len.ensures.value, c.byte_at.ensures.kept.same_size)))

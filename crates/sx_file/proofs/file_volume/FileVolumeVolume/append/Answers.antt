use Rattle.std.proofs.Common.{◌≡◌, ◌∙◌, sym, ap}
use Rattle.sx_volume.specs.Held.{held_piece, place_and_bytes}
use Rattle.sx_file.proofs.Ends.{follows_append, since_look}
use Rattle.sx_file.proofs.file_volume.FileVolumeVolume.append.Goals as goal

pub returns-in-Ok-clause-images : goal.returns-in-Ok-clause-images
returns-in-Ok-clause-images g c =
    let file = c.self.inside.file in
    let piece : c.as_slice.result.now ≡ held_piece (place_and_bytes c.self.inside.held) =
    c.as_slice.ensures.value ∙ ap (λ v. v.items) c.deref-2.ensures ∙ sym (ap (λ held. held_piece (place_and_bytes held)) c.in-Some.is) in
    let images = rw piece at c.write_at.ensures.images in
    rw (← c.self.view_is) (follows_append (g.F.File.bytes file) (g.F.File.is_image file) (g.F.File.was_image c.write_at.new.self (g.F.File.moment file)) (g.met.F.File.nothing_known file) c.self.inside.size _ c.self.invariant images)

pub returns-in-Err-clause-images : goal.returns-in-Err-clause-images
returns-in-Err-clause-images g c =
    let file = c.self.inside.file in
    let later = c.write_at.new.self in
    let piece : c.as_slice.result.now ≡ held_piece (place_and_bytes c.self.inside.held) =
    c.as_slice.ensures.value ∙ ap (λ v. v.items) c.deref-2.ensures ∙ sym (ap (λ held. held_piece (place_and_bytes held)) c.in-Some.is) in
    let images = rw piece at c.write_at.ensures.images in
    let looked = since_look _ _ (g.F.File.moment file) _ _ _ _ (g.F.File.is_image later) c.length_or-self-inside.ensures.time c.length_or-self-inside.ensures.no_image_more
    (λ image. g.met.F.File.counts_now later (g.F.File.moment file) image c.write_at.ensures.time.later) c.write_at.ensures.time.later in
    rw (← c.self.view_is) (λ image left. follows_append (g.F.File.bytes file) (g.F.File.is_image file) (g.F.File.was_image later (g.F.File.moment file)) (g.met.F.File.nothing_known file) c.self.inside.size _ c.self.invariant images image (looked image left))

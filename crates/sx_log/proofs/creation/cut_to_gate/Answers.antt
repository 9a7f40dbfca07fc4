use Rattle.std.proofs.Common.{◌≡◌, ◌∙◌, List, ℕ, Some, arith}
use Rattle.std.specs.Prelude.{slice_get}
use Rattle.sx_log.proofs.Made.{cut_bytes, cut_told, one_byte, stay_shut, step_images}
use Rattle.sx_volume.specs.Images.{Cuts}
use Rattle.sx_log.proofs.creation.cut_to_gate.Goals as goal

pub returns-in_err-cut-clause-images : goal.returns-in_err-cut-clause-images
returns-in_err-cut-clause-images g c =
    step_images (Cuts 1) (λ (d : List ℕ). slice_get d 0 ≡ Some 0) (g.V.Volume.bytes c.args.volume.now) (g.V.Volume.is_image c.args.volume.now) (g.V.Volume.was_image c.cut.new.self (g.V.Volume.moment c.args.volume.now)) c.requires.settled (cut_told (g.V.Volume.bytes c.args.volume.now) c.requires.shut) c.cut.ensures.images

pub returns-clause-images : goal.returns-clause-images
returns-clause-images g c =
    step_images (Cuts 1) (λ (d : List ℕ). slice_get d 0 ≡ Some 0) (g.V.Volume.bytes c.args.volume.now) (g.V.Volume.is_image c.args.volume.now) (g.V.Volume.was_image c.cut.new.self (g.V.Volume.moment c.args.volume.now)) c.requires.settled (cut_told (g.V.Volume.bytes c.args.volume.now) c.requires.shut) c.cut.ensures.images

pub returns-clause-cut : goal.returns-clause-cut
returns-clause-cut g c = c.in_ok-cut.ensures.cut ∙ cut_bytes (g.V.Volume.bytes c.args.volume.now) c.requires.shut

pub returns-then-len-le1-clause-images : goal.returns-then-len-le1-clause-images
returns-then-len-le1-clause-images g c =
    stay_shut (g.V.Volume.bytes c.args.volume.now) (g.V.Volume.is_image c.args.volume.now) (g.V.Volume.was_image c.args.volume.now (g.V.Volume.moment c.args.volume.now)) c.requires.settled c.requires.shut (g.met.V.Volume.only_now c.args.volume.now)

pub returns-then-len-le1-clause-cut : goal.returns-then-len-le1-clause-cut
returns-then-len-le1-clause-cut g c = one_byte (g.V.Volume.bytes c.args.volume.now) (g.V.Volume.size c.args.volume.now) c.requires.shut (g.met.V.Volume.told_size c.args.volume.now) (omega (arith, c.len.ensures.value))

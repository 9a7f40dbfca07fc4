use Rattle.std.proofs.Common.{ap, ◌∙◌, ◌+◌, length}
use Rattle.sx_volume.proofs.Fused.{moved}
use Rattle.sx_volume.specs.Fuse.{Fuse}
use Rattle.sx_volume.specs.Held.{held_piece}
use Rattle.sx_volume.specs.Images.{Follows, Appends, NoSync}
use Rattle.sx_volume.specs.Medium.{Medium, bytes_of, moment_of, MayLeave, MayHaveLeft, HadSync}
use Rattle.sx_volume.proofs.fuse_volume.FuseVolumeVolume.append.Goals as goal

pub returns-clause-images : goal.returns-clause-images
returns-clause-images c =
    moved (λ (a b : Medium). Follows (Appends (length (bytes_of a) + length (held_piece a.held))) (MayLeave a) (MayHaveLeft b (moment_of a))) c.self.inside.inner c.args.self.now.inner c.append-appended.new.self c.note.new.self.inner
    (ap (λ (f : Fuse). f.inner) c.self.view_is ∙ c.pass.ensures.same_inner) c.note.ensures.same_inner c.append-appended.ensures.images

pub returns-clause-no_sync : goal.returns-clause-no_sync
returns-clause-no_sync c =
    moved (λ (a b : Medium). NoSync (HadSync a) (HadSync b)) c.self.inside.inner c.args.self.now.inner c.append-appended.new.self c.note.new.self.inner
    (ap (λ (f : Fuse). f.inner) c.self.view_is ∙ c.pass.ensures.same_inner) c.note.ensures.same_inner c.append-appended.ensures.no_sync

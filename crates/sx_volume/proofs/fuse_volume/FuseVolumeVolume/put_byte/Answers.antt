use Rattle.std.proofs.Common.{ap, ◌∙◌}
use Rattle.sx_volume.proofs.Fused.{moved}
use Rattle.sx_volume.specs.Fuse.{Fuse}
use Rattle.sx_volume.specs.Images.{Follows, Puts, NoSync}
use Rattle.sx_volume.specs.Medium.{Medium, moment_of, MayLeave, MayHaveLeft, HadSync}
use Rattle.sx_volume.proofs.fuse_volume.FuseVolumeVolume.put_byte.Goals as goal

pub returns-clause-images : goal.returns-clause-images
returns-clause-images c =
    moved (λ (a b : Medium). Follows (Puts c.args.at) (MayLeave a) (MayHaveLeft b (moment_of a))) c.self.inside.inner c.args.self.now.inner c.put_byte-written.new.self c.note.new.self.inner
    (ap (λ (f : Fuse). f.inner) c.self.view_is ∙ c.pass.ensures.same_inner) c.note.ensures.same_inner c.put_byte-written.ensures.images

pub returns-clause-no_sync : goal.returns-clause-no_sync
returns-clause-no_sync c =
    moved (λ (a b : Medium). NoSync (HadSync a) (HadSync b)) c.self.inside.inner c.args.self.now.inner c.put_byte-written.new.self c.note.new.self.inner
    (ap (λ (f : Fuse). f.inner) c.self.view_is ∙ c.pass.ensures.same_inner) c.note.ensures.same_inner c.put_byte-written.ensures.no_sync

use Rattle.std.proofs.Common.{ap, ◌∙◌, subst, sym, Result, OnOk, OnErr}
use Rattle.sx_outside.specs.declared.failed.Failed.{Failed}
use Rattle.sx_volume.proofs.Fused.{moved}
use Rattle.sx_volume.specs.Fuse.{Fuse}
use Rattle.sx_volume.specs.Images.{IsWithin, Only, Elapses, NoSync}
use Rattle.sx_volume.specs.Medium.{Medium, bytes_of, moment_of, MayLeave, MayHaveLeft, HadSync}
use Rattle.sx_volume.proofs.fuse_volume.FuseVolumeVolume.sync.Goals as goal

pub returns-clause-images : goal.returns-clause-images
returns-clause-images c =
    moved (λ (a b : Medium). IsWithin (MayLeave a) (MayHaveLeft b (moment_of a))) c.self.inside.inner c.args.self.now.inner c.sync-synced.new.self c.note.new.self.inner
    (ap (λ (f : Fuse). f.inner) c.self.view_is ∙ c.pass.ensures.same_inner) c.note.ensures.same_inner c.sync-synced.ensures.images

pub returns-clause-time : goal.returns-clause-time
returns-clause-time c =
    moved (λ (a b : Medium). Elapses (moment_of a) (moment_of b) (MayHaveLeft a) (MayHaveLeft b) (HadSync a) (HadSync b)) c.self.inside.inner c.args.self.now.inner c.sync-synced.new.self c.note.new.self.inner
    (ap (λ (f : Fuse). f.inner) c.self.view_is ∙ c.pass.ensures.same_inner) c.note.ensures.same_inner c.sync-synced.ensures.time

pub returns-clause-durable : goal.returns-clause-durable
returns-clause-durable c =
    subst (λ (r : Result (Unit {0}) Failed). OnOk r (Only (bytes_of c.args.self.now.inner) (MayLeave c.note.new.self.inner))) (sym c.note.ensures.same)
    (moved (λ (a b : Medium). OnOk c.sync-synced.result (Only (bytes_of a) (MayLeave b))) c.self.inside.inner c.args.self.now.inner c.sync-synced.new.self c.note.new.self.inner
    (ap (λ (f : Fuse). f.inner) c.self.view_is ∙ c.pass.ensures.same_inner) c.note.ensures.same_inner c.sync-synced.ensures.durable)

pub returns-clause-no_sync : goal.returns-clause-no_sync
returns-clause-no_sync c =
    subst (λ (r : Result (Unit {0}) Failed). OnErr r (NoSync (HadSync c.args.self.now.inner) (HadSync c.note.new.self.inner))) (sym c.note.ensures.same)
    (moved (λ (a b : Medium). OnErr c.sync-synced.result (NoSync (HadSync a) (HadSync b))) c.self.inside.inner c.args.self.now.inner c.sync-synced.new.self c.note.new.self.inner
    (ap (λ (f : Fuse). f.inner) c.self.view_is ∙ c.pass.ensures.same_inner) c.note.ensures.same_inner c.sync-synced.ensures.no_sync)

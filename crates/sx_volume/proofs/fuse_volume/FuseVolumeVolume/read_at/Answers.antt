use Rattle.std.proofs.Common.{ap, ◌∙◌, ◌≡◌, inr, subst, sym, ⊎_elim, false, true, Result, IsErr}
use Rattle.std.specs.Prelude.{◌↔◌}
use Rattle.sx_outside.specs.declared.failed.Failed.{Failed}
use Rattle.sx_volume.proofs.Fused.{moved}
use Rattle.sx_volume.specs.Fuse.{Fuse, Blows}
use Rattle.sx_volume.specs.Tally.{FailsNext}
use Rattle.sx_volume.specs.Images.{IsWithin}
use Rattle.sx_volume.specs.Medium.{Medium, moment_of, MayLeave, MayHaveLeft}
use Rattle.sx_volume.proofs.fuse_volume.FuseVolumeVolume.read_at.Goals as goal

pub returns-clause-no_image_more : goal.returns-clause-no_image_more
returns-clause-no_image_more c =
    moved (λ (a b : Medium). IsWithin (MayLeave a) (MayHaveLeft b (moment_of a))) c.self-2.inside.inner c.args.self.now.inner c.read_at-read.new.self c.note.new.self.inner
    (ap (λ (f : Fuse). f.inner) c.self-2.view_is ∙ c.pass.ensures.same_inner ∙ ap (λ (f : Fuse). f.inner) c.self.view_is) c.note.ensures.same_inner c.read_at-read.ensures.no_image_more

blows : (result answer : Result (Unit {0}) Failed) (fuse : Fuse) (inner : Medium) → result ≡ answer → inner ≡ fuse.inner → (fuse.left ≡ 0 → ⊥) → (IsErr answer ↔ FailsNext inner.tally)
    → (IsErr result ↔ Blows fuse)
blows result answer fuse inner is same holds fails = (
  λ err. inr (subst (λ (m : Medium). FailsNext m.tally) same (fails.0 (subst (λ (r : Result (Unit {0}) Failed). IsErr r) is err))),
  λ blown. subst (λ (r : Result (Unit {0}) Failed). IsErr r) (sym is)
      (fails.1 (⊎_elim (λ (none : fuse.left ≡ 0). absurd (holds none)) (λ (next : FailsNext fuse.inner.tally). subst (λ (m : Medium). FailsNext m.tally) (sym same) next) blown)),
)

pub returns-clause-fails : goal.returns-clause-fails
returns-clause-fails c =
    blows c.note.result c.read_at-read.result c.args.self.now c.self-2.inside.inner c.note.ensures.same
    (ap (λ (f : Fuse). f.inner) c.self-2.view_is ∙ c.pass.ensures.same_inner ∙ ap (λ (f : Fuse). f.inner) c.self.view_is)
    (λ none. let never : false ≡ true = c.in_ok-pass.ensures.fails.1 (ap (λ (f : Fuse). f.left) c.self.view_is ∙ none) in cc never) c.read_at-read.ensures.fails

use Rattle.std.proofs.Common.{ℕ, Vec, sym, ◌∙◌, ap, subst, arith}
use Rattle.std.specs.declared.alloc.Global.{Global}
use Rattle.sx_volume.specs.Content.{pending_in}
use Rattle.sx_volume.specs.Kept.{changes_of}
use Rattle.sx_volume.specs.Stored.{pending_of}
use Rattle.sx_volume.specs.Replay.{IsSound, pending_is_sound}
use Rattle.sx_volume.proofs.Image.{images_are_left}
use Rattle.sx_volume.proofs.mem_file.MemFile.image.Goals as goal

pub image-requires : goal.image-requires
image-requires c =
    let sound : IsSound (pending_in c.self.inside.content) = subst IsSound (sym c.self.invariant.replayed) (pending_is_sound c.self.inside.first.items (changes_of c.self.inside.calls.items c.self.inside.appended.items)) in
    omega (arith, sound.least, c.self.inside.content.bytes.ok.0)

pub returns-clause-image : goal.returns-clause-image
returns-clause-image c =
    let file = c.args.self.now in
    images_are_left (λ (v : Vec ℕ Global). v.items) c.image.result (pending_in c.self.inside.content) (pending_of file) c.args.tail.now c.args.gate (c.self.invariant.replayed ∙ ap pending_of c.self.view_is)
    (pending_is_sound file.first file.changes) c.image.ensures.tail c.ranges.gate.fits c.image.ensures.value

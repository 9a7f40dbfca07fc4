use Rattle.std.proofs.Common.{◌≡◌, ◌+◌, List, ℕ, length, ap, refl, subst}
use Rattle.sx_volume.specs.Change.{IsImage}
use Rattle.sx_volume.specs.Images.{Follows}
use Rattle.sx_volume.specs.Replay.{WasImage}
use Rattle.sx_volume.specs.Stored.{Stored, bytes_in, pending_of}
use Rattle.sx_file.specs.Writes.{Writes}
use Rattle.sx_file.proofs.Written.{told_write, images_write, no_sync_write, time_write}
use Rattle.sx_file.proofs.mem_file.MemFileFile.write_at.Goals as goal

pub returns-clause-written : goal.returns-clause-written
returns-clause-written c =
    told_write c.args.self.now c.write.new.self c.args.at c.args.piece.now (c.requires.place _ refl) (ap (λ (f : Stored). f.first) c.in_ok-write.ensures.done) (ap (λ (f : Stored). f.changes) c.in_ok-write.ensures.done)

pub returns-clause-images : goal.returns-clause-images
returns-clause-images c all told =
    let old = c.args.self.now in
    let new = c.write.new.self in
    let is : bytes_in old ≡ all = cc in
    subst (λ (l : List ℕ). Follows (Writes c.args.at (length l) (c.args.at + length c.args.piece.now)) (IsImage (pending_of old)) (WasImage new.first new.changes (length old.changes))) is
    (images_write old new c.args.at c.args.piece.now (c.requires.place _ refl) (ap (λ (f : Stored). f.first) c.in_ok-write.ensures.done) (ap (λ (f : Stored). f.changes) c.in_ok-write.ensures.done) c.in_ok-write.ensures.piece)

pub returns-clause-no_sync : goal.returns-clause-no_sync
returns-clause-no_sync c =
    no_sync_write c.args.self.now c.write.new.self c.args.at c.args.piece.now (c.requires.place _ refl) (ap (λ (f : Stored). f.first) c.in_ok-write.ensures.done) (ap (λ (f : Stored). f.changes) c.in_ok-write.ensures.done)

pub returns-clause-time : goal.returns-clause-time
returns-clause-time c =
    time_write c.args.self.now c.write.new.self c.args.at c.args.piece.now (c.requires.place _ refl) (ap (λ (f : Stored). f.first) c.in_ok-write.ensures.done) (ap (λ (f : Stored). f.changes) c.in_ok-write.ensures.done)

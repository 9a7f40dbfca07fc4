use Rattle.std.proofs.Common.{◌≡◌, ◌∙◌, ◌+◌, ap, refl, arith, List, ℕ, Option, length}
use Rattle.sx_log.proofs.Committed.{bytes_staged, during_stage, held_staged, keeps_staged}
use Rattle.sx_log.specs.Kept.{row_at}
use Rattle.sx_log.specs.declared.log.Pending.TheVariants.{Held, Staged}
use Rattle.sx_volume.specs.Held.{held_piece}
use Rattle.sx_log.proofs.commit.stage.Goals as goal

pub returns-in_err-put_behind-clause-during : goal.returns-in_err-put_behind-clause-during
returns-in_err-put_behind-clause-during g c = λ groups keeps.
    during_stage g.V.Volume c.args.log.now c.args.log.now c.args.volume.now c.args.volume.now groups keeps (g.V.Volume.was_image c.put_behind.new.volume (g.V.Volume.moment c.args.volume.now)) c.put_behind.ensures.images

pub returns-clause-during : goal.returns-clause-during
returns-clause-during g c = λ groups keeps.
    during_stage g.V.Volume c.args.log.now c.args.log.now c.args.volume.now c.args.volume.now groups keeps (g.V.Volume.was_image c.put_behind.new.volume (g.V.Volume.moment c.args.volume.now)) c.put_behind.ensures.images

pub returns-clause-staged : goal.returns-clause-staged
returns-clause-staged g c = λ group holds.
    let log = c.args.log.now in
    let bytes = held_staged g.V.Volume log log c.args.volume.now c.put_behind.new.volume group holds c.in_ok-put_behind.ensures.put in
    let row : c.in-Held.row ≡ row_at (log.end + 1) group = let same : Held c.in-Held.row ≡ Held (row_at (log.end + 1) group) = c.in-Held.ensures.value ∙ holds.pending in cc same in
    record {
      is_group = holds.is_group;
      follows = holds.follows;
      bytes = bytes_staged g.V.Volume log log c.args.volume.now c.put_behind.new.volume group refl c.requires.gate (g.met.V.Volume.told_size c.args.volume.now) bytes;
      settled = c.in_ok-put_behind.ensures.settled;
      size = c.in_ok-put_behind.ensures.size ∙ ap (λ (held : Option (ℕ × List ℕ)). log.end + 1 + length (held_piece held)) holds.held;
      pending = ap Staged row;
      room = holds.room;
      spare = omega (arith, holds.spare, c.put_behind.ensures.spare);
    }

pub returns-clause-keeps : goal.returns-clause-keeps
returns-clause-keeps g c = λ groups keeps.
    let log = c.args.log.now in
    let group = c.requires.held.0 in
    let holds = c.requires.held.1 in
    keeps_staged g.V.Volume log _ c.args.volume.now c.put_behind.new.volume (record { birth = refl; rows = refl; end = refl }) groups group
    (held_staged g.V.Volume log log c.args.volume.now c.put_behind.new.volume group holds c.in_ok-put_behind.ensures.put)
    (c.in_ok-put_behind.ensures.size ∙ ap (λ (held : Option (ℕ × List ℕ)). log.end + 1 + length (held_piece held)) holds.held) c.in_ok-put_behind.ensures.settled keeps

use Rattle.std.proofs.Common.{◌≡◌, ◌∙◌, ◌+◌, ◌++◌, ◌∷◌, [], ap, refl, arith}
use Rattle.sx_log.proofs.Committed.{bytes_sealed, during_seal, keeps_sealed, opened_seal}
use Rattle.sx_log.specs.Kept.{row_at}
use Rattle.sx_log.specs.declared.log.GroupRow.{GroupRow}
use Rattle.sx_log.specs.declared.log.Pending.TheVariants.{Staged}
use Rattle.sx_log.proofs.commit.seal_group.Goals as goal

pub returns-in_err-open_gate-clause-during : goal.returns-in_err-open_gate-clause-during
returns-in_err-open_gate-clause-during g c = λ groups group keeps staged.
    during_seal g.V.Volume c.args.log.now c.args.log.now c.args.volume.now c.args.volume.now groups keeps group staged (g.V.Volume.was_image c.open_gate.new.volume (g.V.Volume.moment c.args.volume.now)) c.open_gate.ensures.images

pub returns-in_err-open_gate-clause-opened : goal.returns-in_err-open_gate-clause-opened
returns-in_err-open_gate-clause-opened g c = λ groups group keeps staged.
    opened_seal g.V.Volume c.args.log.now c.args.log.now c.args.volume.now c.args.volume.now groups keeps group staged (g.V.Volume.was_image c.open_gate.new.volume (g.V.Volume.moment c.args.volume.now)) c.open_gate.ensures.images

pub returns-clause-during : goal.returns-clause-during
returns-clause-during g c = λ groups group keeps staged.
    during_seal g.V.Volume c.args.log.now c.args.log.now c.args.volume.now c.args.volume.now groups keeps group staged (g.V.Volume.was_image c.open_gate.new.volume (g.V.Volume.moment c.args.volume.now)) c.open_gate.ensures.images

pub returns-clause-opened : goal.returns-clause-opened
returns-clause-opened g c = λ groups group keeps staged.
    opened_seal g.V.Volume c.args.log.now c.args.log.now c.args.volume.now c.args.volume.now groups keeps group staged (g.V.Volume.was_image c.open_gate.new.volume (g.V.Volume.moment c.args.volume.now)) c.open_gate.ensures.images

pub returns-clause-bytes : goal.returns-clause-bytes
returns-clause-bytes g c = λ group staged.
    bytes_sealed g.V.Volume c.args.log.now c.args.log.now c.args.volume.now c.open_gate.new.volume group staged (g.met.V.Volume.told_size c.args.volume.now) c.in_ok-open_gate.ensures.opened

pub returns-clause-keeps : goal.returns-clause-keeps
returns-clause-keeps g c = λ groups group keeps staged.
    let log = c.args.log.now in
    let row : c.in-Staged.row ≡ row_at (log.end + 1) group = let same : Staged c.in-Staged.row ≡ Staged (row_at (log.end + 1) group) = c.in-Staged.ensures.value ∙ staged.pending in cc same in
    keeps_sealed g.V.Volume log _ c.args.volume.now c.open_gate.new.volume groups keeps group staged refl (c.push_reserved.ensures.items ∙ ap (λ (r : GroupRow). log.groups.rows.items ++ r ∷ []) row)
    (omega (arith, c.len.ensures.value, c.open_gate.ensures.size, staged.size)) c.open_gate.ensures.size c.in_ok-open_gate.ensures.opened c.in_ok-open_gate.ensures.settled

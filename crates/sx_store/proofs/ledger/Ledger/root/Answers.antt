use Rattle.std.proofs.Common.{◌∙◌, ap, sym, arith, length, ◌-◌}
use Rattle.sx_layout.specs.FrameGroup.{first_root}
use Rattle.sx_log.specs.Kept.{listed}
use Rattle.sx_log.specs.declared.log.GroupRow.{GroupRow}
use Rattle.sx_reader.proofs.Checking.{there-in}
use Rattle.sx_store.proofs.Wholes.{root-at}
use Rattle.sx_store.proofs.ledger.Ledger.root.Goals as goal

pub returns-in_default : goal.returns-in_default
returns-in_default g c =
    let rows = listed c.args.self.now.log.groups in
    let there = there-in c.as_slice.result.now rows (c.args.revision - 1) c.index-as_slice-revision.result c.as_slice.ensures (omega (arith, c.requires.there, ap length c.as_slice.ensures)) c.index-as_slice-revision.is in
    record { root = ap (λ (row : GroupRow). row.root) (sym c.index-as_slice-revision.is) ∙ root-at first_root rows c.args.revision c.index-as_slice-revision.result (λ none. omega (arith, none)) there }

use Rattle.std.proofs.Common.{◌∙◌, List, length, length-append, ap, refl, arith}
use Rattle.sx_log.specs.Kept.{listed}
use Rattle.sx_log.specs.declared.log.GroupRow.{GroupRow}
use Rattle.sx_store.specs.Shows.{last_root_of}
use Rattle.sx_store.proofs.Committing.{is-next}
use Rattle.sx_store.proofs.WriteLaws.{done-leaves, failed-leaves, refused-leaves, with-adds, with-sound}
use Rattle.sx_store.proofs.commit.add.Goals as goal

pub returns-in_err-cell-clause-leaves : goal.returns-in_err-cell-clause-leaves
returns-in_err-cell-clause-leaves g c =
    refused-leaves g.V.Volume g.V.Spot.Spot c.args.volume.now c.hold_group.new.volume c.args.ledger.now c.requires.sound c.requires.writes c.hold_group.ensures.only c.from_residual.result
    c.args.group.bytes.items c.from_residual.ensures.1

pub returns-in-Err-clause-same_ledger : goal.returns-in-Err-clause-same_ledger
returns-in-Err-clause-same_ledger g c = λ other. absurd (other c.in-Err.stage refl)

pub returns-in-Err-clause-same_bytes : goal.returns-in-Err-clause-same_bytes
returns-in-Err-clause-same_bytes g c = λ other. absurd (other c.in-Err.stage refl)

pub returns-in-Err-clause-no_fault : goal.returns-in-Err-clause-no_fault
returns-in-Err-clause-no_fault g c = λ other. absurd (other c.in-Err.stage refl)

pub returns-in-Err-clause-leaves : goal.returns-in-Err-clause-leaves
returns-in-Err-clause-leaves g c =
    failed-leaves g.V.Volume g.V.Spot.Spot c.args.volume.now c.hold_group.new.volume c.args.ledger.now c.requires.sound c.requires.writes c.hold_group.ensures.only
    c.hold_group.new.ledger c.hold_group.ensures.same c.hold_group.ensures.sound c.write_group.new.volume c.write_group.ensures.on.time c.args.group.bytes.items c.write_group.result
    c.in_ok-cell.ensures.held c.write_group.ensures.leaves c.in-Err.stage c.in-Err.is

pub returns-clause-sound : goal.returns-clause-sound
returns-clause-sound g c =
    with-sound g.V.Volume g.V.Spot.Spot c.args.volume.now c.hold_group.new.volume c.args.ledger.now c.requires.sound c.requires.writes c.hold_group.ensures.only
    c.hold_group.new.ledger c.hold_group.ensures.same c.hold_group.ensures.sound c.args.group c.requires.next c.write_group.new.volume c.write_group.new.ledger _ c.in_ok-cell.cell
    c.in_ok-cell.ensures.held c.in_default.ensures.entered c.in_default.ensures.keeps
    c.write_group.ensures.others.0 c.push_reserved.ensures.items c.in_ok-cell.ensures.content
    c.in_default.ensures.tells c.in_ok-cell.ensures.cell.0 c.in_ok-cell.ensures.cell.1

pub returns-clause-adds : goal.returns-clause-adds
returns-clause-adds g c =
    with-adds g.V.Volume g.V.Spot.Spot c.args.volume.now c.hold_group.new.volume c.args.ledger.now c.requires.sound c.requires.writes c.hold_group.ensures.only
    c.hold_group.new.ledger c.hold_group.ensures.same c.hold_group.ensures.sound c.args.group c.requires.next c.write_group.new.volume c.write_group.new.ledger _ c.in_ok-cell.cell
    c.in_ok-cell.ensures.held c.in_default.ensures.entered c.in_default.ensures.keeps
    c.write_group.ensures.others.0 c.push_reserved.ensures.items c.in_ok-cell.ensures.content

pub returns-clause-leaves : goal.returns-clause-leaves
returns-clause-leaves g c =
    done-leaves g.V.Volume g.V.Spot.Spot c.args.volume.now c.hold_group.new.volume c.args.ledger.now c.requires.sound c.requires.writes c.hold_group.ensures.only
    c.hold_group.new.ledger c.hold_group.ensures.same c.hold_group.ensures.sound c.write_group.new.volume c.write_group.ensures.on.time c.args.group.bytes.items c.write_group.result
    c.in_ok-cell.ensures.held c.write_group.ensures.leaves (record { revision = c.args.group.root.revision; time = c.args.group.root.time }) c.in_default.field-0 c.in_default.is

pub returns-clause-no_fault : goal.returns-clause-no_fault
returns-clause-no_fault g c = λ other. c.in_default.ensures.no_fault ∙ c.hold_group.ensures.only.no_fault

pub returns-clause-counts : goal.returns-clause-counts
returns-clause-counts g c =
    let old = c.args.ledger.now in
    let next = c.requires.next in
    let held = c.in_ok-cell.ensures.held next.group (is-next (last_root_of old) c.args.group (listed old.log.groups) next refl) in
    let rows = ap (λ (l : List GroupRow). length l) (c.in_default.ensures.entered next.group held) in
    let before = ap (λ (l : List GroupRow). length l) c.hold_group.ensures.same.log.rows in
    omega (arith, rows, before, length-append {A = GroupRow})

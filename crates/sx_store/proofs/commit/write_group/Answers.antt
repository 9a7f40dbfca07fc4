use Rattle.std.proofs.Common.{◌≡◌, List, IfSome, rules}
use Rattle.std.specs.Option.{option_map}
use Rattle.sx_layout.specs.FrameGroup.{FrameGroup}
use Rattle.sx_log.specs.Committing.{HasStaged, HoldsNext, KeepsLog, with_staged}
use Rattle.sx_volume.specs.Images.{Syncs}
use Rattle.sx_store.proofs.Leaving.{written_done, written_failed}
use Rattle.sx_store.proofs.commit.write_group.Goals as goal

pub returns-then-is_err-2-clause-leaves : goal.returns-then-is_err-2-clause-leaves
returns-then-is_err-2-clause-leaves g c = λ groups group keeps holds.
    let old = c.args.volume.now in
    let mid = c.stage.new.volume in
    let bytes : (next : FrameGroup) → HoldsNext g.V.Volume c.args.ledger.now.log old next → g.V.Volume.bytes mid ≡ option_map (with_staged c.args.ledger.now.log.end next) (g.V.Volume.bytes old) = search rules in
    let staged : (next : FrameGroup) → HoldsNext g.V.Volume c.args.ledger.now.log old next → HasStaged g.V.Volume c.stage.new.log mid next = search rules in
    let kept : (all : List FrameGroup) → KeepsLog g.V.Volume c.args.ledger.now.log old all → KeepsLog g.V.Volume c.stage.new.log mid all = search rules in
    let synced : IfSome (g.V.Volume.bytes old) (λ _. Syncs (g.V.Volume.moment old) (g.V.Volume.moment mid) (g.V.Volume.synced old) (g.V.Volume.synced mid)) = search rules in
    written_failed g.V.Volume old mid c.seal_group.new.volume c.stage.ensures.on.time.later c.seal_group.ensures.on.time c.args.ledger.now.log c.stage.new.log c.stage.ensures.same groups group
    (bytes group holds) synced (c.stage.ensures.during groups keeps) (kept groups keeps) (c.seal_group.ensures.during groups group (kept groups keeps) (staged group holds))
    (c.seal_group.ensures.opened groups group (kept groups keeps) (staged group holds))

pub returns-clause-leaves : goal.returns-clause-leaves
returns-clause-leaves g c = λ groups group keeps holds.
    let old = c.args.volume.now in
    let mid = c.stage.new.volume in
    let bytes : (next : FrameGroup) → HoldsNext g.V.Volume c.args.ledger.now.log old next → g.V.Volume.bytes mid ≡ option_map (with_staged c.args.ledger.now.log.end next) (g.V.Volume.bytes old) = search rules in
    let staged : (next : FrameGroup) → HoldsNext g.V.Volume c.args.ledger.now.log old next → HasStaged g.V.Volume c.stage.new.log mid next = search rules in
    let kept : (all : List FrameGroup) → KeepsLog g.V.Volume c.args.ledger.now.log old all → KeepsLog g.V.Volume c.stage.new.log mid all = search rules in
    written_done g.V.Volume old mid c.seal_group.new.volume c.stage.ensures.on.time.later c.seal_group.ensures.on.time c.args.ledger.now.log c.stage.new.log c.stage.ensures.same groups group
    (bytes group holds) (c.stage.ensures.during groups keeps) (c.seal_group.ensures.during groups group (kept groups keeps) (staged group holds))

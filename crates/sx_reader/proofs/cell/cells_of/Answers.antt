use Rattle.sx_log.specs.Kept.{listed}
use Rattle.sx_reader.proofs.Checking.{there-in}
use Rattle.sx_reader.proofs.Placing.{below-group, placed-group, starts-group}
use Rattle.sx_reader.proofs.cell.cells_of.Goals as goal

pub add_group-requires-clause-below : goal.add_group-requires-clause-below
add_group-requires-clause-below g c =
    let rows = listed c.args.log.now.groups in
    let there = there-in c.as_slice-group-items.result.now rows c.loop-group.group-index c.group-item.result c.as_slice-group-items.ensures c.loop-group-test.true c.group-item.is in
    (below-group c.args.log.now.end c.loop-group.group-index c.group-item.result rows there c.loop-group.invariant.below).0

pub add_group-requires-clause-start : goal.add_group-requires-clause-start
add_group-requires-clause-start g c =
    let rows = listed c.args.log.now.groups in
    let there = there-in c.as_slice-group-items.result.now rows c.loop-group.group-index c.group-item.result c.as_slice-group-items.ensures c.loop-group-test.true c.group-item.is in
    (starts-group c.args.log.now.end c.loop-group.group-index c.group-item.result rows there c.loop-group.invariant.starts).0

pub loop-group-preserved : goal.loop-group-preserved
loop-group-preserved g c =
    let rows = listed c.args.log.now.groups in
    let there = there-in c.as_slice-group-items.result.now rows c.loop-group.group-index c.group-item.result c.as_slice-group-items.ensures c.loop-group-test.true c.group-item.is in
    record {
      placed_are = placed-group rows c.loop-group.group-index c.group-item.result _ _ _ there c.in_ok-add_group.ensures.placed c.loop-group.invariant.placed_are;
      starts = (starts-group c.args.log.now.end c.loop-group.group-index c.group-item.result rows there c.loop-group.invariant.starts).1;
      below = (below-group c.args.log.now.end c.loop-group.group-index c.group-item.result rows there c.loop-group.invariant.below).1;
      each = c.in_ok-add_group.ensures.each;
      told = c.in_ok-add_group.ensures.told;
    }

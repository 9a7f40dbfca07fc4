use Rattle.std.proofs.Common.{arith, [], inr}
use Rattle.sx_frame.specs.declared.table.FrameRow.{FrameRow}
use Rattle.sx_reader.proofs.Checking.{copied-in}
use Rattle.sx_reader.proofs.Placing.{below-next, cell-next, placed-next, told-next, told-outside}
use Rattle.sx_reader.proofs.cell.add_group.Goals as goal

abbrev none : FrameRow
none = record { bytes = 0; digest = [] }

pub cell_in-requires : goal.cell_in-requires
cell_in-requires g c =
    let there = copied-in c.as_slice-row-items.result.now c.args.group.now.table c.loop-row.row-index none c.as_slice-row-items.ensures c.loop-row-test.true in
    let below = below-next c.args.end c.loop-row.place c.loop-row.row-index _ c.args.group.now.table there c.loop-row.invariant.below in
    record { there = inr (c.requires.calm, omega (arith, below.0, c.requires.end)) }

pub loop-row-preserved : goal.loop-row-preserved
loop-row-preserved g c =
    let there = copied-in c.as_slice-row-items.result.now c.args.group.now.table c.loop-row.row-index none c.as_slice-row-items.ensures c.loop-row-test.true in
    let below = below-next c.args.end c.loop-row.place c.loop-row.row-index _ c.args.group.now.table there c.loop-row.invariant.below in
    let cell = c.in_ok-cell.cell in
    record {
      end = omega (arith, below.0, c.from-place.ensures);
      placed_are = rw c.from-place.ensures
          (placed-next c.loop-row.cells.items c.push.new.self.items cell _ c.loop-row.place c.args.group.now.table c.loop-row.row-index _ there
          c.in_ok-push.ensures.items c.in_ok-cell.ensures.place c.in_ok-cell.ensures.row c.loop-row.invariant.placed_are);
      below = rw c.from-place.ensures below.2;
      each = cell-next g.V.Spot.Spot c.loop-row.cells.items c.push.new.self.items cell _ c.in_ok-push.ensures.items c.in_ok-cell.ensures.row c.in_ok-cell.ensures.count below.1 c.loop-row.invariant.each;
      told = told-next g.V.Spot.Spot (g.V.Volume.bytes c.args.volume.now) c.loop-row.cells.items c.push.new.self.items cell c.in_ok-push.ensures.items
          (told-outside g.V.Spot.Spot (g.V.Volume.bytes c.args.volume.now) (g.V.Volume.held c.args.volume.now) c.loop-row.place _ cell c.requires.free below.1 c.in_ok-cell.ensures.told) c.loop-row.invariant.told;
    }

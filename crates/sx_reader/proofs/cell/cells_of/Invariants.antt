use Rattle.std.proofs.Common.{◌≡◌, ◌++◌, map, drop}
use Rattle.std.specs.List.{AllByRecursion}
use Rattle.sx_log.specs.Kept.{listed}
use Rattle.sx_reader.specs.Cells.{IsCell, LieBelow, StartBelow, TellPieces, placed, placed_in, placed_of}
use Rattle.sx_reader.proofs.cell.cells_of.Given as goal

abbrev pub invariant-loop-group : goal.invariant-loop-group
invariant-loop-group g l = record {
  placed_are : map placed l.cells.items ++ placed_in (drop l.group-index (listed l.fn.log.groups)) ≡ placed_of l.fn.log;
  starts : StartBelow l.fn.log.end (drop l.group-index (listed l.fn.log.groups));
  below : LieBelow l.fn.log.end (placed_in (drop l.group-index (listed l.fn.log.groups)));
  each : AllByRecursion (IsCell g.V.Spot.Spot) l.cells.items;
  told : TellPieces g.V.Spot.Spot (g.V.Volume.bytes l.fn.volume) l.cells.items;
}

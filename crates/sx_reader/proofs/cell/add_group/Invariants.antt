use Rattle.std.proofs.Common.{◌≡◌, ◌+◌, ◌*◌, ◌≤◌, ◌++◌, map, drop}
use Rattle.std.specs.List.{AllByRecursion}
use Rattle.sx_reader.specs.Cells.{IsCell, LieBelow, TellPieces, placed, placed_from}
use Rattle.sx_reader.proofs.cell.add_group.Given as goal

abbrev pub invariant-loop-row : goal.invariant-loop-row
invariant-loop-row g l = record {
  end : l.place ≤ l.fn.end;
  placed_are : map placed l.cells.items ++ placed_from l.place (drop l.row-index l.fn.group.table)
      ≡ map placed l.fn.cells.items ++ placed_from (l.fn.group.place + (80 + 36 * l.fn.group.root.frames)) l.fn.group.table;
  below : LieBelow l.fn.end (placed_from l.place (drop l.row-index l.fn.group.table));
  each : AllByRecursion (IsCell g.V.Spot.Spot) l.cells.items;
  told : TellPieces g.V.Spot.Spot (g.V.Volume.bytes l.fn.volume) l.cells.items;
}

use Rattle.std.proofs.Common.{◌≡◌, ◌<◌, ◌≤◌, length, take}
use Rattle.sx_paths.specs.Entries.{IsIndexOf, rows_of}
use Rattle.sx_paths.proofs.entries.cut.Given as goal

abbrev pub invariant-loop-entries : goal.invariant-loop-entries
invariant-loop-entries l = record {
  within : l.count ≤ length l.entries.items;
  few : length l.entries.items < 4_294_967_296;
  front : take l.count l.entries.items ≡ take l.count l.fn.entries.items;
  indexed : IsIndexOf l.index (rows_of l.entries.items);
}

abbrev pub decreases-loop-entries : goal.decreases-loop-entries
decreases-loop-entries l = goal.left-loop-entries l

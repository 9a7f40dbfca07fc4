use Rattle.std.proofs.Common.{◌≡◌, ◌+◌, ◌≤◌, length, None, IfSome}
use Rattle.sx_paths.specs.Load.{TellsFrom}
use Rattle.sx_paths.proofs.table.PathTable.load.Given as goal

abbrev pub invariant-loop-before : goal.invariant-loop-before
invariant-loop-before g l = record {
  paths : IfSome (g.P.Records.told l.fn.records) (λ told. TellsFrom told 1 l.table.paths);
  count : length l.table.paths ≡ l.before;
  no_mark : l.table.marked ≡ None;
  gets : g.P.Records.gets l.records ≤ g.P.Records.gets l.fn.records + l.before;
  never_falls : g.P.Records.faults l.fn.records ≤ g.P.Records.faults l.records;
  keeps : g.P.Records.keeps l.fn.records l.records;
  same : g.P.Records.told l.records ≡ g.P.Records.told l.fn.records;
}

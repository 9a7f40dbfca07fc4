use Rattle.std.proofs.Common.{◌≡◌, map}
use Rattle.sx_paths.specs.Table.{row_of}
use Rattle.sx_paths.specs.Entries.{row_before, stamps_of}
use Rattle.sx_paths.proofs.EntryLemmas.{mixed}
use Rattle.sx_paths.proofs.entries.restore.Given as goal

abbrev pub invariant-loop-entry : goal.invariant-loop-entry
invariant-loop-entry l = record {
  rows : mixed (λ e. row_of e.path) (row_before l.stamp) l.entry-index l.entries ≡ map (row_before l.stamp) l.fn.entries;
  stamps : stamps_of l.entries ≡ stamps_of l.fn.entries;
}

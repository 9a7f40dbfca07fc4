use Rattle.std.proofs.Common.{◌≡◌, map}
use Rattle.sx_paths.specs.Entries.{rows_of}
use Rattle.sx_paths.proofs.EntryLemmas.{mixed}
use Rattle.sx_paths.proofs.entries.forget_stamps.Given as goal

abbrev pub invariant-loop-entry : goal.invariant-loop-entry
invariant-loop-entry l = record {
  rows : rows_of l.entries ≡ rows_of l.fn.entries;
  stamps : mixed (λ e. e.stamp) (λ e. 0) l.entry-index l.entries ≡ map (λ e. 0) l.fn.entries;
}

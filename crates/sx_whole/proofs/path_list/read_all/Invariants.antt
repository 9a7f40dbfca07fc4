use Rattle.std.specs.FinMap as fin
use Rattle.sx_view.specs.Slots.{held}
use Rattle.sx_whole.proofs.PathsRead.{PathsRead}
use Rattle.sx_whole.proofs.path_list.read_all.Given as goal

abbrev pub invariant-loop-before : goal.invariant-loop-before
invariant-loop-before l = PathsRead l.initial.fields l.fields (fin.entries (held l.paths.slots.entries)) l.before

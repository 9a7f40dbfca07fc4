use Rattle.std.specs.FinMap as fin
use Rattle.sx_view.specs.Slots.{held}
use Rattle.sx_whole.proofs.NodesRead.{NodesRead}
use Rattle.sx_whole.proofs.node_list.read_all.Given as goal

abbrev pub invariant-loop : goal.invariant-loop
invariant-loop l = NodesRead l.initial.fields l.fields (fin.entries (held l.nodes.slots.entries)) l.least l.counter

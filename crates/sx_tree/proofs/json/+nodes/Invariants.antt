use Rattle.std.proofs.Common.{◌≡◌, ◌-◌, ◌^◌, min, take}
use Rattle.sx_tree.specs.Value.{values_of, nodes_of_values}
use Rattle.sx_tree.proofs.json.+nodes.Given as goal

abbrev pub invariant-total_nodes-loop-value : goal.invariant-total_nodes-loop-value
invariant-total_nodes-loop-value l = l.total ≡ min (nodes_of_values (values_of (take l.value-index l.values))) (2 ^ 64 - 1)

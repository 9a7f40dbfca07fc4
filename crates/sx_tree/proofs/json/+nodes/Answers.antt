use Rattle.std.proofs.Common.{◌≡◌, ◌+◌, suc, length, arith}
use Rattle.sx_tree.specs.Value.{value_of, values_of, nodes, nodes_of_values}
use Rattle.sx_tree.proofs.ValueTrees.{nodes-Object, nodes_of_values-more}
use Rattle.sx_tree.proofs.json.+nodes.Goals as goal

pub Json::nodes-returns-in-Object : goal.Json::nodes-returns-in-Object
Json::nodes-returns-in-Object t c =
    let within : nodes (value_of c.args.self.now) ≡ suc (nodes_of_values (values_of c.values-values.result.now) + length c.values-values.result.now)
    = rw c.in-Object.is (nodes-Object c.in-Object.members c.values-values.result.now c.values-values.ensures.same) in
    omega (arith, within)

pub total_nodes-loop-value-preserved : goal.total_nodes-loop-value-preserved
total_nodes-loop-value-preserved t c =
    omega (arith, nodes_of_values-more c.args.values.now c.loop-value.value-index c.value-item.result c.loop-value-test.true c.value-item.is)

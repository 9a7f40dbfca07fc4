use Rattle.std.proofs.Common.{◌≡◌, suc, arith}
use Rattle.sx_tree.specs.Value.{value_of, values_of, depth, depth_of_values}
use Rattle.sx_tree.proofs.ValueTrees.{depth-Object, depth_of_values-more}
use Rattle.sx_tree.proofs.json.+depth.Goals as goal

pub Json::depth-returns-in-Object : goal.Json::depth-returns-in-Object
Json::depth-returns-in-Object t c =
    let within : depth (value_of c.args.self.now) ≡ suc (depth_of_values (values_of c.values.result.now))
    = rw c.in-Object.is (depth-Object c.in-Object.members c.values.result.now c.values.ensures.same) in
    omega (arith, within)

pub deepest-loop-value-preserved : goal.deepest-loop-value-preserved
deepest-loop-value-preserved t c =
    omega (arith, depth_of_values-more c.args.values.now c.loop-value.value-index c.value-item.result c.loop-value-test.true c.value-item.is)

use Rattle.std.proofs.Common.{◌≡◌, ◌-◌, ◌^◌, min, take}
use Rattle.sx_tree.specs.Value.{values_of, depth_of_values}
use Rattle.sx_tree.proofs.json.+depth.Given as goal

abbrev pub invariant-deepest-loop-value : goal.invariant-deepest-loop-value
invariant-deepest-loop-value l = l.deepest ≡ min (depth_of_values (values_of (take l.value-index l.values))) (2 ^ 32 - 1)

use Rattle.std.proofs.Common.{◌≡◌, ◌*◌, ◌≤◌, drop}
use Rattle.sx_layout.specs.Rule.{first_broken}
use Rattle.sx_layout.specs.Rules.{table_rules}
use Rattle.sx_log.proofs.Ruled.{left_rules}
use Rattle.sx_log.proofs.rules.table_damage.Given as goal

abbrev pub invariant-loop-row : goal.invariant-loop-row
invariant-loop-row l = record {
  so_far : first_broken (table_rules l.root l.table) ≡ first_broken (left_rules l.root l.sum (drop l.row-index l.table));
  small : l.sum ≤ l.row-index * 4_294_967_295;
}

use Rattle.std.proofs.Common.{◌≡◌, ◌++◌, length, take}
use Rattle.std.specs.Prelude.{flat_map}
use Rattle.std.specs.Int.{w32, to_be_bytes}
use Rattle.std.specs.FinMap as fin
use Rattle.sx_view.specs.Slots.{held, at_mark}
use Rattle.sx_whole.specs.Body.{AreNodes, node_entry}
use Rattle.sx_whole.proofs.writing.put_nodes.Given as goal

abbrev pub invariant-loop-number : goal.invariant-loop-number
invariant-loop-number l = record {
  same : held l.nodes.slots.entries ≡ held l.fn.nodes.slots.entries;
  same_mark : at_mark l.nodes.slots l.nodes.changes ≡ at_mark l.fn.nodes.slots l.fn.nodes.changes;
  numbers : l.number-items ≡ fin.keys (held l.fn.nodes.slots.entries);
  known : AreNodes (take l.number-index (fin.entries (held l.fn.nodes.slots.entries)));
  out_is : let es = fin.entries (held l.fn.nodes.slots.entries) in l.out ≡ l.fn.out ++ (to_be_bytes w32 (length es) ++ flat_map node_entry (take l.number-index es));
}

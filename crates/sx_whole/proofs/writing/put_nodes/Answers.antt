use Rattle.std.proofs.Common.{◌++◌, length, take, ◌∙◌}
use Rattle.std.specs.Prelude.{flat_map}
use Rattle.std.specs.Int.{w32, to_be_bytes}
use Rattle.std.specs.FinMap as fin
use Rattle.sx_record.proofs.Extends.{front_then}
use Rattle.sx_view.specs.Slots.{held}
use Rattle.sx_whole.specs.Body.{node_entry}
use Rattle.sx_whole.proofs.Written.{key_there, node_known, node_more}
use Rattle.sx_whole.proofs.writing.put_nodes.Goals as goal

pub put_node-requires : goal.put_node-requires
put_node-requires c =
    (key_there (held c.loop-number.nodes.slots.entries) (held c.args.nodes.now.slots.entries) c.as_slice-number-items.result.now c.loop-number.number-index c.loop-number.invariant.same c.loop-number.invariant.numbers c.loop-number-test.true).1

pub returns-in_err-put_node-clause-front : goal.returns-in_err-put_node-clause-front
returns-in_err-put_node-clause-front c =
    let nodes = fin.entries (held c.args.nodes.now.slots.entries) in
    front_then c.args.out.now (to_be_bytes w32 (length nodes) ++ flat_map node_entry (take c.loop-number.number-index nodes)) c.loop-number.out c.put_node.new.out c.loop-number.invariant.out_is c.in_err-put_node.ensures.front

pub loop-number-preserved : goal.loop-number-preserved
loop-number-preserved c = record {
  same = c.in_ok-put_node.ensures.keeps.0 ∙ c.loop-number.invariant.same;
  same_mark = c.in_ok-put_node.ensures.keeps.1 ∙ c.loop-number.invariant.same_mark;
  numbers = c.loop-number.invariant.numbers;
  known = node_known (held c.loop-number.nodes.slots.entries) (held c.args.nodes.now.slots.entries) c.as_slice-number-items.result.now c.loop-number.number-index
      c.loop-number.invariant.same c.loop-number.invariant.numbers c.loop-number-test.true c.loop-number.invariant.known c.in_ok-put_node.ensures.known;
  out_is = let start = held c.args.nodes.now.slots.entries in
      node_more (held c.loop-number.nodes.slots.entries) start c.as_slice-number-items.result.now c.loop-number.number-index c.args.out.now (to_be_bytes w32 (length (fin.entries start))) c.loop-number.out c.put_node.new.out
      c.loop-number.invariant.same c.loop-number.invariant.numbers c.loop-number-test.true c.loop-number.invariant.out_is c.in_ok-put_node.ensures.ok;
}

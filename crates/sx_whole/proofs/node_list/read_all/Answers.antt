use Rattle.sx_view.specs.Slots.{held}
use Rattle.sx_whole.proofs.NodesRead.{nodes-start, nodes-more}
use Rattle.sx_whole.proofs.node_list.read_all.Goals as goal

pub loop-init : goal.loop-init
loop-init c = nodes-start c.args.fields.now (held c.new-nodes.result.slots.entries) c.new-nodes.ensures.told

pub loop-preserved : goal.loop-preserved
loop-preserved c =
    nodes-more c.args.fields.now c.loop.fields c.read_node.new.fields (held c.loop.nodes.slots.entries) (held c.put.new.self.slots.entries) (c.in_ok-number.number, c.in_ok-number.node) c.loop.least c.loop.counter
    c.loop.invariant c.in_ok-number.ensures.found c.in_ok-number.ensures.number c.in_ok-number.ensures.known c.in_ok-put.ensures.ok

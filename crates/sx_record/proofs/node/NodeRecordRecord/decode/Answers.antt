use Rattle.std.proofs.Common.{◌∙◌}
use Rattle.sx_record.specs.Laws.{node_none, node_other}
use Rattle.sx_record.specs.Given.{given_node}
use Rattle.sx_record.proofs.node.NodeRecordRecord.decode.Goals as goal

pub returns-in_default-clause-none : goal.returns-in_default-clause-none
returns-in_default-clause-none c = λ r rest is e. node_none c.new-ahead.result c.in_default.ensures.read r rest is (c.new-ahead.ensures ∙ c.rest.ensures ∙ e)

pub returns-in_default-2-clause-none : goal.returns-in_default-2-clause-none
returns-in_default-2-clause-none c = λ r rest is e.
    node_other c.new-ahead.result (given_node c.in-Some.given) c.read_node.new.fields c.in-Some.ensures.read (rw c.in_default-2.is at c.in_ok-node.ensures.none) r rest is (c.new-ahead.ensures ∙ c.rest.ensures ∙ e)

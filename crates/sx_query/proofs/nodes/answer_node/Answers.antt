use Rattle.sx_query.proofs.OfNodes.{gives_node, no_record, record_gives}
use Rattle.sx_query.proofs.nodes.answer_node.Goals as goal

pub returns-in_err-record-clause-gives : goal.returns-in_err-record-clause-gives
returns-in_err-record-clause-gives g c = λ count names.
    record_gives _ _ c.args.node count names _ _ _ _ c.from_residual.ensures.1 (g.met.N.Records.untold _) (λ absent. no_record _ _ absent count names) c.in_err-record.ensures.fault

pub returns-clause-gives : goal.returns-clause-gives
returns-clause-gives g c = gives_node _ _ _ c.in_ok-record.ensures.found

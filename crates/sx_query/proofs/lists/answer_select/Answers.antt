use Rattle.sx_query.proofs.OfNodes.{gives_fault, gives_selected}
use Rattle.sx_query.proofs.lists.answer_select.Goals as goal

pub returns-in_err-selected-clause-gives : goal.returns-in_err-selected-clause-gives
returns-in_err-selected-clause-gives g c = λ names.
    gives_fault _ _ c.args.count names _ _ c.from_residual.ensures.1 c.in_err-selected.ensures.sound

pub returns-clause-gives : goal.returns-clause-gives
returns-clause-gives g c = gives_selected _ c.args.path.now _ c.in_ok-selected.ensures.selects c.args.count

use Rattle.sx_script.proofs.Found.{none_told}
use Rattle.sx_script.proofs.OneFront.{axis_number}
use Rattle.sx_script.proofs.questions.axis.Goals as goal

pub returns-in-None-clause-none : goal.returns-in-None-clause-none
returns-in-None-clause-none c = λ a k is.
    none_told c.in_ok-node.field-0 _ c.in-None.is c.in_ok-node.ensures.none k
    (axis_number c.args.text.now c.in-Some.words.now c.front-word.result.now a k c.in-Some.ensures.found c.front-word.ensures.front is)

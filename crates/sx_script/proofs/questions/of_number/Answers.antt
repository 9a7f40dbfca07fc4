use Rattle.sx_script.proofs.Found.{at_none, none_told}
use Rattle.sx_script.proofs.Spelt.{no_number}
use Rattle.sx_script.proofs.questions.of_number.Goals as goal

pub returns-in-None-clause-none : goal.returns-in-None-clause-none
returns-in-None-clause-none c =
    no_number c.args.text.now
    (at_none c.in_ok-node.field-0 _ c.in_default.not-Some c.in_ok-node.ensures.none)
    (at_none c.in_ok-node-2.field-0 _ c.in_default-2.not-Some c.in_ok-node-2.ensures.none)
    (at_none c.in_ok-node-3.field-0 _ c.in_default-3.not-Some c.in_ok-node-3.ensures.none)
    (none_told c.in_ok-path.field-0 _ c.in-None.is c.in_ok-path.ensures.none)

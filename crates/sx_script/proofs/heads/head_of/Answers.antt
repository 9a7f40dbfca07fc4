use Rattle.sx_script.proofs.Found.{at_none, none_told}
use Rattle.sx_script.proofs.EditParts.{no_head}
use Rattle.sx_script.proofs.heads.head_of.Goals as goal

pub returns-in-None-clause-none : goal.returns-in-None-clause-none
returns-in-None-clause-none c =
    no_head c.args.text.now
    (at_none c.behind.result _ c.in_default.not-Some c.behind.ensures.none)
    (at_none c.in_ok-place.field-0 _ c.in_default-2.not-Some c.in_ok-place.ensures.none)
    (at_none c.in_ok-place-2.field-0 _ c.in_default-3.not-Some c.in_ok-place-2.ensures.none)
    (at_none c.in_ok-node.field-0 _ c.in_default-4.not-Some c.in_ok-node.ensures.none)
    (at_none c.in_ok-node-2.field-0 _ c.in_default-5.not-Some c.in_ok-node-2.ensures.none)
    (none_told c.in_ok-node-3.field-0 _ c.in-None.is c.in_ok-node-3.ensures.none)

use Rattle.std.proofs.lemmas.Result.{IfOk-at_ok}
use Rattle.sx_script.proofs.EditEnds.{rename_other}
use Rattle.sx_script.proofs.edits.rename.Goals as goal

pub returns : goal.returns
returns c =
    rename_other c.args.node c.args.rest.now c.in-Ok.found.0 c.in-Ok.found.1.now c.is_empty.result (IfOk-at_ok _ c.in-Ok.is c.in_ok-found.ensures.quoted)
    (IfOk-at_ok _ c.in-Ok.is c.in_ok-found.ensures.no_fault) c.is_empty.ensures c.if-is_empty.false

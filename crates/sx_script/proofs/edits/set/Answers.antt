use Rattle.std.proofs.Common.{subst, sym}
use Rattle.std.proofs.lemmas.Result.{IfOk-at_ok}
use Rattle.sx_script.specs.Edits.{EndsAs}
use Rattle.sx_script.specs.declared.edits.EditText.{EditText}
use Rattle.sx_script.specs.declared.heads.Head.TheVariants as heads
use Rattle.sx_script.proofs.EditEnds.{set_ends}
use Rattle.sx_script.proofs.edits.set.Goals as goal
use Rattle.sx_tree.specs.Value.{value_of}

pub returns-in-Ok : goal.returns-in-Ok
returns-in-Ok c =
    subst (λ (t : EditText). EndsAs (heads.Set c.args.node) c.args.rest.now t) (sym c.set_to.ensures)
    (set_ends c.args.node c.args.rest.now (value_of c.in-Ok.value) (IfOk-at_ok _ c.in-Ok.is c.in_ok-value.ensures.spelled)
    (IfOk-at_ok _ c.in-Ok.is c.in_ok-value.ensures.only) (IfOk-at_ok _ c.in-Ok.is c.in_ok-value.ensures.no_fault))

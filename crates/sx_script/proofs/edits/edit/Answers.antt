use Rattle.std.proofs.Common.{ℕ}
use Rattle.std.specs.Prelude.{codes}
use Rattle.std.proofs.lemmas.Result.{IfOk-weaker}
use Rattle.sx_run.specs.Spelling.{SpellsNumbered}
use Rattle.sx_script.specs.Edits.{EndsAs, IsEditText, Leads}
use Rattle.sx_script.proofs.EditParts.{edit_text, no_edit_text}
use Rattle.sx_script.proofs.Found.{at_none, none_told, some_told}
use Rattle.sx_script.proofs.edits.edit.Goals as goal

pub returns-in-Some-2 : goal.returns-in-Some-2
returns-in-Some-2 c =
    let text = c.args.text.now in
    let none : (k : ℕ) → SpellsNumbered text (codes "remove") k → ⊥ = at_none c.in_ok-node.field-0 _ c.in_default.not-Some c.in_ok-node.ensures.none in
    let leads : Leads text c.in-Some-2.head c.in-Some-2.rest.now = some_told c.in_ok-head.field-0 _ _ c.in-Some-2.is c.in_ok-head.ensures.found in
    IfOk-weaker c.finish.result (EndsAs c.in-Some-2.head c.in-Some-2.rest.now) (IsEditText text)
    (λ t ends. edit_text text c.in-Some-2.head c.in-Some-2.rest.now t none leads ends) c.finish.ensures

pub returns-in-None : goal.returns-in-None
returns-in-None c =
    let none : (k : ℕ) → SpellsNumbered c.args.text.now (codes "remove") k → ⊥ = at_none c.in_ok-node.field-0 _ c.in_default.not-Some c.in_ok-node.ensures.none in
    no_edit_text c.args.text.now none (none_told c.in_ok-head.field-0 _ c.in-None.is c.in_ok-head.ensures.none)

use Rattle.std.proofs.Common.{subst}
use Rattle.sx_script.specs.Edits.{IsEditText}
use Rattle.sx_script.specs.declared.edits.EditText.{EditText}
use Rattle.sx_script.specs.declared.edits.EditText.TheVariants as texts
use Rattle.sx_script.proofs.asks.edit_line.Goals as goal

pub returns-in-Other-clause-no_fault : goal.returns-in-Other-clause-no_fault
returns-in-Other-clause-no_fault c = λ f spells.
    let other : IsEditText c.args.text.now texts.Other = subst (λ (t : EditText). IsEditText c.args.text.now t) c.in-Other.is c.in_ok-edit.ensures in
    other.1 f spells.1

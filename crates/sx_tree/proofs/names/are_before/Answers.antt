use Rattle.std.proofs.Common.{◌∙◌, sym}
use Rattle.sx_tree.proofs.AscendingNames.{all_before, less_of}
use Rattle.sx_tree.proofs.names.are_before.Goals as goal

pub returns-in-Some : goal.returns-in-Some
returns-in-Some c = λ is_less. all_before c.args.names.now c.in-Some.last.now c.args.name.now (sym c.in-Some.ensures.value) (less_of _ (sym c.lt.ensures ∙ is_less))

use Rattle.sx_tree.proofs.AscendingNames.{is_found, not_found}
use Rattle.sx_tree.proofs.names.place_among.Goals as goal

pub returns-in-Ok-clause-found : goal.returns-in-Ok-clause-found
returns-in-Ok-clause-found c = is_found c.args.names.now c.args.name.now c.in-Ok.place c.in-Ok.ensures.bound (c.in-Ok.ensures.ok c.args.name.now)

pub returns-in-Err-clause-none : goal.returns-in-Err-clause-none
returns-in-Err-clause-none c = not_found c.args.names.now c.args.name.now c.in-Err.field-0 c.requires c.in-Err.ensures.position

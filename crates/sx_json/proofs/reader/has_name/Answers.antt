use Rattle.std.proofs.Common.{refl}
use Rattle.sx_tree.specs.Names.{names_of}
use Rattle.sx_tree.proofs.NameLists.{Contains-slice_get}
use Rattle.sx_json.proofs.reader.has_name.Goals as goal

pub returns-in-Some : goal.returns-in-Some
returns-in-Some c = (λ t. Contains-slice_get (names_of c.args.members.now) c.args.name.now c.in-Some.field-0 c.in-Some.ensures.found, λ there. refl)

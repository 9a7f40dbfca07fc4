use Rattle.std.proofs.Common.{inr, refl}
use Rattle.sx_tree.specs.Names.{names_of}
use Rattle.sx_tree.proofs.NameLists.{Contains-slice_get}
use Rattle.sx_json.proofs.reader.add_member.Goals as goal

pub returns-in-Err-Taken-clause-fault : goal.returns-in-Err-Taken-clause-fault
returns-in-Err-Taken-clause-fault c =
    let taken = rw c.in-Err-Taken.field-0-is at c.in-Err-Taken.ensures.fault in
    inr (Contains-slice_get (names_of c.args.members.now) c.args.name taken.0 taken.1, refl)

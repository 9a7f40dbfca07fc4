use Rattle.std.proofs.Common.{◌≡◌}
use Rattle.sx_tree.specs.Names.{names_of}
use Rattle.sx_tree.proofs.MemberLists.{names_of-zip}
use Rattle.sx_tree.proofs.named_list.NamedList.find.Goals as goal

pub returns-clause-found : goal.returns-clause-found
returns-clause-found g c =
    let names : names_of c.args.self.now ≡ c.self.inside.names = rw (← c.self.view_is) (names_of-zip c.self.inside.names c.self.inside.values.items c.self.invariant) in
    rw names c.find.ensures.found

pub returns-clause-none : goal.returns-clause-none
returns-clause-none g c =
    let names : names_of c.args.self.now ≡ c.self.inside.names = rw (← c.self.view_is) (names_of-zip c.self.inside.names c.self.inside.values.items c.self.invariant) in
    rw names c.find.ensures.none

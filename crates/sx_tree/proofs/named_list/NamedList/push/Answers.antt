use Rattle.std.proofs.Common.{◌≡◌, ◌++◌, ◌∷◌, [], rules}
use Rattle.std.proofs.lemmas.Result.{err_from_is_err_and}
use Rattle.sx_tree.specs.Names.{names_of}
use Rattle.sx_tree.proofs.MemberLists.{names_of-zip, zip-push}
use Rattle.sx_tree.proofs.named_list.NamedList.push.Goals as goal

pub returns-in-Err-clause-fault : goal.returns-in-Err-clause-fault
returns-in-Err-clause-fault g c =
    let names : names_of c.args.self.now ≡ c.self.inside.names = rw (← c.self.view_is) (names_of-zip c.self.inside.names c.self.inside.values.items c.self.invariant) in
    rw names c.fault_of.ensures

pub returns-in_err-push-clause-fault : goal.returns-in_err-push-clause-fault
returns-in_err-push-clause-fault g c =
    let names : names_of c.args.self.now ≡ c.self.inside.names = rw (← c.self.view_is) (names_of-zip c.self.inside.names c.self.inside.values.items c.self.invariant) in
    let p = err_from_is_err_and c.from_residual.result c.from_residual.ensures.1 in
    rw (p.1, p.2, names) c.in_err-push.ensures.fault

pub returns-clause-new_name : goal.returns-clause-new_name
returns-clause-new_name g c =
    let names : names_of c.args.self.now ≡ c.self.inside.names = rw (← c.self.view_is) (names_of-zip c.self.inside.names c.self.inside.values.items c.self.invariant) in
    rw names c.in_ok-push.ensures.new_name

pub returns-clause-ok : goal.returns-clause-ok
returns-clause-ok g c =
    let names : c.push.new.self ≡ c.self.inside.names ++ c.args.name ∷ [] = c.in_ok-push.ensures.ok in
    let values : c.push_reserved.new.self.items ≡ c.self.inside.values.items ++ c.args.value ∷ [] = search rules in
    rw (← c.self.view_is) (rw names (rw values (zip-push c.self.inside.names c.self.inside.values.items c.args.name c.args.value c.self.invariant)))

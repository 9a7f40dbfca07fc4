use Rattle.std.proofs.Common.{◌≡◌, rules}
use Rattle.sx_tree.proofs.member_list.MemberList.find.Goals as goal

pub returns-in-Some-clause-found : goal.returns-in-Some-clause-found
returns-in-Some-clause-found g c =
    let same : c.deref.result.now ≡ c.args.self.now = search rules in
    rw (← same) c.find.ensures.found

use Rattle.std.proofs.Common.{◌≡◌, rules}
use Rattle.sx_tree.proofs.member_list.MemberList.push.Goals as goal

pub returns-in-Some-clause-fault : goal.returns-in-Some-clause-fault
returns-in-Some-clause-fault g c =
    let same : c.deref_mut.result.now ≡ c.args.self.now = search rules in
    rw (← same) c.push.ensures.fault

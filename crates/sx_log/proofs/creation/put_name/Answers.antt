use Rattle.std.proofs.Common.{ap, length, List, ℕ}
use Rattle.sx_log.proofs.Parts.{name_put}
use Rattle.sx_log.proofs.creation.put_name.Goals as goal

pub returns-clause-put : goal.returns-clause-put
returns-clause-put c =
    let name : List ℕ = c.args.name.now in
    let same = c.as_bytes-bytes.ensures.same in
    let long = ap (λ (b : List ℕ). length b) same in
    name_put c.args.out.now.items c.push.new.self.items c.extend_from_slice.new.self.items c.extend_from_slice-2.new.self.items c.as_bytes-bytes.result.now name c.split_at.result.1.now _ _
    c.in_ok-push.ensures.items c.in_ok-extend_from_slice.ensures.items c.in_ok-extend_from_slice-2.ensures.items long same c.split_at.ensures.back long

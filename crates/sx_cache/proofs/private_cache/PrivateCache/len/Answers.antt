use Rattle.sx_cache.proofs.ByValue.{keys-by_value, length-by_value}
use Rattle.sx_cache.proofs.private_cache.PrivateCache.len.Goals as goal

pub returns-clause-listed : goal.returns-clause-listed
returns-clause-listed g c =
    let h = c.len.ensures.valid in let es = c.self.inside.leaves.entries in
    rw (← c.self.view_is, keys-by_value es, length-by_value es) (h.0, rw c.self.invariant at h.1)

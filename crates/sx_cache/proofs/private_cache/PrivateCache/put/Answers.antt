use Rattle.std.proofs.Common.{ℕ, ap, ◌∙◌}
use Rattle.std.specs.Arc.{arc_value}
use Rattle.sx_cache.specs.ByUse.{by_value, is_leaf, same_leaf, with_newest}
use Rattle.sx_cache.proofs.ByValue.{is_leaf-same, put_entries-by_value}
use Rattle.sx_cache.proofs.private_cache.PrivateCache.put.Goals as goal

pub returns-clause-ok : goal.returns-clause-ok
returns-clause-ok g c =
    let key : ℕ × ℕ = (c.args.r, c.args.leaf) in let cache = c.self.inside.leaves in
    let moved = put_entries-by_value same_leaf cache key c.args.value (is_leaf-same c.args.r c.args.leaf) c.len.ensures.valid.1 in
    rw (← c.self.view_is, c.in_ok-put.ensures.entries) (moved ∙ ap (λ n. with_newest n (is_leaf c.args.r c.args.leaf) key (arc_value c.args.value) (by_value cache.entries)) c.self.invariant)

use Rattle.std.proofs.Common.{sym}
use Rattle.sx_cache.specs.ByUse.{is_leaf}
use Rattle.sx_cache.proofs.ByValue.{is_some-lookup-by_value, promoted-by_value}
use Rattle.sx_cache.proofs.private_cache.PrivateCache.promote.Goals as goal

pub returns-clause-there : goal.returns-clause-there
returns-clause-there g c = rw (← c.self.view_is, c.promote.ensures.value) (sym (is_some-lookup-by_value (is_leaf c.args.r c.args.leaf) c.self.inside.leaves.entries))

pub returns-clause-promoted : goal.returns-clause-promoted
returns-clause-promoted g c = rw (← c.self.view_is, c.promote.ensures.entries) (sym (promoted-by_value (is_leaf c.args.r c.args.leaf) c.self.inside.leaves.entries))

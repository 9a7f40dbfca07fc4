use Rattle.std.proofs.Common.{option_map, refl, ap}
use Rattle.std.specs.Arc.{arc_value}
use Rattle.sx_cache.specs.ByUse.{is_leaf}
use Rattle.sx_cache.proofs.ByValue.{lookup-promoted}
use Rattle.sx_cache.proofs.private_cache.PrivateCache.get.Goals as goal

pub returns : goal.returns
returns g c =
    let h = c.promote-there.ensures in let n = c.newest_if.ensures in
    ((refl, λ _. tt, h.promoted), record { promotes = tt; value = lookup-promoted (is_leaf c.args.r c.args.leaf) c.args.self.now c.promote-there.new.self c.promote-there.result _ h.there h.promoted n.asked (λ f. ap (option_map (λ it. arc_value it.now)) (n.not_asked f)) })

use Rattle.std.proofs.Common.{inr}
use Rattle.sx_json.proofs.Results.{if_ok_map}
use Rattle.sx_json.proofs.strings.unicode_at.Goals as goal

pub returns-in-None-clause-ok : goal.returns-in-None-clause-ok
returns-in-None-clause-ok c =
    if_ok_map _ _ c.surrogates_at.result c.surrogates_at.ensures.ok (λ p r. inr (c.in_ok-unit.unit, c.in_ok-unit.left.now, r.1, c.in_ok-unit.ensures.ok, r.0, r.2, r.3))

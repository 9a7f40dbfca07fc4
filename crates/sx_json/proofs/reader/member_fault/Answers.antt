use Rattle.std.proofs.Common.{inl, inr, refl}
use Rattle.sx_json.proofs.Nested.{fresh_name}
use Rattle.sx_json.proofs.reader.member_fault.Goals as goal

pub returns-then-has_name : goal.returns-then-has_name
returns-then-has_name c = inl (c.has_name.ensures.0 c.if-has_name.true, refl)

pub returns-else-has_name : goal.returns-else-has_name
returns-else-has_name c = inr (fresh_name _ _ _ c.has_name.ensures c.if-has_name.false, refl)

use Rattle.std.proofs.Common.{◌∙◌, refl, sym}
use Rattle.sx_valid.proofs.Looking.{judged_object, judged_too_few}
use Rattle.sx_valid.proofs.Searching.{judged_other}
use Rattle.sx_valid.proofs.fields.judge.Goals as goal

pub returns-then-not-is_object-clause-judged : goal.returns-then-not-is_object-clause-judged
returns-then-not-is_object-clause-judged g c = judged_other _ _ _ _ _ (sym c.is_object.ensures ∙ c.if-not-is_object.true)

pub returns-in_err-end-clause-too_few : goal.returns-in_err-end-clause-too_few
returns-in_err-end-clause-too_few g c = judged_too_few _ _ _ _ _ _ c.from_residual.ensures.1 (sym c.is_object.ensures ∙ c.if-not-is_object.false) c.in_err-end.ensures.looks

pub returns-clause-judged : goal.returns-clause-judged
returns-clause-judged g c = judged_object _ _ _ _ c.in_ok-end.end _ _ refl refl (sym c.is_object.ensures ∙ c.if-not-is_object.false) c.in_ok-end.ensures.looks c.unwrap_or.ensures c.unwrap_or-2.ensures

use Rattle.std.proofs.Common.{subst, sym}
use Rattle.sx_edit.specs.Clear.{AllLead}
use Rattle.sx_edit.proofs.Going.{leads-one}
use Rattle.sx_edit.proofs.Clearing.{lead-push}
use Rattle.sx_edit.proofs.clear.push_link.Goals as goal

pub returns-in_ok-push-clause-lead : goal.returns-in_ok-push-clause-lead
returns-in_ok-push-clause-lead c = λ o leads all. subst (AllLead o) (sym c.in_ok-push.ensures.items) (lead-push o _ _ (leads-one o _ _ _ c.in-Some.is leads) all)

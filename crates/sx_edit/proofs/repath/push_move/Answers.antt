use Rattle.std.proofs.Common.{subst, sym}
use Rattle.sx_edit.specs.Repath.{AllLead, AllThere}
use Rattle.sx_edit.proofs.Going.{leads-one}
use Rattle.sx_edit.proofs.Drifting.{there-push}
use Rattle.sx_edit.proofs.Repathing.{lead-push}
use Rattle.sx_edit.proofs.repath.push_move.Goals as goal

pub returns-in_ok-push-clause-lead : goal.returns-in_ok-push-clause-lead
returns-in_ok-push-clause-lead c = λ o leads all. subst (AllLead o) (sym c.in_ok-push.ensures.items) (lead-push o _ _ (leads-one o _ _ _ c.in-Some.is leads) all)

pub returns-in_ok-push-clause-there : goal.returns-in_ok-push-clause-there
returns-in_ok-push-clause-there c = λ table there all. subst (AllThere table) (sym c.in_ok-push.ensures.items) (there-push table _ _ there all)

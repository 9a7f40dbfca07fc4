use Rattle.sx_edit.proofs.Repathing.{goals-pop, lead-pop}
use Rattle.sx_edit.proofs.Drifting.{there-pop}
use Rattle.sx_edit.proofs.repath.pop_move.Goals as goal

pub returns-clause-some : goal.returns-clause-some
returns-clause-some c = goals-pop _ _ _ c.pop.ensures.items

pub returns-clause-lead : goal.returns-clause-lead
returns-clause-lead c = λ o all. lead-pop o _ _ _ c.pop.ensures.items all

pub returns-clause-there : goal.returns-clause-there
returns-clause-there c = λ table all. there-pop table _ _ _ c.pop.ensures.items all

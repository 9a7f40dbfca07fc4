use Rattle.sx_edit.proofs.Clearing.{lead-pop, tops-pop}
use Rattle.sx_edit.proofs.clear.pop_link.Goals as goal

pub returns-clause-some : goal.returns-clause-some
returns-clause-some c = tops-pop _ _ _ c.pop.ensures.items

pub returns-clause-lead : goal.returns-clause-lead
returns-clause-lead c = λ o all. lead-pop o _ _ _ c.pop.ensures.items all

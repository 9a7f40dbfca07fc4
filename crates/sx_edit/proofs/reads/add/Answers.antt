use Rattle.sx_edit.proofs.Results.{on_ok-then}
use Rattle.sx_edit.proofs.Adding.{added-put}
use Rattle.sx_edit.proofs.reads.add.Goals as goal

pub returns-clause-added : goal.returns-clause-added
returns-clause-added g c = on_ok-then c.put.result _ _ (added-put _ _ _ _) c.put.ensures.ok

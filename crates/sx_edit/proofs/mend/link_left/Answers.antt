use Rattle.std.proofs.Common.{refl}
use Rattle.sx_edit.proofs.Results.{on_ok-then}
use Rattle.sx_edit.proofs.Siblings.{changed-none, changed-put}
use Rattle.sx_edit.proofs.mend.link_left.Goals as goal

pub returns-in_default-clause-done : goal.returns-in_default-clause-done
returns-in_default-clause-done g c = rw c.in_default.is (changed-none _ _)

pub returns-clause-done : goal.returns-clause-done
returns-clause-done g c = on_ok-then c.write.result _ _ (λ put. changed-put _ c.in-Some.seen _ _ _ _ c.in-Some.is refl put) c.write.ensures.ok

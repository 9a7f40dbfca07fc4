use Rattle.std.proofs.Common.{◌∙◌, sym, subst}
use Rattle.sx_edit.specs.Seen.{AreCounted}
use Rattle.sx_edit.proofs.Results.{err_again, if_err-then, on_ok-then}
use Rattle.sx_edit.proofs.Answering.{at-most_miscounted}
use Rattle.sx_edit.proofs.Mending.{mended-adopts, mended-cannot_lift, mended-lifted, parent-counted, rim-counted, rim-leaves, tree-fits}
use Rattle.sx_edit.proofs.Siblings.{as_left, as_right}
use Rattle.sx_edit.proofs.Upward.{counted-push, upward-pop}
use Rattle.sx_edit.proofs.mend.mend.Goals as goal

pub returns-in_err-parent-clause-cannot : goal.returns-in_err-parent-clause-cannot
returns-in_err-parent-clause-cannot g c = λ next. err_again c.from_residual-in_err-parent.result _ _ c.from_residual-in_err-parent.ensures.1 (λ damaged. mended-adopts _ _ _ _ _ _ c.in_err-parent.ensures.cannot)

pub returns-in_err-parent-clause-fault : goal.returns-in_err-parent-clause-fault
returns-in_err-parent-clause-fault g c = λ o reach more leaving rim.
    err_again c.from_residual-in_err-parent.result _ _ c.from_residual-in_err-parent.ensures.1
    (at-most_miscounted o reach _ (c.in_err-parent.ensures.fault o reach rim.above.1 (rim-leaves o reach _ c.args.rim c.args.old leaving rim)))

pub returns-clause-cannot : goal.returns-clause-cannot
returns-clause-cannot g c = λ next.
    if_err-then c.lift.result _ _ (λ fault cannot damaged.
    mended-cannot_lift next _ c.args.rim _ _ _ _ _
    (as_right _ _ _ _ _ c.next_to.ensures.is c.in_ok-link_right.ensures.done) (as_left _ _ _ _ _ c.next_to-2.ensures.is c.in_ok-link_left.ensures.done) (tree-fits c.args.old)
    c.in_ok-parent.parent _ c.in_ok-parent.ensures.adopted (upward-pop _ _ c.in_ok-parent.parent c.in_ok-push_seen.ensures) (rw (c.shift_of.ensures.plus, c.shift_of.ensures.minus) at (cannot damaged))) c.lift.ensures.cannot

pub returns-clause-done : goal.returns-clause-done
returns-clause-done g c = λ next.
    on_ok-then c.lift.result _ _ (λ done.
    mended-lifted next _ c.args.rim _ _ _ _ _
    (as_right _ _ _ _ _ c.next_to.ensures.is c.in_ok-link_right.ensures.done) (as_left _ _ _ _ _ c.next_to-2.ensures.is c.in_ok-link_left.ensures.done) (tree-fits c.args.old)
    c.in_ok-parent.parent _ _ c.in_ok-parent.ensures.adopted (upward-pop _ _ c.in_ok-parent.parent c.in_ok-push_seen.ensures) (rw (c.shift_of.ensures.plus, c.shift_of.ensures.minus, c.shift_of.ensures.hash) at done)) c.lift.ensures.done

pub returns-clause-fault : goal.returns-clause-fault
returns-clause-fault g c = λ o reach more leaving rim.
    c.lift.ensures.fault o reach (c.shift_of.ensures.plus ∙ more)
    (subst (λ minus. AreCounted o reach minus c.push_seen.new.seen.items) (sym c.shift_of.ensures.minus)
    (counted-push o reach _ _ _ c.in_ok-parent.parent c.in_ok-push_seen.ensures (rim-counted o reach _ c.args.rim c.args.old leaving rim)
    (parent-counted o reach _ c.args.rim c.args.old c.args.new c.in_ok-parent.parent c.in_ok-parent.ensures.adopted leaving rim)))

use Rattle.std.proofs.Common.{[], inl, inr, refl}
use Rattle.sx_edit.proofs.Results.{if_err-then, if_ok-then}
use Rattle.sx_edit.proofs.Growing.{named-onto}
use Rattle.sx_edit.proofs.Stopping.{named-stops}
use Rattle.sx_edit.proofs.Repathing.{memory-stops_under, stops-step, stops-top, under-other, under-same, under-step, under-top}
use Rattle.sx_edit.proofs.Drifting.{drifts-itself}
use Rattle.sx_edit.proofs.repath.path_under.Goals as goal

pub returns-in_err-step-in-Object-clause-stops : goal.returns-in_err-step-in-Object-clause-stops
returns-in_err-step-in-Object-clause-stops c = memory-stops_under _ _ _ _ _ c.from_residual.result c.from_residual.ensures.1

pub returns-in-Document-clause-under : goal.returns-in-Document-clause-under
returns-in-Document-clause-under c = rw c.in-Document.is (if_ok-then c.step_onto.result _ _ (λ number onto. under-top _ _ _ _ _ onto) c.step_onto.ensures.onto)

pub returns-in-Document-clause-stops : goal.returns-in-Document-clause-stops
returns-in-Document-clause-stops c = rw c.in-Document.is (if_err-then c.step_onto.result _ _ (λ e stops. stops-top _ _ _ _ _ stops) c.step_onto.ensures.stops)

pub returns-in_ok-step-in-Object-clause-under : goal.returns-in_ok-step-in-Object-clause-under
returns-in_ok-step-in-Object-clause-under c =
    rw c.in-Object.is (if_ok-then c.step_onto-in-Object.result _ _ (λ number onto. under-step _ _ _ _ _ _ _ (λ steps. refl) (named-onto _ _ _ _ _ _ c.in_ok-step-in-Object.ensures onto)) c.step_onto-in-Object.ensures.onto)

pub returns-in_ok-step-in-Object-clause-stops : goal.returns-in_ok-step-in-Object-clause-stops
returns-in_ok-step-in-Object-clause-stops c =
    rw c.in-Object.is (if_err-then c.step_onto-in-Object.result _ _ (λ e stops. stops-step _ _ _ _ _ _ _ (λ steps. refl) (named-stops _ _ _ _ _ _ c.in_ok-step-in-Object.ensures stops)) c.step_onto-in-Object.ensures.stops)

pub returns-in-Array-clause-under : goal.returns-in-Array-clause-under
returns-in-Array-clause-under c = rw c.in-Array.is (if_ok-then c.step_onto-in-Array.result _ _ (λ number onto. under-step _ _ _ _ _ _ _ (λ steps. refl) onto) c.step_onto-in-Array.ensures.onto)

pub returns-in-Array-clause-stops : goal.returns-in-Array-clause-stops
returns-in-Array-clause-stops c = rw c.in-Array.is (if_err-then c.step_onto-in-Array.result _ _ (λ e stops. stops-step _ _ _ _ _ _ _ (λ steps. refl) stops) c.step_onto-in-Array.ensures.stops)

pub returns-in_default-clause-under : goal.returns-in_default-clause-under
returns-in_default-clause-under c = under-same _ _ _ _ (λ steps. under-other _ steps _ c.in_default.not-Document c.in_default.not-Object c.in_default.not-Array)

pub returns-in-Document-clause-fault : goal.returns-in-Document-clause-fault
returns-in-Document-clause-fault c = λ o table reach plus minus needs there drifts. c.step_onto.ensures.fault o table reach plus minus needs (inl refl) drifts

pub returns-in_ok-step-in-Object-clause-fault : goal.returns-in_ok-step-in-Object-clause-fault
returns-in_ok-step-in-Object-clause-fault c = λ o table reach plus minus needs there drifts. c.step_onto-in-Object.ensures.fault o table reach plus minus needs (inr (inl there)) drifts

pub returns-in-Array-clause-fault : goal.returns-in-Array-clause-fault
returns-in-Array-clause-fault c = λ o table reach plus minus needs there drifts. c.step_onto-in-Array.ensures.fault o table reach plus minus needs (inr (inl there)) drifts

pub returns-in_default-clause-drifts : goal.returns-in_default-clause-drifts
returns-in_default-clause-drifts c = drifts-itself 0 [] _

use Rattle.std.proofs.Common.{◌∙◌, refl, subst, sym}
use Rattle.sx_edit.specs.Drift.{Drifts}
use Rattle.sx_edit.proofs.Results.{if_err-then, on_ok-then}
use Rattle.sx_edit.proofs.Pathing.{node-out, node-stays}
use Rattle.sx_edit.proofs.Drifting.{drifts-itself}
use Rattle.sx_edit.proofs.Visiting.{left-value}
use Rattle.sx_edit.proofs.paths.leave_path.Goals as goal

pub returns-then-is_value-clause-done : goal.returns-then-is_value-clause-done
returns-then-is_value-clause-done c = on_ok-then c.count_out.result _ _ (λ out. node-out _ _ _ _ (sym c.is_value.ensures ∙ c.if-is_value.true) out) c.count_out.ensures.done

pub returns-then-is_value-clause-cannot : goal.returns-then-is_value-clause-cannot
returns-then-is_value-clause-cannot c = if_err-then c.count_out.result _ _ (λ fault out. node-out _ _ _ _ (sym c.is_value.ensures ∙ c.if-is_value.true) out) c.count_out.ensures.cannot

pub returns-clause-done : goal.returns-clause-done
returns-clause-done c = node-stays _ _ _ (sym c.is_value.ensures ∙ c.if-is_value.false)

pub returns-then-is_value-clause-fault : goal.returns-then-is_value-clause-fault
returns-then-is_value-clause-fault c = λ o table reach plus visited there comes drifts.
    c.count_out.ensures.fault o table reach plus visited c.args.entry.now there (sym c.is_value.ensures ∙ c.if-is_value.true) refl comes drifts

pub returns-clause-drifts : goal.returns-clause-drifts
returns-clause-drifts c = drifts-itself 0 _ _

pub returns-then-is_value-clause-drifts : goal.returns-then-is_value-clause-drifts
returns-then-is_value-clause-drifts c =
    on_ok-then c.count_out.result _ _ (λ drifts. subst (λ l. Drifts 0 l c.args.paths.now.paths c.count_out.new.paths.paths) (left-value c.args.entry.now (sym c.is_value.ensures ∙ c.if-is_value.true)) drifts) c.count_out.ensures.drifts

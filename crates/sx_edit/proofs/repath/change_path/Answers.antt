use Rattle.std.proofs.Common.{◌≡◌, ◌∙◌, [], ◌∷◌, length, ap, arith, inl, inr, refl, subst, sym}
use Rattle.sx_model.specs.Tree.{is_value}
use Rattle.sx_edit.specs.Drift.{Drifts}
use Rattle.sx_edit.specs.Links.{path_left, paths_left}
use Rattle.sx_edit.proofs.Visiting.{left-value}
use Rattle.sx_edit.proofs.Results.{err_again}
use Rattle.sx_edit.proofs.Drifting.{drifts-itself, drifts-on, drifts-then, there-on}
use Rattle.sx_edit.proofs.Repathing.{cannot-in, cannot-out, exchanged, unexchanged}
use Rattle.sx_edit.proofs.repath.change_path.Goals as goal

pub returns-in_err-count_out-clause-cannot : goal.returns-in_err-count_out-clause-cannot
returns-in_err-count_out-clause-cannot c =
    err_again c.from_residual.result _ _ c.from_residual.ensures.1 (cannot-out _ _ _ _ (sym c.is_value.ensures ∙ c.if-is_value.true) c.in_err-count_out.ensures.cannot)

pub returns-in_err-count_out-clause-fault : goal.returns-in_err-count_out-clause-fault
returns-in_err-count_out-clause-fault c = λ o table reach plus visited own there kind_is is stays comes most few drifts.
    let value = ap is_value kind_is ∙ sym c.is_value.ensures ∙ c.if-is_value.true in
    err_again c.from_residual.result _ _ c.from_residual.ensures.1 (c.in_err-count_out.ensures.fault o table reach plus visited own there value is comes drifts)

pub returns-in_err-count_in-clause-cannot : goal.returns-in_err-count_in-clause-cannot
returns-in_err-count_in-clause-cannot c =
    err_again c.from_residual-in_err-count_in.result _ _ c.from_residual-in_err-count_in.ensures.1
    (cannot-in _ _ _ _ _ (sym c.is_value.ensures ∙ c.if-is_value.true) c.in_ok-count_out.ensures.done c.in_err-count_in.ensures.cannot)

pub returns-in_err-count_in-clause-fault : goal.returns-in_err-count_in-clause-fault
returns-in_err-count_in-clause-fault c = λ o table reach plus visited own there kind_is is stays comes most few drifts.
    let value = ap is_value kind_is ∙ sym c.is_value.ensures ∙ c.if-is_value.true in
    err_again c.from_residual-in_err-count_in.result _ _ c.from_residual-in_err-count_in.ensures.1
    (c.in_err-count_in.ensures.fault o table reach plus _ (length (paths_left visited)) (inl (there-on 0 _ _ _ _ c.in_ok-count_out.ensures.drifts stays)) (inr (visited, (own, (comes, there, value, refl)))) most few
    (drifts-then plus 0 plus (paths_left visited) (c.args.old ∷ []) (omega arith) _ _ _ drifts c.in_ok-count_out.ensures.drifts))

pub returns-in_ok-count_in-clause-done : goal.returns-in_ok-count_in-clause-done
returns-in_ok-count_in-clause-done c = exchanged _ _ _ _ _ _ (sym c.is_value.ensures ∙ c.if-is_value.true) c.in_ok-count_out.ensures.done c.in_ok-count_in.ensures.done

pub returns-else-is_value-clause-done : goal.returns-else-is_value-clause-done
returns-else-is_value-clause-done c = unexchanged _ _ _ _ (sym c.is_value.ensures ∙ c.if-is_value.false)

pub returns-in_ok-count_in-clause-drifts : goal.returns-in_ok-count_in-clause-drifts
returns-in_ok-count_in-clause-drifts c = λ own kind_is is.
    let value = ap is_value kind_is ∙ sym c.is_value.ensures ∙ c.if-is_value.true in
    let left : c.args.old ∷ [] ≡ path_left own = ap (λ p. p ∷ []) (sym is) ∙ left-value own value in
    subst (λ l. Drifts (length l) l c.args.paths.now.paths c.count_in.new.paths.paths) left (drifts-on 0 1 1 (c.args.old ∷ []) _ _ _ (omega arith) c.in_ok-count_out.ensures.drifts c.in_ok-count_in.ensures.drifts)

pub returns-else-is_value-clause-drifts : goal.returns-else-is_value-clause-drifts
returns-else-is_value-clause-drifts c = λ own kind_is is. drifts-itself _ _ _

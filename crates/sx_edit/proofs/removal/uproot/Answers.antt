use Rattle.std.proofs.Common.{refl, arith, subst, sym}
use Rattle.sx_edit.specs.Links.{ComesTo, IsRecord, path_left, paths_left}
use Rattle.sx_edit.proofs.Visiting.{comes-last}
use Rattle.sx_edit.proofs.Results.{err_again, pushed-length}
use Rattle.sx_edit.proofs.Drifting.{drifts-then}
use Rattle.sx_edit.proofs.Going.{breach_explains, leads-first}
use Rattle.sx_edit.proofs.Clearing.{left-cannot, left-out, uprooted}
use Rattle.sx_edit.proofs.removal.uproot.Goals as goal

pub clear-requires : goal.clear-requires
clear-requires g c = leads-first (g.N.Records.told c.args.nodes.now) c.args.node c.args.entry.now c.requires _ refl

pub returns-clause-uprooted : goal.returns-clause-uprooted
returns-clause-uprooted g c = uprooted _ _ _ _ _ _ c.in_ok-gone.ensures.walked c.in_ok-push_number.ensures

pub returns-clause-left_out : goal.returns-clause-left_out
returns-clause-left_out g c = left-out _ _ _ _ _ _ _ c.in_ok-gone.ensures.discounted c.in_ok-leave_path.ensures.done

pub returns-clause-gets : goal.returns-clause-gets
returns-clause-gets g c = omega (arith, c.in_ok-gone.ensures.gets, pushed-length _ _ _ c.in_ok-push_number.ensures)

pub returns-in_err-gone-clause-cannot : goal.returns-in_err-gone-clause-cannot
returns-in_err-gone-clause-cannot g c =
    err_again c.from_residual.result _ _ c.from_residual.ensures.1 (λ is. left-cannot _ _ _ _ _ (c.in_err-gone.ensures.cannot is))

pub returns-in_err-leave_path-clause-cannot : goal.returns-in_err-leave_path-clause-cannot
returns-in_err-leave_path-clause-cannot g c =
    err_again c.from_residual-in_err-leave_path.result _ _ c.from_residual-in_err-leave_path.ensures.1
    (λ is. left-out _ _ _ _ _ _ _ c.in_ok-gone.ensures.discounted c.in_err-leave_path.ensures.cannot)

pub returns-in_err-leave_path-clause-fault : goal.returns-in_err-leave_path-clause-fault
returns-in_err-leave_path-clause-fault g c =
    λ reach next_is node_is.
    let met = c.in_ok-gone.ensures.drifts in
    err_again c.from_residual-in_err-leave_path.result _ _ c.from_residual-in_err-leave_path.ensures.1 (breach_explains reach _ _ (g.N.Records.damages c.args.nodes.now) _ _
    (c.in_err-leave_path.ensures.fault (g.N.Records.told c.args.nodes.now) _ reach 0 met.0 c.requires
    (subst (λ k. ComesTo (g.N.Records.told c.args.nodes.now) k met.0 c.args.node) (sym node_is) (comes-last _ c.args.node c.args.entry.now met.0 c.requires met.1.0)) met.1.1))

pub returns-in_err-gone-clause-fault : goal.returns-in_err-gone-clause-fault
returns-in_err-gone-clause-fault g c =
    λ reach next_is node_is.
    err_again c.from_residual.result _ _ c.from_residual.ensures.1
    (c.in_err-gone.ensures.fault reach c.args.entry.now next_is (subst (λ k. IsRecord (g.N.Records.told c.args.nodes.now) k c.args.entry.now) (sym node_is) c.requires) refl)

pub returns-clause-drifts : goal.returns-clause-drifts
returns-clause-drifts g c =
    let met = c.in_ok-gone.ensures.drifts in
    (met.0, (met.1.0, drifts-then 0 0 0 (paths_left met.0) (path_left c.args.entry.now) (omega arith) _ _ _ met.1.1 c.in_ok-leave_path.ensures.drifts))

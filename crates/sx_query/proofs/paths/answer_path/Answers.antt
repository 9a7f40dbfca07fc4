use Rattle.std.proofs.Common.{◌≡◌, ◌≤◌, ◌<◌, [], true, arith, inl, inr, refl, subst}
use Rattle.std.specs.Prelude.{◌⊎◌}
use Rattle.sx_outside.specs.Faults.{Rose}
use Rattle.sx_select.specs.Climb.{IsPathText}
use Rattle.sx_query.proofs.OfPaths.{broken_sound, gives_no_path, gives_path, gives_path_fault}
use Rattle.sx_query.specs.Causes.{IsBrokenPathOf, IsNoPath, Nothing}
use Rattle.sx_query.proofs.Faults.{later_fault}
use Rattle.sx_query.proofs.paths.answer_path.Goals as goal
use Rattle.sx_query.proofs.paths.answer_path.Goals.{then-path-eq0-via-then-path-eq0, then-path-eq0-via-else-path-eq0+then-path-count}

pub returns-then-path-eq0-clause-gives : goal.returns-then-path-eq0-clause-gives
returns-then-path-eq0-clause-gives g c =
    let none : (c.args.path ≡ 0) ⊎ (c.args.count < c.args.path) = elim c.then-path-eq0.branch [
      | then-path-eq0-via-then-path-eq0 w ↦ inl w.if-path-eq0.true
      | then-path-eq0-via-else-path-eq0+then-path-count w ↦ inr w.if-path-count.true
    ] in
    gives_no_path _ _ _ none

pub returns-in_err-found-clause-gives : goal.returns-in_err-found-clause-gives
returns-in_err-found-clause-gives g c =
    let some : 1 ≤ c.args.path = omega (arith, c.if-path-eq0.false) in
    let few : c.args.path ≤ c.args.count = omega (arith, c.if-path-count.false) in
    gives_path_fault _ _ _ _ _ _ refl c.from_residual.ensures.1 few
    (broken_sound _ _ (Rose (g.P.Records.faults c.args.paths.now) (g.P.Records.faults c.read_path.new.records)) _ _ some (g.met.P.Records.untold _) c.in_err-found.ensures.fault)

pub returns-in_err-text-clause-gives : goal.returns-in_err-text-clause-gives
returns-in_err-text-clause-gives g c =
    let few : c.args.path ≤ c.args.count = omega (arith, c.if-path-count.false) in
    gives_path_fault _ _ _ _ _ _ c.in_ok-found.ensures.same c.from_residual-in_err-text.ensures.1 few c.in_err-text.ensures.sound

pub returns-in_err-text-clause-fault : goal.returns-in_err-text-clause-fault
returns-in_err-text-clause-fault g c =
    later_fault _ Nothing (IsNoPath c.args.count c.args.path) _ _ _ _ _ _ _ (λ o. IsBrokenPathOf o c.args.path) _ c.from_residual-in_err-text.ensures.1
    (g.met.P.Records.keeps_damages _ _ c.in_ok-found.ensures.keeps) c.in_ok-found.ensures.same c.in_ok-found.ensures.never_falls c.in_err-text.ensures.fault

pub returns-clause-gives : goal.returns-clause-gives
returns-clause-gives g c =
    gives_path _ _ _ c.in_ok-found.found _ c.in_ok-found.ensures.found
    (subst (λ o. IsPathText o c.args.path [] c.in_ok-text.text true) c.in_ok-found.ensures.same c.in_ok-text.ensures.text)

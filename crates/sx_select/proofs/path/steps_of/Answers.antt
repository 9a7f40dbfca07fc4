use Rattle.std.proofs.Common.{◌≡◌, ◌<◌, [], length, arith, subst, sym, rules}
use Rattle.std.proofs.lemmas.List.{nil_from_length}
use Rattle.sx_model.specs.PathText.{StepAt}
use Rattle.sx_select.proofs.Names.{none_told}
use Rattle.sx_select.proofs.Steps.{IsFront, step_shorter, one_more, no_step_there, all_steps}
use Rattle.sx_select.proofs.path.steps_of.Goals as goal

step_there : (c : goal.In_ok-push-in-Some) → StepAt c.loop-rest.rest.now c.in-Some.step c.in-Some.left.now
step_there c = search rules

pub loop-rest-smaller : goal.loop-rest-smaller
loop-rest-smaller c = step_shorter c.loop-rest.rest.now c.in-Some.step c.in-Some.left.now (step_there c)

pub loop-rest-preserved : goal.loop-rest-preserved
loop-rest-preserved c =
    let few = c.loop-rest.invariant.few in
    let full : length c.loop-rest.steps ≡ 256 → ⊥ = search rules in
    let room : length c.loop-rest.steps < 256 = omega (arith, few, full) in
    subst (IsFront c.args.text.now c.in-Some.left.now) (sym c.in_ok-push-in-Some.ensures.ok)
    (one_more c.args.text.now c.loop-rest.rest.now c.in-Some.left.now c.loop-rest.steps c.in-Some.step room c.loop-rest.invariant (step_there c))

pub returns-in-None-clause-none : goal.returns-in-None-clause-none
returns-in-None-clause-none c =
    let some : c.loop-rest.rest.now ≡ [] → ⊥ = search rules in
    λ all few. no_step_there c.args.text.now c.loop-rest.rest.now c.loop-rest.steps some (none_told c.in_ok-step.field-0 _ c.in-None.is c.in_ok-step.ensures.none) c.loop-rest.invariant all

pub returns-clause-found : goal.returns-clause-found
returns-clause-found c = let none = nil_from_length c.loop-rest.rest.now (search rules) in all_steps c.args.text.now c.loop-rest.rest.now c.loop-rest.steps none c.loop-rest.invariant

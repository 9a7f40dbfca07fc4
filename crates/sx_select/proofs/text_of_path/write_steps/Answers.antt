use Rattle.std.proofs.Common.{◌≡◌, ◌++◌, ◌∷◌, [], rules}
use Rattle.sx_select.proofs.Climbing.{written-on}
use Rattle.sx_select.proofs.text_of_path.write_steps.Goals as goal

pub loop-step-preserved-in_ok-write_step : goal.loop-step-preserved-in_ok-write_step
loop-step-preserved-in_ok-write_step c =
    let is : c.loop-step.rest.items ≡ c.pop.new.self.items ++ c.in-Some.step ∷ [] = search rules in
    written-on _ c.loop-step.text _ _ _ c.in-Some.step c.loop-step.invariant is c.in_ok-write_step.ensures

pub loop-step-preserved : goal.loop-step-preserved
loop-step-preserved c =
    let is : c.loop-step.rest.items ≡ c.pop.new.self.items ++ c.in-Some.step ∷ [] = search rules in
    written-on _ c.loop-step.text _ _ _ c.in-Some.step c.loop-step.invariant is c.in_ok-write_step.ensures

use Rattle.std.proofs.Common.{◌≡◌, ◌++◌, vec_len}
use Rattle.sx_model.specs.WrittenPath.{steps_text}
use Rattle.sx_select.proofs.text_of_path.write_steps.Given as goal

-- the text so far, and that of the steps that are left
abbrev pub invariant-loop-step : goal.invariant-loop-step
invariant-loop-step l = steps_text l.fn.path.items ≡ l.text ++ steps_text l.rest.items

abbrev pub decreases-loop-step : goal.decreases-loop-step
decreases-loop-step l = vec_len l.rest

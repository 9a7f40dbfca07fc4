use Rattle.std.proofs.Common.{sym, ap, ◌∙◌}
use Rattle.sx_view.specs.Slots.{inside}
use Rattle.sx_view.proofs.SlotLemmas.{get-held}
use Rattle.sx_view.proofs.slots.record_in.Goals as goal

pub returns-in-Some : goal.returns-in-Some
returns-in-Some g c = c.as_ref.ensures.value ∙ ap inside c.in-Some.ensures.value ∙ sym (get-held c.args.slots.now.entries c.args.k)

pub returns-in-None : goal.returns-in-None
returns-in-None g c = ap inside c.in-None.ensures.value ∙ sym (get-held c.args.slots.now.entries c.args.k)

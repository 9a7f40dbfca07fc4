use Rattle.std.proofs.Common.{Some, sym, ap, ◌∙◌}
use Rattle.sx_view.proofs.SlotLemmas.{held-cleared}
use Rattle.sx_view.proofs.slots.clear.Goals as goal

pub returns-in-Some-None : goal.returns-in-Some-None
returns-in-Some-None g c =
    held-cleared c.args.slots.now c.remove.new.self c.args.k c.remove.ensures.updates.0 (sym c.in-Some-None.ensures.value ∙ ap Some c.in-Some-None.field-0-is)

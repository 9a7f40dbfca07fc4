use Rattle.std.proofs.Common.{◌≡◌, true, Some, None, ap}
use Rattle.std.specs.Prelude.{is_some}
use Rattle.std.specs.Ordering.{nat_cmp}
use Rattle.std.specs.BTreeMap.{get}
use Rattle.sx_view.specs.Slots.{has_slot}
use Rattle.sx_view.proofs.SlotLemmas.{held-updated, succeeded}
use Rattle.sx_view.proofs.slots.put_back.Goals as goal

pub returns-in-Some-clause-held : goal.returns-in-Some-clause-held
returns-in-Some-clause-held g c =
    let stands : has_slot c.args.slots.now c.args.k ≡ true = c.requires (ap is_some c.in-Some.is) in
    let put = succeeded c.insert.result _ (get nat_cmp c.args.slots.now c.args.k ≡ None) c.insert.ensures.updates c.insert.ensures.absent (λ e. let none = ap is_some e in cc) in
    rw c.in-Some.is (held-updated c.args.slots.now c.insert.new.self c.args.k (Some c.in-Some.slot) put.0)

pub returns-in-None-clause-held : goal.returns-in-None-clause-held
returns-in-None-clause-held g c = rw c.in-None.is (held-updated c.args.slots.now c.remove.new.self c.args.k None c.remove.ensures.updates.0)

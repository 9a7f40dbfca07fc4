use Rattle.std.proofs.Common.{Some}
use Rattle.sx_view.proofs.SlotLemmas.{held-updated, rewound-noted, Rewinds-noted}
use Rattle.sx_view.proofs.slots.put_noted.Goals as goal

pub returns-clause-ok : goal.returns-clause-ok
returns-clause-ok g c = held-updated c.args.slots.now c.insert.new.self c.args.k (Some c.args.slot) c.in_ok-before.ensures.updates.0

pub returns-clause-before : goal.returns-clause-before
returns-clause-before g c =
    let put = held-updated c.args.slots.now c.insert.new.self c.args.k (Some c.args.slot) c.in_ok-before.ensures.updates.0 in
    rw (c.push_reserved.ensures.items, c.in_ok-reserve.ensures.items, c.in_ok-before.ensures.old)
    (rewound-noted c.args.slots.now c.insert.new.self c.args.changes.now.items c.args.k c.args.slot put)

pub returns-clause-rewinds : goal.returns-clause-rewinds
returns-clause-rewinds g c =
    rw (c.push_reserved.ensures.items, c.in_ok-reserve.ensures.items, c.in_ok-before.ensures.old)
    (Rewinds-noted c.args.slots.now c.insert.new.self c.args.changes.now.items c.args.k c.args.slot c.in_ok-before.ensures.updates.0 c.requires)

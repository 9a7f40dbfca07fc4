use Rattle.std.proofs.Common.{◌≡◌}
use Rattle.std.specs.Prelude.{reverse}
use Rattle.sx_view.specs.Slots.{held, rewound, Rewinds, has_slot}
use Rattle.sx_view.proofs.slots.rewind.Given as goal

abbrev pub invariant-loop-k : goal.invariant-loop-k
invariant-loop-k g l = record {
  stands : Rewinds (has_slot l.slots) (reverse l.changes.items);
  leads_back : rewound (reverse l.changes.items) (held l.slots.entries) ≡ rewound (reverse l.fn.changes.items) (held l.fn.slots.entries);
}

abbrev pub decreases-loop-k : goal.decreases-loop-k
decreases-loop-k g l = goal.left-loop-k g l

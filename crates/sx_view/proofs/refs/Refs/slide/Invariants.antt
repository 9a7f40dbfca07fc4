use Rattle.std.proofs.Common.{◌≡◌, ◌-◌, ◌≤◌, ◌∷◌, length, take}
use Rattle.sx_view.proofs.refs.Refs.slide.Given as goal

abbrev pub invariant-loop-old : goal.invariant-loop-old
invariant-loop-old l = l.refs ≡ l.number ∷ take l.old-index l.old-items

use Rattle.std.proofs.Common.{◌≡◌, ◌++◌, map}
use Rattle.sx_view.proofs.Numbering.{filled}
use Rattle.sx_view.proofs.slots.numbers_in.Given as goal

abbrev pub invariant-loop-number : goal.invariant-loop-number
invariant-loop-number g l = l.numbers ++ map (λ e. e.0) (filled l.number-iterator) ≡ map (λ e. e.0) (filled l.fn.slots.entries)

use Rattle.std.proofs.Common.{◌≡◌, drop}
use Rattle.sx_volume.specs.Change.{with_byte_at}
use Rattle.sx_volume.proofs.content.set_each.Given as goal

abbrev pub invariant-loop-at : goal.invariant-loop-at
invariant-loop-at l = with_byte_at l.byte (drop l.at-index l.places) l.bytes ≡ with_byte_at l.byte l.places l.fn.bytes

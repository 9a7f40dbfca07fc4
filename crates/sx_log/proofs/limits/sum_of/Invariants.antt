use Rattle.std.proofs.Common.{◌≡◌, ◌*◌, ◌≤◌, take}
use Rattle.std.specs.Prelude.{sum}
use Rattle.sx_log.proofs.limits.sum_of.Given as goal

abbrev pub invariant-loop-bytes : goal.invariant-loop-bytes
invariant-loop-bytes l = record { so_far : l.total ≡ sum (take l.bytes-index l.lengths); small : l.total ≤ l.bytes-index * 4_294_967_295 }

use Rattle.std.proofs.Common.{◌≡◌, take}
use Rattle.sx_volume.specs.Stored.{after_these, puts_of}
use Rattle.sx_volume.proofs.mem_file.MemFile.put_each.Given as goal

abbrev pub invariant-loop-i : goal.invariant-loop-i
invariant-loop-i l = l.self ≡ after_these l.fn.self (puts_of l.at (take l.i l.piece)) l.i

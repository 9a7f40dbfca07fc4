use Rattle.std.proofs.Common.{length}
use Rattle.sx_model.specs.Grammar.{Skips}
use Rattle.sx_json.proofs.scalars.skip_blanks.Given as goal

abbrev pub invariant-loop-byte : goal.invariant-loop-byte
invariant-loop-byte l = Skips l.bytes l.rest

abbrev pub decreases-loop-byte : goal.decreases-loop-byte
decreases-loop-byte l = length l.rest

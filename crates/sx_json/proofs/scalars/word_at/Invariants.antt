use Rattle.std.proofs.Common.{◌≡◌, ◌++◌, take}
use Rattle.sx_json.proofs.scalars.word_at.Given as goal

abbrev pub invariant-loop-letter : goal.invariant-loop-letter
invariant-loop-letter l = l.bytes ≡ take l.letter-index l.word ++ l.rest

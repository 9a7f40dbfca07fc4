use Rattle.std.proofs.Common.{take}
use Rattle.sx_model.specs.PathText.{AreWordBytes}
use Rattle.sx_select.proofs.path.word_len.Given as goal

-- the bytes so far may stand in a word
abbrev pub invariant-loop-i : goal.invariant-loop-i
invariant-loop-i l = AreWordBytes (take l.i l.bytes)

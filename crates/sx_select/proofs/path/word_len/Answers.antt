use Rattle.sx_select.proofs.Words.{words-more}
use Rattle.sx_select.proofs.path.word_len.Goals as goal

pub loop-i-preserved : goal.loop-i-preserved
loop-i-preserved c = words-more c.args.bytes.now c.loop-i.i c.loop-i-test.true c.loop-i.invariant (c.is_word_byte.ensures.0 c.if-not-is_word_byte.false)

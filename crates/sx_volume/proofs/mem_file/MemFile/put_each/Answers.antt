use Rattle.std.proofs.Common.{arith}
use Rattle.sx_volume.proofs.Recorded.{put_length, put_more}
use Rattle.sx_volume.proofs.mem_file.MemFile.put_each.Goals as goal

pub put_next-requires-clause-place : goal.put_next-requires-clause-place
put_next-requires-clause-place c = omega (arith, put_length _ _ _ _ _ c.loop-i.invariant)

pub loop-i-preserved : goal.loop-i-preserved
loop-i-preserved c = put_more _ _ _ _ _ c.loop-i.invariant _ c.loop-i-test.true c.put_next.ensures

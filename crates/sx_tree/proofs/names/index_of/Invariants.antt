use Rattle.std.proofs.Common.{take}
use Rattle.sx_tree.specs.Names.{AreIndexed}
use Rattle.sx_tree.proofs.names.index_of.Given as goal

abbrev pub invariant-loop-place : goal.invariant-loop-place
invariant-loop-place l = AreIndexed (take l.place l.names) l.places

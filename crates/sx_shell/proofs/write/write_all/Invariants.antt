use Rattle.std.proofs.Common.{◌≡◌, ◌++◌, List, ℕ, Some, IfSome, length}
use Rattle.sx_shell.proofs.write.write_all.Given as goal

abbrev pub invariant-loop-rest : goal.invariant-loop-rest
invariant-loop-rest g l = record {
  put : (front : List ℕ) × (l.bytes ≡ front ++ l.rest) × IfSome (g.K.Sink.written l.fn.sink) (λ before. g.K.Sink.written l.sink ≡ Some (before ++ front));
  counted : g.K.Sink.faults l.sink ≡ g.K.Sink.faults l.fn.sink;
}

abbrev pub decreases-loop-rest : goal.decreases-loop-rest
decreases-loop-rest g l = length l.rest

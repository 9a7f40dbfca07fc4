use Rattle.std.proofs.Common.{arith, inl, inr, refl}
use Rattle.sx_outside.proofs.mem_sink.MemSinkSink.put.Goals as goal
use Rattle.sx_outside.proofs.mem_sink.MemSinkSink.put.Goals.{then-listed-via-then-listed, then-listed-via-else-listed+then-count-eq0}

pub returns-then-listed-clause-fails : goal.returns-then-listed-clause-fails
returns-then-listed-clause-fails c = (
  λ _. elim c.then-listed.branch [
    | then-listed-via-then-listed w ↦ inl (rw (← c.self.view_is, ← c.deref.ensures.value) (w.if-listed.ensures.0 refl))
    | then-listed-via-else-listed+then-count-eq0 w ↦ inr (rw (← c.self.view_is) (omega arith))
  ],
  λ _. refl,
)

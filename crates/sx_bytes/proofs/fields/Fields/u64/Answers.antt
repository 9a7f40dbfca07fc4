use Rattle.std.proofs.Common.{lit<}
use Rattle.std.specs.Int.{w64}
use Rattle.sx_bytes.proofs.Fronts.{number_written}
use Rattle.sx_bytes.proofs.fields.Fields.u64.Goals as goal

pub returns-clause-written : goal.returns-clause-written
returns-clause-written c =
    let parts = c.in_ok-bytes.ensures.parts in
    rw (← c.self.view_is) (number_written w64 c.self.inside.left.now _ _ _ c.split_chunk.ensures.bytes (lit< tt) parts.0 parts.1 parts.2 c.from_be_bytes.ensures)

use Rattle.std.proofs.Common.{◌≡◌, ◌++◌, length}
use Rattle.sx_layout.specs.FrameGroup.{AreRows, table_bytes}
use Rattle.sx_log.proofs.opening.read_table.Given as goal

abbrev pub invariant-loop-row : goal.invariant-loop-row
invariant-loop-row l = record { so_far : l.bytes ≡ table_bytes l.table ++ l.fields; rows : AreRows l.table }

abbrev pub decreases-loop-row : goal.decreases-loop-row
decreases-loop-row l = length l.fields

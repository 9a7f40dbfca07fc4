-- When a body cannot be written.
use Rattle.std.specs.Prelude.{ℕ, ◌≤◌, ◌^◌, List, length}
use Rattle.sx_tree.specs.declared.record.NodeRecord.{NodeRecord}
use Rattle.sx_whole.specs.declared.fault.WriteFault.{WriteFault}
use Rattle.sx_whole.specs.declared.fault.WriteFault.TheVariants.{TooMany, OutOfMemory}

-- there are too many nodes only where their number takes more than four bytes
abbrev pub IsWriteFault : List (ℕ × NodeRecord) → WriteFault → Type 0
IsWriteFault nodes TooMany = 2 ^ 32 ≤ length nodes
IsWriteFault nodes OutOfMemory = Unit {0}

-- How a run ends, and the exit statuses.
use Rattle.std.specs.Prelude.{ℕ}
use Rattle.sx_log.specs.declared.fault.LogFault.{LogFault}
use Rattle.sx_log.specs.declared.fault.LogFault.TheVariants as faults
use Rattle.sx_shell.specs.declared.status.Status.{Status}
use Rattle.sx_shell.specs.declared.status.Status.TheVariants.{Done, Usage, ReadFault, WriteFault, VolumeFault, Damaged, NotOurs, Unborn, Born, Missing, OutOfMemory}

abbrev pub code_of : Status → ℕ
code_of Done = 0
code_of Usage = 2
code_of ReadFault = 10
code_of WriteFault = 11
code_of VolumeFault = 12
code_of (Damaged damage) = 13
code_of (NotOurs first) = 15
code_of Unborn = 16
code_of Born = 17
code_of (Missing asked seen) = 18
code_of OutOfMemory = 20

-- how a call ends that meets this fault of a volume
abbrev pub status_of : LogFault → Status
status_of faults.Failed = VolumeFault
status_of (faults.NotOurs first) = NotOurs first
status_of faults.Unborn = Unborn
status_of faults.Born = Born
status_of (faults.Damaged damage) = Damaged damage
status_of faults.OutOfMemory = OutOfMemory

-- The fault of a reading, as that of a question.
use Rattle.sx_view.specs.declared.fault.Fault.{Fault}
use Rattle.sx_view.specs.declared.fault.Fault.TheVariants as faults
use Rattle.sx_view.specs.declared.fault.QueryFault.{QueryFault}
use Rattle.sx_view.specs.declared.fault.QueryFault.TheVariants.{Failed, Damaged, OutOfMemory}

abbrev pub query_fault : Fault → QueryFault
query_fault faults.Failed = Failed
query_fault (faults.Damaged damage) = Damaged damage
query_fault faults.OutOfMemory = OutOfMemory

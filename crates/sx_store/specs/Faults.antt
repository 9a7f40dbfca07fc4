-- The fault of a reading or of an edit below, as that of the writer.
use Rattle.sx_edit.specs.declared.fault.EditFault.{EditFault}
use Rattle.sx_edit.specs.declared.fault.EditFault.TheVariants as edits
use Rattle.sx_store.specs.declared.fault.CommitFault.{CommitFault}
use Rattle.sx_store.specs.declared.fault.CommitFault.TheVariants as commits
use Rattle.sx_store.specs.declared.fault.WriterFault.{WriterFault}
use Rattle.sx_store.specs.declared.fault.WriterFault.TheVariants.{Refused, Failed, Damaged, OutOfMemory}
use Rattle.sx_view.specs.declared.fault.Fault.{Fault}
use Rattle.sx_view.specs.declared.fault.Fault.TheVariants as faults

abbrev pub writer_fault : Fault → WriterFault
writer_fault faults.Failed = Failed
writer_fault (faults.Damaged damage) = Damaged damage
writer_fault faults.OutOfMemory = OutOfMemory

abbrev pub fault_of_edit : EditFault → WriterFault
fault_of_edit (edits.Refused refusal) = Refused refusal
fault_of_edit edits.Failed = Failed
fault_of_edit (edits.Damaged damage) = Damaged damage
fault_of_edit edits.OutOfMemory = OutOfMemory

abbrev pub commit_fault : Fault → CommitFault
commit_fault faults.Failed = commits.ReadFailed
commit_fault (faults.Damaged damage) = commits.Damaged damage
commit_fault faults.OutOfMemory = commits.OutOfMemory

-- The fault of a reading, as that of an edit; and what each answer of an edit says.
use Rattle.std.specs.Prelude.{ℕ, List, Option}
use Rattle.sx_bytes.specs.declared.damage.Damage.{Damage}
use Rattle.sx_tree.specs.declared.record.NodeRecord.{NodeRecord}
use Rattle.sx_model.specs.Records.{PathRow}
use Rattle.sx_view.specs.Records.{RecordMap}
use Rattle.sx_view.specs.declared.fault.Fault.{Fault}
use Rattle.sx_view.specs.declared.fault.Fault.TheVariants as faults
use Rattle.sx_edit.specs.declared.fault.EditFault.{EditFault}
use Rattle.sx_edit.specs.declared.fault.EditFault.TheVariants.{Refused, Failed, Damaged, OutOfMemory}
use Rattle.std.specs.Prelude.{◌⊎◌}
use Rattle.sx_model.specs.Edit.{Edit}
use Rattle.sx_edit.specs.Damage.{IsBreach, IsDamage, IsMiscounted, Reach}

abbrev pub edit_fault : Fault → EditFault
edit_fault faults.Failed = Failed
edit_fault (faults.Damaged damage) = Damaged damage
edit_fault faults.OutOfMemory = OutOfMemory

-- Failed comes only where the faults of the object below rose, and Damaged only with a damage of that object, or of a rule that is broken, by
-- the records and the table as they were, in what the edit reaches.
abbrev pub ExplainsEdit : Edit → ℕ → Option (RecordMap NodeRecord) → List PathRow → (Damage → Type 0) → Type 0 → EditFault → Type 0
ExplainsEdit edit next told table below rose (Refused refusal) = Unit {0}
ExplainsEdit edit next told table below rose Failed = rose
ExplainsEdit edit next told table below rose (Damaged damage) = IsDamage edit next told table below damage
ExplainsEdit edit next told table below rose OutOfMemory = Unit {0}

-- A damage is told of a path that a node needs, and nothing failed.
abbrev pub IsBreachEdit : Option (RecordMap NodeRecord) → List PathRow → Reach → EditFault → Type 0
IsBreachEdit o table reach (Refused refusal) = Unit {0}
IsBreachEdit o table reach Failed = ⊥
IsBreachEdit o table reach (Damaged damage) = IsBreach o table reach damage
IsBreachEdit o table reach OutOfMemory = Unit {0}

abbrev pub IsDamagedEdit : EditFault → Type 0
IsDamagedEdit (Refused refusal) = ⊥
IsDamagedEdit Failed = ⊥
IsDamagedEdit (Damaged damage) = Unit {0}
IsDamagedEdit OutOfMemory = ⊥

abbrev pub IsRefused : EditFault → Type 0
IsRefused (Refused refusal) = Unit {0}
IsRefused Failed = ⊥
IsRefused (Damaged damage) = ⊥
IsRefused OutOfMemory = ⊥

-- A damage is told of a count or of such a path, and nothing failed.
abbrev pub IsBrokenEdit : Option (RecordMap NodeRecord) → List PathRow → Reach → EditFault → Type 0
IsBrokenEdit told table reach (Refused refusal) = Unit {0}
IsBrokenEdit told table reach Failed = ⊥
IsBrokenEdit told table reach (Damaged damage) = IsMiscounted told reach damage ⊎ IsBreach told table reach damage
IsBrokenEdit told table reach OutOfMemory = Unit {0}

-- What records tell, and when each fault of a reading comes.
use Rattle.std.specs.Prelude.{◌⊎◌}
use Rattle.std.specs.Ordering.{nat_cmp}
use Rattle.std.specs.FinMap.{FinMap}
use Rattle.sx_bytes.specs.declared.damage.Damage.{Damage}
use Rattle.sx_view.specs.declared.fault.Fault.{Fault}
use Rattle.sx_view.specs.declared.fault.Fault.TheVariants.{Failed, Damaged, OutOfMemory}

-- records by their numbers
abbrev pub RecordMap : Type 0 → Type 0
RecordMap R = FinMap nat_cmp R

-- Failed comes only where the faults of the object below rose, and Damaged only with a damage of that object.
abbrev pub ExplainsFault : (Damage → Type 0) → Type 0 → Fault → Type 0
ExplainsFault damages rose Failed = rose
ExplainsFault damages rose (Damaged damage) = damages damage
ExplainsFault damages rose OutOfMemory = Unit {0}

-- The same of calls that test a rule themselves: the damage is then one of the object below, or tells of the rule that is broken.
abbrev pub Explains : (Damage → Type 0) → Type 0 → (Damage → Type 0) → Fault → Type 0
Explains damages rose broken Failed = rose
Explains damages rose broken (Damaged damage) = damages damage ⊎ broken damage
Explains damages rose broken OutOfMemory = Unit {0}

abbrev pub IsDamaged : Fault → Type 0
IsDamaged Failed = ⊥
IsDamaged (Damaged damage) = Unit {0}
IsDamaged OutOfMemory = ⊥

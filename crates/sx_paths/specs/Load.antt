-- The paths that records tell, and what tells of one that is broken.
use Rattle.std.specs.Prelude.{ℕ, ◌≡◌, ◌≤◌, ◌+◌, ◌⊎◌, List, [], ◌∷◌, Option, None, Some, option_map, IfSome}
use Rattle.std.specs.FinMap as fin
use Rattle.sx_bytes.specs.Damage.{number_damage}
use Rattle.sx_bytes.specs.declared.damage.Damage.{Damage}
use Rattle.sx_tree.specs.declared.record.PathRecord.{PathRecord}
use Rattle.sx_model.specs.Records.{PathRow}
use Rattle.sx_view.specs.Records.{RecordMap}
use Rattle.sx_view.specs.declared.fault.Fault.{Fault}
use Rattle.sx_view.specs.declared.fault.Fault.TheVariants.{Failed, Damaged, OutOfMemory}
use Rattle.sx_paths.specs.declared.load.TheConstants.{BROKEN_PATH}
use Rattle.sx_paths.specs.Table.{row_of}

-- a path with no record, or with a parent that is not before it
abbrev pub broken_path : ℕ → Damage
broken_path path = number_damage 0 BROKEN_PATH 0 path

-- the path has no record, or its parent is not before it
abbrev pub IsBrokenPath : Option (RecordMap PathRecord) → ℕ → Damage → Type 0
IsBrokenPath o path damage = IfSome o (λ records. IfSome (fin.get records path) (λ r. path ≤ r.parent)) × (damage ≡ broken_path path)

-- one of the paths up to this number is broken
abbrev pub HasBrokenPath : Option (RecordMap PathRecord) → ℕ → Damage → Type 0
HasBrokenPath o count damage = (path : ℕ) × ((1 ≤ path) × (path ≤ count) × IsBrokenPath o path damage)

-- these are the paths of the records from this number on
abbrev pub TellsFrom : RecordMap PathRecord → ℕ → List PathRow → Type 0
TellsFrom records number [] = Unit {0}
TellsFrom records number (row ∷ rows) = (option_map row_of (fin.get records number) ≡ Some row) × TellsFrom records (number + 1) rows

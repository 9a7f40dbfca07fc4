-- What the objects are that are valid at a time, over the records of a document, and which broken rules are told over others.
use Rattle.std.specs.Prelude.{◌≡◌, ◌⊎◌, ℕ, ℤ, List, Option}
use Rattle.sx_bytes.specs.declared.damage.Damage.{Damage}
use Rattle.sx_tree.specs.declared.record.Kind.{Kind}
use Rattle.sx_tree.specs.declared.record.NodeRecord.{NodeRecord}
use Rattle.sx_tree.specs.declared.record.Step.{Step}
use Rattle.sx_view.specs.Records.{RecordMap}
use Rattle.sx_model.specs.Tree.{Forest}
use Rattle.sx_model.specs.Valid.{valid}
use Rattle.sx_cursor.specs.Damage.{HasBareKey, HasBrokenLink, endless}
use Rattle.sx_cursor.specs.Told.{Shows}

-- These are the objects that are valid at the time, by the fields of these names, in each document whose records these are.
unfoldable pub AreValid : Option (RecordMap NodeRecord) → List ℕ → List ℕ → ℤ → List ℕ → Type 0
AreValid o from to time found =
    (local : Kind → List ℕ → ℕ) (number : List Step → ℕ) (trees : Forest) → Shows local number trees o → found ≡ valid from to time trees

-- what is told breaks one of the rules
abbrev pub IsBroken : Option (RecordMap NodeRecord) → ℕ → Damage → Type 0
IsBroken o count damage = HasBrokenLink o damage ⊎ ((damage ≡ endless count) ⊎ HasBareKey o damage)

-- What the bytes of a volume with a birth stand for.
use Rattle.std.specs.Prelude.{ℕ, ◌≡◌, ◌≢◌, ◌+◌, ◌⊎◌, List, [], ◌∷◌, ◌++◌, Option, None, Some}
use Rattle.sx_bytes.specs.declared.damage.Damage.{Damage}
use Rattle.sx_frame.specs.Violation.{Violation, damage_at}
use Rattle.sx_layout.specs.Birth.{AreFields, Birth, BirthFields, IsBirth, IsBorn, IsNotOurs, IsUnborn, birth_part, birth_rules, part_bytes}
use Rattle.sx_layout.specs.FrameGroup.{FrameGroup, first_root, last_root, gate_behind, behind_gates}
use Rattle.sx_layout.specs.Rule.{first_broken}
use Rattle.sx_layout.specs.Rules.{Follow, KeepCounts, group_violation}

-- The image begins with the birth part behind its open gate. It has these groups, each behind an open gate, and then a gate that is not
-- open. What stands behind that is not read.
pub record HasLog (image : List ℕ) (birth : Birth) (groups : List FrameGroup) : Type 0 where
  pub is_birth : IsBirth birth
  pub follow : Follow first_root groups
  pub gate : ℕ
  pub behind : List ℕ
  pub closed : gate ≢ 1
  pub bytes_are : image ≡ 1 ∷ (birth_part birth ++ (behind_gates groups ++ gate ∷ behind))

-- The image stands for these commits, with or without a birth, where `Shows` says which groups show them under a birth.
abbrev pub StandsBy : {Commit : Type 0} → (Birth → List FrameGroup → List Commit → Type 0) → List ℕ → Option Birth → List Commit → Type 0
StandsBy shows image None commits = IsUnborn image × (commits ≡ [])
StandsBy shows image (Some birth) commits = (groups : List FrameGroup) × HasLog image birth groups × shows birth groups commits

-- The image stands for no commits, with or without a birth.
abbrev pub StandsForNone : List ℕ → Type 0
StandsForNone image = IsUnborn image ⊎ ((birth : Birth) × HasLog image birth [])

-- ---- what is read of an image

-- the birth part breaks a rule
pub record IsBirthDamaged (image : List ℕ) (damage : Damage) : Type 0 where
  pub born : IsBorn image
  pub fields : BirthFields
  pub are : AreFields fields
  pub rest : List ℕ
  pub image_is : image ≡ 1 ∷ (part_bytes fields ++ rest)
  pub violation : Violation
  pub breaks : first_broken (birth_rules fields) ≡ Some violation
  pub damage_is : damage ≡ damage_at 1 violation

-- The image has a birth part and groups that keep the rules, and then an open gate, behind which a rule is broken.
pub record IsGroupDamaged (image : List ℕ) (damage : Damage) : Type 0 where
  pub birth : Birth
  pub is_birth : IsBirth birth
  pub groups : List FrameGroup
  pub follow : Follow first_root groups
  pub keep : KeepCounts first_root groups
  -- what stands behind the open gate
  pub bytes : List ℕ
  pub image_is : image ≡ 1 ∷ (birth_part birth ++ (behind_gates groups ++ 1 ∷ bytes))
  pub violation : Violation
  pub breaks : group_violation (last_root first_root groups) bytes ≡ Some violation
  pub damage_is : damage ≡ damage_at (gate_behind groups + 1) violation

-- what opening tells of an image
pub data Reading : Type 0 where
  Log : Birth → List FrameGroup → Reading
  Unborn : Reading
  NotOurs : ℕ → Reading
  Damaged : Damage → Reading

abbrev pub Reads : List ℕ → Reading → Type 0
Reads image (Log birth groups) = HasLog image birth groups × KeepCounts first_root groups
Reads image Unborn = IsUnborn image
Reads image (NotOurs first) = IsNotOurs image first
Reads image (Damaged damage) = IsBirthDamaged image damage ⊎ IsGroupDamaged image damage

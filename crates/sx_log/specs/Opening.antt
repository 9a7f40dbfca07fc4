-- What opening answers, and what it reads.
use Rattle.std.specs.Prelude.{ℕ, ◌≡◌, ◌+◌, ◌*◌, ◌<◌, ◌≤◌, ◌⊎◌, Bool, List, ◌∷◌, ◌++◌, length, drop, Option, None, Some, IfSome, Result, Ok, Err}
use Rattle.sx_bytes.specs.declared.damage.Damage.{Damage}
use Rattle.sx_frame.specs.Violation.{Violation, damage_at}
use Rattle.sx_frame.specs.declared.table.FrameRow.{FrameRow}
use Rattle.sx_layout.specs.Birth.{Birth, BirthFields, IsBirth, IsNotOurs, IsUnborn, birth_part, birth_rules}
use Rattle.sx_layout.specs.Born as born
use Rattle.sx_layout.specs.Born.{HasLog, Reading, Reads}
use Rattle.sx_layout.specs.FrameGroup.{FrameGroup, IsFrameGroup, behind_gates, first_root, frame_group_bytes, gate_behind, group_size}
use Rattle.sx_layout.specs.Rule.{first_broken}
use Rattle.sx_layout.specs.Rules.{Follow, KeepCounts, count_rules, digest_rule, group_violation, order_rules, table_rules}
use Rattle.sx_log.specs.Creating.{IsOther, birth_of}
use Rattle.sx_log.specs.Kept.{IsLogOf, first_place, row_at, rows_from, rows_size}
use Rattle.sx_log.specs.declared.fault.LogFault.{LogFault}
use Rattle.sx_log.specs.declared.fault.LogFault.TheVariants.{Failed, NotOurs, Unborn, Born, Damaged, OutOfMemory}
use Rattle.sx_log.specs.declared.log.GroupRow.{GroupRow}
use Rattle.sx_log.specs.declared.log.Log.{Log}
use Rattle.sx_log.specs.declared.log.Pending.TheVariants.{Nothing}
use Rattle.sx_root.specs.Root.{front_root}
use Rattle.sx_root.specs.declared.root.RevisionRoot.{RevisionRoot}

-- ---- what is answered

-- the damage is that of some birth part, or of some bytes behind an open gate: its two values break its rule
abbrev pub IsOfSome : Damage → Type 0
IsOfSome damage =
    ((fields : BirthFields) × (violation : Violation) × (first_broken (birth_rules fields) ≡ Some violation) × (damage ≡ damage_at 1 violation))
    ⊎ ((last : RevisionRoot) × (bytes : List ℕ) × (place : ℕ) × (violation : Violation) × (group_violation last bytes ≡ Some violation) × (damage ≡ damage_at place violation))

-- What is answered in place of a log is what the bytes are read as. Where they are not told, the two values of damage break its rule.
abbrev pub Explains : Option (List ℕ) → LogFault → Type 0
Explains bytes Failed = Unit {0}
Explains bytes (NotOurs first) = IfSome bytes (λ image. IsNotOurs image first)
Explains bytes Unborn = IfSome bytes IsUnborn
Explains bytes Born = ⊥
Explains bytes (Damaged damage) = IsOfSome damage × IfSome bytes (λ image. Reads image (born.Damaged damage))
Explains bytes OutOfMemory = Unit {0}

-- The answer is that of the reading, unless a call failed or memory ran out.
abbrev pub IsGiven : Reading → Result Log LogFault → Type 0
IsGiven (born.Log birth groups) (Ok log) = (birth_of log.birth ≡ birth) × IsLogOf log groups
IsGiven (born.Log birth groups) (Err fault) = IsOther fault
IsGiven born.Unborn (Ok log) = ⊥
IsGiven born.Unborn (Err fault) = (fault ≡ Unborn) ⊎ IsOther fault
IsGiven (born.NotOurs first) (Ok log) = ⊥
IsGiven (born.NotOurs first) (Err fault) = (fault ≡ NotOurs first) ⊎ IsOther fault
IsGiven (born.Damaged damage) (Ok log) = ⊥
IsGiven (born.Damaged damage) (Err fault) = (fault ≡ Damaged damage) ⊎ IsOther fault

-- no group comes next
abbrev pub IsAtRest : Log → Type 0
IsAtRest log = log.pending ≡ Nothing

-- Whether the bytes are told or not, the log is that of groups that keep the rules, and the gate behind them lies below the length.
-- Where the bytes are told, they have this log.
pub record IsOpened (bytes : Option (List ℕ)) (size : ℕ) (log : Log) : Type 0 where
  pub groups : List FrameGroup
  pub rows : IsLogOf log groups
  pub birth : IsBirth (birth_of log.birth)
  pub follow : Follow first_root groups
  pub keep : KeepCounts first_root groups
  pub gate : log.end < size
  pub has : IfSome bytes (λ image. HasLog image (birth_of log.birth) groups)
  pub rest : IsAtRest log

-- ---- how many bytes are read

-- of bytes behind an open gate: the head, or the head with the table and the digest
abbrev pub part_size : Option (RevisionRoot × List ℕ) → ℕ
part_size None = 48
part_size (Some head) = 80 + 36 * head.0.frames

-- Groups that keep the rules were read, and at most the head, the table and the digest behind one more gate.
pub record IsReadUpTo (bytes : Option (List ℕ)) (size count : ℕ) : Type 0 where
  pub birth : Birth
  pub groups : List FrameGroup
  pub follow : Follow first_root groups
  pub keep : KeepCounts first_root groups
  -- what was read behind the gate that follows them
  pub more : ℕ
  pub fits : gate_behind groups + more < size
  pub front : IfSome bytes (λ all. (rest : List ℕ) × (all ≡ 1 ∷ (birth_part birth ++ (behind_gates groups ++ rest))) × (more ≤ part_size (front_root (drop 1 rest))))
  pub count_is : count ≤ (174 + rows_size (rows_from first_place groups)) + more

-- Where opening ends without a log it has read so many bytes.
abbrev pub IsCounted : Option (List ℕ) → ℕ → ℕ → Type 0
IsCounted bytes size count = (count ≤ 174) ⊎ IsReadUpTo bytes size count

-- ---- what was read so far

-- Groups that break no rule were read, and what stands behind them begins with a gate below the length.
pub record Begins (bytes : Option (List ℕ)) (size : ℕ) (log : Log) : Type 0 where
  pub groups : List FrameGroup
  pub rows : IsLogOf log groups
  pub birth : IsBirth (birth_of log.birth)
  pub follow : Follow first_root groups
  pub keep : KeepCounts first_root groups
  pub gate : log.end < size
  pub front : IfSome bytes (λ all. (rest : List ℕ) × (all ≡ 1 ∷ (birth_part (birth_of log.birth) ++ (behind_gates groups ++ rest))))
  pub rest : IsAtRest log

-- the rules 1 and 7 to 15 on a group whose head, table and digest are these bytes, behind a group with the root `last`
abbrev pub part_rules : RevisionRoot → RevisionRoot → List ℕ → List FrameRow → List (Bool × Violation)
part_rules last root bytes table = digest_rule bytes (48 + 36 * root.frames) ∷ (order_rules last root ++ (count_rules last root ++ table_rules root table))

-- The damage is that of the bytes at this place, of which so many are left, behind a group with the root `last`.
pub record TellsDamage (bytes : Option (List ℕ)) (place left : ℕ) (last : RevisionRoot) (damage : Damage) : Type 0 where
  pub seen : List ℕ
  pub long : length seen ≡ left
  pub violation : Violation
  pub breaks : group_violation last seen ≡ Some violation
  pub damage_is : damage ≡ damage_at place violation
  pub there : IfSome bytes (λ all. drop place all ≡ seen)

-- where it is damage, it is that of the group at this place; and it is nothing else but a fault
abbrev pub TellsFault : Option (List ℕ) → ℕ → ℕ → RevisionRoot → LogFault → Type 0
TellsFault bytes place left last Failed = Unit {0}
TellsFault bytes place left last (NotOurs first) = ⊥
TellsFault bytes place left last Unborn = ⊥
TellsFault bytes place left last Born = ⊥
TellsFault bytes place left last (Damaged damage) = TellsDamage bytes place left last damage
TellsFault bytes place left last OutOfMemory = Unit {0}

-- The row is that of a group which stands at this place, with a byte or more behind it, and breaks no rule behind a group with the root
-- `last`. So many bytes are left from the place on.
pub record IsGroupAt (bytes : Option (List ℕ)) (place left : ℕ) (last : RevisionRoot) (row : GroupRow) : Type 0 where
  pub group : FrameGroup
  pub row_is : row ≡ row_at place group
  pub fits : IsFrameGroup group
  pub room : group_size group.root.frames group.root.body ≤ left
  pub order : first_broken (order_rules last group.root) ≡ None
  pub counts : first_broken (count_rules last group.root) ≡ None
  pub lengths : first_broken (table_rules group.root group.table) ≡ None
  pub there : IfSome bytes (λ all. (rest : List ℕ) × (drop place all ≡ frame_group_bytes group ++ rest))

-- So many bytes were read of what stands behind an open gate at this place.
pub record IsPartAt (bytes : Option (List ℕ)) (place left count : ℕ) : Type 0 where
  pub fits : count ≤ left
  pub part : IfSome bytes (λ all. count ≤ part_size (front_root (drop place all)))

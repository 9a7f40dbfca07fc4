-- The group that a commit makes.
use Rattle.std.specs.Prelude.{ℕ, ◌≡◌, ◌+◌, ◌-◌, ◌^◌, ◌<◌, ◌≤◌, min, [], ◌∷◌, Option, None, Some, Result, Ok, Err}
use Rattle.std.specs.FinMap as fin
use Rattle.sx_bytes.specs.Damage.{number_damage}
use Rattle.sx_bytes.specs.declared.damage.Damage.{Damage}
use Rattle.sx_layout.specs.FrameGroup.{FrameGroup, IsFrameGroup}
use Rattle.sx_layout.specs.Rule.{first_broken}
use Rattle.sx_layout.specs.Rules.{frames_size, order_rules}
use Rattle.sx_log.specs.Committing.{sealed_bytes}
use Rattle.sx_log.specs.Room.{room_for}
use Rattle.sx_log.specs.declared.fault.RoomFault.{RoomFault}
use Rattle.sx_log.specs.declared.fault.RoomFault.TheVariants as rooms
use Rattle.sx_root.specs.declared.root.RevisionRoot.{RevisionRoot}
use Rattle.sx_store.specs.Shows.{records_of}
use Rattle.sx_store.specs.declared.draft.Draft.{Draft}
use Rattle.sx_store.specs.declared.fault.CommitFault.{CommitFault}
use Rattle.sx_store.specs.declared.fault.CommitFault.TheVariants as faults
use Rattle.sx_store.specs.declared.group.NewGroup.{NewGroup}
use Rattle.sx_store.specs.declared.group.TheConstants.{TOO_MANY_NODES}
use Rattle.sx_tree.specs.declared.record.NodeRecord.{NodeRecord}
use Rattle.sx_view.specs.Records.{RecordMap}

-- The bytes are those of a group of one frame that follows the root, with the closed gate behind it.
pub record IsGroupAfter (last : RevisionRoot) (made : NewGroup) : Type 0 where
  pub group : FrameGroup
  pub is_group : IsFrameGroup group
  pub follows : first_broken (order_rules last group.root) ≡ None
  pub root_is : made.root ≡ group.root
  pub table : group.table ≡ made.row ∷ []
  pub sizes : group.root.body ≡ frames_size group.table
  pub least : 5 ≤ made.row.bytes
  pub bytes_are : made.bytes.items ≡ sealed_bytes group

-- how many nodes a document has whose record of node 0 is this
abbrev pub count_in : Option NodeRecord → ℕ
count_in None = 1
count_in (Some document) = min (document.descendants + 1) (2 ^ 32 - 1)

-- The document tells of more nodes than its next number allows: a group at this place would break a rule.
abbrev pub HasTooMany : ℕ → RecordMap NodeRecord → ℕ → Damage → Type 0
HasTooMany place nodes next damage =
    let count = count_in (fin.get nodes 0) in (next < count) × (damage ≡ number_damage place TOO_MANY_NODES next count)

-- a group is not made at this place for want of room or of memory, or of a draft that tells of too many nodes
abbrev pub IsGroupFault : ℕ → Draft → CommitFault → Type 0
IsGroupFault place draft (faults.Stopped stage) = ⊥
IsGroupFault place draft faults.ReadFailed = ⊥
IsGroupFault place draft (faults.Damaged damage) = HasTooMany place (records_of draft) draft.next damage
IsGroupFault place draft (faults.LogFull frames revisions) = Unit {0}
IsGroupFault place draft (faults.CommitTooLarge bytes) = Unit {0}
IsGroupFault place draft faults.OutOfMemory = Unit {0}
IsGroupFault place draft (faults.Failed stage) = ⊥

-- what is answered where there is room, or not
abbrev pub IsRoomFor : {X : Type 0} → Result ℕ RoomFault → Result X CommitFault → Type 0
IsRoomFor room (Ok x) = (bytes : ℕ) × (room ≡ Ok bytes)
IsRoomFor room (Err (faults.Stopped stage)) = ⊥
IsRoomFor room (Err faults.ReadFailed) = ⊥
IsRoomFor room (Err (faults.Damaged damage)) = ⊥
IsRoomFor room (Err (faults.LogFull frames revisions)) = room ≡ Err (rooms.LogFull frames revisions)
IsRoomFor room (Err (faults.CommitTooLarge bytes)) = room ≡ Err (rooms.CommitTooLarge bytes)
IsRoomFor room (Err faults.OutOfMemory) = Unit {0}
IsRoomFor room (Err (faults.Failed stage)) = ⊥

-- the same behind a last revision with this root, for a frame of so many bytes
abbrev pub HasRoom : {X : Type 0} → RevisionRoot → ℕ → Result X CommitFault → Type 0
HasRoom last bytes result = IsRoomFor (room_for (last.first_frame + last.frames) last.revision (bytes ∷ [])) result

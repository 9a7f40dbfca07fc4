-- What the calls of a commit leave of a log and of its volume.
use Rattle.std.specs.Prelude.{ℕ, ◌≡◌, ◌<◌, ◌≤◌, ◌+◌, List, [], ◌∷◌, ◌++◌, drop, take, None, Some, IfSome, IsTrue, length, vec_capacity, vec_len}
use Rattle.sx_layout.specs.Born.{HasLog}
use Rattle.sx_layout.specs.FrameGroup.{FrameGroup, IsFrameGroup, first_root, frame_group_bytes}
use Rattle.sx_layout.specs.Rule.{first_broken}
use Rattle.sx_layout.specs.Rules.{Follow, order_rules}
use Rattle.sx_log.specs.Calls.{IsSettled}
use Rattle.sx_log.specs.Creating.{birth_of}
use Rattle.sx_log.specs.Kept.{IsLogOf, listed, root_behind, row_at}
use Rattle.sx_log.specs.declared.log.GroupRow.{GroupRow}
use Rattle.sx_log.specs.declared.log.Log.{Log}
use Rattle.sx_log.specs.declared.log.Pending.TheVariants.{Held, Staged}
use Rattle.sx_volume.specs.Images.{Elapses, IsWithin, NoSync}
use Rattle.sx_volume.specs.declared.volume.Volume.{Ghosts}

-- ---- the log and the volume between commits

-- The log is that of these groups. Where the volume tells its bytes they have them under the log's birth, and so has each image that a
-- crash may leave now. The gate that ends the groups lies below the length.
pub record KeepsLog {V Spot End : Type 0} (g : Ghosts V Spot End) (log : Log) (volume : V) (groups : List FrameGroup) : Type 0 where
  pub is_log : IsLogOf log groups
  pub follow : Follow first_root groups
  pub gate : log.end < g.size volume
  pub bytes : IfSome (g.bytes volume) (λ all. HasLog all (birth_of log.birth) groups)
  pub images : IfSome (g.bytes volume) (λ _. (image : List ℕ) → g.is_image volume image → HasLog image (birth_of log.birth) groups)

-- the log keeps its birth, its rows and its gate
pub record SameLog (old new : Log) : Type 0 where
  pub birth : new.birth ≡ old.birth
  pub rows : listed new.groups ≡ listed old.groups
  pub end : new.end ≡ old.end

-- what comes next is the same
abbrev pub SameNext : Log → Log → Type 0
SameNext old new = new.pending ≡ old.pending

-- ---- the group that comes next

-- the bytes that are appended for the group: its own, and a closed gate
abbrev pub sealed_bytes : FrameGroup → List ℕ
sealed_bytes group = frame_group_bytes group ++ 0 ∷ []

-- it keeps the rules 7 to 11 behind these rows
abbrev pub FollowsRows : List GroupRow → FrameGroup → Type 0
FollowsRows rows group = first_broken (order_rules (root_behind first_root rows) group.root) ≡ None

-- the bytes are those of a group that follows these rows, and of the closed gate behind it
pub record IsNext (rows : List GroupRow) (bytes : List ℕ) (group : FrameGroup) : Type 0 where
  pub is_group : IsFrameGroup group
  pub follows : FollowsRows rows group
  pub bytes_are : bytes ≡ sealed_bytes group

-- The volume holds the group for the place behind the log's gate, with calls to spare for all of its commit. The log has what it keeps of
-- the group, and room for it.
pub record HoldsNext {V Spot End : Type 0} (g : Ghosts V Spot End) (log : Log) (volume : V) (group : FrameGroup) : Type 0 where
  pub is_group : IsFrameGroup group
  pub follows : FollowsRows (listed log.groups) group
  pub held : g.held volume ≡ Some (log.end + 1, sealed_bytes group)
  pub pending : log.pending ≡ Held (row_at (log.end + 1) group)
  pub room : vec_len log.groups.rows < vec_capacity log.groups.rows
  pub spare : 5 ≤ g.spare volume

-- The group stands behind the log's gate, with a closed gate behind it and nothing behind that, and a crash leaves these bytes and no
-- others. The log has what it keeps of the group, and room for it.
pub record HasStaged {V Spot End : Type 0} (g : Ghosts V Spot End) (log : Log) (volume : V) (group : FrameGroup) : Type 0 where
  pub is_group : IsFrameGroup group
  pub follows : FollowsRows (listed log.groups) group
  pub bytes : IfSome (g.bytes volume) (λ all. drop (log.end + 1) all ≡ sealed_bytes group)
  pub settled : IsSettled g volume
  pub size : g.size volume ≡ log.end + 1 + length (sealed_bytes group)
  pub pending : log.pending ≡ Staged (row_at (log.end + 1) group)
  pub room : vec_len log.groups.rows < vec_capacity log.groups.rows
  pub spare : 2 ≤ g.spare volume

-- ---- what the calls do

-- Calls that take memory: nothing changes but the held piece and the calls to spare.
pub record OnlyHolds {V Spot End : Type 0} (g : Ghosts V Spot End) (old new : V) : Type 0 where
  pub same_bytes : g.bytes new ≡ g.bytes old
  pub same_size : g.size new ≡ g.size old
  pub same_read : g.bytes_read new ≡ g.bytes_read old
  pub spare : g.spare old ≤ g.spare new
  pub calm : IsTrue (g.calm old) → IsTrue (g.calm new)
  pub no_fault : g.faults new ≡ g.faults old
  pub never_falls : g.faults old ≤ g.faults new
  pub no_image_more : IsWithin (g.is_image old) (g.was_image new (g.moment old))
  pub no_image_less : IsWithin (g.is_image new) (g.is_image old)
  pub no_sync : NoSync (g.synced old) (g.synced new)
  pub time : Elapses (g.moment old) (g.moment new) (g.was_image old) (g.was_image new) (g.synced old) (g.synced new)

-- What was written stands behind the gate at this place: the bytes up to there, with the gate, are the same.
abbrev pub IsBehind : ℕ → List ℕ → List ℕ → Type 0
IsBehind gate old new = gate < length old → take (gate + 1) new ≡ take (gate + 1) old

-- the bytes up to the gate and with it, the group, its closed gate, and nothing behind
abbrev pub with_staged : ℕ → FrameGroup → List ℕ → List ℕ
with_staged gate group all = take (gate + 1) all ++ sealed_bytes group

-- the bytes up to the gate, the open gate, the group, its closed gate, and nothing behind
abbrev pub with_sealed : ℕ → FrameGroup → List ℕ → List ℕ
with_sealed gate group all = take gate all ++ 1 ∷ sealed_bytes group

-- Groups of frames: what a commit writes behind the birth part.
use Rattle.std.specs.Prelude.{ℕ, ◌≡◌, ◌+◌, ◌*◌, ◌^◌, ◌<◌, ◌≤◌, List, [], ◌∷◌, ◌++◌, length, take, drop, map, zero, suc}
use Rattle.std.specs.Int.{to_be_bytes, from_be_bytes, w32}
use Rattle.sha2.specs.Sha256.{sha256}
use Rattle.sx_frame.specs.declared.table.FrameRow.{FrameRow}
use Rattle.sx_model.specs.Commit.{first_time}
use Rattle.sx_root.specs.Root.{IsRoot, root_bytes}
use Rattle.sx_root.specs.declared.root.RevisionRoot.{RevisionRoot}

pub record FrameGroup : Type 0 where
  pub root : RevisionRoot
  -- of each frame the length and the digest
  pub table : List FrameRow
  -- the bytes of all frames, one behind another
  pub body : List ℕ

-- a group with the gate behind it has at most so many bytes
abbrev pub group_limit : ℕ
group_limit = 268435456

-- the length (4 bytes) and the digest (32)
abbrev pub row_bytes : FrameRow → List ℕ
row_bytes row = to_be_bytes w32 row.bytes ++ row.digest

abbrev pub table_bytes : List FrameRow → List ℕ
table_bytes [] = []
table_bytes (row ∷ rows) = row_bytes row ++ table_bytes rows

-- the head of the revision, and a row for each frame
abbrev pub head_part : RevisionRoot → List FrameRow → List ℕ
head_part root table = root_bytes root ++ table_bytes table

-- head, table, the digest of both, and the frames
abbrev pub frame_group_bytes : FrameGroup → List ℕ
frame_group_bytes group = head_part group.root group.table ++ (sha256 (head_part group.root group.table) ++ group.body)

-- the bytes of a group with so many frames of so many bytes together, the gate behind it among them
abbrev pub group_size : ℕ → ℕ → ℕ
group_size frames body = 81 + 36 * frames + body

abbrev pub IsRow : FrameRow → Type 0
IsRow row = (row.bytes < 2 ^ 32) × (length row.digest ≡ 32)

abbrev pub AreRows : List FrameRow → Type 0
AreRows [] = Unit {0}
AreRows (row ∷ rows) = IsRow row × AreRows rows

-- its numbers fit their fields, its parts are as long as the head says, and it is within the limit
pub record IsFrameGroup (group : FrameGroup) : Type 0 where
  pub root : IsRoot group.root
  pub rows : AreRows group.table
  pub frames : length group.table ≡ group.root.frames
  pub body : length group.body ≡ group.root.body
  pub size : group_size group.root.frames group.root.body ≤ group_limit

-- The root of revision 0, which is not stored.
abbrev pub first_root : RevisionRoot
first_root = record { revision = 0; time = first_time; first_frame = 0; frames = 0; node_root = 0; path_root = 0; next = 1; nodes = 1; paths = 0; body = 0 }

-- how many frames there are up to this revision
abbrev pub frames_after : RevisionRoot → ℕ
frames_after root = root.first_frame + root.frames

-- the root of the last group, or this one where there is none
abbrev pub last_root : RevisionRoot → List FrameGroup → RevisionRoot
last_root root [] = root
last_root root (group ∷ groups) = last_root group.root groups

-- the bytes of these groups, each with the gate behind it
abbrev pub groups_size : List FrameGroup → ℕ
groups_size [] = 0
groups_size (group ∷ groups) = group_size group.root.frames group.root.body + groups_size groups

-- the place of the gate that ends these groups
abbrev pub gate_behind : List FrameGroup → ℕ
gate_behind groups = 173 + groups_size groups

-- the groups, each behind its open gate
abbrev pub behind_gates : List FrameGroup → List ℕ
behind_gates [] = []
behind_gates (group ∷ groups) = 1 ∷ (frame_group_bytes group ++ behind_gates groups)

-- ---- the group of frames

-- what the table keeps of a frame
abbrev pub row_of : List ℕ → FrameRow
row_of frame = record { bytes = length frame; digest = sha256 frame }

abbrev pub joined : List (List ℕ) → List ℕ
joined [] = []
joined (frame ∷ frames) = frame ++ joined frames

-- the group with this root and these frames, each of them its bytes
abbrev pub group_of_frames : RevisionRoot → List (List ℕ) → FrameGroup
group_of_frames root frames = record { root = root; table = map row_of frames; body = joined frames }

-- ---- what stands at the front of bytes

-- so many rows
abbrev pub rows_at : ℕ → List ℕ → List FrameRow
rows_at zero bytes = []
rows_at (suc count) bytes = record { bytes = from_be_bytes w32 (take 4 bytes); digest = take 32 (drop 4 bytes) } ∷ rows_at count (drop 36 bytes)

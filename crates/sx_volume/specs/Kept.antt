-- What the fields of a file and of a volume in memory stand for.
use Rattle.std.specs.Prelude.{◌≡◌, ℕ, ◌+◌, ◌≤◌, List, [], ◌∷◌, length, take, drop, vec_len, vec_capacity}
use Rattle.sx_volume.specs.Change.{Change, Appended, Put, Cut, Synced}
use Rattle.sx_volume.specs.Content.{pending_in}
use Rattle.sx_volume.specs.Held.{held_piece, place_and_bytes}
use Rattle.sx_volume.specs.Medium.{Medium}
use Rattle.sx_volume.specs.Replay.{pending_after}
use Rattle.sx_volume.specs.Stored.{Stored}
use Rattle.sx_volume.specs.declared.mem_file.Call.{Call}
use Rattle.sx_volume.specs.declared.mem_file.Call.TheVariants as call
use Rattle.sx_volume.specs.declared.mem_file.MemFile.TheInside as of_file
use Rattle.sx_volume.specs.declared.mem_volume.MemVolume.TheInside as of_volume

-- how many bytes a call appended
abbrev pub count_of : Call → ℕ
count_of (call.Append count) = count
count_of _ = 0

-- the change that a call made, where these are the bytes that it and later calls appended
abbrev pub change_of : Call → List ℕ → Change
change_of (call.Append count) bytes = Appended (take count bytes)
change_of (call.PutByte at byte) bytes = Put at byte
change_of (call.Cut len) bytes = Cut len
change_of call.Sync bytes = Synced

-- the changes that the calls made, where these are the bytes that they appended
abbrev pub changes_of : List Call → List ℕ → List Change
changes_of [] bytes = []
changes_of (call ∷ calls) bytes = change_of call bytes ∷ changes_of calls (drop (count_of call) bytes)

-- how many bytes the calls appended
abbrev pub appended_by : List Call → ℕ
appended_by [] = 0
appended_by (call ∷ calls) = count_of call + appended_by calls

abbrev pub stored_in : of_file.Inside → Stored
stored_in f = record { first = f.first.items; changes = changes_of f.calls.items f.appended.items; room = f.room; tally = f.tally }

-- the content is that of the replay, and there is room for what may still come
pub record IsStored (f : of_file.Inside) : Type 0 where
  pub replayed : pending_in f.content ≡ pending_after f.first.items (changes_of f.calls.items f.appended.items)
  pub whole : appended_by f.calls.items ≡ length f.appended.items
  pub bytes : vec_len f.content.bytes + f.room ≤ vec_capacity f.content.bytes
  pub places : vec_len f.content.places + f.room ≤ vec_capacity f.content.places
  pub calls : vec_len f.calls + f.room ≤ vec_capacity f.calls
  pub appended : vec_len f.appended + f.room ≤ vec_capacity f.appended

abbrev pub medium_in : of_volume.Inside → Medium
medium_in v = record {
  first = v.file.first;
  changes = v.file.changes;
  held = place_and_bytes v.held;
  spare = v.spare;
  tally = v.file.tally;
  bytes_read = v.bytes_read;
}

-- the file has room for the held piece and for the spare calls
abbrev pub HasRoom : of_volume.Inside → Type 0
HasRoom v = length (held_piece (place_and_bytes v.held)) + v.spare ≤ v.file.room

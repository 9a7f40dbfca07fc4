-- What a volume in memory is for a caller, and what its calls make of it.
use Rattle.std.specs.Prelude.{ℕ, ◌-◌, Bool, List, [], ◌∷◌, ◌++◌, length, Option, None}
use Rattle.sx_volume.specs.Counts.{plus}
use Rattle.sx_volume.specs.Held.{held_piece}
use Rattle.sx_volume.specs.Tally.{Tally, one_more, one_more_failed}
use Rattle.sx_volume.specs.Change.{Change, Appended, Put, Cut, Synced, Pending, IsImage}
use Rattle.sx_volume.specs.Replay.{pending_after, WasImage, SyncAt}

pub record Medium : Type 0 where
  -- the bytes at the start, all of them kept
  pub first : List ℕ
  -- the calls since then that changed or synced it, the first of them first
  pub changes : List Change
  -- the piece that is held for the next append, and its place
  pub held : Option (ℕ × List ℕ)
  -- how many of the calls that write can be made
  pub spare : ℕ
  pub tally : Tally
  pub bytes_read : ℕ

-- what is read, and what a crash may do to it
abbrev pub pending : Medium → Pending
pending medium = pending_after medium.first medium.changes

abbrev pub bytes_of : Medium → List ℕ
bytes_of medium = (pending medium).bytes

abbrev pub is_calm : Medium → Bool
is_calm medium = (pending medium).calm

abbrev pub moment_of : Medium → ℕ
moment_of medium = length medium.changes

-- a crash may leave the list now
abbrev pub MayLeave : Medium → List ℕ → Type 0
MayLeave medium = IsImage (pending medium)

-- a crash may have left it at some moment since that one
abbrev pub MayHaveLeft : Medium → ℕ → List ℕ → Type 0
MayHaveLeft medium = WasImage medium.first medium.changes

-- a sync succeeded at this moment
abbrev pub HadSync : Medium → ℕ → Type 0
HadSync medium = SyncAt medium.changes

-- after a call that failed, which changes nothing but the counts
abbrev pub after_failure : Medium → Medium
after_failure medium = record medium { tally = one_more_failed medium.tally }

-- after a read of so many bytes
abbrev pub after_read : Medium → ℕ → Medium
after_read medium count = record medium { tally = one_more medium.tally; bytes_read = plus medium.bytes_read count }

abbrev pub after_failed_read : Medium → ℕ → Medium
after_failed_read medium count = record medium { tally = one_more_failed medium.tally; bytes_read = plus medium.bytes_read count }

-- after a call that made this change
abbrev pub changed : Medium → Change → Medium
changed medium change = record medium { changes = medium.changes ++ change ∷ []; spare = medium.spare - 1; tally = one_more medium.tally }

abbrev pub after_append : Medium → Medium
after_append medium = record (changed medium (Appended (held_piece medium.held))) { held = None }

abbrev pub after_put : Medium → ℕ → ℕ → Medium
after_put medium at byte = changed medium (Put at byte)

abbrev pub after_cut : Medium → ℕ → Medium
after_cut medium len = changed medium (Cut len)

abbrev pub after_sync : Medium → Medium
after_sync medium = changed medium Synced

-- What a file in memory is for a caller, and what its calls make of it.
use Rattle.std.specs.Prelude.{ℕ, ◌+◌, ◌-◌, List, [], ◌∷◌, ◌++◌, take, drop}
use Rattle.sx_volume.specs.Tally.{Tally, one_more, one_more_failed}
use Rattle.sx_volume.specs.Change.{Change, Appended, Put, Pending}
use Rattle.sx_volume.specs.Replay.{pending_after}

pub record Stored : Type 0 where
  -- the bytes at the start, all of them kept
  pub first : List ℕ
  -- the changes and syncs since then, the first of them first
  pub changes : List Change
  -- how much may still come: each change or sync takes one, and an append one more for each byte
  pub room : ℕ
  pub tally : Tally

-- what is read, and what a crash may do to it
abbrev pub pending_of : Stored → Pending
pending_of file = pending_after file.first file.changes

abbrev pub bytes_in : Stored → List ℕ
bytes_in file = (pending_of file).bytes

-- after a call that changed nothing
abbrev pub after_look : Stored → Stored
after_look file = record file { tally = one_more file.tally }

-- after a call that failed, which changes nothing but the counts
abbrev pub after_fault : Stored → Stored
after_fault file = record file { tally = one_more_failed file.tally }

-- after these changes, which took so much of the room
abbrev pub after_these : Stored → List Change → ℕ → Stored
after_these file changes taken = record file { changes = file.changes ++ changes; room = file.room - taken }

-- these bytes, one after another, from the place on
abbrev pub puts_of : ℕ → List ℕ → List Change
puts_of at [] = []
puts_of at (byte ∷ piece) = Put at byte ∷ puts_of (at + 1) piece

-- A write into a file that is so long, at a place within it or at its end: the bytes that are there are written over one
-- after another, and the rest of the piece is appended.
abbrev pub changes_by : ℕ → ℕ → List ℕ → List Change
changes_by long at piece = puts_of at (take (long - at) piece) ++ Appended (drop (long - at) piece) ∷ []

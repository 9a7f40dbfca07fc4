-- What a write into a file does to its bytes, and what it leaves to a crash.
use Rattle.std.specs.Prelude.{◌≡◌, ◌⊎◌, ℕ, ◌+◌, ◌<◌, ◌≤◌, min, List, ◌++◌, length, take, drop, slice_index, Option, None, Some, IsSomeAnd}

-- the bytes with this piece at a place within them or at their end
abbrev pub with_piece : ℕ → List ℕ → List ℕ → List ℕ
with_piece at piece bytes = take at bytes ++ piece ++ drop (at + length piece) bytes

-- A write from this place up to this end, into a file that is so long, as far as it came. Each byte stays, or it is one
-- of the file's that were written over, and is any byte. The length stays, or grows up to the end of the write.
pub record Writes (at long end : ℕ) (old new : List ℕ) : Type 0 where
  pub bytes : (i : ℕ) → i < length old → (slice_index new i ≡ slice_index old i) ⊎ ((at ≤ i) × (i < min long end) × (slice_index new i < 256))
  pub grows : (length new ≡ length old) ⊎ ((long < end) × (length old ≤ length new) × (length new ≤ end))

-- the write came as far as it did, where the file tells its bytes; one that does not goes on so
abbrev pub IsInPart : ℕ → ℕ → Option (List ℕ) → Option (List ℕ) → Type 0
IsInPart at end None now = now ≡ None
IsInPart at end (Some all) now = IsSomeAnd now (Writes at (length all) end all)

-- The revision at a time.
use Rattle.std.specs.Prelude.{ℕ, ℤ, pos, ◌-◌, ◌<◌, ◌≤◌, ◌<ℤ◌, ◌≤ℤ◌, List, length, slice_index_or}

-- the time of a revision, counted from 1
abbrev pub time_of : List ℤ → ℕ → ℤ
time_of times r = slice_index_or times (r - 1) (pos 0)

-- no revision's time is below that of one before
abbrev pub NeverFall : List ℤ → Type 0
NeverFall times = (r s : ℕ) → 1 ≤ r → r ≤ s → s ≤ length times → time_of times r ≤ℤ time_of times s

-- the greatest revision whose time is at most t, and 0 where there is none
pub record IsAtTime (times : List ℤ) (t : ℤ) (revision : ℕ) : Type 0 where
  pub there : revision ≤ length times
  pub by_then : 1 ≤ revision → time_of times revision ≤ℤ t
  pub later : (r : ℕ) → revision < r → r ≤ length times → t <ℤ time_of times r

-- What a crash may leave of a volume, and how that goes on from call to call. A test says of one list of bytes whether
-- a crash may leave it: its first form speaks of now, its second of all moments since a given one.
use Rattle.std.specs.Prelude.{◌≡◌, ◌⊎◌, ℕ, ◌<◌, ◌≤◌, max, List, length, take, slice_set}

-- a crash leaves these bytes and nothing else
abbrev pub Only : List ℕ → (List ℕ → Type 0) → Type 0
Only bytes test = (c : List ℕ) → test c → c ≡ bytes

-- what passes the new test passed the old one
abbrev pub IsWithin : (List ℕ → Type 0) → (List ℕ → Type 0) → Type 0
IsWithin old new = (c : List ℕ) → new c → old c

-- what passes the new test comes by this step from a list that passed the old one
abbrev pub Follows : (List ℕ → List ℕ → Type 0) → (List ℕ → Type 0) → (List ℕ → Type 0) → Type 0
Follows step old new = (c : List ℕ) → new c → (d : List ℕ) × old d × step d c

-- an append up to this end, as far as it came: what was there, and then any bytes
pub record Appends (end : ℕ) (old new : List ℕ) : Type 0 where
  pub front : take (length old) new ≡ old
  pub no_longer : length new ≤ max (length old) end

-- a byte was put at this place, or not: the same list, or any byte there
abbrev pub Puts : ℕ → List ℕ → List ℕ → Type 0
Puts at old new = (new ≡ old) ⊎ ((byte : ℕ) × (byte < 256) × (new ≡ slice_set old at byte))

-- a cut to this length, as far as it came: the same bytes up to there, and then any
pub record Cuts (len : ℕ) (old new : List ℕ) : Type 0 where
  pub front : take len new ≡ take len old
  pub no_longer : length new ≤ length old

-- No sync succeeded: the moments at which one had are the same.
abbrev pub NoSync : (ℕ → Type 0) → (ℕ → Type 0) → Type 0
NoSync had has = (t : ℕ) → has t → had t

-- One sync succeeded, at this moment, which is later than the start.
pub record Syncs (start now : ℕ) (had has : ℕ → Type 0) : Type 0 where
  pub later : start < now
  pub here : has now
  pub no_other : (t : ℕ) → has t → had t ⊎ (t ≡ now)

-- A sync succeeded after this moment, and since then each image is such.
abbrev pub KeptSince : ℕ → (ℕ → List ℕ → Type 0) → (ℕ → Type 0) → (List ℕ → Type 0) → Type 0
KeptSince from was has P = (t : ℕ) × (from < t) × has t × ((c : List ℕ) → was t c → P c)

-- Time goes on over a call. For a moment before it, a list passes the second test exactly where it passed it before, or
-- where it passes it for the call's own start, and a sync had succeeded there exactly where it had before.
pub record Elapses (start end : ℕ) (was is : ℕ → List ℕ → Type 0) (had has : ℕ → Type 0) : Type 0 where
  pub later : start ≤ end
  pub nothing_else : (t : ℕ) (c : List ℕ) → t ≤ start → is t c → was t c ⊎ is start c
  pub keeps : (t : ℕ) (c : List ℕ) → t ≤ start → was t c → is t c
  pub counts : (t : ℕ) (c : List ℕ) → t ≤ start → is start c → is t c
  pub syncs : (t : ℕ) → had t → has t
  pub no_sync_before : (t : ℕ) → t ≤ start → has t → had t

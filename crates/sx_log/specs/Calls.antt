-- What calls leave of a volume, at a bound `V: Volume`.
use Rattle.std.specs.Prelude.{ℕ, ◌≡◌, ◌<◌, ◌≤◌, ◌⊎◌, IsTrue, IfSome, List}
use Rattle.sx_volume.specs.declared.volume.Volume.{Ghosts}
use Rattle.sx_volume.specs.Images.{Only, IsWithin, Elapses, NoSync}

-- Calls that only read: nothing changes but the counts.
pub record OnlyReads {V Spot End : Type 0} (g : Ghosts V Spot End) (old new : V) : Type 0 where
  pub same_bytes : g.bytes new ≡ g.bytes old
  pub same_size : g.size new ≡ g.size old
  pub same_held : g.held new ≡ g.held old
  pub spare : g.spare old ≤ g.spare new
  pub calm : IsTrue (g.calm old) → IsTrue (g.calm new)
  pub never_falls : g.faults old ≤ g.faults new
  pub no_image_more : IsWithin (g.is_image old) (g.was_image new (g.moment old))
  pub no_image_less : IsWithin (g.is_image new) (g.is_image old)
  pub no_sync : NoSync (g.synced old) (g.synced new)
  pub time : Elapses (g.moment old) (g.moment new) (g.was_image old) (g.was_image new) (g.synced old) (g.synced new)

-- Time goes on, and the count of faults never falls.
pub record GoesOn {V Spot End : Type 0} (g : Ghosts V Spot End) (old new : V) : Type 0 where
  pub never_falls : g.faults old ≤ g.faults new
  pub time : Elapses (g.moment old) (g.moment new) (g.was_image old) (g.was_image new) (g.synced old) (g.synced new)

-- Where the bytes are told, a crash leaves them and nothing else.
abbrev pub IsSettled : {V Spot End : Type 0} → Ghosts V Spot End → V → Type 0
IsSettled g volume = IfSome (g.bytes volume) (λ all. Only all (g.is_image volume))

-- A crash leaves what it could leave at the start, up to the moment at which the first sync succeeded. From then on each image is such.
pub record HoldsSinceSync {V Spot End : Type 0} (g : Ghosts V Spot End) (P : List ℕ → Type 0) (old new : V) : Type 0 where
  pub moment : ℕ
  pub later : g.moment old < moment
  pub no_later : moment ≤ g.moment new
  pub here : g.synced new moment
  pub first : (t : ℕ) → t < moment → g.synced new t → g.synced old t
  pub up_to : (c : List ℕ) → g.was_image new (g.moment old) c → g.is_image old c ⊎ g.was_image new moment c
  pub since : (c : List ℕ) → g.was_image new moment c → P c

-- No sync succeeded, and a crash leaves what it could leave at the start.
pub record IsUnsynced {V Spot End : Type 0} (g : Ghosts V Spot End) (old new : V) : Type 0 where
  pub no_sync : NoSync (g.synced old) (g.synced new)
  pub up_to : (c : List ℕ) → g.was_image new (g.moment old) c → g.is_image old c

-- From the first sync that succeeded on a crash leaves these bytes and nothing else.
abbrev pub IsSynced : {V Spot End : Type 0} → Ghosts V Spot End → List ℕ → V → V → Type 0
IsSynced g image old new = HoldsSinceSync g (λ c. c ≡ image) old new

-- That, or no sync succeeded, and a crash leaves what it could leave at the start.
abbrev pub IsSyncedOrNot : {V Spot End : Type 0} → Ghosts V Spot End → V → V → Type 0
IsSyncedOrNot g old new = IfSome (g.bytes old) (λ image. IsSynced g image old new ⊎ IsUnsynced g old new)

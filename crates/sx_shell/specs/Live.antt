-- What a whole run leaves.
use Rattle.std.specs.Prelude.{ℕ, ◌≡◌, ◌≢◌, ◌⊎◌, List, Option, None, Some, IsSome}
use Rattle.sx_layout.specs.Birth.{Birth}
use Rattle.sx_layout.specs.Born as born
use Rattle.sx_layout.specs.Born.{Reading, Reads}
use Rattle.sx_layout.specs.FrameGroup.{FrameGroup}
use Rattle.sx_outside.specs.Faults.{Rose}
use Rattle.sx_run.specs.Run.{Course}
use Rattle.sx_shell.specs.Crash.{IsSafe}
use Rattle.sx_shell.specs.Medium.{HaveRisen, Medium, NoneFailed, NoneRose, terms_of}
use Rattle.sx_shell.specs.Outcome.{IsNothing, Outcome, Told}
use Rattle.sx_shell.specs.declared.status.Status.{Status}
use Rattle.sx_shell.specs.declared.status.Status.TheVariants.{Done, Usage, ReadFault, WriteFault, VolumeFault, Damaged, NotOurs, Unborn, Born, Missing, OutOfMemory}
use Rattle.sx_store.specs.Opening.{HoldsSinceSync, IsUnsynced}
use Rattle.sx_volume.specs.declared.volume.Volume.{Ghosts}
use Rattle.sx_whole.specs.Stands.{KeepsAll, Stands}

-- statuses of a run whose opening did not come to the success of its sync
abbrev pub IsBeforeSync : Status → Type 0
IsBeforeSync Done = ⊥
IsBeforeSync Usage = Unit {0}
IsBeforeSync ReadFault = ⊥
IsBeforeSync WriteFault = ⊥
IsBeforeSync VolumeFault = Unit {0}
IsBeforeSync (Damaged damage) = ⊥
IsBeforeSync (NotOurs first) = ⊥
IsBeforeSync Unborn = ⊥
IsBeforeSync Born = ⊥
IsBeforeSync (Missing asked seen) = ⊥
IsBeforeSync OutOfMemory = Unit {0}

-- the run ended after the volume was opened
abbrev pub IsAfterOpening : Status → Type 0
IsAfterOpening Done = Unit {0}
IsAfterOpening Usage = ⊥
IsAfterOpening ReadFault = Unit {0}
IsAfterOpening WriteFault = Unit {0}
IsAfterOpening VolumeFault = Unit {0}
IsAfterOpening (Damaged damage) = ⊥
IsAfterOpening (NotOurs first) = ⊥
IsAfterOpening Unborn = ⊥
IsAfterOpening Born = ⊥
IsAfterOpening (Missing asked seen) = ⊥
IsAfterOpening OutOfMemory = Unit {0}

-- No sync succeeded in the run, and no line was run.
pub record NeverOpened {V S E : Type 0} (g : Ghosts V S E) (old new : V) (status : Status) : Type 0 where
  pub early : IsBeforeSync status
  pub images : IsUnsynced g old new

-- a volume and its ends, before a run and behind it
pub record Around (V E : Type 0) : Type 0 where
  pub old : V
  pub new : V
  pub ends : List E
  pub ends_after : List E

-- A run from the start wrote these bytes, and ended so: it came to an end course, as far as the status says; the faults of each client's
-- end rose as often as a read failed for the client; the volume stands for its commits, unless it failed; a crash at any moment leaves
-- commits of the run; and a commit failed only where the volume did.
pub record HasRun {V S E : Type 0} (g : Medium V S E) (around : Around V E) (start : Course) (told : Told) (status : Status) : Type 0 where
  pub end : Course
  pub outcome : Outcome (terms_of g.birth) start told status end
  pub risen : HaveRisen g.end around.ends end.clients around.ends_after
  pub none_failed : NoneRose g.end around.ends around.ends_after → NoneFailed end.clients
  pub stands : status ≢ VolumeFault → end.book.stopped ≡ None → (final : List ℕ) × (g.volume.bytes around.new ≡ Some final) × Stands final (Some g.birth) end.book.commits
  pub safe : IsSafe g around.old around.new start.book.commits end.book
      ⊎ (NeverOpened g.volume around.old around.new status × IsNothing start told end)
  pub cause : IsSome end.book.stopped → Rose (g.volume.faults around.old) (g.volume.faults around.new)

-- the image reads as a birth and groups that keep the rules
abbrev pub IsWhole : List ℕ → Type 0
IsWhole image = (birth : Birth) × (groups : List FrameGroup) × Reads image (born.Log birth groups)

-- From a moment on, at which the run's first sync succeeded, each image has all that was there at the start.
pub record KeepsSince {V S E : Type 0} (g : Ghosts V S E) (old new : V) (image : List ℕ) : Type 0 where
  pub holds : HoldsSinceSync g (KeepsAll image) old new
  pub at_end : (c : List ℕ) → g.is_image new c → KeepsAll image c

abbrev pub IsKept : {V S E : Type 0} → Ghosts V S E → V → V → List ℕ → Status → Type 0
IsKept g old new image status = KeepsSince g old new image ⊎ (NeverOpened g old new status × (status ≢ VolumeFault → g.bytes new ≡ g.bytes old))

-- the run goes on, or ended as done
abbrev pub HasNoFault : Option Status → Type 0
HasNoFault None = Unit {0}
HasNoFault (Some Done) = Unit {0}
HasNoFault (Some Usage) = ⊥
HasNoFault (Some ReadFault) = ⊥
HasNoFault (Some WriteFault) = ⊥
HasNoFault (Some VolumeFault) = ⊥
HasNoFault (Some (Damaged damage)) = ⊥
HasNoFault (Some (NotOurs first)) = ⊥
HasNoFault (Some Unborn) = ⊥
HasNoFault (Some Born) = ⊥
HasNoFault (Some (Missing asked seen)) = ⊥
HasNoFault (Some OutOfMemory) = ⊥

-- ---- volumes that are not opened

-- the run ended with a refusal of the volume's bytes
abbrev pub IsRefusal : Status → Type 0
IsRefusal Done = ⊥
IsRefusal Usage = ⊥
IsRefusal ReadFault = ⊥
IsRefusal WriteFault = ⊥
IsRefusal VolumeFault = ⊥
IsRefusal (Damaged damage) = Unit {0}
IsRefusal (NotOurs first) = Unit {0}
IsRefusal Unborn = Unit {0}
IsRefusal Born = ⊥
IsRefusal (Missing asked seen) = ⊥
IsRefusal OutOfMemory = ⊥

-- the bytes are read as those of no log
abbrev pub IsNoLog : Reading → Type 0
IsNoLog (born.Log birth groups) = ⊥
IsNoLog born.Unborn = Unit {0}
IsNoLog (born.NotOurs first) = Unit {0}
IsNoLog (born.Damaged damage) = Unit {0}

-- The run ended so, unless a call of the volume failed or memory ran out.
abbrev pub EndsAs : Status → Status → Type 0
EndsAs due status = (status ≡ due) ⊎ (status ≡ VolumeFault) ⊎ (status ≡ OutOfMemory)

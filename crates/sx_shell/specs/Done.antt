-- What a call of the shell over its volume leaves, and what it did with a line.
use Rattle.std.specs.Prelude.{ℕ, ℤ, ◌≡◌, ◌≤◌, ◌⊎◌, List, ◌++◌, Option, None, Some, IfSome, IsSome}
use Rattle.sx_outside.specs.Faults.{Rose}
use Rattle.sx_model.specs.Commit.{Commit}
use Rattle.sx_run.specs.Item.{IsSingle}
use Rattle.sx_run.specs.Run.{Book, Course, Replies}
use Rattle.sx_run.specs.declared.line.Command.TheVariants as commands
use Rattle.sx_run.specs.declared.line.Line.{Line}
use Rattle.sx_run.specs.declared.line.Line.TheVariants as lines
use Rattle.sx_shell.specs.Crash.{HasClimbed}
use Rattle.sx_shell.specs.Medium.{Medium, Rises, terms_of}
use Rattle.sx_shell.specs.Shows.{Shows}
use Rattle.sx_shell.specs.declared.status.Status.{Status}
use Rattle.sx_shell.specs.declared.status.Status.TheVariants.{Done, Usage, ReadFault, WriteFault, VolumeFault, Damaged, NotOurs, Unborn, Born, Missing, OutOfMemory}
use Rattle.sx_store.specs.Shows as store
use Rattle.sx_store.specs.Shows.{birth_in, stage_of}
use Rattle.sx_store.specs.Sound.{GrowsFrom, HasAll}
use Rattle.sx_store.specs.declared.ledger.Ledger.{Ledger}
use Rattle.sx_volume.specs.Images.{Elapses}
use Rattle.sx_volume.specs.declared.spot.Spot as spot
use Rattle.sx_volume.specs.declared.volume.Volume as volume

-- since this moment each image has had all that the ledger has
abbrev pub HaveAll : {V S E : Type 0} → volume.Ghosts V S E → spot.Ghosts S → ℕ → V → Ledger S → Type 0
HaveAll g s from volume ledger = (image : List ℕ) → g.was_image volume from image → HasAll s ledger image

-- Whatever the volume stands for: nothing that the ledger has is lost in any image, and the faults rise only where a commit fails,
-- which stops the writer for good.
pub record Continues {V S E : Type 0} (g : volume.Ghosts V S E) (s : spot.Ghosts S) (old new : V) (before after : Ledger S) : Type 0 where
  pub time : Elapses (g.moment old) (g.moment new) (g.was_image old) (g.was_image new) (g.synced old) (g.synced new)
  pub told : IsSome (g.bytes old) → IsSome (g.bytes new)
  pub same_birth : birth_in after ≡ birth_in before
  pub grows : IfSome (g.bytes old) (λ _. GrowsFrom s before after)
  pub keeps : IfSome (g.bytes old) (λ _. (from : ℕ) (first : Ledger S) → from ≤ g.moment old → GrowsFrom s first before → HaveAll g s from old first → HaveAll g s from new first)
  pub stays : (stage : ℕ) → stage_of before ≡ Some stage → (stage_of after ≡ Some stage) × (g.faults new ≡ g.faults old)
  pub no_fault : stage_of after ≡ None → g.faults new ≡ g.faults old
  pub cause : stage_of before ≡ None → IsSome (stage_of after) → Rose (g.faults old) (g.faults new)
  pub never_falls : g.faults old ≤ g.faults new

-- What had climbed goes on to climb, from the one book to the other.
abbrev pub Carries : {V S E : Type 0} → Medium V S E → V → V → Book → Book → Type 0
Carries g old new before after =
    IfSome (g.volume.bytes old) (λ _. (from : ℕ) (start : List Commit) → HasClimbed g from start old before → HasClimbed g from start new after)

-- where a volume, a desk's ledger and revisions, the ends, a sink and a clock are
pub record Place (V S E : Type 0) : Type 0 where
  pub volume : V
  pub ledger : Ledger S
  pub ends : List E
  pub revisions : List ℕ
  pub written : Option (List ℕ)
  pub moments : Option (List ℤ)

abbrev pub place : {V S E : Type 0} → V → Ledger S → List E → List ℕ → Option (List ℕ) → Option (List ℤ) → Place V S E
place volume ledger ends revisions written moments =
    record { volume = volume; ledger = ledger; ends = ends; revisions = revisions; written = written; moments = moments }

-- The new ledger shows the later course's book, to which what had climbed goes on, and the ends' faults rose with the reads that failed.
pub record Leads {V S E : Type 0} (g : Medium V S E) (old new : Place V S E) (before after : Course) : Type 0 where
  pub shows : store.Shows g.spot new.ledger after.book
  pub carries : Carries g old.volume new.volume before.book after.book
  pub rises : Rises g.end old.ends new.ends before.clients after.clients

-- The desk shows the course, over a volume that tells its bytes.
abbrev pub IsAt : {V S E : Type 0} → Medium V S E → Place V S E → Course → Type 0
IsAt g at course = IsSome (g.volume.bytes at.volume) × Shows g at.ledger at.ends at.revisions at.moments course

-- The line was run, and its reply is these bytes.
pub record IsRun {V S E : Type 0} (g : Medium V S E) (course : Course) (line : Line) (out : List ℕ) (old new : Place V S E) : Type 0 where
  pub next : Course
  pub single : IsSingle line
  pub replies : Replies (terms_of g.birth) course line out next
  pub leads : Leads g old new course next
  pub shows : Shows g new.ledger new.ends new.revisions new.moments next

-- The line ends the run.
pub record IsQuit {V S E : Type 0} (g : Medium V S E) (course : Course) (line : Line) (old new : Place V S E) : Type 0 where
  pub quits : line ≡ lines.Command 0 commands.Quit
  pub leads : Leads g old new course course

-- The line did nothing that can be seen, but for what it asked the clock and read.
abbrev pub IsLeft : {V S E : Type 0} → Medium V S E → Course → Place V S E → Place V S E → Type 0
IsLeft g course old new = Leads g old new course course

-- A line was served, behind these bytes. The result is how it ended the run, if it did.
abbrev pub IsServed : {V S E : Type 0} → Medium V S E → Course → Line → Place V S E → Place V S E → Option Status → Type 0
IsServed g course line old new None =
    (before : List ℕ) → old.written ≡ Some before → (out : List ℕ) × IsRun g course line out old new × (new.written ≡ Some (before ++ out))
IsServed g course line old new (Some Done) = IsQuit g course line old new × (course.book.stopped ≡ None) × (new.written ≡ old.written)
IsServed g course line old new (Some VolumeFault) = IsQuit g course line old new × IsSome course.book.stopped × (new.written ≡ old.written)
IsServed g course line old new (Some WriteFault) =
    (before : List ℕ) → old.written ≡ Some before
    → (front : List ℕ) × (rest : List ℕ) × IsRun g course line (front ++ rest) old new × (new.written ≡ Some (before ++ front))
IsServed g course line old new (Some OutOfMemory) =
    (IsLeft g course old new ⊎ ((out : List ℕ) × IsRun g course line out old new)) × (new.written ≡ old.written)
IsServed g course line old new (Some Usage) = ⊥
IsServed g course line old new (Some ReadFault) = ⊥
IsServed g course line old new (Some (Damaged damage)) = ⊥
IsServed g course line old new (Some (NotOurs first)) = ⊥
IsServed g course line old new (Some Unborn) = ⊥
IsServed g course line old new (Some Born) = ⊥
IsServed g course line old new (Some (Missing asked seen)) = ⊥

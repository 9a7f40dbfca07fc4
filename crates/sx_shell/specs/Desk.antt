-- What the desk is asked, and what it answers.
use Rattle.std.specs.Prelude.{ℕ, ◌≡◌, ◌<◌, ◌≤◌, ◌⊎◌, slice_set, List, ◌++◌, Option, None, Some, IsSome, Result, Ok, Err}
use Rattle.sx_run.specs.Line.{Says}
use Rattle.sx_run.specs.Run.{Answers, Course}
use Rattle.sx_run.specs.declared.line.Command.{Command}
use Rattle.sx_run.specs.declared.line.Command.TheVariants as commands
use Rattle.sx_run.specs.declared.line.Line.{Line}
use Rattle.sx_run.specs.declared.line.Line.TheVariants as lines
use Rattle.sx_run.specs.declared.reply.Said.{Said}
use Rattle.sx_run.specs.declared.reply.Said.TheVariants as said
use Rattle.sx_shell.specs.Done.{IsLeft, IsServed, Leads, Place}
use Rattle.sx_shell.specs.Medium.{Medium, terms_of}
use Rattle.sx_shell.specs.Shows.{Shows}
use Rattle.sx_shell.specs.declared.status.Status.{Status}
use Rattle.sx_shell.specs.declared.status.Status.TheVariants.{Done, Usage, ReadFault, WriteFault, VolumeFault, Damaged, NotOurs, Unborn, Born, Missing, OutOfMemory}
use Rattle.sx_tree.specs.declared.query.Which.{Which}
use Rattle.sx_tree.specs.declared.query.Which.TheVariants as revisions

-- what the desk was when it was asked, and what it is now
pub record Served (V S E : Type 0) : Type 0 where
  pub course : Course
  pub old : Place V S E
  pub new : Place V S E

-- a command led to the next course
pub record IsSaid {V S E : Type 0} (g : Medium V S E) (served : Served V S E) (next : Course) : Type 0 where
  pub leads : Leads g served.old served.new served.course next
  pub shows : Shows g served.new.ledger served.new.ends served.new.revisions served.new.moments next

-- The reply is the one of the run, or memory ran out, and nothing was done.
abbrev pub IsAnswered : {V S E X : Type 0} → Medium V S E → Served V S E → ℕ → Command → Result Said X → Type 0
IsAnswered g served client command (Ok said) =
    (next : Course) × Answers (terms_of g.birth) served.course client command said next × IsSaid g served next
IsAnswered g served client command (Err fault) = IsLeft g served.course served.old served.new

-- the revision that is wanted, where so many commits are seen
abbrev pub wanted : Which → ℕ → ℕ
wanted revisions.Latest seen = seen
wanted (revisions.Number r) seen = r

-- The revision that is asked for is opened for the client, if it is there: so many commits are seen.
abbrev pub Opens : ℕ → ℕ → ℕ → List ℕ → Said → List ℕ → Type 0
Opens asked seen client old reply new =
    ((asked ≤ seen) × (reply ≡ said.Opened asked) × (new ≡ slice_set old client asked))
    ⊎ ((seen < asked) × (reply ≡ said.Missing asked seen) × (new ≡ old))

-- where the line ends the run, it is the writer's
abbrev pub IsTaken : Line → Type 0
IsTaken lines.Skip = Unit {0}
IsTaken (lines.Refused client) = Unit {0}
IsTaken (lines.BadJson client fault) = Unit {0}
IsTaken (lines.Command client command) = command ≡ commands.Quit → client ≡ 0

-- These bytes were written, or a front of them, or none. The result is how that ended the run.
abbrev pub IsWritten : List ℕ → Option (List ℕ) → Option (List ℕ) → Option Status → Type 0
IsWritten bytes old new None = (before : List ℕ) → old ≡ Some before → new ≡ Some (before ++ bytes)
IsWritten bytes old new (Some WriteFault) = (before : List ℕ) → old ≡ Some before → (front : List ℕ) × (rest : List ℕ) × (bytes ≡ front ++ rest) × (new ≡ Some (before ++ front))
IsWritten bytes old new (Some OutOfMemory) = new ≡ old
IsWritten bytes old new (Some Done) = ⊥
IsWritten bytes old new (Some VolumeFault) = ⊥
IsWritten bytes old new (Some Usage) = ⊥
IsWritten bytes old new (Some ReadFault) = ⊥
IsWritten bytes old new (Some (Damaged damage)) = ⊥
IsWritten bytes old new (Some (NotOurs first)) = ⊥
IsWritten bytes old new (Some Unborn) = ⊥
IsWritten bytes old new (Some Born) = ⊥
IsWritten bytes old new (Some (Missing asked seen)) = ⊥

-- A run that comes to its end is done, or has the volume's fault where a commit failed.
abbrev pub IsEnd : Option ℕ → Status → Type 0
IsEnd stage Done = stage ≡ None
IsEnd stage VolumeFault = IsSome stage
IsEnd stage ReadFault = ⊥
IsEnd stage WriteFault = ⊥
IsEnd stage OutOfMemory = ⊥
IsEnd stage Usage = ⊥
IsEnd stage (Damaged damage) = ⊥
IsEnd stage (NotOurs first) = ⊥
IsEnd stage Unborn = ⊥
IsEnd stage Born = ⊥
IsEnd stage (Missing asked seen) = ⊥

-- A run ends as done while no commit has failed, and else as the volume's fault.
abbrev pub IsEndOf : Option ℕ → Option Status → Type 0
IsEndOf stage None = Unit {0}
IsEndOf stage (Some Done) = stage ≡ None
IsEndOf stage (Some VolumeFault) = IsSome stage
IsEndOf stage (Some ReadFault) = Unit {0}
IsEndOf stage (Some WriteFault) = Unit {0}
IsEndOf stage (Some OutOfMemory) = Unit {0}
IsEndOf stage (Some Usage) = ⊥
IsEndOf stage (Some (Damaged damage)) = ⊥
IsEndOf stage (Some (NotOurs first)) = ⊥
IsEndOf stage (Some Unborn) = ⊥
IsEndOf stage (Some Born) = ⊥
IsEndOf stage (Some (Missing asked seen)) = ⊥

-- A line was read and served, or memory ran out before it said anything.
abbrev pub IsRead : {V S E : Type 0} → Medium V S E → Course → List ℕ → Place V S E → Place V S E → Option Status → Type 0
IsRead g course line old new result =
    ((said : Line) × Says line said × IsServed g course said old new result)
    ⊎ ((result ≡ Some OutOfMemory) × IsLeft g course old new × (new.written ≡ old.written))

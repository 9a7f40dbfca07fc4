-- How far a run over a script is.
use Rattle.std.specs.Prelude.{ℕ, ◌≡◌, List, ◌++◌, Option, None, Some, IsSome}
use Rattle.sx_run.specs.Item.{Item, AreSingles}
use Rattle.sx_run.specs.Run.{Course, Run}
use Rattle.sx_script.specs.Reading.{HasGiven}
use Rattle.sx_script.specs.Waiting.{Waiting}
use Rattle.sx_shell.specs.Crash.{HasClimbed}
use Rattle.sx_shell.specs.Done.{Place}
use Rattle.sx_shell.specs.Medium.{HaveRisen, Medium, terms_of}
use Rattle.sx_shell.specs.Outcome.{Outcome}
use Rattle.sx_shell.specs.Shows.{Shows}
use Rattle.sx_shell.specs.declared.status.Status.{Status}
use Rattle.sx_store.specs.Shows as store

-- what a run begins over: its course, the ends, the bytes of the source, those in the sink, and a moment of the volume
pub record Start (E : Type 0) : Type 0 where
  pub course : Course
  pub ends : List E
  pub input : List ℕ
  pub before : List ℕ
  pub from : ℕ

-- The run went on over each line that the reader gave.
pub record Progress {V S E : Type 0} (g : Medium V S E) (start : Start E) (left : Option (List ℕ)) (waiting : Waiting) (now : Place V S E) : Type 0 where
  pub rest : List ℕ
  pub given : List (List ℕ)
  pub items : List Item
  pub out : List ℕ
  pub course : Course
  pub left_is : left ≡ Some rest
  pub at : HasGiven waiting start.input rest given
  pub items_are : AreSingles given items
  pub ran : Run (terms_of g.birth) start.course items out course
  pub written_is : now.written ≡ Some (start.before ++ out)
  pub shows : Shows g now.ledger now.ends now.revisions now.moments course
  pub risen : HaveRisen g.end start.ends course.clients now.ends
  pub told : IsSome (g.volume.bytes now.volume)
  pub climbed : HasClimbed g start.from start.course.book.commits now.volume course.book

-- The run ended with this status.
pub record Ended {V S E : Type 0} (g : Medium V S E) (start : Start E) (left : Option (List ℕ)) (now : Place V S E) (status : Status) : Type 0 where
  pub rest : List ℕ
  pub out : List ℕ
  pub end : Course
  pub left_is : left ≡ Some rest
  pub written_is : now.written ≡ Some (start.before ++ out)
  pub outcome : Outcome (terms_of g.birth) start.course (record { input = start.input; left = rest; written = out }) status end
  pub shows : store.Shows g.spot now.ledger end.book
  pub risen : HaveRisen g.end start.ends end.clients now.ends
  pub told : IsSome (g.volume.bytes now.volume)
  pub climbed : HasClimbed g start.from start.course.book.commits now.volume end.book

-- the run goes on, or ended
abbrev pub Advanced : {V S E : Type 0} → Medium V S E → Start E → Option (List ℕ) → Waiting → Place V S E → Option Status → Type 0
Advanced g start left waiting now None = Progress g start left waiting now
Advanced g start left waiting now (Some status) = Ended g start left now status

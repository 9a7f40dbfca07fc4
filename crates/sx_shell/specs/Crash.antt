-- What a crash leaves of a volume over which a script runs.
use Rattle.std.specs.Prelude.{ℕ, ◌≡◌, ◌<◌, ◌≤◌, ◌⊎◌, List, [], ◌∷◌, ◌++◌, Option, None, Some}
use Rattle.sx_layout.specs.Birth.{Birth}
use Rattle.sx_model.specs.Commit.{Commit}
use Rattle.sx_run.specs.Run.{Book, Failure}
use Rattle.sx_shell.specs.Medium.{Medium}
use Rattle.sx_volume.specs.Images.{KeptSince}
use Rattle.sx_whole.specs.Stands.{Stands, StandsOnceOpened}

-- the list begins with these
abbrev pub IsFront : List Commit → List Commit → Type 0
IsFront front whole = (more : List Commit) × (whole ≡ front ++ more)

-- a commit failed at its second stage, and this holds of it
abbrev pub Second : Option Failure → (Commit → Type 0) → Type 0
Second None P = ⊥
Second (Some failure) P = (failure.stage ≡ 2) × P failure.commit

-- where a commit failed at its second stage, this holds of it
abbrev pub IfSecond : Option Failure → (Commit → Type 0) → Type 0
IfSecond None P = Unit {0}
IfSecond (Some failure) P = failure.stage ≡ 2 → P failure.commit

-- the image stands for all commits of the book, or, where a commit failed at its second stage, for these with that one
abbrev pub StandsAtEnd : Birth → Book → List ℕ → Type 0
StandsAtEnd birth book image =
    Stands image (Some birth) book.commits ⊎ Second book.stopped (λ next. Stands image (Some birth) (book.commits ++ next ∷ []))

-- The image stands for some of the commits, with all from the start, or, where a commit failed at its second stage, for all with that
-- one.
abbrev pub StandsDuring : Birth → List Commit → Book → List ℕ → Type 0
StandsDuring birth start book image =
    ((commits : List Commit) × IsFront start commits × IsFront commits book.commits × Stands image (Some birth) commits)
    ⊎ Second book.stopped (λ next. Stands image (Some birth) (book.commits ++ next ∷ []))

-- From one moment on each image stands for these; while the next one comes, for these with or without it; and from a later moment
-- on, when it had come, the same goes on with it among these, up to the last moment. From that on nothing is said.
abbrev pub Climbs : Birth → (ℕ → List ℕ → Type 0) → ℕ → ℕ → List Commit → List Commit → Type 0
Climbs birth was from last these [] = (from ≤ last) × ((image : List ℕ) → was from image → Stands image (Some birth) these ⊎ was last image)
Climbs birth was from last these (x ∷ more) =
    (later : ℕ) × (from ≤ later)
    × ((image : List ℕ) → was from image → Stands image (Some birth) these ⊎ Stands image (Some birth) (these ++ x ∷ []) ⊎ was later image)
    × Climbs birth was later last (these ++ x ∷ []) more

-- From a moment on the commits came one after another, from those of the start to those of the book, and each is held by every image
-- from a moment on. Where a commit failed at its second stage, each image since a sync has it, once its gate is opened.
pub record HasClimbed {V S E : Type 0} (g : Medium V S E) (from : ℕ) (start : List Commit) (volume : V) (end : Book) : Type 0 where
  pub more : List Commit
  pub grew : end.commits ≡ start ++ more
  pub last : ℕ
  pub climbs : Climbs g.birth (g.volume.was_image volume) from last start more
  pub no_later : last ≤ g.volume.moment volume
  pub since_last : (image : List ℕ) → g.volume.was_image volume last image → StandsAtEnd g.birth end image
  pub behind : IfSecond end.stopped (λ next. KeptSince last (g.volume.was_image volume) (g.volume.synced volume) (StandsOnceOpened (Some g.birth) end.commits next))

-- From a moment on, at which the run's first sync, that of the opening, succeeded, each image stands for commits of the run. Each image
-- before that is one that the volume had at the start.
pub record IsSafe {V S E : Type 0} (g : Medium V S E) (old new : V) (start : List Commit) (end : Book) : Type 0 where
  pub moment : ℕ
  pub later : g.volume.moment old < moment
  pub synced : g.volume.synced new moment
  pub first : (t : ℕ) → t < moment → g.volume.synced new t → g.volume.synced old t
  pub up_to : (image : List ℕ) → g.volume.was_image new (g.volume.moment old) image → g.volume.is_image old image ⊎ g.volume.was_image new moment image
  pub since : (image : List ℕ) → g.volume.was_image new moment image → StandsDuring g.birth start end image
  pub held : HasClimbed g moment start new end
  pub at_end : (image : List ℕ) → g.volume.is_image new image → StandsAtEnd g.birth end image

-- Commits, and the revisions that replaying them gives.
use Rattle.std.specs.Prelude.{ℕ, ℤ, negsuc, ◌-◌, ◌^◌, ◌≤ℤ◌, FitsSigned, List, [], ◌∷◌, take}
use Rattle.std.specs.Int.{w64}
use Rattle.sx_model.specs.Edit.{Edit, after, AreAccepted}
use Rattle.sx_model.specs.State.{State, empty_document}

pub record Commit : Type 0 where
  -- in milliseconds since the start of 1970 in UTC
  pub time : ℤ
  pub edits : List Edit

-- the state after these commits, replayed from a state
abbrev pub replay : List Commit → State → State
replay [] state = state
replay (commit ∷ commits) state = replay commits (after commit.edits state)

-- the state of revision r is that of the first r commits, replayed from the empty document
abbrev pub state_of : List Commit → ℕ → State
state_of commits r = replay (take r commits) empty_document

-- the time of revision 0, before which no commit is
abbrev pub first_time : ℤ
first_time = negsuc (2 ^ 63 - 1)

-- the time of the last commit, or this one where there is none
abbrev pub last_time : ℤ → List Commit → ℤ
last_time time [] = time
last_time time (commit ∷ commits) = last_time commit.time commits

-- From a time and a state on, times are numbers of 64 bits that never fall, and each edit is accepted in turn.
abbrev pub AreLegal : ℤ → State → List Commit → Type 0
AreLegal time state [] = Unit {0}
AreLegal time state (commit ∷ commits) =
    FitsSigned w64 commit.time × (time ≤ℤ commit.time) × AreAccepted commit.edits state × AreLegal commit.time (after commit.edits state) commits

-- the same from revision 0 on
abbrev pub IsLegal : List Commit → Type 0
IsLegal commits = AreLegal first_time empty_document commits

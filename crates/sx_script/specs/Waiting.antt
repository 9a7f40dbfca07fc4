-- What a reader of lines has taken and not given yet, and what one step of reading gives.
use Rattle.std.specs.Prelude.{ℕ, ◌≡◌, ◌+◌, ◌<◌, ◌≤◌, ◌⊎◌, Bool, true, false, List, [], ◌∷◌, ◌++◌, length, take, Option, None, Some, IfSome}
use Rattle.sx_run.specs.Line.{line_limit}
use Rattle.sx_run.specs.Lines.{HasNoFeed}
use Rattle.sx_script.specs.declared.line_reader.PullFault.{PullFault}
use Rattle.sx_script.specs.declared.line_reader.PullFault.TheVariants as faults
use Rattle.sx_script.specs.declared.line_reader.Pulled.{Pulled}
use Rattle.sx_script.specs.declared.line_reader.Pulled.TheVariants.{Line, Long, More, End}

pub record Waiting : Type 0 where
  -- what is kept of the line that did not end yet
  pub line : List ℕ
  -- the bytes behind it
  pub rest : List ℕ
  -- the source told its end
  pub ended : Bool

abbrev pub nothing_taken : Waiting
nothing_taken = record { line = []; rest = []; ended = false }

-- the source told its end, and all was given
abbrev pub nothing_left : Waiting
nothing_left = record { line = []; rest = []; ended = true }

-- of a line that is too long one byte past the limit is kept
unfoldable pub kept : List ℕ → List ℕ
kept line = take (line_limit + 1) line

-- where the source tells its bytes, this piece was taken
abbrev pub IsMoved : Option (List ℕ) → List ℕ → Option (List ℕ) → Type 0
IsMoved None piece left = Unit {0}
IsMoved (Some bytes) piece left = (rest : List ℕ) × (bytes ≡ piece ++ rest) × (left ≡ Some rest)

-- where the source tells its bytes, none are left
abbrev pub IsAtEnd : Option (List ℕ) → Option (List ℕ) → Type 0
IsAtEnd before left = IfSome before (λ _. IfSome left (λ bytes. bytes ≡ []))

-- A line ends in these bytes. What is behind its line feed stays.
pub record Ends (old : Waiting) (bytes line : List ℕ) (new : Waiting) : Type 0 where
  pub part : List ℕ
  pub found : bytes ≡ part ++ 10 ∷ new.rest
  pub first : HasNoFeed part
  pub whole : line ≡ kept (old.line ++ part)
  pub next : new.line ≡ []
  pub goes_on : new.ended ≡ false

-- no line ends in these bytes, which go to the line
pub record GoesOn (old : Waiting) (bytes : List ℕ) (new : Waiting) : Type 0 where
  pub none : HasNoFeed bytes
  pub longer : new.line ≡ kept (old.line ++ bytes)
  pub empty : new.rest ≡ []
  pub goes_on : new.ended ≡ false

-- no line ends in these bytes, and with them the source ended: the rest is the last line
pub record IsLast (old : Waiting) (bytes line : List ℕ) (new : Waiting) : Type 0 where
  pub none : HasNoFeed bytes
  pub whole : line ≡ kept (old.line ++ bytes)
  pub spent : new ≡ nothing_left

-- The line was given: it ends in the bytes that waited and the piece that was taken, or it is the last one.
abbrev pub IsGiven : Waiting → List ℕ → Type 0 → List ℕ → Waiting → Type 0
IsGiven old piece at_end line new = Ends old (old.rest ++ piece) line new ⊎ (IsLast old old.rest line new × (0 < length line) × (piece ≡ []) × at_end)

-- What a step gave that took this piece from a source, where it is at its end if the step found it so. A line within the limit is kept whole.
abbrev pub IsPulled : Waiting → List ℕ → Type 0 → Pulled → Waiting → Type 0
IsPulled old piece at_end (Line line) new = (old.ended ≡ false) × (length line ≤ line_limit) × IsGiven old piece at_end line new
IsPulled old piece at_end Long new = (old.ended ≡ false) × (line : List ℕ) × (line_limit < length line) × IsGiven old piece at_end line new
IsPulled old piece at_end More new = (old.ended ≡ false) × (0 < length piece) × GoesOn old (old.rest ++ piece) new
IsPulled old piece at_end End new = (new ≡ nothing_left) × (piece ≡ []) × ((old.ended ≡ true) ⊎ ((old.ended ≡ false) × IsLast old old.rest [] new × at_end))

-- A step that found want of memory lost nothing: a front of the bytes went to the line, and the others wait.
pub record Keeps (old : Waiting) (piece : List ℕ) (new : Waiting) : Type 0 where
  pub front : List ℕ
  pub bytes : old.rest ++ piece ≡ front ++ new.rest
  pub none : HasNoFeed front
  pub longer : new.line ≡ kept (old.line ++ front)
  pub goes_on : new.ended ≡ false

-- why a step gave nothing, and what it leaves
abbrev pub IsUnpulled : Waiting → List ℕ → PullFault → Waiting → Type 0
IsUnpulled old piece faults.Failed new = (old.ended ≡ false) × (piece ≡ []) × GoesOn old old.rest new
IsUnpulled old piece faults.OutOfMemory new = (old.ended ≡ false) × Keeps old piece new

-- ---- for the reader's own functions

-- the line is given, whole or as too long
abbrev pub IsWhole : Pulled → List ℕ → Type 0
IsWhole (Line bytes) line = (bytes ≡ line) × (length line ≤ line_limit)
IsWhole Long line = line_limit < length line
IsWhole More line = ⊥
IsWhole End line = ⊥

-- what was cut from the bytes that are there
abbrev pub IsCut : Waiting → Option Pulled → Waiting → Type 0
IsCut old (Some pulled) new = (line : List ℕ) × IsWhole pulled line × Ends old old.rest line new
IsCut old None new = GoesOn old old.rest new

-- what the end of the source gave
abbrev pub IsEnd : Waiting → Pulled → Waiting → Type 0
IsEnd old (Line line) new = IsWhole (Line line) old.line × (0 < length old.line) × (new ≡ nothing_left)
IsEnd old Long new = IsWhole Long old.line × (new ≡ nothing_left)
IsEnd old More new = ⊥
IsEnd old End new = (old.line ≡ []) × (new ≡ nothing_left)

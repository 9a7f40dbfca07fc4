-- What a reader has given of the bytes that its source had.
use Rattle.std.specs.Prelude.{ℕ, ◌≡◌, ◌<◌, ◌⊎◌, false, List, [], ◌∷◌, ◌++◌, length}
use Rattle.sx_run.specs.Line.{line_limit}
use Rattle.sx_run.specs.Lines.{HasNoFeed, HaveNoFeeds, fed, lines_of}
use Rattle.sx_script.specs.Waiting.{Waiting, kept, nothing_left}
use Rattle.sx_script.specs.declared.line_reader.Pulled.{Pulled}
use Rattle.sx_script.specs.declared.line_reader.Pulled.TheVariants.{Line, Long, More, End}

-- Of the bytes that were taken these lines have ended. The others wait.
pub record Holds (waiting : Waiting) (taken : List ℕ) (lines : List (List ℕ)) : Type 0 where
  -- the front of the line that has not ended
  pub partial : List ℕ
  pub taken_is : taken ≡ fed lines ++ (partial ++ waiting.rest)
  pub no_feeds : HaveNoFeeds lines
  pub no_feed : HasNoFeed partial
  pub line_is : waiting.line ≡ kept partial
  pub goes_on : waiting.ended ≡ false

-- Of the bytes that the source had, of which these are left, these lines were given.
abbrev pub HasGiven : Waiting → List ℕ → List ℕ → List (List ℕ) → Type 0
HasGiven waiting input left lines =
    ((taken : List ℕ) × (input ≡ taken ++ left) × Holds waiting taken lines)
    ⊎ ((waiting ≡ nothing_left) × (left ≡ []) × (lines ≡ lines_of input))

-- what was given after these lines, by the step that gave this
abbrev pub GivesNext : Pulled → Waiting → List ℕ → List ℕ → List (List ℕ) → Type 0
GivesNext (Line line) new input left lines = HasGiven new input left (lines ++ line ∷ [])
GivesNext Long new input left lines = (line : List ℕ) × (line_limit < length line) × HasGiven new input left (lines ++ line ∷ [])
GivesNext More new input left lines = HasGiven new input left lines
GivesNext End new input left lines = (new ≡ nothing_left) × (left ≡ []) × (lines ≡ lines_of input)

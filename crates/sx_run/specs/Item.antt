-- The items of a script.
use Rattle.std.specs.Prelude.{ℕ, ◌≡◌, List, [], ◌∷◌}
use Rattle.sx_run.specs.Line.{Says}
use Rattle.sx_run.specs.declared.line.Command.{Command}
use Rattle.sx_run.specs.declared.line.Command.TheVariants as commands
use Rattle.sx_run.specs.declared.line.Line.{Line}
use Rattle.sx_run.specs.declared.line.Line.TheVariants as lines

pub data Item : Type 0 where
  -- a line, but for `quit`
  single : Line → Item
  -- the end of the run
  quit : Item

-- the command does not end the run
abbrev pub GoesOn : Command → Type 0
GoesOn (commands.Edit edit) = Unit {0}
GoesOn commands.Rollback = Unit {0}
GoesOn commands.Commit = Unit {0}
GoesOn (commands.Open which) = Unit {0}
GoesOn (commands.Ask query) = Unit {0}
GoesOn commands.Quit = ⊥

abbrev pub IsSingle : Line → Type 0
IsSingle lines.Skip = Unit {0}
IsSingle (lines.Refused client) = Unit {0}
IsSingle (lines.BadJson client fault) = Unit {0}
IsSingle (lines.Command client said) = GoesOn said

-- the line is this item
abbrev pub IsItem : List ℕ → Item → Type 0
IsItem line (single said) = Says line said × IsSingle said
IsItem line quit = Says line (lines.Command 0 commands.Quit)

-- the lines are these items, none of which ends the run
abbrev pub AreSingles : List (List ℕ) → List Item → Type 0
AreSingles [] [] = Unit {0}
AreSingles [] (item ∷ items) = ⊥
AreSingles (line ∷ more) [] = ⊥
AreSingles (line ∷ more) (single said ∷ items) = IsItem line (single said) × AreSingles more items
AreSingles (line ∷ more) (quit ∷ items) = ⊥

-- The lines are these items. Nothing behind `quit` counts.
abbrev pub AreItems : List (List ℕ) → List Item → Type 0
AreItems [] items = items ≡ []
AreItems (line ∷ more) [] = ⊥
AreItems (line ∷ more) (single said ∷ items) = IsItem line (single said) × AreItems more items
AreItems (line ∷ more) (quit ∷ items) = IsItem line quit × (items ≡ [])

-- the last of the items is `quit`
abbrev pub EndsInQuit : List Item → Type 0
EndsInQuit [] = ⊥
EndsInQuit (single said ∷ items) = EndsInQuit items
EndsInQuit (quit ∷ items) = Unit {0}

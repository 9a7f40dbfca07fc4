-- The text that is written of a path.
use Rattle.std.specs.Prelude.{ℕ, List, [], ◌∷◌, ◌++◌}
use Rattle.sx_tree.specs.declared.record.Step.{Step}
use Rattle.sx_tree.specs.declared.record.Step.TheVariants.{Top, Item, Name}
use Rattle.sx_tree.specs.declared.steps.PathStep.{PathStep}
use Rattle.sx_tree.specs.declared.steps.PathStep.TheVariants as asked
use Rattle.sx_model.specs.Canonical.{string_text}

-- nothing for the step to the document's child, `[]` for one to an element, and `/` with the name as a string for one to
-- the value of a member
abbrev pub step_text : Step → List ℕ
step_text Top = []
step_text Item = 91 ∷ 93 ∷ []
step_text (Name name) = 47 ∷ string_text name

-- the steps in their order: a path has its last step first
abbrev pub steps_text : List Step → List ℕ
steps_text [] = []
steps_text (step ∷ path) = steps_text path ++ step_text step

-- a dot where nothing else is written
abbrev pub or_dot : List ℕ → List ℕ
or_dot [] = 46 ∷ []
or_dot (byte ∷ bytes) = byte ∷ bytes

-- the text of a path: its steps behind the top, or `.` for the top path
abbrev pub path_text_of : List Step → List ℕ
path_text_of path = or_dot (steps_text path)

-- ---- the same steps, as a text asks for them

abbrev pub asked_by : Step → List PathStep
asked_by Top = []
asked_by Item = asked.Item ∷ []
asked_by (Name name) = asked.Name name ∷ []

abbrev pub steps_asked : List Step → List PathStep
steps_asked [] = []
steps_asked (step ∷ path) = steps_asked path ++ asked_by step

-- Paths whose names are texts.
use Rattle.std.specs.Prelude.{List, [], ◌∷◌}
use Rattle.sx_tree.specs.declared.record.Step.{Step}
use Rattle.sx_tree.specs.declared.record.Step.TheVariants.{Top, Item, Name}
use Rattle.sx_tree.specs.Text.{IsText}

abbrev pub HasText : Step → Type 0
HasText Top = Unit {0}
HasText Item = Unit {0}
HasText (Name name) = IsText name

abbrev pub HaveTexts : List Step → Type 0
HaveTexts [] = Unit {0}
HaveTexts (step ∷ path) = HasText step × HaveTexts path

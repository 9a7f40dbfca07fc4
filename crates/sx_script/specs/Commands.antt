-- Commands by their parts.
use Rattle.std.specs.Prelude.{ℕ, ℤ, List, FitsSigned, Option, codes}
use Rattle.std.specs.Fmt.{signed_decimal}
use Rattle.std.specs.Int.{w64}
use Rattle.sx_model.specs.PathText.{SpellsPath}
use Rattle.sx_run.specs.Spelling.{Heads, SpellsCommand, SpellsNumbered, SpellsWhich, axis_word}
use Rattle.sx_run.specs.declared.line.Command.{Command}
use Rattle.sx_run.specs.declared.line.Command.TheVariants as commands
use Rattle.sx_tree.specs.declared.edit.Edit.{Edit}
use Rattle.sx_tree.specs.declared.query.Axis.{Axis}
use Rattle.sx_tree.specs.declared.query.Query.{Query}
use Rattle.sx_tree.specs.declared.query.Query.TheVariants as queries
use Rattle.sx_tree.specs.declared.query.Which.{Which}
use Rattle.sx_tree.specs.declared.steps.PathStep.{PathStep}

-- it is one word
abbrev pub IsPlain : Command → Type 0
IsPlain (commands.Edit edit) = ⊥
IsPlain commands.Rollback = Unit {0}
IsPlain commands.Commit = Unit {0}
IsPlain (commands.Open which) = ⊥
IsPlain (commands.Ask query) = ⊥
IsPlain commands.Quit = Unit {0}

abbrev pub AsksNoEdit : Option ℕ → List ℕ → Type 0
AsksNoEdit client text = (edit : Edit) → SpellsCommand client text (commands.Edit edit) → ⊥

abbrev pub IsOpen : List ℕ → Which → Type 0
IsOpen text which = (revision : List ℕ) × Heads text (codes "open") revision × SpellsWhich revision which

-- it is about the node or the path of a number, and nothing else
abbrev pub HasNumber : Query → Type 0
HasNumber (queries.Text k) = Unit {0}
HasNumber (queries.Node k) = Unit {0}
HasNumber (queries.Hash k) = Unit {0}
HasNumber (queries.Axis axis k) = ⊥
HasNumber (queries.Path p) = Unit {0}
HasNumber queries.Paths = ⊥
HasNumber (queries.Select path) = ⊥
HasNumber (queries.Valid t) = ⊥

abbrev pub IsAxis : List ℕ → Axis → ℕ → Type 0
IsAxis text axis k = (words : List ℕ) × Heads text (codes "axis") words × SpellsNumbered words (axis_word axis) k

abbrev pub IsSelection : List ℕ → List PathStep → Type 0
IsSelection text steps = (path : List ℕ) × Heads text (codes "select") path × SpellsPath path steps

abbrev pub IsValidAt : List ℕ → ℤ → Type 0
IsValidAt text t = FitsSigned w64 t × Heads text (codes "valid") (signed_decimal t)

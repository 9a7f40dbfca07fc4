-- What a text spells where no part of a command was found, and what a line that is read keeps.
use Rattle.std.proofs.Common.{◌≡◌, ℕ, ℤ, ◌<◌, List, Option, Some, None, Result, Ok, Err, IfOk, sym, subst, arith}
use Rattle.std.specs.Prelude.{codes}
use Rattle.sx_model.proofs.Within.{spells_within}
use Rattle.sx_run.specs.Client.{Asks, whose}
use Rattle.sx_run.specs.Line.{SaysShort, SpellsNone}
use Rattle.sx_run.specs.Spelling.{SpellsCommand, SpellsEdit, SpellsFault, SpellsNumbered, SpellsQuery}
use Rattle.sx_run.specs.declared.line.Command.{Command}
use Rattle.sx_run.specs.declared.line.Command.TheVariants as commands
use Rattle.sx_run.specs.declared.line.Line.{Line}
use Rattle.sx_run.specs.declared.line.Line.TheVariants as lines
use Rattle.sx_script.specs.Commands.{HasNumber, IsAxis, IsOpen, IsPlain, IsSelection, IsValidAt}
use Rattle.sx_script.specs.Told.{HasFault, IsCommandWithin, IsEditWithin, IsWithin}
use Rattle.sx_tree.specs.declared.edit.Edit.{Edit}
use Rattle.sx_tree.specs.declared.edit.Edit.TheVariants as edits
use Rattle.sx_tree.specs.declared.json_fault.JsonFault.{JsonFault}
use Rattle.sx_tree.specs.declared.query.Axis.{Axis}
use Rattle.sx_tree.specs.declared.query.Query.{Query}
use Rattle.sx_tree.specs.declared.query.Query.TheVariants as queries
use Rattle.sx_tree.specs.declared.query.Which.{Which}
use Rattle.sx_tree.specs.declared.steps.PathStep.{PathStep}
use Rattle.sx_tree.specs.Value.{scalar, value_of}

-- ---- where no part was found

pub no_number : (text : List ℕ) → ((k : ℕ) → SpellsNumbered text (codes "text") k → ⊥) → ((k : ℕ) → SpellsNumbered text (codes "node") k → ⊥)
    → ((k : ℕ) → SpellsNumbered text (codes "hash") k → ⊥) → ((k : ℕ) → SpellsNumbered text (codes "path") k → ⊥)
    → (q : Query) → HasNumber q → SpellsQuery text q → ⊥
no_number text of_text of_node of_hash of_path (queries.Text k) has spells = of_text k spells
no_number text of_text of_node of_hash of_path (queries.Node k) has spells = of_node k spells
no_number text of_text of_node of_hash of_path (queries.Hash k) has spells = of_hash k spells
no_number text of_text of_node of_hash of_path (queries.Path p) has spells = of_path p spells
no_number text of_text of_node of_hash of_path q has spells = absurd has

pub no_query : (text : List ℕ) → ((q : Query) → HasNumber q → SpellsQuery text q → ⊥) → ((a : Axis) (k : ℕ) → IsAxis text a k → ⊥)
    → ((steps : List PathStep) → IsSelection text steps → ⊥) → ((t : ℤ) → IsValidAt text t → ⊥) → (text ≡ codes "paths" → ⊥)
    → (q : Query) → SpellsQuery text q → ⊥
no_query text number axis selection valid paths (queries.Axis a k) spells = axis a k spells
no_query text number axis selection valid paths queries.Paths spells = paths spells
no_query text number axis selection valid paths (queries.Select path) spells = selection path.steps spells
no_query text number axis selection valid paths (queries.Valid t) spells = valid t spells
no_query text number axis selection valid paths q spells = number q tt spells

pub none_spelt : (named : Option ℕ) (text : List ℕ) → ((said : Command) → IsPlain said → SpellsCommand named text said → ⊥)
    → ((which : Which) → IsOpen text which → ⊥) → ((e : Edit) → SpellsCommand named text (commands.Edit e) → ⊥)
    → ((q : Query) → SpellsQuery text q → ⊥) → ((f : JsonFault) → SpellsFault named text f → ⊥) → SpellsNone named text
none_spelt named text plain opens edit query fault = (never, fault)
  where
    never : (said : Command) → SpellsCommand named text said → ⊥
    never (commands.Edit e) spells = edit e spells
    never (commands.Open which) spells = opens which spells
    never (commands.Ask q) spells = query q spells
    never said spells = plain said tt spells

-- ---- what is read is within the limits

whose_known : (line : List ℕ) (named : Option ℕ) (text : List ℕ) → Asks line named text → whose named < 32
whose_known line None text asks = omega arith
whose_known line (Some client) text asks = asks.known

edit_within : (text : List ℕ) (edit : Edit) → SpellsEdit text edit → IsEditWithin edit
edit_within text (edits.Load value) spells = spells_within spells.0 (value_of value) spells.2
edit_within text (edits.Insert place None value) spells =
    let within = spells_within spells.0 (value_of value) spells.2 in ((tt, within.0), within.1)
edit_within text (edits.Insert place (Some name) value) spells =
    let within = spells_within spells.1 (value_of value) spells.4 in ((spells.3.2.1, within.0), within.1)
edit_within text (edits.SetScalar node value) spells = ((spells_within spells.0 (scalar value) spells.2).0, tt)
edit_within text (edits.Replace node value) spells = spells_within spells.0 (value_of value) spells.2
edit_within text (edits.Rename node name) spells = (spells.2.2.1, tt)
edit_within text (edits.Remove node) spells = (tt, tt)

command_within : (named : Option ℕ) (text : List ℕ) (said : Command) → SpellsCommand named text said → IsCommandWithin said
command_within named text (commands.Edit edit) spells = edit_within text edit spells.1
command_within named text commands.Rollback spells = tt
command_within named text commands.Commit spells = tt
command_within named text (commands.Open which) spells = tt
command_within named text (commands.Ask query) spells = tt
command_within named text commands.Quit spells = tt

client_known : (line : List ℕ) (named : Option ℕ) (text : List ℕ) (client : ℕ) → Asks line named text → client ≡ whose named → client < 32
client_known line named text client asks is = subst (λ (n : ℕ). n < 32) (sym is) (whose_known line named text asks)

line_within : (line : List ℕ) (said : Line) → SaysShort line said → HasFault said → IsWithin said
line_within line lines.Skip says fault = tt
line_within line (lines.Refused client) says fault = client_known line says.1 says.2 client says.3 says.4
line_within line (lines.BadJson client f) says fault = (client_known line says.0 says.1 client says.2 says.3, fault)
line_within line (lines.Command client said) says fault = (client_known line says.0 says.1 client says.2 says.3, command_within says.0 says.1 said says.4)

pub read_within : {E : Type 0} (r : Result Line E) (line : List ℕ) → IfOk r (SaysShort line) → IfOk r HasFault → IfOk r IsWithin
read_within (Ok said) line says fault = line_within line said says fault
read_within (Err e) line says fault = tt

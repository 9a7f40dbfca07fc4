-- Edits by their parts: up to a NAME or a VALUE, and from there on.
use Rattle.std.specs.Prelude.{ℕ, ◌≡◌, ◌⊎◌, List, ◌∷◌, [], None, Some, codes}
use Rattle.sx_model.specs.Faults.{Faults}
use Rattle.sx_model.specs.Grammar.{Spells}
use Rattle.sx_model.specs.PathText.{QuotedAt}
use Rattle.sx_model.specs.StringFaults.{FrontFault}
use Rattle.sx_run.specs.Spelling.{Heads, HeadsNumbered, HeadsPlace, LeadsToName, LeadsToValue, SpellsEdit}
use Rattle.sx_script.specs.Told.{IsOfText}
use Rattle.sx_script.specs.declared.edits.EditText.{EditText}
use Rattle.sx_script.specs.declared.edits.EditText.TheVariants as texts
use Rattle.sx_script.specs.declared.heads.Head.{Head}
use Rattle.sx_script.specs.declared.heads.Head.TheVariants as heads
use Rattle.sx_tree.specs.declared.edit.Edit.{Edit}
use Rattle.sx_tree.specs.declared.edit.Edit.TheVariants as edits
use Rattle.sx_tree.specs.declared.json.Json.{Json}
use Rattle.sx_tree.specs.declared.json.Scalar.{Scalar}
use Rattle.sx_tree.specs.declared.json_fault.JsonFault.{JsonFault}
use Rattle.sx_tree.specs.Value.{Value, scalar, array, object, value_of}

-- The text is the edit up to its NAME or VALUE, which is the rest.
abbrev pub Leads : List ℕ → Head → List ℕ → Type 0
Leads text heads.Load rest = Heads text (codes "load") rest
Leads text (heads.Insert place) rest = HeadsPlace text (codes "insert") place rest
Leads text (heads.Field place) rest = HeadsPlace text (codes "field") place rest
Leads text (heads.Set k) rest = HeadsNumbered text (codes "set") k rest
Leads text (heads.Replace k) rest = HeadsNumbered text (codes "replace") k rest
Leads text (heads.Rename k) rest = HeadsNumbered text (codes "rename") k rest

-- the name of a new member, a space, and its value
abbrev pub EndsField : List ℕ → List ℕ → Json → Type 0
EndsField rest name value = (json : List ℕ) × QuotedAt rest name (32 ∷ json) × Spells json (value_of value)

-- The rest of the text makes it this edit.
abbrev pub EndsEdit : Head → List ℕ → Edit → Type 0
EndsEdit heads.Load rest edit = (value : Json) × (edit ≡ edits.Load value) × Spells rest (value_of value)
EndsEdit (heads.Insert place) rest edit =
    (value : Json) × (edit ≡ edits.Insert place None value) × Spells rest (value_of value)
EndsEdit (heads.Field place) rest edit =
    (name : List ℕ) × (value : Json) × (edit ≡ edits.Insert place (Some name) value) × EndsField rest name value
EndsEdit (heads.Set k) rest edit = (value : Scalar) × (edit ≡ edits.SetScalar k value) × Spells rest (scalar value)
EndsEdit (heads.Replace k) rest edit = (value : Json) × (edit ≡ edits.Replace k value) × Spells rest (value_of value)
EndsEdit (heads.Rename k) rest edit = (name : List ℕ) × (edit ≡ edits.Rename k name) × QuotedAt rest name []

-- The NAME or the VALUE has this fault.
abbrev pub EndsFault : Head → List ℕ → JsonFault → Type 0
EndsFault heads.Load rest fault = Faults rest fault
EndsFault (heads.Insert place) rest fault = Faults rest fault
EndsFault (heads.Field place) rest fault =
    FrontFault rest fault ⊎ ((name : List ℕ) × (json : List ℕ) × QuotedAt rest name (32 ∷ json) × Faults json fault)
EndsFault (heads.Set k) rest fault = Faults rest fault
EndsFault (heads.Replace k) rest fault = Faults rest fault
EndsFault (heads.Rename k) rest fault = FrontFault rest fault

-- what the rest of the text makes of it
abbrev pub EndsAs : Head → List ℕ → EditText → Type 0
EndsAs head rest (texts.Edit edit) = EndsEdit head rest edit
EndsAs head rest (texts.Fault fault) = EndsFault head rest fault × IsOfText fault
EndsAs head rest texts.Other =
    ((edit : Edit) → EndsEdit head rest edit → ⊥) × ((fault : JsonFault) → EndsFault head rest fault → ⊥)

-- an array or an object is set nowhere
abbrev pub set_text : ℕ → Value → EditText
set_text k (scalar value) = texts.Edit (edits.SetScalar k value)
set_text k (array vs) = texts.Other
set_text k (object fs) = texts.Other

-- The text is an edit but for its NAME or its VALUE, which has this fault.
abbrev pub SpellsEditFault : List ℕ → JsonFault → Type 0
SpellsEditFault text fault =
    ((quoted : List ℕ) × LeadsToName text quoted × FrontFault quoted fault)
    ⊎ ((json : List ℕ) × LeadsToValue text json × Faults json fault)

-- what a text is as an edit
abbrev pub IsEditText : List ℕ → EditText → Type 0
IsEditText text (texts.Edit edit) = SpellsEdit text edit
IsEditText text (texts.Fault fault) = SpellsEditFault text fault × IsOfText fault
IsEditText text texts.Other =
    ((edit : Edit) → SpellsEdit text edit → ⊥) × ((fault : JsonFault) → SpellsEditFault text fault → ⊥)

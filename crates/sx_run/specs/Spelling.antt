-- How the text of a line spells a command. Exactly one space stands between words.
use Rattle.std.specs.Prelude.{ℕ, ◌≡◌, ◌<◌, ◌^◌, ◌⊎◌, List, [], ◌∷◌, ◌++◌, codes, FitsSigned, Option, None, Some}
use Rattle.std.specs.Fmt.{decimal, signed_decimal}
use Rattle.std.specs.Int.{w64}
use Rattle.sx_model.specs.Faults.{Faults}
use Rattle.sx_model.specs.Grammar.{Spells}
use Rattle.sx_model.specs.PathText.{QuotedAt, SpellsPath}
use Rattle.sx_model.specs.StringFaults.{FrontFault}
use Rattle.sx_run.specs.Client.{whose}
use Rattle.sx_run.specs.declared.line.Command.{Command}
use Rattle.sx_run.specs.declared.line.Command.TheVariants as commands
use Rattle.sx_tree.specs.declared.edit.Edit.{Edit}
use Rattle.sx_tree.specs.declared.edit.Edit.TheVariants as edits
use Rattle.sx_tree.specs.declared.edit.Place.{Place}
use Rattle.sx_tree.specs.declared.edit.Place.TheVariants as places
use Rattle.sx_tree.specs.declared.json_fault.JsonFault.{JsonFault}
use Rattle.sx_tree.specs.declared.query.Axis.{Axis}
use Rattle.sx_tree.specs.declared.query.Axis.TheVariants as axes
use Rattle.sx_tree.specs.declared.query.Query.{Query}
use Rattle.sx_tree.specs.declared.query.Query.TheVariants as queries
use Rattle.sx_tree.specs.declared.query.Which.{Which}
use Rattle.sx_tree.specs.declared.query.Which.TheVariants as revisions
use Rattle.sx_tree.specs.Value.{Value, scalar, value_of}

-- ---- words

-- a number of a node or of a path, in decimal without sign or leading zero
abbrev pub IsNumbered : List ℕ → ℕ → Type 0
IsNumbered word n = (n < 2 ^ 30) × (word ≡ decimal n)

-- the word, a space, and the rest
abbrev pub Heads : List ℕ → List ℕ → List ℕ → Type 0
Heads text word rest = text ≡ word ++ 32 ∷ rest

-- the word and a number
abbrev pub SpellsNumbered : List ℕ → List ℕ → ℕ → Type 0
SpellsNumbered text word n = (number : List ℕ) × Heads text word number × IsNumbered number n

-- the word, a number, and the rest
abbrev pub HeadsNumbered : List ℕ → List ℕ → ℕ → List ℕ → Type 0
HeadsNumbered text word n rest = (behind : List ℕ) × (number : List ℕ) × Heads text word behind × IsNumbered number n × Heads behind number rest

abbrev pub place_word : Place → List ℕ
place_word (places.First k) = codes "first"
place_word (places.Last k) = codes "last"
place_word (places.Before k) = codes "before"
place_word (places.After k) = codes "after"

abbrev pub place_node : Place → ℕ
place_node (places.First k) = k
place_node (places.Last k) = k
place_node (places.Before k) = k
place_node (places.After k) = k

-- the word, a place, and the rest
abbrev pub HeadsPlace : List ℕ → List ℕ → Place → List ℕ → Type 0
HeadsPlace text word place rest = (behind : List ℕ) × Heads text word behind × HeadsNumbered behind (place_word place) (place_node place) rest

abbrev pub axis_word : Axis → List ℕ
axis_word axes.Child = codes "child"
axis_word axes.Descendant = codes "descendant"
axis_word axes.Ancestor = codes "ancestor"
axis_word axes.Following = codes "following"
axis_word axes.Preceding = codes "preceding"
axis_word axes.FollowingSibling = codes "following-sibling"
axis_word axes.PrecedingSibling = codes "preceding-sibling"

-- ---- commands

-- VALUE is the rest of the line, a JSON text. NAME is a JSON string, with no white space around it.
abbrev pub SpellsEdit : List ℕ → Edit → Type 0
SpellsEdit text (edits.Load value) = (json : List ℕ) × Heads text (codes "load") json × Spells json (value_of value)
SpellsEdit text (edits.Insert place None value) = (json : List ℕ) × HeadsPlace text (codes "insert") place json × Spells json (value_of value)
SpellsEdit text (edits.Insert place (Some name) value) =
    (quoted : List ℕ) × (json : List ℕ) × HeadsPlace text (codes "field") place quoted × QuotedAt quoted name (32 ∷ json) × Spells json (value_of value)
SpellsEdit text (edits.SetScalar k value) = (json : List ℕ) × HeadsNumbered text (codes "set") k json × Spells json (scalar value)
SpellsEdit text (edits.Replace k value) = (json : List ℕ) × HeadsNumbered text (codes "replace") k json × Spells json (value_of value)
SpellsEdit text (edits.Rename k name) = (quoted : List ℕ) × HeadsNumbered text (codes "rename") k quoted × QuotedAt quoted name []
SpellsEdit text (edits.Remove k) = SpellsNumbered text (codes "remove") k

-- `latest`, or a number below 2^32 without sign or leading zero
abbrev pub SpellsWhich : List ℕ → Which → Type 0
SpellsWhich text revisions.Latest = text ≡ codes "latest"
SpellsWhich text (revisions.Number r) = (r < 2 ^ 32) × (text ≡ decimal r)

abbrev pub SpellsQuery : List ℕ → Query → Type 0
SpellsQuery text (queries.Text k) = SpellsNumbered text (codes "text") k
SpellsQuery text (queries.Node k) = SpellsNumbered text (codes "node") k
SpellsQuery text (queries.Hash k) = SpellsNumbered text (codes "hash") k
SpellsQuery text (queries.Axis axis k) = (behind : List ℕ) × Heads text (codes "axis") behind × SpellsNumbered behind (axis_word axis) k
SpellsQuery text (queries.Path p) = SpellsNumbered text (codes "path") p
SpellsQuery text queries.Paths = text ≡ codes "paths"
SpellsQuery text (queries.Select path) = (steps : List ℕ) × Heads text (codes "select") steps × SpellsPath steps path.steps
SpellsQuery text (queries.Valid t) = FitsSigned w64 t × Heads text (codes "valid") (signed_decimal t)

-- What a client asks by this text. Edits, `rollback` and `commit` are the writer's, and `quit` names no client.
abbrev pub SpellsCommand : Option ℕ → List ℕ → Command → Type 0
SpellsCommand client text (commands.Edit edit) = (whose client ≡ 0) × SpellsEdit text edit
SpellsCommand client text commands.Rollback = (whose client ≡ 0) × (text ≡ codes "rollback")
SpellsCommand client text commands.Commit = (whose client ≡ 0) × (text ≡ codes "commit")
SpellsCommand client text (commands.Open which) = (revision : List ℕ) × Heads text (codes "open") revision × SpellsWhich revision which
SpellsCommand client text (commands.Ask query) = SpellsQuery text query
SpellsCommand client text commands.Quit = (client ≡ None) × (text ≡ codes "quit")

-- ---- commands but for a JSON text

-- The text is an edit up to a NAME.
abbrev pub LeadsToName : List ℕ → List ℕ → Type 0
LeadsToName text quoted = ((place : Place) × HeadsPlace text (codes "field") place quoted) ⊎ ((k : ℕ) × HeadsNumbered text (codes "rename") k quoted)

-- The text is an edit up to a VALUE.
abbrev pub LeadsToValue : List ℕ → List ℕ → Type 0
LeadsToValue text json =
    Heads text (codes "load") json
    ⊎ (((place : Place) × HeadsPlace text (codes "insert") place json)
    ⊎ (((place : Place) × (quoted : List ℕ) × (name : List ℕ) × HeadsPlace text (codes "field") place quoted × QuotedAt quoted name (32 ∷ json))
    ⊎ (((k : ℕ) × HeadsNumbered text (codes "set") k json) ⊎ ((k : ℕ) × HeadsNumbered text (codes "replace") k json))))

-- It is a command of the writer but for its NAME or its VALUE, which has this fault. A NAME is read before a VALUE.
abbrev pub SpellsFault : Option ℕ → List ℕ → JsonFault → Type 0
SpellsFault client text fault =
    (whose client ≡ 0) × (((quoted : List ℕ) × LeadsToName text quoted × FrontFault quoted fault) ⊎ ((json : List ℕ) × LeadsToValue text json × Faults json fault))

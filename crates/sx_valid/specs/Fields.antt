-- How the children of an object are looked through for two fields.
use Rattle.std.specs.Prelude.{◌≡◌, ◌+◌, ◌<◌, ◌≤◌, ℕ, ℤ, Bool, true, false, if◌then◌else◌, List, Option, None, Some, option_map}
use Rattle.std.specs.Option.{option_or}
use Rattle.sx_tree.specs.declared.record.Kind.{Kind}
use Rattle.sx_tree.specs.declared.record.NodeRecord.{NodeRecord}
use Rattle.sx_tree.specs.declared.record.Step.{Step}
use Rattle.sx_view.specs.Records.{RecordMap}
use Rattle.sx_model.specs.Records.{Around, first_of, rows}
use Rattle.sx_model.specs.Tree.{FitBelow, Forest, Node, count, is_key, no_trees, tree_then}
use Rattle.sx_model.specs.Valid.{field, has_begun, has_not_ended}
use Rattle.sx_cursor.specs.Damage.{IsLinked}
use Rattle.sx_cursor.specs.Told.{Tells, TellsAll}
use Rattle.sx_valid.specs.declared.asked.Asked.{Asked}
use Rattle.sx_valid.specs.declared.fields.Look.{Look}

-- a value as it is judged, by its kind and its label
abbrev pub value_seen : NodeRecord → Node
value_seen r = record { number = 0; kind = r.kind; label = r.label }

-- a link leads to the child that comes next
abbrev pub IsReadOn : Option (RecordMap NodeRecord) → Look → Type 0
IsReadOn o look = (k : ℕ) → look.next ≡ Some k → IsLinked o look.from k

-- a Key with this first child has no value that is told
abbrev pub LacksValue : Option (RecordMap NodeRecord) → Option ℕ → Type 0
LacksValue o first = (to : ℕ) → first ≡ Some to → Tells o to None

-- These trees stand side by side, from the one of this number on to the right, and their rows are told.
pub record IsRow (m : RecordMap NodeRecord) (above : Option Kind) (next : Option ℕ) (trees : Forest) : Type 0 where
  pub local : Kind → List ℕ → ℕ
  pub number : List Step → ℕ
  pub around : Around
  pub starts : first_of trees ≡ next
  pub ends : around.right ≡ None
  pub tells : TellsAll (Some m) (rows local number around trees)
  pub fits : FitBelow above trees

-- how many nodes there are to look at: the children, and the values of those that are Keys
abbrev pub reach : Forest → ℕ
reach no_trees = 0
reach (tree_then n below rest) = 1 + ((if is_key n.kind then count below else 0) + reach rest)

-- what looking comes to: what both fields say, where they were found, and so many looks left; or too many looks
pub data Outcome : Type 0 where
  judged : Option Bool → Option Bool → ℕ → Outcome
  overrun : Outcome

-- what was found before, or else what a field among these children says
abbrev pub found_or : Option Bool → (Node → Bool) → List ℕ → Forest → Option Bool
found_or before judge name keys = option_or before (option_map judge (field name keys))

abbrev pub begins : ℤ → Node → Bool
begins time n = has_begun time (Some n)

abbrev pub lasts_on : ℤ → Node → Bool
lasts_on time n = has_not_ended time (Some n)

-- The outcome is that of looking through these children.
abbrev pub IsOutcome : Asked → Look → Outcome → Forest → Type 0
IsOutcome asked look (judged begun lasts left) keys =
    (begun ≡ found_or look.begun (begins asked.time) asked.from.now keys)
    × (lasts ≡ found_or look.lasts (lasts_on asked.time) asked.to.now keys)
    × (look.left ≤ left + reach keys)
IsOutcome asked look overrun keys = look.left < reach keys

-- The same of all children that the records tell where looking has come.
unfoldable pub Looks : Option (RecordMap NodeRecord) → Asked → Look → Outcome → Type 0
Looks o asked look outcome =
    (m : RecordMap NodeRecord) → o ≡ Some m → (above : Option Kind) (keys : Forest) → IsRow m above look.next keys → IsOutcome asked look outcome keys

-- True: what comes from the new place comes from the old one. False: all children were looked at.
abbrev pub LooksOn : Option (RecordMap NodeRecord) → Asked → Look → Look → Bool → Type 0
LooksOn o asked old new true = (outcome : Outcome) → Looks o asked new outcome → Looks o asked old outcome
LooksOn o asked old new false = Looks o asked old (judged new.begun new.lasts new.left)

-- What the text of a node is, over the records of a document, and which broken rules are told over others.
use Rattle.std.specs.Prelude.{◌≡◌, ◌⊎◌, ◌+◌, ◌≤◌, ℕ, Bool, true, false, List, ◌++◌, Option, Some, None}
use Rattle.sx_bytes.specs.declared.damage.Damage.{Damage}
use Rattle.sx_tree.specs.declared.record.Kind.{Kind}
use Rattle.sx_tree.specs.declared.record.NodeRecord.{NodeRecord}
use Rattle.sx_tree.specs.declared.record.Step.{Step}
use Rattle.sx_tree.specs.Record.{kind_byte}
use Rattle.sx_view.specs.Records.{RecordMap}
use Rattle.sx_model.specs.Records.{NodeRow}
use Rattle.sx_model.specs.Tree.{Forest, Spot, size, spot, may_stand_below}
use Rattle.sx_model.specs.TreeText.{text_at}
use Rattle.sx_cursor.specs.Damage.{HasBareKey, HasBrokenLink, IsLinked, endless, misplaced}
use Rattle.sx_cursor.specs.Told.{Tells, Shows}

-- True: there is the node, and behind what was there before stands its text. False: there is no such node.
abbrev pub Answers : Forest → ℕ → List ℕ → List ℕ → Bool → Type 0
Answers trees k before after true = (text : List ℕ) × ((text_at k trees ≡ Some text) × (after ≡ before ++ text))
Answers trees k before after false = (text_at k trees ≡ None) × (after ≡ before)

-- The same of each document whose records these are.
unfoldable pub IsText : Option (RecordMap NodeRecord) → ℕ → List ℕ → List ℕ → Bool → Type 0
IsText o k before after there =
    (local : Kind → List ℕ → ℕ) (number : List Step → ℕ) (trees : Forest) → Shows local number trees o → Answers trees k before after there

-- a node to which a link leads, and another one that has a kind below which the first cannot stand
abbrev pub HasMisplaced : Option (RecordMap NodeRecord) → Damage → Type 0
HasMisplaced o damage =
    (k : ℕ) × ((child : NodeRow)
    × ((a : ℕ) × ((above : NodeRow)
    × (((from : ℕ) × IsLinked o from k)
    × (Tells o k (Some child) × (Tells o a (Some above) × (may_stand_below above.kind child.kind ≡ false) × (damage ≡ misplaced k (kind_byte child.kind))))))))

-- what is told breaks one of the rules
abbrev pub IsBroken : Option (RecordMap NodeRecord) → ℕ → Damage → Type 0
IsBroken o count damage = HasBrokenLink o damage ⊎ ((damage ≡ endless count) ⊎ (HasMisplaced o damage ⊎ HasBareKey o damage))

-- Over the records of a document, each node of the node's tree was visited once.
unfoldable pub VisitsOnce : Option (RecordMap NodeRecord) → ℕ → ℕ → ℕ → Type 0
VisitsOnce o k old new =
    (local : Kind → List ℕ → ℕ) (number : List Step → ℕ) (trees : Forest) → Shows local number trees o
    → (s : Spot) → spot k trees ≡ Some s → new ≤ old + (1 + size s.below)

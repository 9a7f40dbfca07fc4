-- How far the text of a node has come, and what is left of it.
use Rattle.std.specs.Prelude.{◌≡◌, ◌+◌, ◌≤◌, ℕ, Bool, true, false, List, [], ◌∷◌, ◌++◌, reverse, Option, Some, None}
use Rattle.sx_tree.specs.declared.record.Kind.{Kind}
use Rattle.sx_tree.specs.declared.record.Kind.TheVariants.{Key}
use Rattle.sx_tree.specs.declared.record.NodeRecord.{NodeRecord}
use Rattle.sx_tree.specs.declared.record.Step.{Step}
use Rattle.sx_view.specs.Records.{RecordMap}
use Rattle.sx_model.specs.Records.{NodeRow, Around, first_of, rows}
use Rattle.sx_model.specs.Tree.{Forest, no_trees, FitBelow, size}
use Rattle.sx_model.specs.TreeText.{closing, texts}
use Rattle.sx_cursor.specs.Told.{Tells, TellsAll}
use Rattle.sx_cursor.specs.Damage.{IsLinked}
use Rattle.sx_text.specs.declared.pen.Open.{Open}
use Rattle.sx_text.specs.declared.pen.Pen.{Pen}

-- ---- what has been read

-- the records tell of the node what is kept of it while it is open
abbrev pub IsOpen : Option (RecordMap NodeRecord) → Open → Type 0
IsOpen o inner = (w : NodeRow) × (Tells o inner.number (Some w) × (w.kind ≡ inner.kind) × (w.right ≡ inner.right))

-- the records tell that this is the first child of the inner node, or that it has none
abbrev pub IsFirst : Option (RecordMap NodeRecord) → Open → Option ℕ → Type 0
IsFirst o inner next = (w : NodeRow) × (Tells o inner.number (Some w) × (w.kind ≡ inner.kind) × (w.first ≡ next))

abbrev pub AreOpen : Option (RecordMap NodeRecord) → List Open → Type 0
AreOpen o [] = Unit {0}
AreOpen o (inner ∷ outer) = IsOpen o inner × AreOpen o outer

pub record IsRead (o : Option (RecordMap NodeRecord)) (pen : Pen) : Type 0 where
  pub above : IsOpen o pen.above
  pub outer : AreOpen o pen.outer.items
  pub linked : (k : ℕ) → pen.next ≡ Some k → IsLinked o pen.from k
  pub first : pen.begun ≡ false → IsFirst o pen.above pen.next

-- ---- what is left

-- These trees stand below the inner node, from the one of this number on to the right; some have come, or they are all.
pub record IsLevel (m : RecordMap NodeRecord) (inner : Open) (begun : Bool) (next : Option ℕ) (trees : Forest) : Type 0 where
  pub local : Kind → List ℕ → ℕ
  pub number : List Step → ℕ
  pub around : Around
  pub starts : first_of trees ≡ next
  pub ends : around.right ≡ None
  pub tells : TellsAll (Some m) (rows local number around trees)
  pub fits : FitBelow (Some inner.kind) trees
  pub filled : inner.kind ≡ Key → begun ≡ false → trees ≡ no_trees → ⊥

-- Behind the trees below the inner node this text is left, which takes so many visits: the node's end, and then all that is left
-- of the nodes above it, the nearest first.
abbrev pub Rest : RecordMap NodeRecord → Open → List Open → List ℕ → ℕ → Type 0
Rest m inner [] text visits = (text ≡ closing inner.kind) × (visits ≡ 0)
Rest m inner (above ∷ outer) text visits =
    (trees : Forest)
    × ((after : List ℕ) × ((more : ℕ)
    × (IsLevel m above true inner.right trees × (text ≡ closing inner.kind ++ (texts true trees ++ after)) × (visits ≡ size trees + more) × Rest m above outer after more)))

-- what writing comes to: this text and so many visits left, or damage
pub data Outcome : Type 0 where
  wrote : List ℕ → ℕ → Outcome
  damaged : Outcome

-- The outcome is that of writing this text behind the one before, where so many visits are left and it takes so many.
abbrev pub IsOutcome : List ℕ → ℕ → Outcome → List ℕ → ℕ → Type 0
IsOutcome before left (wrote after rest) text visits = (after ≡ before ++ text) × (rest + visits ≡ left)
IsOutcome before left damaged text visits = visits ≤ left → ⊥

-- The same of all trees that the records tell where the pen stands.
unfoldable pub Writes : Option (RecordMap NodeRecord) → Pen → List ℕ → Outcome → Type 0
Writes o pen before outcome =
    (m : RecordMap NodeRecord) → o ≡ Some m → (trees : Forest) (after : List ℕ) (visits : ℕ)
    → IsLevel m pen.above pen.begun pen.next trees → Rest m pen.above (reverse pen.outer.items) after visits
    → IsOutcome before pen.left outcome (texts pen.begun trees ++ after) (size trees + visits)

-- True: what comes from the new place comes from the old one. False: all is written.
abbrev pub GoesOn : Option (RecordMap NodeRecord) → Pen → List ℕ → Bool → Pen → List ℕ → Type 0
GoesOn o old before true new after = (outcome : Outcome) → Writes o new after outcome → Writes o old before outcome
GoesOn o old before false new after = Writes o old before (wrote after old.left)

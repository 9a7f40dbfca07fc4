-- How far a search for the selected nodes has come, and what is left of it.
use Rattle.std.specs.Prelude.{◌≡◌, ◌+◌, ◌≤◌, ℕ, Bool, true, false, List, [], ◌∷◌, ◌++◌, reverse, Option, Some, None}
use Rattle.sx_tree.specs.declared.record.Kind.{Kind}
use Rattle.sx_tree.specs.declared.record.NodeRecord.{NodeRecord}
use Rattle.sx_tree.specs.declared.record.Step.{Step}
use Rattle.sx_tree.specs.declared.steps.PathStep.{PathStep}
use Rattle.sx_view.specs.Records.{RecordMap}
use Rattle.sx_model.specs.Records.{NodeRow, Around, first_of, rows}
use Rattle.sx_model.specs.Tree.{Forest, FitBelow, size}
use Rattle.sx_cursor.specs.Told.{Tells, TellsAll}
use Rattle.sx_select.specs.Marks.{picked}
use Rattle.sx_select.specs.declared.level.Level.{Level}
use Rattle.sx_select.specs.declared.pending.Search.{Search}
use Rattle.sx_select.specs.declared.pending.Up.{Up}
use Rattle.sx_cursor.specs.Damage.{IsLinked}

-- ---- what has been read

-- the records tell of the node above what is kept of it
abbrev pub AreUp : Option (RecordMap NodeRecord) → List Up → Type 0
AreUp o [] = Unit {0}
AreUp o (up ∷ outer) = ((w : NodeRow) × (Tells o up.number (Some w) × (w.right ≡ up.right))) × AreUp o outer

pub record IsRead (o : Option (RecordMap NodeRecord)) (search : Search) : Type 0 where
  pub outer : AreUp o search.outer.items
  pub linked : (k : ℕ) → search.next ≡ Some k → IsLinked o search.from k

-- ---- what is left

-- These trees stand below a node, from the one of this number on to the right.
pub record IsLevel (m : RecordMap NodeRecord) (next : Option ℕ) (trees : Forest) : Type 0 where
  pub local : Kind → List ℕ → ℕ
  pub number : List Step → ℕ
  pub around : Around
  pub starts : first_of trees ≡ next
  pub ends : around.right ≡ None
  pub tells : TellsAll (Some m) (rows local number around trees)
  pub kind : Kind
  pub fits : FitBelow (Some kind) trees

abbrev pub picked_on : List PathStep → Level → Forest → List ℕ
picked_on steps level trees = picked steps level.marks.items level.last trees

-- These are selected behind the nodes above, the nearest first, and take so many visits.
abbrev pub Rest : List PathStep → RecordMap NodeRecord → List Up → List ℕ → ℕ → Type 0
Rest steps m [] listed visits = (listed ≡ []) × (visits ≡ 0)
Rest steps m (up ∷ outer) listed visits =
    (trees : Forest)
    × ((after : List ℕ) × ((more : ℕ)
    × (IsLevel m up.right trees × (listed ≡ picked_on steps up.level trees ++ after) × (visits ≡ size trees + more) × Rest steps m outer after more)))

-- what a search comes to: these numbers and so many visits left, or damage
pub data Outcome : Type 0 where
  found : List ℕ → ℕ → Outcome
  damaged : Outcome

-- The outcome is that of listing these behind those before, where so many visits are left and it takes so many.
abbrev pub IsOutcome : List ℕ → ℕ → Outcome → List ℕ → ℕ → Type 0
IsOutcome before left (found after rest) listed visits = (after ≡ before ++ listed) × (rest + visits ≡ left)
IsOutcome before left damaged listed visits = visits ≤ left → ⊥

-- The same of all trees that the records tell where the search stands.
unfoldable pub Finds : List PathStep → Option (RecordMap NodeRecord) → Search → List ℕ → Outcome → Type 0
Finds steps o search before outcome =
    (m : RecordMap NodeRecord) → o ≡ Some m → (trees : Forest) (after : List ℕ) (visits : ℕ)
    → IsLevel m search.next trees → Rest steps m (reverse search.outer.items) after visits
    → IsOutcome before search.left outcome (picked_on steps search.level trees ++ after) (size trees + visits)

-- a search, and what it has listed
pub record Standing : Type 0 where
  pub search : Search
  pub listed : List ℕ

-- True: what comes from the new standing comes from the old one. False: all is listed.
abbrev pub GoesOn : List PathStep → Option (RecordMap NodeRecord) → Standing → Bool → Standing → Type 0
GoesOn steps o old true new = (outcome : Outcome) → Finds steps o new.search new.listed outcome → Finds steps o old.search old.listed outcome
GoesOn steps o old false new = Finds steps o old.search old.listed (found new.listed old.search.left)

abbrev pub standing : Search → List ℕ → Standing
standing search listed = record { search = search; listed = listed }

-- Nodes that were read, with their records, and records that are put and taken away.
use Rattle.std.specs.Prelude.{◌≡◌, ◌+◌, ◌⊎◌, IfSome, ℕ, List, [], ◌∷◌, map, reverse, Option, None, Some}
use Rattle.std.specs.FinMap as fin
use Rattle.sx_tree.specs.declared.record.NodeRecord.{NodeRecord}
use Rattle.sx_view.specs.Records.{RecordMap}
use Rattle.sx_view.specs.Rows.{row_of}
use Rattle.sx_model.specs.Records.{NodeRow}
use Rattle.sx_edit.specs.declared.trees.Gap.{Gap}
use Rattle.sx_edit.specs.declared.trees.Rim.{Rim}
use Rattle.sx_edit.specs.declared.trees.Seen.{Seen}
use Rattle.sx_edit.specs.declared.trees.Tree.{Tree}
use Rattle.sx_edit.specs.Damage.{Reach}
use Rattle.sx_edit.specs.Links.{IsAbove, IsAbsent, IsBelow, IsNear, IsOver, IsReached, IsRecord}
use Rattle.sx_edit.specs.Room.{CountsLevels}

abbrev pub entry_of : Seen → ℕ × NodeRow
entry_of seen = (seen.node, row_of seen.record)

abbrev pub entries_of : List Seen → List (ℕ × NodeRow)
entries_of seens = map entry_of seens

-- those that were read, the last one first
abbrev pub upward : List Seen → List (ℕ × NodeRow)
upward seens = entries_of (reverse seens)

-- the records with these
abbrev pub with_records : List Seen → RecordMap NodeRecord → RecordMap NodeRecord
with_records [] m = m
with_records (seen ∷ seens) m = fin.insert (with_records seens m) seen.node seen.record

-- the records without these nodes
abbrev pub without : List ℕ → RecordMap NodeRecord → RecordMap NodeRecord
without [] m = m
without (k ∷ ks) m = fin.remove (without ks m) k

-- each of them has its record
abbrev pub AreSeen : Option (RecordMap NodeRecord) → List Seen → Type 0
AreSeen o [] = Unit {0}
AreSeen o (seen ∷ seens) = IsRecord o seen.node seen.record × AreSeen o seens

-- the record of the node, where it is one
abbrev pub IsSight : Option (RecordMap NodeRecord) → Option ℕ → Option Seen → Type 0
IsSight o None None = Unit {0}
IsSight o None (Some seen) = ⊥
IsSight o (Some k) None = ⊥
IsSight o (Some k) (Some seen) = (seen.node ≡ k) × IsRecord o k seen.record

-- the records of the node and of all above it, one after the other
abbrev pub IsChain : Option (RecordMap NodeRecord) → Option ℕ → List Seen → Type 0
IsChain o node [] = node ≡ None
IsChain o node (seen ∷ seens) = (node ≡ Some seen.node) × IsRecord o seen.node seen.record × IsChain o seen.record.parent seens

-- what stands around the gap was read
pub record IsRim (o : Option (RecordMap NodeRecord)) (gap : Gap) (rim : Rim) : Type 0 where
  pub left : IsSight o gap.left rim.left
  pub right : IsSight o gap.right rim.right
  pub above : IsChain o (Some gap.parent) (rim.parent ∷ reverse rim.above.items)

-- the nodes around the gap are those to which links lead, or have records
pub record AreReached (o : Option (RecordMap NodeRecord)) (gap : Gap) : Type 0 where
  pub left : IfSome gap.left (λ to. IsReached o gap.near to)
  pub right : IfSome gap.right (λ to. IsReached o gap.near to)
  pub parent : IsReached o gap.near gap.parent

-- the node has no record
abbrev pub IsNoSight : Option (RecordMap NodeRecord) → Option ℕ → Type 0
IsNoSight o None = ⊥
IsNoSight o (Some k) = IsAbsent o k

-- a node around the gap has no record, or too many stand one above the other
abbrev pub CannotSurvey : ℕ → Gap → Option (RecordMap NodeRecord) → Type 0
CannotSurvey next gap o = IsNoSight o gap.left ⊎ (IsNoSight o gap.right ⊎ CountsLevels (Some gap.parent) next o None)

-- So many nodes go from below this one: none, where it stands over the node that is named; or the tree of that one, above which it stands.
abbrev pub GoFrom : Option (RecordMap NodeRecord) → Reach → ℕ → ℕ → Type 0
GoFrom o reach minus k =
    ((minus ≡ 0) × IsOver o k reach.node)
    ⊎ ((own : NodeRecord) × (IsRecord o reach.node own × (minus ≡ own.descendants + 1) × IsAbove o k reach.node))

-- each of these nodes is told with so many below it, and so many go from there
abbrev pub AreCounted : Option (RecordMap NodeRecord) → Reach → ℕ → List Seen → Type 0
AreCounted o reach minus [] = Unit {0}
AreCounted o reach minus (seen ∷ seens) =
    ((r : NodeRecord) × (IsRecord o seen.node r × (r.descendants ≡ seen.record.descendants) × GoFrom o reach minus seen.node)) × AreCounted o reach minus seens

-- What goes below the parent is the tree of the node that is named; where none goes, the parent is that node or its own parent.
abbrev pub IsLeaving : Option (RecordMap NodeRecord) → Reach → ℕ → Option Tree → Type 0
IsLeaving o reach parent None = IsNear o reach.node parent
IsLeaving o reach parent (Some tree) = IsBelow o reach.node parent × ((own : NodeRecord) × (IsRecord o reach.node own × (tree.nodes ≡ own.descendants + 1)))

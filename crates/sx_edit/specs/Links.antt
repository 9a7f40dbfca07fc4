-- The links that records tell, and walks along them.
use Rattle.std.specs.Prelude.{◌≡◌, ◌⊎◌, ℕ, if◌then◌else◌, List, [], ◌∷◌, ◌++◌, nat_eq, Option, None, Some}
use Rattle.std.specs.List.{count_by}
use Rattle.std.specs.Option.{ForSome}
use Rattle.std.specs.FinMap as fin
use Rattle.sx_tree.specs.declared.record.NodeRecord.{NodeRecord}
use Rattle.sx_model.specs.Tree.{is_value}
use Rattle.sx_view.specs.Records.{RecordMap}

-- where records are told, this is the node's
abbrev pub IsRecord : Option (RecordMap NodeRecord) → ℕ → NodeRecord → Type 0
IsRecord o k r = ForSome o (λ m. fin.get m k ≡ Some r)

-- where records are told, the node has none
abbrev pub IsAbsent : Option (RecordMap NodeRecord) → ℕ → Type 0
IsAbsent o k = ForSome o (λ m. fin.get m k ≡ None)

-- a link of this record leads to the node
abbrev pub HasLink : NodeRecord → ℕ → Type 0
HasLink r to = (r.parent ≡ Some to) ⊎ ((r.left ≡ Some to) ⊎ ((r.right ≡ Some to) ⊎ ((r.first ≡ Some to) ⊎ (r.last ≡ Some to))))

-- the records tell of the first node a link that leads to the second
abbrev pub LeadsTo : Option (RecordMap NodeRecord) → ℕ → ℕ → Type 0
LeadsTo o from to = (r : NodeRecord) × (IsRecord o from r × HasLink r to)

-- the second node is that to which a link of the first leads, or has a record
abbrev pub IsReached : Option (RecordMap NodeRecord) → ℕ → ℕ → Type 0
IsReached o from to = LeadsTo o from to ⊎ ((r : NodeRecord) × IsRecord o to r)

-- the node is told with this parent
abbrev pub IsBelow : Option (RecordMap NodeRecord) → ℕ → ℕ → Type 0
IsBelow o node parent = (r : NodeRecord) × (IsRecord o node r × (r.parent ≡ Some parent))

-- the other node is this one, or is told as its parent
abbrev pub IsNear : Option (RecordMap NodeRecord) → ℕ → ℕ → Type 0
IsNear o node other = (other ≡ node) ⊎ IsBelow o node other

-- by the parents that are told these are the nodes over the first one, up to the last
abbrev pub LeadsUp : Option (RecordMap NodeRecord) → ℕ → List ℕ → ℕ → Type 0
LeadsUp o node [] top = node ≡ top
LeadsUp o node (parent ∷ parents) top = IsBelow o node parent × LeadsUp o parent parents top

-- the top is the node, or stands somewhere above it
abbrev pub IsOver : Option (RecordMap NodeRecord) → ℕ → ℕ → Type 0
IsOver o top node = (parents : List ℕ) × LeadsUp o node parents top

-- the top stands somewhere above the node
abbrev pub IsAbove : Option (RecordMap NodeRecord) → ℕ → ℕ → Type 0
IsAbove o top node = (parent : ℕ) × (IsBelow o node parent × IsOver o top parent)

-- ---- walks

-- with one more node to visit, where there is one
abbrev pub with_top : Option ℕ → List ℕ → List ℕ
with_top None left = left
with_top (Some k) left = k ∷ left

abbrev pub first_tops : Option ℕ → List ℕ
first_tops first = with_top first []

-- what is left to visit behind a node with this record: the nodes below it, those to its right, and what was left before
abbrev pub preorder : NodeRecord → List ℕ → List ℕ
preorder r left = with_top r.first (with_top r.right left)

-- From these nodes on the walk visits nodes with these records, one after the other, and leaves these. A node to which more links lead
-- than one is visited more than once.
abbrev pub Walks : (NodeRecord → List ℕ → List ℕ) → Option (RecordMap NodeRecord) → List ℕ → List NodeRecord → List ℕ → Type 0
Walks ahead o left [] rest = left ≡ rest
Walks ahead o [] (r ∷ visited) rest = ⊥
Walks ahead o (k ∷ left) (r ∷ visited) rest = IsRecord o k r × Walks ahead o (ahead r left) visited rest

-- The walk through all that stands below the top, in preorder, visits nodes with these records and then comes to the node; to the top
-- itself where nothing is left.
abbrev pub ComesTo : Option (RecordMap NodeRecord) → ℕ → List NodeRecord → ℕ → Type 0
ComesTo o top visited node =
    (own : NodeRecord) × (IsRecord o top own × ((left : List ℕ) × ((rest : List ℕ) × (Walks preorder o (first_tops own.first) visited left
    × (left ++ top ∷ [] ≡ node ∷ rest)))))

-- ---- values on paths

-- the path of a value, and none of another node
abbrev pub path_left : NodeRecord → List ℕ
path_left r = if is_value r.kind then r.path ∷ [] else []

-- the paths of the values with these records
abbrev pub paths_left : List NodeRecord → List ℕ
paths_left [] = []
paths_left (r ∷ visited) = path_left r ++ paths_left visited

-- how often the path is among these
abbrev pub times : ℕ → List ℕ → ℕ
times path paths = count_by (nat_eq path) paths

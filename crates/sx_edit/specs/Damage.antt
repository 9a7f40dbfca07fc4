-- The rules that records of nodes and paths keep, and what tells of one that is broken.
use Rattle.std.specs.Prelude.{ℕ, ◌≡◌, ◌+◌, ◌-◌, ◌^◌, ◌<◌, ◌≤◌, ◌⊎◌, true, List, [], ◌∷◌, length, Option, None, Some}
use Rattle.std.specs.Option.{option_and_then, unwrap_or}
use Rattle.std.specs.FinMap as fin
use Rattle.sx_bytes.specs.Damage.{number_damage}
use Rattle.sx_bytes.specs.declared.damage.Damage.{Damage}
use Rattle.sx_tree.specs.Record.{kind_byte}
use Rattle.sx_tree.specs.Value.{nodes}
use Rattle.sx_tree.specs.declared.record.Kind.TheVariants.{Document}
use Rattle.sx_tree.specs.declared.record.NodeRecord.{NodeRecord}
use Rattle.sx_model.specs.Edit.{Edit, insert, load, named_by, path_limit, remove, rename, replace, set_scalar}
use Rattle.sx_model.specs.Records.{PathRow}
use Rattle.sx_model.specs.Tree.{is_value}
use Rattle.sx_paths.specs.Table.{row_at}
use Rattle.sx_view.specs.Records.{RecordMap}
use Rattle.sx_view.specs.declared.fault.Fault.{Fault}
use Rattle.sx_view.specs.declared.fault.Fault.TheVariants.{Failed, Damaged, OutOfMemory}
use Rattle.sx_edit.specs.Links.{ComesTo, IsAbove, IsAbsent, IsBelow, IsNear, IsOver, IsRecord, LeadsTo, Walks, paths_left, preorder, times, with_top}
use Rattle.sx_edit.specs.declared.damage.TheConstants.{BROKEN_LINK, ENDLESS, MISPLACED}

-- a link from one node to another that has no record
abbrev pub broken_link : ℕ → ℕ → Damage
broken_link from to = number_damage 0 BROKEN_LINK from to

-- links that lead on after as many nodes as the next new node's number
abbrev pub endless : ℕ → Damage
endless next = number_damage 0 ENDLESS next (next + 1)

-- a node, and the byte of its kind, the number of a path, or a count, which cannot stand there
abbrev pub misplaced : ℕ → ℕ → Damage
misplaced node value = number_damage 0 MISPLACED node value

-- ---- what an edit reaches

-- The number that the next new node takes, how many new nodes come, and the node that the edit names.
pub record Reach : Type 0 where
  pub next : ℕ
  pub more : ℕ
  pub node : ℕ

-- how many nodes come: those of the value, and a Key where there is a name
abbrev pub coming : Edit → ℕ
coming (load value) = nodes value
coming (insert place None value) = nodes value
coming (insert place (Some name) value) = 1 + nodes value
coming (set_scalar k scalar) = 0
coming (replace k value) = nodes value
coming (rename k name) = 0
coming (remove k) = 0

-- the Document's child, and the Document where it has none
abbrev pub child_of_document : Option (RecordMap NodeRecord) → ℕ
child_of_document None = 0
child_of_document (Some m) = unwrap_or (option_and_then (λ r. r.first) (fin.get m 0)) 0

abbrev pub named : Edit → Option (RecordMap NodeRecord) → ℕ
named (load value) o = child_of_document o
named (insert place name value) o = named_by place
named (set_scalar k scalar) o = k
named (replace k value) o = k
named (rename k name) o = k
named (remove k) o = k

abbrev pub reach_of : Edit → ℕ → Option (RecordMap NodeRecord) → Reach
reach_of edit next o = record { next = next; more = coming edit; node = named edit o }

-- the node is one of the new ones
abbrev pub IsNew : Reach → ℕ → Type 0
IsNew reach node = (reach.next ≤ node) × (node < reach.next + reach.more)

-- ---- rules of links that are broken

-- a link leads to a node that has no record
abbrev pub HasBrokenLink : Option (RecordMap NodeRecord) → Damage → Type 0
HasBrokenLink o damage = (from : ℕ) × ((to : ℕ) × (LeadsTo o from to × IsAbsent o to × (damage ≡ broken_link from to)))

-- to the right, and up
abbrev pub to_right : NodeRecord → List ℕ → List ℕ
to_right r left = with_top r.right left

abbrev pub to_parent : NodeRecord → List ℕ → List ℕ
to_parent r left = with_top r.parent left

-- A walk from a node has visited as many as the next new node's number, and has more to visit.
abbrev pub IsEndless : (NodeRecord → List ℕ → List ℕ) → Option (RecordMap NodeRecord) → ℕ → Type 0
IsEndless ahead o next =
    (top : ℕ) × ((visited : List NodeRecord) × ((k : ℕ) × ((rest : List ℕ) × (Walks ahead o (top ∷ []) visited (k ∷ rest) × (length visited ≡ next)))))

-- so it is in preorder, to the right or up
abbrev pub HasEndless : Option (RecordMap NodeRecord) → ℕ → Damage → Type 0
HasEndless o next damage = (IsEndless preorder o next ⊎ (IsEndless to_right o next ⊎ IsEndless to_parent o next)) × (damage ≡ endless next)

-- a node that is not the document has no parent
abbrev pub HasTop : Option (RecordMap NodeRecord) → Damage → Type 0
HasTop o damage = (k : ℕ) × ((r : NodeRecord) × (IsRecord o k r × (r.kind ≡ Document → ⊥) × (r.parent ≡ None) × (damage ≡ misplaced k (kind_byte r.kind))))

-- what is told of links breaks one of the rules
abbrev pub IsBroken : Option (RecordMap NodeRecord) → ℕ → Damage → Type 0
IsBroken o next damage = HasBrokenLink o damage ⊎ (HasEndless o next damage ⊎ HasTop o damage)

-- ---- counts of nodes that cannot be

-- the count is below what is taken from it, or has no place in its type after that
abbrev pub IsSpent : ℕ → ℕ → Type 0
IsSpent count minus = (count < minus) ⊎ (2 ^ 32 ≤ count - minus)

-- The node whose record this is stands over the one that is named, and cannot count what comes; or above it, and cannot count that without
-- the tree that goes.
abbrev pub CannotCount : Option (RecordMap NodeRecord) → Reach → ℕ → NodeRecord → Type 0
CannotCount o reach k r =
    (IsOver o k reach.node × (2 ^ 32 ≤ r.descendants + reach.more))
    ⊎ ((own : NodeRecord) × (IsRecord o reach.node own × IsAbove o k reach.node × IsSpent (r.descendants + reach.more) (own.descendants + 1)))

-- the count of the nodes below a node cannot take in those that come and leave out those that go
abbrev pub HasSpentNodes : Option (RecordMap NodeRecord) → Reach → Damage → Type 0
HasSpentNodes o reach damage = (k : ℕ) × ((r : NodeRecord) × (IsRecord o k r × CannotCount o reach k r × (damage ≡ misplaced k (r.descendants + reach.more))))

-- the node that is named has more nodes with itself than a count may be
abbrev pub HasFullTree : Option (RecordMap NodeRecord) → Reach → Damage → Type 0
HasFullTree o reach damage = (r : NodeRecord) × (IsRecord o reach.node r × (2 ^ 32 ≤ r.descendants + 1) × (damage ≡ misplaced reach.node (r.descendants + 1)))

-- The count of a node's children cannot take in one that comes at the node that is named; or is 0 for the parent of that node, which goes.
abbrev pub HasSpentChildren : Option (RecordMap NodeRecord) → Reach → Damage → Type 0
HasSpentChildren o reach damage =
    (k : ℕ) × ((r : NodeRecord) × ((plus : ℕ) × (IsRecord o k r × (plus ≤ 1)
    × ((IsNear o reach.node k × (2 ^ 32 ≤ r.children + plus)) ⊎ (IsBelow o reach.node k × (r.children + plus ≡ 0)))
    × (damage ≡ misplaced k (r.children + plus)))))

-- one of the counts cannot be
abbrev pub IsMiscounted : Option (RecordMap NodeRecord) → Reach → Damage → Type 0
IsMiscounted o reach damage = HasSpentNodes o reach damage ⊎ (HasFullTree o reach damage ⊎ HasSpentChildren o reach damage)

-- ---- rules of paths that are broken, over the table of paths before the edit

-- a node that needs a path: it has a record, or is new
abbrev pub NeedsPath : Option (RecordMap NodeRecord) → Reach → ℕ → Type 0
NeedsPath o reach node = ((r : NodeRecord) × IsRecord o node r) ⊎ IsNew reach node

-- The node is the one of this record, or is below it, or is new and comes at it: it is the node that is named, or its parent.
abbrev pub NeedsRecord : Option (RecordMap NodeRecord) → Reach → ℕ → ℕ → Type 0
NeedsRecord o reach node k = (k ≡ node) ⊎ (IsBelow o node k ⊎ (IsNew reach node × IsNear o reach.node k))

-- A node needs the path of a record that is told, which is not the Document's own, 0.
abbrev pub NeedsPathOf : Option (RecordMap NodeRecord) → Reach → ℕ → ℕ → Type 0
NeedsPathOf o reach node path =
    (k : ℕ) × ((r : NodeRecord) × (IsRecord o k r × (r.path ≡ path) × (path ≡ 0 → r.kind ≡ Document → ⊥) × NeedsRecord o reach node k))

-- the path of a record, which a node needs, is not in the table
abbrev pub HasLostPath : Option (RecordMap NodeRecord) → List PathRow → Reach → Damage → Type 0
HasLostPath o table reach damage =
    (node : ℕ) × ((path : ℕ) × (NeedsPathOf o reach node path × (row_at table path ≡ None) × (damage ≡ misplaced node path)))

-- the number of a path is not above its parent's, or is above the greatest one
abbrev pub HasLowPath : Option (RecordMap NodeRecord) → List PathRow → Reach → Damage → Type 0
HasLowPath o table reach damage =
    (node : ℕ) × ((number : ℕ) × ((row : PathRow) × (NeedsPath o reach node × (row_at table number ≡ Some row)
    × ((number ≤ row.parent) ⊎ (path_limit < number)) × (damage ≡ misplaced node number))))

-- how many values stand on the path of the row, where there is one
abbrev pub standing_on : Option PathRow → ℕ
standing_on None = 0
standing_on (Some row) = row.count

-- The walk through the tree of the node that is named comes to a value, on whose path it met as many values before as stand there. Where
-- the path is not in the table, none stands on it.
abbrev pub HasSpentPath : Option (RecordMap NodeRecord) → List PathRow → Reach → Damage → Type 0
HasSpentPath o table reach damage =
    (visited : List NodeRecord) × ((node : ℕ) × ((own : NodeRecord) × (ComesTo o reach.node visited node × IsRecord o node own × (is_value own.kind ≡ true)
    × (standing_on (row_at table own.path) ≤ times own.path (paths_left visited)) × (damage ≡ misplaced node 0))))

-- so many nodes come to a path before this node: new ones, or values of the tree of the node that is named
abbrev pub HasBefore : Option (RecordMap NodeRecord) → Reach → ℕ → ℕ → Type 0
HasBefore o reach node came =
    (IsNew reach node × (node ≡ reach.next + came))
    ⊎ ((visited : List NodeRecord) × ((own : NodeRecord) × (ComesTo o reach.node visited node × IsRecord o node own × (is_value own.kind ≡ true)
    × (came ≡ length (paths_left visited)))))

-- the count of the values on a path cannot take in this node's and those that came before it
abbrev pub HasFullPath : Option (RecordMap NodeRecord) → List PathRow → Reach → Damage → Type 0
HasFullPath o table reach damage =
    (node : ℕ) × ((came : ℕ) × ((path : ℕ) × ((row : PathRow) × (HasBefore o reach node came × (row_at table path ≡ Some row)
    × (2 ^ 32 ≤ row.count + came + 1) × (damage ≡ misplaced node (2 ^ 32))))))

-- what is told of nodes and the table of paths break one of the rules
unfoldable pub IsBreach : Option (RecordMap NodeRecord) → List PathRow → Reach → Damage → Type 0
IsBreach o table reach damage =
    HasLostPath o table reach damage ⊎ (HasLowPath o table reach damage ⊎ (HasSpentPath o table reach damage ⊎ HasFullPath o table reach damage))

-- ---- what is answered

-- the damage is one that an edit tells of links, of nodes or of paths
abbrev pub IsOwnDamage : ℕ → Damage → Type 0
IsOwnDamage next damage = (n : ℕ) × ((value : ℕ) × ((damage ≡ broken_link n value) ⊎ ((damage ≡ endless next) ⊎ (damage ≡ misplaced n value))))

-- The damage is one of the object below, or the records are not told, and it is one that an edit tells.
abbrev pub IsUntold : ℕ → Option (RecordMap NodeRecord) → (Damage → Type 0) → Damage → Type 0
IsUntold next told below damage = below damage ⊎ ((told ≡ None) × IsOwnDamage next damage)

-- the same, or of a rule on links that is broken
abbrev pub IsNodeDamage : ℕ → Option (RecordMap NodeRecord) → (Damage → Type 0) → Damage → Type 0
IsNodeDamage next told below damage = IsUntold next told below damage ⊎ IsBroken told next damage

-- the same, or of a count, or of a rule on paths
abbrev pub IsDamageOver : Reach → Option (RecordMap NodeRecord) → List PathRow → (Damage → Type 0) → Damage → Type 0
IsDamageOver reach told table below damage =
    IsUntold reach.next told below damage ⊎ (IsBroken told reach.next damage ⊎ (IsMiscounted told reach damage ⊎ IsBreach told table reach damage))

abbrev pub IsDamage : Edit → ℕ → Option (RecordMap NodeRecord) → List PathRow → (Damage → Type 0) → Damage → Type 0
IsDamage edit next told table below damage = IsDamageOver (reach_of edit next told) told table below damage

-- Failed comes only where the faults of the object below rose.
abbrev pub Explains : ℕ → Option (RecordMap NodeRecord) → (Damage → Type 0) → Type 0 → Fault → Type 0
Explains next told below rose Failed = rose
Explains next told below rose (Damaged damage) = IsNodeDamage next told below damage
Explains next told below rose OutOfMemory = Unit {0}

-- the same where counts and paths are told of too
abbrev pub ExplainsBoth : Reach → Option (RecordMap NodeRecord) → List PathRow → (Damage → Type 0) → Type 0 → Fault → Type 0
ExplainsBoth reach told table below rose Failed = rose
ExplainsBoth reach told table below rose (Damaged damage) = IsDamageOver reach told table below damage
ExplainsBoth reach told table below rose OutOfMemory = Unit {0}

abbrev pub IsDamaged : Fault → Type 0
IsDamaged Failed = ⊥
IsDamaged (Damaged damage) = Unit {0}
IsDamaged OutOfMemory = ⊥

-- the fault is damage of a rule on links
abbrev pub IsBrokenFault : Option (RecordMap NodeRecord) → ℕ → Fault → Type 0
IsBrokenFault told next Failed = ⊥
IsBrokenFault told next (Damaged damage) = IsBroken told next damage
IsBrokenFault told next OutOfMemory = ⊥

-- the fault is damage of a count
abbrev pub IsMiscountedFault : Option (RecordMap NodeRecord) → Reach → Fault → Type 0
IsMiscountedFault told reach Failed = ⊥
IsMiscountedFault told reach (Damaged damage) = IsMiscounted told reach damage
IsMiscountedFault told reach OutOfMemory = ⊥

-- the same, or want of memory
abbrev pub IsMiscountedAtMost : Option (RecordMap NodeRecord) → Reach → Fault → Type 0
IsMiscountedAtMost told reach Failed = ⊥
IsMiscountedAtMost told reach (Damaged damage) = IsMiscounted told reach damage
IsMiscountedAtMost told reach OutOfMemory = Unit {0}

-- the fault is damage of a rule on paths
abbrev pub IsBreachFault : Option (RecordMap NodeRecord) → List PathRow → Reach → Fault → Type 0
IsBreachFault o table reach Failed = ⊥
IsBreachFault o table reach (Damaged damage) = IsBreach o table reach damage
IsBreachFault o table reach OutOfMemory = ⊥

-- Why a question has no answer.
use Rattle.std.specs.Prelude.{◌≡◌, ◌<◌, ◌⊎◌, ℕ, Option, None}
use Rattle.sx_bytes.specs.declared.damage.Damage.{Damage}
use Rattle.sx_tree.specs.declared.query.Query.{Query}
use Rattle.sx_tree.specs.declared.query.Query.TheVariants.{Text, Node, Hash, Axis, Path, Paths, Select, Valid}
use Rattle.sx_tree.specs.declared.record.NodeRecord.{NodeRecord}
use Rattle.sx_tree.specs.declared.record.PathRecord.{PathRecord}
use Rattle.sx_view.specs.Records.{RecordMap}
use Rattle.sx_view.specs.declared.fault.QueryFault.{QueryFault}
use Rattle.sx_view.specs.declared.fault.QueryFault.TheVariants as faults
use Rattle.sx_axes.specs.Broken as axes
use Rattle.sx_cursor.specs.Told.{Tells}
use Rattle.sx_paths.specs.Load.{IsBrokenPath}
use Rattle.sx_select.specs.Climb.{HasBrokenAbove}
use Rattle.sx_text.specs.Text as texts
use Rattle.sx_valid.specs.Valid as times
use Rattle.sx_query.specs.declared.about.About.{About}

-- the question is about the node of this number
abbrev pub IsAboutNode : Query → ℕ → Type 0
IsAboutNode (Text k) node = k ≡ node
IsAboutNode (Node k) node = k ≡ node
IsAboutNode (Hash k) node = k ≡ node
IsAboutNode (Axis a k) node = k ≡ node
IsAboutNode (Path p) node = ⊥
IsAboutNode Paths node = ⊥
IsAboutNode (Select path) node = ⊥
IsAboutNode (Valid t) node = ⊥

-- the question asks for no more than one record of a node
abbrev pub AsksOneRecord : Query → Type 0
AsksOneRecord (Text k) = ⊥
AsksOneRecord (Node k) = Unit {0}
AsksOneRecord (Hash k) = Unit {0}
AsksOneRecord (Axis a k) = ⊥
AsksOneRecord (Path p) = ⊥
AsksOneRecord Paths = ⊥
AsksOneRecord (Select path) = ⊥
AsksOneRecord (Valid t) = ⊥

-- the path has no record or a parent that is not before it, or a path on the way up from it is such
abbrev pub IsBrokenPathOf : Option (RecordMap PathRecord) → ℕ → Damage → Type 0
IsBrokenPathOf paths p damage = IsBrokenPath paths p damage ⊎ HasBrokenAbove paths p damage

-- What is told of the records that the question reads breaks a rule.
abbrev pub IsCause : Query → Option (RecordMap NodeRecord) → Option (RecordMap PathRecord) → About → Damage → Type 0
IsCause (Text k) nodes paths about damage = texts.IsBroken nodes about.nodes damage
IsCause (Node k) nodes paths about damage = ⊥
IsCause (Hash k) nodes paths about damage = ⊥
IsCause (Axis a k) nodes paths about damage = axes.IsBroken nodes about.nodes damage
IsCause (Path p) nodes paths about damage = IsBrokenPathOf paths p damage
IsCause Paths nodes paths about damage = ⊥
IsCause (Select path) nodes paths about damage = texts.IsBroken nodes about.nodes damage
IsCause (Valid t) nodes paths about damage = times.IsBroken nodes about.nodes damage

-- of what holds of nodes and what holds of paths, that of the records which the question reads
abbrev pub of_read : Query → Type 0 → Type 0 → Type 0
of_read (Text k) nodes paths = nodes
of_read (Node k) nodes paths = nodes
of_read (Hash k) nodes paths = nodes
of_read (Axis a k) nodes paths = nodes
of_read (Path p) nodes paths = paths
of_read Paths nodes paths = ⊥
of_read (Select path) nodes paths = nodes
of_read (Valid t) nodes paths = nodes

-- the faults rose of the object whose records the question reads
abbrev pub HasFailed : Query → Type 0 → Type 0 → Type 0
HasFailed query nodes paths = of_read query nodes paths

-- the damage is one of the object whose records the question reads
abbrev pub IsOfBelow : Query → (Damage → Type 0) → (Damage → Type 0) → Damage → Type 0
IsOfBelow query nodes paths damage = of_read query (nodes damage) (paths damage)

-- There is no such node or path, a call of the object below failed, or what was read is damaged.
abbrev pub Explains : (ℕ → Type 0) → (ℕ → Type 0) → Type 0 → (Damage → Type 0) → QueryFault → Type 0
Explains no_node no_path rose broken (faults.Missing asked seen) = ⊥
Explains no_node no_path rose broken (faults.NoNode node) = no_node node
Explains no_node no_path rose broken (faults.NoPath path) = no_path path
Explains no_node no_path rose broken faults.Failed = rose
Explains no_node no_path rose broken (faults.Damaged damage) = broken damage
Explains no_node no_path rose broken faults.OutOfMemory = Unit {0}

-- a number of which there is none
abbrev pub Nothing : ℕ → Type 0
Nothing k = ⊥

-- it is the number that was asked for, of which no node is told
abbrev pub IsAbsent : Option (RecordMap NodeRecord) → ℕ → ℕ → Type 0
IsAbsent nodes asked node = (asked ≡ node) × Tells nodes node None

-- it is the number that was asked for, and that of none of so many paths
abbrev pub IsNoPath : ℕ → ℕ → ℕ → Type 0
IsNoPath count asked path = (asked ≡ path) × ((asked ≡ 0) ⊎ (count < asked))

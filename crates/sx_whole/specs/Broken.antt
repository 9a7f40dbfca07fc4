-- What is told of bytes that are the body of no document: the first rule that is broken, in the order of the bytes.
use Rattle.std.specs.Prelude.{◌≡◌, ◌≢◌, ℕ, ◌+◌, ◌<◌, ◌≤◌, ◌^◌, ◌⊎◌, List, [], ◌++◌, length, flat_map}
use Rattle.std.specs.Int.{w32, to_be_bytes}
use Rattle.sx_bytes.specs.Damage.{number_damage}
use Rattle.sx_bytes.specs.declared.damage.Damage.{Damage}
use Rattle.sx_tree.specs.declared.record.NodeRecord.{NodeRecord}
use Rattle.sx_model.specs.Records.{PathRow}
use Rattle.sx_record.specs.Spelling.{IsNode, node_bytes, node_fields}
use Rattle.sx_whole.specs.declared.fault.TheConstants.{BROKEN_RECORD, BROKEN_LENGTH}
use Rattle.sx_whole.specs.declared.fault.WholeFault.{WholeFault}
use Rattle.sx_whole.specs.declared.fault.WholeFault.TheVariants.{Damaged, OutOfMemory}
use Rattle.sx_whole.specs.Body.{AscendFrom, AreRows, AreWhole, IsRow, after_last, body_bytes, node_entry, path_entry}

-- what is told of a record that is none, by the number that is asked for
abbrev pub broken_record : ℕ → ℕ → Damage
broken_record place number = number_damage place BROKEN_RECORD 0 number

-- what is told of bytes that are too few or too many, by how many are left
abbrev pub broken_length : ℕ → List ℕ → Damage
broken_length place left = number_damage place BROKEN_LENGTH 0 (length left)

-- too few bytes are left for a number
abbrev pub BreaksNumber : ℕ → List ℕ → Damage → Type 0
BreaksNumber place left damage = (length left < 4) × (damage ≡ broken_length place left)

-- no front of the bytes is the record of a node
abbrev pub HasNoNode : List ℕ → Type 0
HasNoNode bytes = (r : NodeRecord) (rest : List ℕ) → IsNode r → bytes ≢ node_bytes (node_fields r) ++ rest

-- no front of the bytes is the record of a path
abbrev pub HasNoPath : List ℕ → Type 0
HasNoPath bytes = (row : PathRow) (rest : List ℕ) → IsRow row → bytes ≢ path_entry row ++ rest

-- a number is none that may follow, or no record stands behind it
abbrev pub IsNoEntry : ℕ → ℕ → List ℕ → Type 0
IsNoEntry least number behind = (number < least) ⊎ ((1_073_741_824 ≤ number) ⊎ HasNoNode behind)

-- no node with a number from this one on stands at the front
abbrev pub BreaksNode : ℕ → ℕ → List ℕ → Damage → Type 0
BreaksNode place least left damage =
    BreaksNumber place left damage
    ⊎ ((number : ℕ) × ((behind : List ℕ) × ((number < 2 ^ 32) × (left ≡ to_be_bytes w32 number ++ behind)
    × IsNoEntry least number behind
    × (damage ≡ broken_record place number))))

-- behind some of so many nodes the next one is broken
pub record BreaksNodes (place count : ℕ) (bytes : List ℕ) (damage : Damage) : Type 0 where
  pub nodes : List (ℕ × NodeRecord)
  pub left : List ℕ
  pub few : length nodes < count
  pub bytes_are : bytes ≡ flat_map node_entry nodes ++ left
  pub ascend : AscendFrom 0 nodes
  pub next : BreaksNode place (after_last 0 nodes) left damage

-- behind some of so many paths no record of a path stands
pub record BreaksPaths (place count : ℕ) (bytes : List ℕ) (damage : Damage) : Type 0 where
  pub rows : List PathRow
  pub left : List ℕ
  pub few : length rows < count
  pub bytes_are : bytes ≡ flat_map path_entry rows ++ left
  pub are_rows : AreRows rows
  pub next : HasNoPath left
  pub told : damage ≡ broken_record place (length rows + 1)

-- the number of nodes is missing, or a node is broken
abbrev pub BreaksFirst : ℕ → List ℕ → Damage → Type 0
BreaksFirst place bytes damage =
    BreaksNumber place bytes damage
    ⊎ ((count : ℕ) × ((behind : List ℕ) × ((count < 2 ^ 32) × (bytes ≡ to_be_bytes w32 count ++ behind)
    × BreaksNodes place count behind damage)))

-- the number of paths is missing, or a path is broken
abbrev pub BreaksSecond : ℕ → List ℕ → Damage → Type 0
BreaksSecond place bytes damage =
    BreaksNumber place bytes damage
    ⊎ ((count : ℕ) × ((behind : List ℕ) × ((count < 2 ^ 32) × (bytes ≡ to_be_bytes w32 count ++ behind)
    × BreaksPaths place count behind damage)))

-- the nodes stand there, and the paths are broken
pub record BreaksBehind (place : ℕ) (body : List ℕ) (damage : Damage) : Type 0 where
  pub nodes : List (ℕ × NodeRecord)
  pub left : List ℕ
  pub bytes_are : body ≡ to_be_bytes w32 (length nodes) ++ (flat_map node_entry nodes ++ left)
  pub ascend : AscendFrom 0 nodes
  pub next : BreaksSecond place left damage

-- bytes are left behind the last record
pub record BreaksEnd (place : ℕ) (body : List ℕ) (damage : Damage) : Type 0 where
  pub nodes : List (ℕ × NodeRecord)
  pub rows : List PathRow
  pub left : List ℕ
  pub bytes_are : body ≡ body_bytes nodes rows ++ left
  pub whole : AreWhole nodes rows
  pub some_left : left ≢ []
  pub told : damage ≡ broken_length place left

-- what is told of a body that is none
abbrev pub Breaks : ℕ → List ℕ → Damage → Type 0
Breaks place body damage = BreaksFirst place body damage ⊎ (BreaksBehind place body damage
    ⊎ BreaksEnd place body damage)

-- damage is told only of what is broken, by the relation
abbrev pub Explains : (Damage → Type 0) → WholeFault → Type 0
Explains broken (Damaged damage) = broken damage
Explains broken OutOfMemory = Unit {0}

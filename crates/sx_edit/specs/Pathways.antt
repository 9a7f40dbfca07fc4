-- The table of paths beside the records of an edit: which paths it lists, and how many values stand on each.
use Rattle.std.specs.Prelude.{◌≡◌, ℕ, ◌+◌, ◌<◌, ◌≤◌, ◌^◌, true, false, if◌then◌else◌, List, [], ◌∷◌, count_by, length, Option, None, Some}
use Rattle.sx_tree.specs.declared.edit.EditRefusal.TheVariants.{PathsSpent}
use Rattle.sx_tree.specs.declared.record.Kind.{Kind}
use Rattle.sx_tree.specs.declared.record.NodeRecord.{NodeRecord}
use Rattle.sx_tree.specs.declared.record.Step.{Step}
use Rattle.sx_view.specs.Records.{RecordMap}
use Rattle.sx_model.specs.Edit.{path_limit}
use Rattle.sx_model.specs.Paths.{number_of, paths_below, path_of, same_path, with_paths}
use Rattle.sx_model.specs.Records.{Around, PathRow}
use Rattle.sx_model.specs.Tree.{Node, Forest, is_value}
use Rattle.sx_paths.specs.Listed.{AreListed, IsBase, has_path, rows_of_paths}
use Rattle.sx_edit.specs.declared.fault.EditFault.{EditFault}
use Rattle.sx_edit.specs.declared.fault.EditFault.TheVariants.{Refused, Failed, Damaged, OutOfMemory}

-- The table lists these paths, on each of which so many values stand, and none on other paths. There are no more than there may be.
pub record Lists (table : List PathRow) (listed : List (List Step)) (count : List Step → ℕ) : Type 0 where
  pub are : AreListed listed
  pub few : length listed ≤ path_limit
  pub elsewhere : (path : List Step) → has_path listed path ≡ false → count path ≡ 0
  pub rows_are : table ≡ rows_of_paths count listed

-- the same of a table that is there
abbrev pub ListsSome : Option (List PathRow) → List (List Step) → (List Step → ℕ) → Type 0
ListsSome None listed count = ⊥
ListsSome (Some table) listed count = Lists table listed count

-- each of the paths is listed
abbrev pub HasAll : List (List Step) → List (List Step) → Type 0
HasAll listed [] = Unit {0}
HasAll listed (path ∷ paths) = (has_path listed path ≡ true) × HasAll listed paths

-- the path is listed, and has this number
pub record IsPathAt (listed : List (List Step)) (steps : List Step) (path : ℕ) : Type 0 where
  pub there : has_path listed steps ≡ true
  pub is : path ≡ number_of listed steps

-- the path is that of the document, or listed, and has this number
pub record IsStart (listed : List (List Step)) (steps : List Step) (path : ℕ) : Type 0 where
  pub base : IsBase listed steps
  pub is : path ≡ number_of listed steps

-- the paths that are listed have these numbers, and the document's has 0
pub record Numbers (number : List Step → ℕ) (listed : List (List Step)) : Type 0 where
  pub listed_are : (path : List Step) → has_path listed path ≡ true → number path ≡ number_of listed path
  pub top_is : number [] ≡ 0

-- the counts with one more on each of these paths
abbrev pub more_on : List (List Step) → (List Step → ℕ) → List Step → ℕ
more_on paths count path = count path + count_by (same_path path) paths

-- ---- paths of nodes

-- the path of a node of this kind, where it is a value
abbrev pub own_of : Kind → List Step → List (List Step)
own_of kind steps = if is_value kind then steps ∷ [] else []

-- the path of a node among trees
abbrev pub own_path : Around → Node → List Step
own_path around n = path_of around.above around.path n.label

-- the paths of the value nodes among trees
abbrev pub paths_under : Around → Forest → List (List Step)
paths_under around trees = paths_below around.above around.path trees

-- ---- what an edit keeps

-- what the records tell, and the table
pub record Kept : Type 0 where
  pub told : Option (RecordMap NodeRecord)
  pub table : List PathRow

abbrev pub kept : Option (RecordMap NodeRecord) → List PathRow → Kept
kept told table = record { told = told; table = table }

-- ---- one path

-- The number is that of the path that goes on by the step from the path of the other number. It is listed from now on.
unfoldable pub IsOnto : ℕ → Step → ℕ → List PathRow → List PathRow → Type 0
IsOnto parent step number old new =
    (listed : List (List Step)) (count : List Step → ℕ) (steps : List Step) → Lists old listed count → IsStart listed steps parent
    → Lists new (with_paths listed ((step ∷ steps) ∷ [])) count × IsPathAt (with_paths listed ((step ∷ steps) ∷ [])) (step ∷ steps) number

-- Where these paths come, an edit stops for want of room, with the number of paths before it, and else for want of memory alone.
abbrev pub Stops : ℕ → List (List Step) → List (List Step) → EditFault → Type 0
Stops had listed paths (Refused refusal) = (refusal ≡ PathsSpent had) × (path_limit < length (with_paths listed paths))
Stops had listed paths Failed = Unit {0}
Stops had listed paths (Damaged damage) = ⊥
Stops had listed paths OutOfMemory = Unit {0}

-- the same of the path that goes on by the step
unfoldable pub StopsOnto : ℕ → Step → ℕ → List PathRow → EditFault → Type 0
StopsOnto parent step had old fault =
    (listed : List (List Step)) (count : List Step → ℕ) (steps : List Step) → Lists old listed count → IsStart listed steps parent
    → Stops had listed ((step ∷ steps) ∷ []) fault

-- one value more stands on the path of this number
unfoldable pub IsCountedIn : ℕ → List PathRow → List PathRow → Type 0
IsCountedIn path old new =
    (listed : List (List Step)) (count : List Step → ℕ) (steps : List Step) → Lists old listed count → IsPathAt listed steps path
    → Lists new listed (more_on (steps ∷ []) count)

-- none can be counted in there, where there is room for one more
unfoldable pub CannotCountIn : ℕ → List PathRow → Type 0
CannotCountIn path old =
    (listed : List (List Step)) (count : List Step → ℕ) (steps : List Step) → Lists old listed count → IsPathAt listed steps path → count steps + 1 < 2 ^ 32 → ⊥

-- One value less stands on the path of this number. Where there is no table afterwards, none stood on it.
unfoldable pub IsCountedOut : ℕ → List PathRow → Option (List PathRow) → Type 0
IsCountedOut path old new =
    (listed : List (List Step)) (count : List Step → ℕ) (steps : List Step) → Lists old listed (more_on (steps ∷ []) count) → IsPathAt listed steps path
    → ListsSome new listed count

-- The node of this kind, whose path has this number, is no longer counted, where it was.
unfoldable pub IsNodeOut : Kind → ℕ → List PathRow → Option (List PathRow) → Type 0
IsNodeOut kind path old new =
    (listed : List (List Step)) (count : List Step → ℕ) (steps : List Step) → (is_value kind ≡ true → IsPathAt listed steps path)
    → Lists old listed (more_on (own_of kind steps) count) → ListsSome new listed count

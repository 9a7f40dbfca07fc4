-- Trees that come to stand on other paths.
use Rattle.std.specs.Prelude.{◌≡◌, ℕ, ◌+◌, ◌<◌, ◌≤◌, ◌^◌, List, [], ◌∷◌, ◌++◌, map, reverse, Option, None, Some, option_map, true}
use Rattle.sx_tree.specs.declared.record.Kind.{Kind}
use Rattle.sx_tree.specs.declared.record.Step.{Step}
use Rattle.sx_tree.specs.declared.record.NodeRecord.{NodeRecord}
use Rattle.sx_view.specs.Records.{RecordMap}
use Rattle.sx_model.specs.Paths.{path_below, with_paths}
use Rattle.sx_model.specs.Records.{Around, NodeRow, PathRow, first_of, rows}
use Rattle.sx_model.specs.Tree.{Forest, FitBelow, is_value, size}
use Rattle.sx_edit.specs.declared.fault.EditFault.{EditFault}
use Rattle.sx_edit.specs.declared.trees.Move.{Move}
use Rattle.sx_edit.specs.Links.{LeadsTo}
use Rattle.sx_edit.specs.Drift.{IsThere}
use Rattle.sx_edit.specs.Pathways.{IsPathAt, Kept, Lists, Numbers, Stops, more_on, own_of, paths_under}
use Rattle.sx_edit.specs.Told.{Shows}

-- a child that is to move, with the node above it
pub record Goal : Type 0 where
  pub kind : Kind
  pub path : ℕ
  pub to : ℕ

abbrev pub goal_of : Kind → ℕ → ℕ → Goal
goal_of kind path to = record { kind = kind; path = path; to = to }

-- with one more child to move, below a node of this kind and path, where there is one
abbrev pub with_goal : Kind → ℕ → Option ℕ → List Goal → List Goal
with_goal kind path None goals = goals
with_goal kind path (Some to) goals = goal_of kind path to ∷ goals

abbrev pub first_goals : Kind → ℕ → Option ℕ → List Goal
first_goals kind path first = with_goal kind path first []

-- the children to which the links lead, that of the last link first
abbrev pub goals_of : List Move → List Goal
goals_of moves = map (λ m. goal_of m.over.kind m.over.path m.to) (reverse moves)

-- each of the links is told
abbrev pub AllLead : Option (RecordMap NodeRecord) → List Move → Type 0
AllLead o [] = Unit {0}
AllLead o (move ∷ moves) = LeadsTo o move.from move.to × AllLead o moves

-- the table has each of the new paths
abbrev pub AllThere : List PathRow → List Move → Type 0
AllThere table [] = Unit {0}
AllThere table (move ∷ moves) = IsThere table move.over.path × AllThere table moves

-- trees side by side, what stands around them, and the new path of the node above
pub record Branch : Type 0 where
  pub around : Around
  pub trees : Forest
  pub steps : List Step

-- what stands around them then
abbrev pub moved : Branch → Around
moved branch = record branch.around { path = branch.steps }

-- The trees begin with this child, below a node of this kind, whose new path is listed with this number.
pub record BeginsAt (listed : List (List Step)) (branch : Branch) (goal : Goal) : Type 0 where
  pub first : first_of branch.trees ≡ Some goal.to
  pub last : branch.around.right ≡ None
  pub kind : option_map (λ n. n.kind) branch.around.above ≡ Some goal.kind
  pub path : IsPathAt listed branch.steps goal.path
  pub fit : FitBelow (Some goal.kind) branch.trees

abbrev pub BeginAll : List (List Step) → List Branch → List Goal → Type 0
BeginAll listed [] [] = Unit {0}
BeginAll listed [] (goal ∷ goals) = ⊥
BeginAll listed (branch ∷ branches) [] = ⊥
BeginAll listed (branch ∷ branches) (goal ∷ goals) = BeginsAt listed branch goal × BeginAll listed branches goals

abbrev pub branch_sizes : List Branch → ℕ
branch_sizes [] = 0
branch_sizes (branch ∷ branches) = size branch.trees + branch_sizes branches

-- the paths of their values, and those that they get
abbrev pub old_paths : List Branch → List (List Step)
old_paths [] = []
old_paths (branch ∷ branches) = paths_under branch.around branch.trees ++ old_paths branches

abbrev pub new_paths : List Branch → List (List Step)
new_paths [] = []
new_paths (branch ∷ branches) = paths_under (moved branch) branch.trees ++ new_paths branches

module _ (local : Kind → List ℕ → ℕ) (number : List Step → ℕ) where
  -- the rows on the old paths, and on the new ones
  abbrev pub old_rows : List Branch → List (ℕ × NodeRow)
  old_rows [] = []
  old_rows (branch ∷ branches) = rows local number branch.around branch.trees ++ old_rows branches

  abbrev pub new_rows : List Branch → List (ℕ × NodeRow)
  new_rows [] = []
  new_rows (branch ∷ branches) = rows local number (moved branch) branch.trees ++ new_rows branches

-- the paths are listed, and have these numbers
abbrev pub Agree : (List Step → ℕ) → List (List Step) → List (List Step) → Type 0
Agree number listed [] = Unit {0}
Agree number listed (path ∷ paths) = IsPathAt listed path (number path) × Agree number listed paths

-- The records show these trees among other rows, by the numbers of the paths that were listed at first, and each of their paths was.
pub record ShowsBranches (o : Option (RecordMap NodeRecord)) (goals : List Goal) (limit : ℕ) (listed : List (List Step)) (branches : List Branch) : Type 0 where
  pub local : Kind → List ℕ → ℕ
  pub number : List Step → ℕ
  pub front : List (ℕ × NodeRow)
  pub back : List (ℕ × NodeRow)
  pub begin : BeginAll listed branches goals
  pub few : branch_sizes branches ≤ limit
  pub shows : Shows o (front ++ (old_rows local number branches ++ back))
  pub numbers_are : Agree number listed (old_paths branches)

-- These are the rows of the trees that begin with these children on their new paths, where they have so many nodes at most. Their values
-- are counted there, and the paths are listed where they were not.
unfoldable pub IsRepathed : List Goal → ℕ → Kept → List PathRow → List (ℕ × NodeRow) → Type 0
IsRepathed goals limit before table moved =
    (listed : List (List Step)) (count : List Step → ℕ) (branches : List Branch) (shown : ShowsBranches before.told goals limit listed branches)
    → Lists before.table listed (more_on (old_paths branches) count)
    → Lists table (with_paths listed (new_paths branches)) (more_on (new_paths branches) count)
    × ((number : List Step → ℕ) → Numbers number (with_paths listed (new_paths branches)) → moved ≡ new_rows shown.local number branches)

-- Where the counts have room for them, this stops for want of room for paths, by a failure or for want of memory alone.
unfoldable pub StopsRepathing : List Goal → ℕ → ℕ → Kept → EditFault → Type 0
StopsRepathing goals limit had before fault =
    (listed : List (List Step)) (count : List Step → ℕ) (branches : List Branch) → ShowsBranches before.told goals limit listed branches
    → Lists before.table listed (more_on (old_paths branches) count)
    → ((other : List Step) → count other + branch_sizes branches < 2 ^ 32)
    → Stops had listed (new_paths branches) fault

-- ---- one node

-- The number is that of the path of a child with this label, below a node of this kind on the path of the other number.
unfoldable pub IsUnder : Kind → ℕ → List ℕ → ℕ → List PathRow → List PathRow → Type 0
IsUnder kind parent label number old new =
    (listed : List (List Step)) (count : List Step → ℕ) (steps : List Step) → Lists old listed count → IsPathAt listed steps parent
    → Lists new (with_paths listed (path_below kind steps label ∷ [])) count
    × IsPathAt (with_paths listed (path_below kind steps label ∷ [])) (path_below kind steps label) number

unfoldable pub StopsUnder : Kind → ℕ → List ℕ → ℕ → List PathRow → EditFault → Type 0
StopsUnder kind parent label had old fault =
    (listed : List (List Step)) (count : List Step → ℕ) (steps : List Step) → Lists old listed count → IsPathAt listed steps parent
    → Stops had listed (path_below kind steps label ∷ []) fault

-- A node of this kind is counted on the other path, where it is a value.
unfoldable pub IsExchanged : Kind → ℕ → ℕ → List PathRow → List PathRow → Type 0
IsExchanged kind was is old new =
    (listed : List (List Step)) (count : List Step → ℕ) (before after : List Step) → (is_value kind ≡ true → IsPathAt listed before was) → IsPathAt listed after is
    → Lists old listed (more_on (own_of kind before) count) → Lists new listed (more_on (own_of kind after) count)

unfoldable pub CannotExchange : Kind → ℕ → ℕ → List PathRow → Type 0
CannotExchange kind was is old =
    (listed : List (List Step)) (count : List Step → ℕ) (before after : List Step) → (is_value kind ≡ true → IsPathAt listed before was) → IsPathAt listed after is
    → Lists old listed (more_on (own_of kind before) count) → count after + 1 < 2 ^ 32 → ⊥

-- The table of a list of paths, on each of which so many values stand.
use Rattle.std.specs.Prelude.{ℕ, ◌≡◌, Bool, true, false, if◌then◌else◌, List, [], ◌∷◌, ◌++◌, map}
use Rattle.std.specs.List.{list_any}
use Rattle.sx_tree.specs.declared.record.Step.{Step}
use Rattle.sx_tree.specs.declared.record.Step.TheVariants.{Top}
use Rattle.sx_model.specs.Paths.{number_of, same_path}
use Rattle.sx_model.specs.Records.{PathRow}

-- whether the path is listed; it has its last step first
abbrev pub has_path : List (List Step) → List Step → Bool
has_path listed path = list_any (same_path path) listed

-- a path may go on from here: the Document's is no entry, each other one is listed
abbrev pub IsBase : List (List Step) → List Step → Type 0
IsBase listed [] = Unit {0}
IsBase listed (step ∷ steps) = has_path listed (step ∷ steps) ≡ true

abbrev pub GoesOnFrom : List (List Step) → List Step → Type 0
GoesOnFrom listed [] = ⊥
GoesOnFrom listed (step ∷ steps) = IsBase listed steps

-- behind the first ones, each path is new, and goes on from one before it
abbrev pub Extend : List (List Step) → List (List Step) → Type 0
Extend listed [] = Unit {0}
Extend listed (path ∷ paths) = (has_path listed path ≡ false) × GoesOnFrom listed path × Extend (listed ++ path ∷ []) paths

-- each path is listed once, behind the one from which it goes on
abbrev pub AreListed : List (List Step) → Type 0
AreListed listed = Extend [] listed

-- the row of a path, from the numbers of paths and how many values stand on each
abbrev pub row_by : (List Step → ℕ) → (List Step → ℕ) → List Step → PathRow
row_by number count [] = record { parent = 0; step = Top; count = count [] }
row_by number count (step ∷ steps) = record { parent = number steps; step = step; count = count (step ∷ steps) }

-- the rows of the paths
abbrev pub rows_of_paths : (List Step → ℕ) → List (List Step) → List PathRow
rows_of_paths count listed = map (row_by (number_of listed) count) listed

-- the counts with another one on this path
abbrev pub counted : (ℕ → ℕ) → List Step → (List Step → ℕ) → List Step → ℕ
counted change path count other = if same_path path other then change (count other) else count other

-- The table of paths, as contracts see it.
use Rattle.std.specs.Prelude.{ℕ, zero, suc, Bool, ◌&&◌, nat_eq, List, [], ◌∷◌, Option, None, slice_get}
use Rattle.std.specs.List.{position_from}
use Rattle.sx_tree.specs.declared.record.PathRecord.{PathRecord}
use Rattle.sx_tree.specs.declared.record.Step.{Step}
use Rattle.sx_model.specs.Paths.{same_step}
use Rattle.sx_model.specs.Records.{PathRow}

pub record Table : Type 0 where
  -- the paths by their numbers, which begin with 1
  pub paths : List PathRow
  -- those at the mark, where there is one
  pub marked : Option (List PathRow)

-- the row that a path's record shows
abbrev pub row_of : PathRecord → PathRow
row_of path = record { parent = path.parent; step = path.step; count = path.count }

-- the path of this number
abbrev pub row_at : List PathRow → ℕ → Option PathRow
row_at paths zero = None
row_at paths (suc place) = slice_get paths place

-- whether the path goes on from this parent by this step
abbrev pub goes_on : ℕ → Step → PathRow → Bool
goes_on parent step path = nat_eq path.parent parent && same_step path.step step

-- the number of the first path that goes on from this parent by this step
abbrev pub number_in : List PathRow → ℕ → Step → Option ℕ
number_in paths parent step = position_from (goes_on parent step) 1 paths

-- the paths with another count at this place
abbrev pub recount : (ℕ → ℕ) → ℕ → List PathRow → List PathRow
recount change place [] = []
recount change zero (path ∷ paths) = (record path { count = change path.count }) ∷ paths
recount change (suc place) (path ∷ paths) = path ∷ recount change place paths

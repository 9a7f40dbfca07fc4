-- What contracts see of a list of residents.
use Rattle.std.specs.Prelude.{ℕ, List}
use Rattle.sx_cell.specs.declared.name.Name.{Name}

-- the numbers of frames with the names in their cells, the last used first, and how many places there are
pub record ResidentList (S : Type 0) : Type 0 where
  pub list : List (ℕ × Name S)
  pub places : ℕ

-- What holds of each state to which edits lead.
use Rattle.std.specs.Prelude.{ℕ, ◌<◌, ◌≤◌, List, [], ◌∷◌, length}
use Rattle.sx_model.specs.Edit.{number_limit, nesting_limit, path_limit}
use Rattle.sx_model.specs.State.{State}
use Rattle.sx_model.specs.Tree.{IsWellFormed, numbers, nesting}

abbrev pub AreBelow : ℕ → List ℕ → Type 0
AreBelow limit [] = Unit {0}
AreBelow limit (k ∷ ks) = (k < limit) × AreBelow limit ks

-- The trees are well formed, no node has a number that is still to be given, and all is within the limits.
pub record IsSound (state : State) : Type 0 where
  pub well_formed : IsWellFormed state.trees
  pub given : AreBelow state.next (numbers state.trees)
  pub next : state.next ≤ number_limit
  pub nested : nesting state.trees ≤ nesting_limit
  pub paths : length state.paths ≤ path_limit

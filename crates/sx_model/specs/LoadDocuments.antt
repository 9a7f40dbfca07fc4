-- Commits whose edits are loads: all that the program makes so far.
use Rattle.std.specs.Prelude.{List, [], ◌∷◌}
use Rattle.sx_model.specs.Commit.{Commit}
use Rattle.sx_model.specs.Edit.{Edit, load, insert, set_scalar, replace, rename, remove}

abbrev pub IsLoad : Edit → Type 0
IsLoad (load value) = Unit {0}
IsLoad (insert place name value) = ⊥
IsLoad (set_scalar k s) = ⊥
IsLoad (replace k value) = ⊥
IsLoad (rename k name) = ⊥
IsLoad (remove k) = ⊥

abbrev pub AreLoads : List Edit → Type 0
AreLoads [] = Unit {0}
AreLoads (edit ∷ edits) = IsLoad edit × AreLoads edits

-- each edit of the commits is a load
abbrev pub AreOfLoads : List Commit → Type 0
AreOfLoads [] = Unit {0}
AreOfLoads (commit ∷ commits) = AreLoads commit.edits × AreOfLoads commits

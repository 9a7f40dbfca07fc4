-- Lists of entries by their last use: no two have one key, and the last used is the first.
use Rattle.std.specs.Prelude.{ℕ, ◌-◌, ◌≤◌, ◌==◌, ◌&&◌, Bool, List, ◌∷◌, length, map, take}
use Rattle.std.specs.Arc.{arc_value}
use Rattle.std.specs.List.{IsDistinct}
use Rattle.std.specs.Map.{keys_of, remove_entry}
use Rattle.std.specs.declared.sync.Arc.{Arc}

-- whether a key is that of this leaf at revision r
abbrev pub is_leaf : ℕ → ℕ → ℕ × ℕ → Bool
is_leaf r leaf key = (r == key.0) && (leaf == key.1)

-- whether two keys are those of one leaf at one revision
abbrev pub same_leaf : ℕ × ℕ → ℕ × ℕ → Bool
same_leaf a b = is_leaf a.0 a.1 b

module _ {K V : Type 0} where
  -- the entries with what their values share
  abbrev pub by_value : {Z : Type 0} → List (K × Arc V Z) → List (K × V)
  by_value entries = map (λ e. (e.0, arc_value e.1)) entries

  -- The value under the key goes first. The entries of other keys follow as they stood, as far as there are places.
  abbrev pub with_newest : ℕ → (K → Bool) → K → V → List (K × V) → List (K × V)
  with_newest places is_key key value list = (key, value) ∷ take (places - 1) (remove_entry is_key list)

  -- no two have one key, and there are at most so many
  abbrev pub IsByUse : ℕ → (K → K → Bool) → List (K × V) → Type 0
  IsByUse places eq list = IsDistinct eq (keys_of list) × (length list ≤ places)

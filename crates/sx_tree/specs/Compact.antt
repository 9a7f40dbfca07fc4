-- The bytes that are kept in place or on the heap.
use Rattle.std.specs.Prelude.{ℕ, ◌≤◌, List, take}
use Rattle.sx_tree.specs.declared.compact.Kept.{Kept}
use Rattle.sx_tree.specs.declared.compact.Kept.TheVariants.{Short, Long}

-- the bytes themselves: in place the first ones
abbrev pub kept_bytes : Kept → List ℕ
kept_bytes (Short len bytes) = take len bytes
kept_bytes (Long bytes) = bytes.value.items

-- in place there is room for each of them
abbrev pub IsKept : Kept → Type 0
IsKept (Short len bytes) = len ≤ 14
IsKept (Long bytes) = Unit {0}

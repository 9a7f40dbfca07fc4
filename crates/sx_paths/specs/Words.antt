-- Numbers for steps, and the index of paths by them.
use Rattle.std.specs.Prelude.{ℕ, ◌≡◌, ◌+◌, ◌<◌, ◌≤◌, ◌&&◌, if◌then◌else◌, nat_eq, List, Option, Some, String, option_and_then}
use Rattle.std.specs.Ordering.{nat_cmp, ordering_then}
use Rattle.std.specs.declared.alloc.Global.{Global}
use Rattle.std.specs.declared.cmp.Ordering.{Ordering}
use Rattle.std.specs.BTreeMap.{BTreeMap, get, get_by_text, btree_map_len}
use Rattle.sx_tree.specs.declared.record.Step.{Step}
use Rattle.sx_tree.specs.declared.record.Step.TheVariants.{Top, Item, Name}
use Rattle.sx_paths.specs.declared.index.Index.{Index}
use Rattle.sx_model.specs.Paths.{same_step}

-- the number of a step, by those of the names
abbrev pub word_of : BTreeMap (String Global) ℕ → Step → Option ℕ
word_of names Top = Some 0
word_of names Item = Some 1
word_of names (Name name) = get_by_text names name

-- the names have numbers from 2 on, below the next one, and each its own
abbrev pub AreNumbered : BTreeMap (String Global) ℕ → Type 0
AreNumbered names =
    ((name : List ℕ) (word : ℕ) → get_by_text names name ≡ Some word → (2 ≤ word) × (word < btree_map_len names + 2))
    × ((name other : List ℕ) (word : ℕ) → get_by_text names name ≡ Some word → get_by_text names other ≡ Some word → name ≡ other)

-- ---- the index

-- the order of pairs of numbers
abbrev pub pair_cmp : ℕ × ℕ → ℕ × ℕ → Ordering
pair_cmp a b = ordering_then (nat_cmp a.0 b.0) (nat_cmp a.1 b.1)

-- the number of the path that goes on from a parent by a step
abbrev pub number_by : Index → ℕ → Step → Option ℕ
number_by index parent step = option_and_then (λ word. get pair_cmp index.numbers (parent, word)) (word_of index.words.names step)

-- The names have numbers, and each number of a step in the index is that of a step that was met.
pub record IsIndex (index : Index) : Type 0 where
  pub numbered : AreNumbered index.words.names
  pub met : (parent word number : ℕ) → get pair_cmp index.numbers (parent, word) ≡ Some number → (step : Step) × (word_of index.words.names step ≡ Some word)

-- the same index but for one path
abbrev pub given_at : ℕ → Step → Option ℕ → (ℕ → Step → Option ℕ) → ℕ → Step → Option ℕ
given_at parent step number index p s = if nat_eq parent p && same_step step s then number else index p s

-- Names of which no two are equal, and the index that finds one.
use Rattle.std.specs.Prelude.{ℕ, ◌≡◌, ◌<◌, List, [], map, Option, Some, None, slice_get}
use Rattle.std.specs.declared.alloc.Global.{Global}
use Rattle.std.specs.declared.boxed.Box.{Box}
use Rattle.std.specs.BTreeMap.{BTreeMap, get}
use Rattle.std.specs.Cmp.Lexicographic.{slice_cmp}
use Rattle.std.specs.Ordering.{nat_cmp}
use Rattle.std.specs.declared.cmp.Ordering.TheVariants.{Less}
use Rattle.sx_tree.specs.declared.names.Index.{Index}
use Rattle.sx_tree.specs.declared.names.Index.TheVariants.{Ascending, Few, Places}

-- no name stands at two places
abbrev pub AreDistinct : List (List ℕ) → Type 0
AreDistinct names = (i j : ℕ) (name : List ℕ) → slice_get names i ≡ Some name → slice_get names j ≡ Some name → i ≡ j

-- the place of a name in an index
abbrev pub place_in : BTreeMap (List ℕ) ℕ → List ℕ → Option ℕ
place_in places name = get (slice_cmp nat_cmp) places name

-- the index has the place of each name, and nothing else
abbrev pub AreIndexed : List (List ℕ) → BTreeMap (List ℕ) ℕ → Type 0
AreIndexed names places =
    ((name : List ℕ) (i : ℕ) → place_in places name ≡ Some i → slice_get names i ≡ Some name)
    × ((name : List ℕ) (i : ℕ) → slice_get names i ≡ Some name → place_in places name ≡ Some i)

-- each name comes before those behind it, in the order of bytes
abbrev pub AreAscending : List (List ℕ) → Type 0
AreAscending names = (i j : ℕ) (a b : List ℕ) → i < j → slice_get names i ≡ Some a → slice_get names j ≡ Some b → slice_cmp nat_cmp a b ≡ Less

-- each of the names comes before this one
abbrev pub AreBefore : List (List ℕ) → List ℕ → Type 0
AreBefore names name = (i : ℕ) (a : List ℕ) → slice_get names i ≡ Some a → slice_cmp nat_cmp a name ≡ Less

-- the index finds each of the names
abbrev pub IsIndex : List (List ℕ) → Index → Type 0
IsIndex names Ascending = AreAscending names
IsIndex names Few = Unit {0}
IsIndex names (Places places) = AreIndexed names places.value

-- the names of members
abbrev pub names_of : {T : Type 0} → List (List ℕ × T) → List (List ℕ)
names_of members = map (λ member. member.0) members

-- the members that a box keeps, none where there is no box
abbrev pub boxed_members : {T : Type 0} → Option (Box (List (List ℕ × T)) Global) → List (List ℕ × T)
boxed_members None = []
boxed_members (Some members) = members.value

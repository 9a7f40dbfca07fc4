-- The Objects of a document that are valid at a time.
use Rattle.std.specs.Prelude.{ℕ, ℤ, pos, ◌*ℤ◌, int_le, int_lt, ◌&&◌, ◌||◌, Bool, true, false, if◌then◌else◌, List, [], ◌∷◌, ◌++◌, Option, None, Some, Result, Ok, Err, bytes_eq}
use Rattle.jiff.specs.Words.{parse_timestamp}
use Rattle.sx_model.specs.Tree.{Node, Forest, no_trees, tree_then, is_key, is_null, is_object, is_string}

-- the value below a Key of this name among an Object's children
abbrev pub value_of_key : Forest → Option Node
value_of_key no_trees = None
value_of_key (tree_then n below rest) = Some n

abbrev pub field : List ℕ → Forest → Option Node
field name no_trees = None
field name (tree_then key below rest) = if is_key key.kind && bytes_eq key.label name then value_of_key below else field name rest

-- an instant, in nanoseconds since the start of 1970 in UTC, is not after this many milliseconds since then
abbrev pub is_not_after : ℤ → {E : Type 0} → Result ℤ E → Bool
is_not_after t (Ok instant) = int_le instant (t *ℤ pos 1_000_000)
is_not_after t (Err error) = false

abbrev pub is_after : ℤ → {E : Type 0} → Result ℤ E → Bool
is_after t (Ok instant) = int_lt (t *ℤ pos 1_000_000) instant
is_after t (Err error) = false

-- the field is a string that is read as an instant not after the time
abbrev pub has_begun : ℤ → Option Node → Bool
has_begun t None = false
has_begun t (Some n) = is_string n.kind && is_not_after t (parse_timestamp n.label)

-- the field is not there, or null, or a string that is read as an instant after the time
abbrev pub has_not_ended : ℤ → Option Node → Bool
has_not_ended t None = true
has_not_ended t (Some n) = is_null n.kind || is_string n.kind && is_after t (parse_timestamp n.label)

-- the Objects in preorder that are valid at the time, by the fields of these names
abbrev pub valid : List ℕ → List ℕ → ℤ → Forest → List ℕ
valid from to t no_trees = []
valid from to t (tree_then n below rest) =
    (if is_object n.kind && (has_begun t (field from below) && has_not_ended t (field to below)) then n.number ∷ [] else [])
    ++ (valid from to t below ++ valid from to t rest)

-- Edits of a document: when each is refused, and what it leaves.
use Rattle.std.specs.Prelude.{ℕ, ◌+◌, ◌-◌, ◌^◌, ◌==◌, ◌&&◌, nat_lt, min, not, Bool, false, true, if◌then◌else◌, List, [], ◌∷◌, length, find, filter, Option, None, Some, is_some, is_none, option_map, option_and_then, bytes_eq, sum_by, Result, Ok, Err, IsOk}
use Rattle.std.specs.Result.{result_unwrap_or}
use Rattle.sx_tree.specs.declared.edit.Edit as plain
use Rattle.sx_tree.specs.declared.edit.Edit.TheVariants as plains
use Rattle.sx_tree.specs.declared.edit.Edited.{Edited}
use Rattle.sx_tree.specs.declared.edit.EditRefusal.{EditRefusal}
use Rattle.sx_tree.specs.declared.edit.EditRefusal.TheVariants.{NoNode, WrongKind, NameTaken, DocumentFull, TooDeep, NumbersSpent, NameMissing, NameUnasked, PathsSpent}
use Rattle.sx_tree.specs.declared.edit.Place.{Place}
use Rattle.sx_tree.specs.declared.edit.Place.TheVariants.{First, Last, Before, After}
use Rattle.sx_tree.specs.declared.json.Scalar.{Scalar}
use Rattle.sx_tree.specs.declared.record.Kind.TheVariants.{Key}
use Rattle.sx_tree.specs.Value.{Value, value_of, depth, nodes}
use Rattle.sx_tree.specs.Text.{IsText}
use Rattle.sx_model.specs.Limits.{KeepsLimits, ScalarKeepsLimits}
use Rattle.sx_model.specs.Numbered.{numbered, scalar_node}
use Rattle.sx_model.specs.Paths.{paths_in, with_paths}
use Rattle.sx_model.specs.State.{State}
use Rattle.sx_model.specs.Tree.{Node, Forest, no_trees, tree_then, beside, tops, is_document, is_object, is_key, is_scalar, is_value, levels, Spot, spot, change_at}

pub data Edit : Type 0 where
  -- the value takes the place of the Document's child, or becomes its child
  load : Value → Edit
  -- the value comes to the place, in an Object below a new Key of the name
  insert : Place → Option (List ℕ) → Value → Edit
  -- a scalar node keeps its number and has this scalar
  set_scalar : ℕ → Scalar → Edit
  -- the value takes the place of the node with all below it
  replace : ℕ → Value → Edit
  -- a Key has this name
  rename : ℕ → List ℕ → Edit
  -- the node goes with all below it
  remove : ℕ → Edit

-- the edit that a plain one is
abbrev pub edit_of : plain.Edit → Edit
edit_of (plains.Load value) = load (value_of value)
edit_of (plains.Insert place name value) = insert place name (value_of value)
edit_of (plains.SetScalar k s) = set_scalar k s
edit_of (plains.Replace k value) = replace k (value_of value)
edit_of (plains.Rename k name) = rename k name
edit_of (plains.Remove k) = remove k

-- node numbers are below this one
abbrev pub number_limit : ℕ
number_limit = 2 ^ 30

-- there are at most so many paths
abbrev pub path_limit : ℕ
path_limit = 2 ^ 30 - 1

-- at most so many arrays and objects nest
abbrev pub nesting_limit : ℕ
nesting_limit = 256

-- ---- refusals

abbrev pub when : Bool → EditRefusal → Option EditRefusal
when true refusal = Some refusal
when false refusal = None

-- the state, unless one of the refusals stands: then the first that does
abbrev pub unless : List (Option EditRefusal) → State → Result State EditRefusal
unless [] state = Ok state
unless (None ∷ refusals) state = unless refusals state
unless (Some refusal ∷ refusals) state = Err refusal

abbrev pub wrong_kind : Bool → Node → Option EditRefusal
wrong_kind holds n = when holds (WrongKind n.number n.kind)

-- a Key among these nodes has the name
abbrev pub name_taken : List ℕ → List Node → Option EditRefusal
name_taken name ns = option_map (λ n. NameTaken n.number) (find (λ n. is_key n.kind && bytes_eq n.label name) ns)

-- the Document, as the parent of what comes, has a child
abbrev pub document_full : Node → List Node → Option EditRefusal
document_full parent [] = None
document_full parent (n ∷ ns) = when (is_document parent.kind) (DocumentFull parent.number)

-- the arrays and objects among these nodes, and those of the value below them, nest too deep
abbrev pub too_deep : List Node → Value → Option EditRefusal
too_deep above value =
    let around = sum_by (λ n. levels n.kind) above in
    when (nat_lt nesting_limit (around + depth value)) (TooDeep (min (around + depth value) (2 ^ 32 - 1)))

-- so many new nodes need numbers past the last one
abbrev pub numbers_spent : State → ℕ → Option EditRefusal
numbers_spent state more = when (nat_lt number_limit (state.next + more)) (NumbersSpent state.next)

-- the new state has more paths than there may be
abbrev pub paths_spent : State → State → Option EditRefusal
paths_spent old new = when (nat_lt path_limit (length new.paths)) (PathsSpent (length old.paths))

-- ---- where a new value comes

-- the node that a place names
abbrev pub named_by : Place → ℕ
named_by (First k) = k
named_by (Last k) = k
named_by (Before k) = k
named_by (After k) = k

-- the parent of what comes to a place, its children now, and the nodes above it, the nearest first
pub record Target : Type 0 where
  pub parent : Node
  pub children : Forest
  pub above : List Node

-- below a Key, and below a scalar, there is no place
abbrev pub target_below : Spot → Option Target
target_below s =
    if is_key s.node.kind then None else
    if is_scalar s.node.kind then None else
    Some (record { parent = s.node; children = s.below; above = s.above })

-- beside the Document, and beside a Key's value, there is no place
abbrev pub target_beside : List Node → Forest → Option Target
target_beside [] siblings = None
target_beside (parent ∷ above) siblings =
    if is_key parent.kind then None else Some (record { parent = parent; children = siblings; above = above })

abbrev pub target : Place → Spot → Option Target
target (First k) s = target_below s
target (Last k) s = target_below s
target (Before k) s = target_beside s.above s.siblings
target (After k) s = target_beside s.above s.siblings

-- the trees of a value, with numbers from this one on, and these to their right: under a name they stand below a Key
abbrev pub entering : Option (List ℕ) → Value → ℕ → Forest → Forest
entering None value next rest = numbered value next rest
entering (Some name) value next rest =
    tree_then (record { number = next; kind = Key; label = name }) (numbered value (next + 1) no_trees) rest

-- the trees with what enters at the place
abbrev pub inserted : Place → (Forest → Forest) → Forest → Forest
inserted (First k) enter trees = change_at k (λ n below rest. tree_then n (enter below) rest) trees
inserted (Last k) enter trees = change_at k (λ n below rest. tree_then n (beside below (enter no_trees)) rest) trees
inserted (Before k) enter trees = change_at k (λ n below rest. enter (tree_then n below rest)) trees
inserted (After k) enter trees = change_at k (λ n below rest. tree_then n below (enter rest)) trees

-- ---- each edit

-- the state with these trees, where so many nodes are new
abbrev pub with_trees : State → ℕ → Forest → State
with_trees state more trees = record { trees = trees; next = state.next + more; paths = with_paths state.paths (paths_in trees) }

-- what is made of the place where a node stands, if it is there
abbrev pub if_there : ℕ → (Spot → Result State EditRefusal) → Option Spot → Result State EditRefusal
if_there k make None = Err (NoNode k)
if_there k make (Some s) = make s

-- what is made of a place's parent, if the place is one
abbrev pub if_place : Node → (Target → Result State EditRefusal) → Option Target → Result State EditRefusal
if_place n make None = Err (WrongKind n.number n.kind)
if_place n make (Some into) = make into

-- an Object has a Key for each value, and only an Object has
abbrev pub insert_below : Place → Option (List ℕ) → Value → State → Target → Result State EditRefusal
insert_below place name value state into =
    let in_object = is_object into.parent.kind in
    let more = if in_object then 1 + nodes value else nodes value in
    let new = with_trees state more (inserted place (entering name value state.next) state.trees) in
    unless (
    option_and_then (λ asked. name_taken asked (tops into.children)) name
    ∷ document_full into.parent (tops into.children)
    ∷ too_deep (into.parent ∷ into.above) value
    ∷ numbers_spent state more
    ∷ when (in_object && is_none name) NameMissing
    ∷ when (not in_object && is_some name) NameUnasked
    ∷ paths_spent state new
    ∷ []
    ) new

abbrev pub insert_at : Place → Option (List ℕ) → Value → State → Result State EditRefusal
insert_at place name value state =
    if_there (named_by place) (λ s. if_place s.node (insert_below place name value state) (target place s)) (spot (named_by place) state.trees)

abbrev pub set_scalar_at : ℕ → Scalar → State → Result State EditRefusal
set_scalar_at k scalar state =
    let new = with_trees state 0 (change_at k (λ n below rest. tree_then (scalar_node k scalar) below rest) state.trees) in
    if_there k (λ s. unless (wrong_kind (not (is_scalar s.node.kind)) s.node ∷ paths_spent state new ∷ []) new) (spot k state.trees)

abbrev pub replace_at : ℕ → Value → State → Result State EditRefusal
replace_at k value state =
    let new = with_trees state (nodes value) (change_at k (λ n below rest. numbered value state.next rest) state.trees) in
    if_there k (λ s. unless (
    wrong_kind (not (is_value s.node.kind)) s.node
    ∷ too_deep s.above value
    ∷ numbers_spent state (nodes value)
    ∷ paths_spent state new
    ∷ []
    ) new) (spot k state.trees)

-- the siblings of a Key, without it
abbrev pub other_keys : Spot → List Node
other_keys s = filter (λ n. not (n.number == s.node.number)) (tops s.siblings)

abbrev pub rename_at : ℕ → List ℕ → State → Result State EditRefusal
rename_at k name state =
    let new = with_trees state 0 (change_at k (λ n below rest. tree_then (record n { label = name }) below rest) state.trees) in
    if_there k (λ s. unless (
    wrong_kind (not (is_key s.node.kind)) s.node
    ∷ name_taken name (other_keys s)
    ∷ paths_spent state new
    ∷ []
    ) new) (spot k state.trees)

-- whether a node is the Document or a Key's value, from the nodes above it
abbrev pub must_stay : List Node → Bool
must_stay [] = true
must_stay (parent ∷ above) = is_key parent.kind

abbrev pub remove_at : ℕ → State → Result State EditRefusal
remove_at k state =
    let new = with_trees state 0 (change_at k (λ n below rest. rest) state.trees) in
    if_there k (λ s. unless (wrong_kind (must_stay s.above) s.node ∷ paths_spent state new ∷ []) new) (spot k state.trees)

-- the Document's child, where it has one
abbrev pub child_of : Forest → Option Node
child_of no_trees = None
child_of (tree_then document no_trees rest) = None
child_of (tree_then document (tree_then n below more) rest) = Some n

-- A load replaces the Document's child, or inserts where there is none.
abbrev pub load_over : Option Node → Value → State → Result State EditRefusal
load_over None value state = insert_at (Last 0) None value state
load_over (Some child) value state = replace_at child.number value state

-- the state that an edit leaves, or its refusal
abbrev pub apply : Edit → State → Result State EditRefusal
apply (load value) state = load_over (child_of state.trees) value state
apply (insert place name value) state = insert_at place name value state
apply (set_scalar k scalar) state = set_scalar_at k scalar state
apply (replace k value) state = replace_at k value state
apply (rename k name) state = rename_at k name state
apply (remove k) state = remove_at k state

-- the state after an edit, where a refused one changes nothing
abbrev pub edited : Edit → State → State
edited edit state = result_unwrap_or (apply edit state) state

-- the state after these edits, the first of them first
abbrev pub after : List Edit → State → State
after [] state = state
after (edit ∷ edits) state = after edits (edited edit state)

-- the first new number, where the edit makes nodes
abbrev pub first_new : Edit → State → Option ℕ
first_new (load value) state = Some state.next
first_new (insert place name value) state = Some state.next
first_new (set_scalar k scalar) state = None
first_new (replace k value) state = Some state.next
first_new (rename k name) state = None
first_new (remove k) state = None

-- what is told of an accepted edit of the old state, which left the new one
abbrev pub told_of : Edit → State → State → Edited
told_of edit old new = record { first = first_new edit old; next = new.next }

-- ---- edits within the limits

abbrev pub IsName : Option (List ℕ) → Type 0
IsName None = Unit {0}
IsName (Some name) = IsText name

-- its values and names are within the limits
abbrev pub IsEdit : Edit → Type 0
IsEdit (load value) = KeepsLimits value
IsEdit (insert place name value) = IsName name × KeepsLimits value
IsEdit (set_scalar k scalar) = ScalarKeepsLimits scalar
IsEdit (replace k value) = KeepsLimits value
IsEdit (rename k name) = IsText name
IsEdit (remove k) = Unit {0}

-- each of the edits is one, and is accepted in turn
abbrev pub AreAccepted : List Edit → State → Type 0
AreAccepted [] state = Unit {0}
AreAccepted (edit ∷ edits) state = IsEdit edit × IsOk (apply edit state) × AreAccepted edits (edited edit state)

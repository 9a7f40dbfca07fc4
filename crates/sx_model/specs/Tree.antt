-- Trees of numbered nodes.
use Rattle.std.specs.Prelude.{ℕ, suc, ◌≡◌, ◌+◌, ◌≤◌, max, ◌==◌, Bool, false, true, IsTrue, if◌then◌else◌, List, [], ◌∷◌, ◌++◌, map, length, slice_get, bytes_eq, Option, None, Some}
use Rattle.std.specs.Option.{option_or}
use Rattle.std.specs.List.{list_any}
use Rattle.sx_tree.specs.declared.record.Kind.{Kind}
use Rattle.sx_tree.specs.declared.record.Kind.TheVariants.{Document, Object, Array, Key, Str, Number, Bool as Truth, Null}
use Rattle.sx_tree.specs.Record.{IsLabel}
use Rattle.sx_tree.specs.Text.{IsText}

pub record Node : Type 0 where
  pub number : ℕ
  pub kind : Kind
  -- a Key's name, a string's content, a number's literal, 0 or 1 for a boolean; else empty
  pub label : List ℕ

-- Trees side by side: the first one's node, the trees below it, and the trees to its right.
pub data Forest : Type 0 where
  no_trees : Forest
  tree_then : Node → Forest → Forest → Forest

-- ---- lists of nodes

-- the numbers of the nodes in preorder
abbrev pub numbers : Forest → List ℕ
numbers no_trees = []
numbers (tree_then n below rest) = n.number ∷ (numbers below ++ numbers rest)

-- how many nodes there are
abbrev pub size : Forest → ℕ
size no_trees = 0
size (tree_then n below rest) = suc (size below) + size rest

-- the top of each tree
abbrev pub tops : Forest → List Node
tops no_trees = []
tops (tree_then n below rest) = n ∷ tops rest

-- how many trees stand side by side
abbrev pub count : Forest → ℕ
count no_trees = 0
count (tree_then n below rest) = 1 + count rest

-- two lists of trees side by side
abbrev pub beside : Forest → Forest → Forest
beside no_trees more = more
beside (tree_then n below rest) more = tree_then n below (beside rest more)

-- ---- kinds

abbrev pub is_document : Kind → Bool
is_document Document = true
is_document Object = false
is_document Array = false
is_document Key = false
is_document Str = false
is_document Number = false
is_document Truth = false
is_document Null = false

abbrev pub is_object : Kind → Bool
is_object Document = false
is_object Object = true
is_object Array = false
is_object Key = false
is_object Str = false
is_object Number = false
is_object Truth = false
is_object Null = false

abbrev pub is_array : Kind → Bool
is_array Document = false
is_array Object = false
is_array Array = true
is_array Key = false
is_array Str = false
is_array Number = false
is_array Truth = false
is_array Null = false

abbrev pub is_key : Kind → Bool
is_key Document = false
is_key Object = false
is_key Array = false
is_key Key = true
is_key Str = false
is_key Number = false
is_key Truth = false
is_key Null = false

abbrev pub is_string : Kind → Bool
is_string Document = false
is_string Object = false
is_string Array = false
is_string Key = false
is_string Str = true
is_string Number = false
is_string Truth = false
is_string Null = false

abbrev pub is_null : Kind → Bool
is_null Document = false
is_null Object = false
is_null Array = false
is_null Key = false
is_null Str = false
is_null Number = false
is_null Truth = false
is_null Null = true

abbrev pub is_scalar : Kind → Bool
is_scalar Document = false
is_scalar Object = false
is_scalar Array = false
is_scalar Key = false
is_scalar Str = true
is_scalar Number = true
is_scalar Truth = true
is_scalar Null = true

-- an array or an object is one level of nesting
abbrev pub levels : Kind → ℕ
levels Document = 0
levels Object = 1
levels Array = 1
levels Key = 0
levels Str = 0
levels Number = 0
levels Truth = 0
levels Null = 0

-- neither the Document nor a Key
abbrev pub is_value : Kind → Bool
is_value Document = false
is_value Object = true
is_value Array = true
is_value Key = false
is_value Str = true
is_value Number = true
is_value Truth = true
is_value Null = true

-- ---- well-formed trees

-- whether a node of a kind may be a child of one of another kind: Keys below an Object, value nodes below the Document, an
-- Array and a Key, and none below a scalar
abbrev pub may_stand_below : Kind → Kind → Bool
may_stand_below Document child = is_value child
may_stand_below Object child = is_key child
may_stand_below Array child = is_value child
may_stand_below Key child = is_value child
may_stand_below Str child = false
may_stand_below Number child = false
may_stand_below Truth child = false
may_stand_below Null child = false

-- the same, where only the Document may stand at the top
abbrev pub may_stand : Option Kind → Kind → Bool
may_stand None child = is_document child
may_stand (Some above) child = may_stand_below above child

-- no two of them are the same
abbrev pub AreApart : {X : Type 0} → (X → X → Bool) → List X → Type 0
AreApart same [] = Unit {0}
AreApart same (x ∷ xs) = (list_any (same x) xs ≡ false) × AreApart same xs

-- How many children there are, where that is not free: one Document at the top, at most one child of the Document, one of a Key.
-- An Object's Keys have distinct names.
abbrev pub HasChildren : Option Kind → List Node → Type 0
HasChildren None ns = length ns ≡ 1
HasChildren (Some Document) ns = length ns ≤ 1
HasChildren (Some Object) ns = AreApart bytes_eq (map (λ n. n.label) ns)
HasChildren (Some Array) ns = Unit {0}
HasChildren (Some Key) ns = length ns ≡ 1
HasChildren (Some Str) ns = Unit {0}
HasChildren (Some Number) ns = Unit {0}
HasChildren (Some Truth) ns = Unit {0}
HasChildren (Some Null) ns = Unit {0}

-- the label is of the kind, and within the limits
abbrev pub IsLabelOf : Kind → List ℕ → Type 0
IsLabelOf Document label = IsLabel Document label
IsLabelOf Object label = IsLabel Object label
IsLabelOf Array label = IsLabel Array label
IsLabelOf Key label = IsText label
IsLabelOf Str label = IsText label
IsLabelOf Number label = IsLabel Number label
IsLabelOf Truth label = IsLabel Truth label
IsLabelOf Null label = IsLabel Null label

-- The trees, and all below them, may stand below a node of this kind, or at the top.
abbrev pub FitBelow : Option Kind → Forest → Type 0
FitBelow above no_trees = Unit {0}
FitBelow above (tree_then n below rest) =
    IsTrue (may_stand above n.kind) × IsLabelOf n.kind n.label × HasChildren (Some n.kind) (tops below) × FitBelow (Some n.kind) below × FitBelow above rest

-- no number stands twice
abbrev pub AreDistinctNumbers : List ℕ → Type 0
AreDistinctNumbers ks = AreApart (λ k m. k == m) ks

-- One Document stands at the top, whose number is 0, each node stands where it may, and no two have one number.
pub record IsWellFormed (trees : Forest) : Type 0 where
  pub one : HasChildren None (tops trees)
  pub fit : FitBelow None trees
  pub zero : slice_get (numbers trees) 0 ≡ Some 0
  pub distinct : AreDistinctNumbers (numbers trees)

abbrev pub document_node : Node
document_node = record { number = 0; kind = Document; label = [] }

-- the tree of a document, with these trees below the Document
abbrev pub document_with : Forest → Forest
document_with child = tree_then document_node child no_trees

-- how many arrays and objects stand one below the other, at most
abbrev pub nesting : Forest → ℕ
nesting no_trees = 0
nesting (tree_then n below rest) = max (levels n.kind + nesting below) (nesting rest)

-- ---- one node in its trees

-- a node, what is below it, the nodes above it, the nearest first, and all children of the nearest, which it is one of
pub record Spot : Type 0 where
  pub above : List Node
  pub siblings : Forest
  pub node : Node
  pub below : Forest

-- where the node of this number stands in the last of these trees: all their siblings are given, and the nodes above them
abbrev pub spot_in : ℕ → List Node → Forest → Forest → Option Spot
spot_in k above siblings no_trees = None
spot_in k above siblings (tree_then n below rest) =
    if k == n.number then Some (record { above = above; siblings = siblings; node = n; below = below })
    else option_or (spot_in k (n ∷ above) below below) (spot_in k above siblings rest)

-- where it stands in all trees, if it is there
abbrev pub spot : ℕ → Forest → Option Spot
spot k trees = spot_in k [] trees trees

-- The trees changed at the node of this number: from it on to the right they are what the change makes of the node, the trees
-- below it and the trees to its right.
abbrev pub change_at : ℕ → (Node → Forest → Forest → Forest) → Forest → Forest
change_at k change no_trees = no_trees
change_at k change (tree_then n below rest) =
    if k == n.number then change n below rest else tree_then n (change_at k change below) (change_at k change rest)

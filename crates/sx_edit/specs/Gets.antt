-- How many gets of records an accepted edit makes at most: in proportion to the nodes above, the siblings and the nodes that go.
use Rattle.std.specs.Prelude.{◌≡◌, ◌≤◌, ◌+◌, ℕ, List, [], ◌∷◌, ◌++◌, length, Option, None, Some, if◌then◌else◌}
use Rattle.sx_tree.specs.declared.edit.Place.{Place}
use Rattle.sx_tree.specs.declared.edit.Place.TheVariants.{First, Last, Before, After}
use Rattle.sx_tree.specs.declared.record.Kind.{Kind}
use Rattle.sx_tree.specs.declared.record.NodeRecord.{NodeRecord}
use Rattle.sx_tree.specs.declared.record.Step.{Step}
use Rattle.sx_view.specs.Records.{RecordMap}
use Rattle.sx_model.specs.Edit.{Edit, load, insert, set_scalar, replace, rename, remove}
use Rattle.sx_model.specs.Holes.{Frame}
use Rattle.sx_model.specs.Records.{NodeRow, Around, first_of, rows}
use Rattle.sx_model.specs.State.{State}
use Rattle.sx_model.specs.Tree.{Node, Forest, Spot, count, is_object, size, spot}
use Rattle.sx_edit.specs.declared.trees.Target.{Target}
use Rattle.sx_edit.specs.Answers.{AreOf}
use Rattle.sx_edit.specs.Room.{IsSite}
use Rattle.sx_edit.specs.Told.{Shows}

-- the Keys among the children of a node
abbrev pub keys_among : Kind → Forest → ℕ
keys_among kind children = if is_object kind then count children else 0

-- those beside a node below these
abbrev pub keys_beside : List Node → Forest → ℕ
keys_beside [] siblings = 0
keys_beside (parent ∷ above) siblings = keys_among parent.kind siblings

-- the node that a place names
abbrev pub node_of_place : Place → ℕ
node_of_place (First k) = k
node_of_place (Last k) = k
node_of_place (Before k) = k
node_of_place (After k) = k

-- for a value that comes to the place: the nodes above it, and the Keys of the Object
abbrev pub gets_at_place : Place → Spot → ℕ
gets_at_place (First k) q = 5 + (keys_among q.node.kind q.below + length q.above)
gets_at_place (Last k) q = 5 + (keys_among q.node.kind q.below + length q.above)
gets_at_place (Before k) q = 4 + (keys_beside q.above q.siblings + length q.above)
gets_at_place (After k) q = 4 + (keys_beside q.above q.siblings + length q.above)

-- for a tree that goes: the nodes above it, and its own
abbrev pub gets_of_tree : Spot → ℕ
gets_of_tree q = 4 + (length q.above + size q.below)

abbrev pub at_spot : (Spot → ℕ) → Option Spot → ℕ
at_spot gets None = 0
at_spot gets (Some q) = gets q

abbrev pub gets_most : Edit → State → ℕ
gets_most (load value) state = 6 + size state.trees
gets_most (insert place name value) state = at_spot (gets_at_place place) (spot (node_of_place place) state.trees)
gets_most (set_scalar k scalar) state = at_spot (λ q. 1 + length q.above) (spot k state.trees)
gets_most (replace k value) state = at_spot gets_of_tree (spot k state.trees)
gets_most (rename k name) state = at_spot (λ q. 2 + (count q.siblings + (length q.above + size q.below))) (spot k state.trees)
gets_most (remove k) state = at_spot gets_of_tree (spot k state.trees)

-- Over the records of a state no more gets were made than that.
unfoldable pub GetsAtMost : Edit → ℕ → Option (RecordMap NodeRecord) → ℕ → ℕ → Type 0
GetsAtMost edit next before old new = (state : State) → AreOf state next before → new ≤ old + gets_most edit state

-- ---- the steps

-- each of the trees that begin with this one was got at most, where they are so many
unfoldable pub GetsKeys : Option ℕ → ℕ → Option (RecordMap NodeRecord) → ℕ → ℕ → Type 0
GetsKeys first limit o old new =
    (local : Kind → List ℕ → ℕ) (number : List Step → ℕ) (around : Around) (trees : Forest) (xs ys : List (ℕ × NodeRow))
    → first_of trees ≡ first → around.right ≡ None → count trees ≤ limit → Shows o (xs ++ (rows local number around trees ++ ys)) → new ≤ old + count trees

-- each Key of the target was got at most
unfoldable pub GetsChildren : ℕ → Target → Option (RecordMap NodeRecord) → ℕ → ℕ → Type 0
GetsChildren next target o old new =
    (frames : List Frame) (frame : Frame) (inside : Forest) → IsSite target.gap.parent next o frames frame inside
    → target.kind ≡ frame.node.kind → target.first ≡ first_of inside → new ≤ old + keys_among frame.node.kind inside

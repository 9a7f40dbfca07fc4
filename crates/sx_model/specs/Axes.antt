-- The axes of a node: the nodes that stand in one relation to it, each a filter of the nodes in preorder.
use Rattle.std.specs.Prelude.{ℕ, ◌==◌, Bool, true, false, not, if◌then◌else◌, List, [], ◌∷◌, ◌++◌, map, reverse, filter, Option, Some, None}
use Rattle.std.specs.List.{list_any}
use Rattle.sx_tree.specs.declared.query.Axis.{Axis}
use Rattle.sx_tree.specs.declared.query.Axis.TheVariants.{Child, Descendant, Ancestor, Following, Preceding, FollowingSibling, PrecedingSibling}
use Rattle.sx_model.specs.Tree.{Node, Forest, no_trees, tree_then}

-- a node, and those above it, the nearest first
pub record Stand : Type 0 where
  pub node : Node
  pub above : List Node

-- the nodes in preorder, where these are above the trees
abbrev pub stands_below : List Node → Forest → List Stand
stands_below above no_trees = []
stands_below above (tree_then n below rest) =
    record { node = n; above = above } ∷ (stands_below (n ∷ above) below ++ stands_below above rest)

-- the nodes of a document in preorder
abbrev pub stands : Forest → List Stand
stands trees = stands_below [] trees

-- a node of this number is among them
abbrev pub among : List Node → ℕ → Bool
among ns k = list_any (λ n. k == n.number) ns

-- the two have the same parent, or none
abbrev pub same_parent : List Node → List Node → Bool
same_parent [] [] = true
same_parent [] (m ∷ ms) = false
same_parent (n ∷ ns) [] = false
same_parent (n ∷ ns) (m ∷ ms) = n.number == m.number

-- the parent has this number
abbrev pub is_child_of : ℕ → List Node → Bool
is_child_of k [] = false
is_child_of k (n ∷ ns) = k == n.number

-- Of the nodes before and behind a node in preorder, those on its axis. Following leaves out the descendants, and Preceding the
-- ancestors. The axes that go back have the nearest first.
abbrev pub on_axis : Axis → List Stand → Stand → List Stand → List Stand
on_axis Child before s behind = filter (λ m. is_child_of s.node.number m.above) behind
on_axis Descendant before s behind = filter (λ m. among m.above s.node.number) behind
on_axis Ancestor before s behind = reverse (filter (λ m. among s.above m.node.number) before)
on_axis Following before s behind = filter (λ m. not (among m.above s.node.number)) behind
on_axis Preceding before s behind = reverse (filter (λ m. not (among s.above m.node.number)) before)
on_axis FollowingSibling before s behind = filter (λ m. same_parent s.above m.above) behind
on_axis PrecedingSibling before s behind = reverse (filter (λ m. same_parent s.above m.above) before)

abbrev pub numbers_of : List Stand → List ℕ
numbers_of ss = map (λ s. s.node.number) ss

-- the axis of the node of this number, where these nodes come before the others
abbrev pub axis_from : Axis → ℕ → List Stand → List Stand → Option (List ℕ)
axis_from a k before [] = None
axis_from a k before (s ∷ behind) =
    if k == s.node.number then Some (numbers_of (on_axis a before s behind)) else axis_from a k (before ++ s ∷ []) behind

-- the numbers on an axis of a node, where it is in the document
abbrev pub axis : Axis → ℕ → Forest → Option (List ℕ)
axis a k trees = axis_from a k [] (stands trees)

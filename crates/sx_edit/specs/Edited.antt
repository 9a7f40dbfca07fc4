-- What another label of a node leaves of records.
use Rattle.std.specs.Prelude.{◌≡◌, ℕ, List, ◌∷◌, ◌++◌, Option}
use Rattle.sx_tree.specs.declared.record.Kind.{Kind}
use Rattle.sx_tree.specs.declared.record.Step.{Step}
use Rattle.sx_tree.specs.declared.record.NodeRecord.{NodeRecord}
use Rattle.sx_view.specs.Records.{RecordMap}
use Rattle.sx_model.specs.Hash.{local_hash}
use Rattle.sx_model.specs.Tree.{Node, Forest, tree_then, beside}
use Rattle.sx_model.specs.Records.{NodeRow, at_top, rows}
use Rattle.sx_model.specs.Holes.{Frame, Shown, plug, shown}
use Rattle.sx_edit.specs.Holes.{before_own, behind_own, own_row, rows_above}
use Rattle.sx_edit.specs.Told.{Shows}

-- the rows of a document, by the numbers of its paths
abbrev pub rows_in : (List Step → ℕ) → Forest → List (ℕ × NodeRow)
rows_in number trees = rows local_hash number at_top trees

-- where a node stands: in a hole, between trees, above others
pub record Standing : Type 0 where
  pub frames : List Frame
  pub before : Forest
  pub node : Node
  pub below : Forest
  pub behind : Forest

abbrev pub trees_around : Standing → Forest
trees_around at = plug at.frames (beside at.before (tree_then at.node at.below at.behind))

-- the same place with a node of this kind and label
abbrev pub labeled : Standing → Kind → List ℕ → Standing
labeled at kind label = record at { node = record { number = at.node.number; kind = kind; label = label } }

-- the rows of all trees, where the node's path has this number, and these are the rows of what is below it
abbrev pub rows_with : (List Step → ℕ) → Standing → ℕ → List (ℕ × NodeRow) → List (ℕ × NodeRow)
rows_with number at path inner =
    let a : Shown = shown local_hash (beside at.before (tree_then at.node at.below at.behind)) in
    before_own local_hash number at.frames a at.before at.node.number
    ++ (at.node.number, record (own_row local_hash number at.frames at.before at.node at.below at.behind) { path = path })
    ∷ (inner ++ behind_own local_hash number at.frames a at.node.number at.behind)

-- The records showed trees with the node, and these rows above it, and they now show them where it has this kind and label, and the
-- number of this path, whatever rows are below it.
unfoldable pub IsRelabeled : ℕ → Kind → List ℕ → ℕ → List (ℕ × NodeRow) → Option (RecordMap NodeRecord) → Option (RecordMap NodeRecord) → Type 0
IsRelabeled k kind label path above before after =
    (number : List Step → ℕ) (at : Standing) (was : ℕ) (inner : List (ℕ × NodeRow)) → at.node.number ≡ k
    → rows_above local_hash number at.frames (shown local_hash (beside at.before (tree_then at.node at.below at.behind))) ≡ above
    → Shows before (rows_with number at was inner) → Shows after (rows_with number (labeled at kind label) path inner)

-- A value that comes into a gap among siblings.
use Rattle.std.specs.Prelude.{◌≡◌, ℕ, ◌+◌, ◌<◌, ◌≤◌, ◌^◌, List, ◌∷◌, Option, None, Some}
use Rattle.sx_tree.specs.declared.record.Step.{Step}
use Rattle.sx_tree.specs.declared.record.Kind.TheVariants.{Key}
use Rattle.sx_tree.specs.Value.{Value, nodes}
use Rattle.sx_tree.specs.declared.record.NodeRecord.{NodeRecord}
use Rattle.sx_view.specs.Records.{RecordMap}
use Rattle.sx_model.specs.Hash.{local_hash}
use Rattle.sx_model.specs.Edit.{entering}
use Rattle.sx_model.specs.Holes.{Frame, around_hole, plug, shown}
use Rattle.sx_model.specs.Numbered.{numbered}
use Rattle.sx_model.specs.Paths.{path_of, with_paths}
use Rattle.sx_model.specs.Records.{NodeRow, first_of, last_of}
use Rattle.sx_model.specs.Sound.{AreBelow}
use Rattle.sx_model.specs.Tree.{Node, Forest, no_trees, beside, size}
use Rattle.sx_edit.specs.declared.trees.Gap.{Gap}
use Rattle.sx_edit.specs.declared.trees.Tree.{Tree}
use Rattle.sx_edit.specs.declared.fault.EditFault.{EditFault}
use Rattle.sx_edit.specs.Edited.{rows_in}
use Rattle.sx_edit.specs.Grow.{child_rows, top_of, trees_below, value_paths}
use Rattle.sx_edit.specs.Mend.{IsAround, opened, shown_tree}
use Rattle.sx_edit.specs.declared.trees.Rim.{Rim}
use Rattle.sx_edit.specs.Pathways.{IsPathAt, Kept, Lists, Numbers, Stops, more_on}
use Rattle.sx_edit.specs.Told.{Shows, numbers_of}

-- the node at the top of what enters, and the trees below it: under a name it is a Key
abbrev pub entering_top : Option (List ℕ) → Value → ℕ → Node
entering_top None value next = top_of value next
entering_top (Some name) value next = record { number = next; kind = Key; label = name }

abbrev pub entering_below : Option (List ℕ) → Value → ℕ → Forest
entering_below None value next = trees_below value next
entering_below (Some name) value next = numbered value (next + 1) no_trees

-- how many nodes enter
abbrev pub entering_nodes : Option (List ℕ) → Value → ℕ
entering_nodes None value = nodes value
entering_nodes (Some name) value = 1 + nodes value

-- the paths of all values that enter, from the path of the value
abbrev pub entering_paths : Option (List ℕ) → Value → ℕ → List Step → List (List Step)
entering_paths None value next steps = value_paths value next steps
entering_paths (Some name) value next steps = value_paths value (next + 1) steps

-- the rows of what is below the top of what enters
abbrev pub entering_rows : Option (List ℕ) → Value → ℕ → (List Step → ℕ) → List Step → List (ℕ × NodeRow)
entering_rows name value next number steps = child_rows number (entering_top name value next) steps None (entering_below name value next)

-- a gap among siblings: what stands around it, and the old trees in it
pub record Opening : Type 0 where
  pub frames : List Frame
  pub frame : Frame
  pub left : Forest
  pub olds : Forest
  pub right : Forest

-- what enters: a value, under a name or not, on the path of this number; and how many paths there were before the edit
pub record Entering : Type 0 where
  pub name : Option (List ℕ)
  pub value : Value
  pub path : ℕ
  pub had : ℕ

abbrev pub enters : Option (List ℕ) → Value → ℕ → ℕ → Entering
enters name value path had = record { name = name; value = value; path = path; had = had }

-- the gap, with the old trees that stood in it, among at most so many nodes, whose numbers are below the next one
pub record IsGap (next : ℕ) (gap : Gap) (old : Option Tree) (at : Opening) : Type 0 where
  pub parent : at.frame.node.number ≡ gap.parent
  pub left : last_of at.left ≡ gap.left
  pub right : first_of at.right ≡ gap.right
  pub old_is : shown local_hash at.olds ≡ shown_tree old
  pub few : size (plug (at.frame ∷ at.frames) (beside at.left (beside at.olds at.right))) ≤ next

-- the rows of all trees without those of the old ones
abbrev pub left_open : (List Step → ℕ) → Opening → List (ℕ × NodeRow)
left_open number at = opened local_hash number at.frames at.frame at.left at.olds no_trees at.right

-- the gap is open, and this was read around it
pub record IsOpen (number : List Step → ℕ) (rim : Rim) (at : Opening) (o : Option (RecordMap NodeRecord)) : Type 0 where
  pub around : IsAround local_hash number at.frames at.frame at.left at.olds at.right rim
  pub shows : Shows o (left_open number at)

-- what enters stands on the path of this number, and its value too
abbrev pub StandsOn : Opening → Option (List ℕ) → Value → ℕ → List Step → Type 0
StandsOn at name value next steps = path_of (Some at.frame.node) (around_hole (at.frame ∷ at.frames)).path (entering_top name value next).label ≡ steps

-- The gap, where the old trees' rows are gone, has the trees of what enters, and all around it is as it must be. The paths of what
-- entered were counted, and listed where they were not. Where nothing is told afterwards, there were no such trees.
unfoldable pub IsFilled : ℕ → Gap → Rim → Option Tree → Entering → Kept → Kept → Type 0
IsFilled next gap rim old new before after =
    (at : Opening) (listed : List (List Step)) (count : List Step → ℕ) (steps : List Step) → IsGap next gap old at
    → Lists before.table listed count → IsPathAt listed steps new.path → StandsOn at new.name new.value next steps
    → Lists after.table (with_paths listed (entering_paths new.name new.value next steps)) (more_on (entering_paths new.name new.value next steps) count)
    × ((number : List Step → ℕ) → Numbers number (with_paths listed (entering_paths new.name new.value next steps))
    → AreBelow next (numbers_of (left_open number at)) → IsOpen number rim at before.told
    → Shows after.told (rows_in number (plug (at.frame ∷ at.frames) (beside at.left (beside (entering new.name new.value next no_trees) at.right)))))

-- Where the counts have room for what enters, this stops for want of room for paths, by a failure or for want of memory alone.
unfoldable pub StopsFilling : ℕ → Gap → Rim → Option Tree → Entering → Kept → EditFault → Type 0
StopsFilling next gap rim old new before fault =
    (at : Opening) (listed : List (List Step)) (count : List Step → ℕ) (steps : List Step) → IsGap next gap old at
    → Lists before.table listed count → IsPathAt listed steps new.path → StandsOn at new.name new.value next steps
    → ((other : List Step) → count other + nodes new.value < 2 ^ 32)
    → ((number : List Step → ℕ) → Numbers number listed → AreBelow next (numbers_of (left_open number at)) × IsOpen number rim at before.told)
    → Stops new.had listed (entering_paths new.name new.value next steps) fault

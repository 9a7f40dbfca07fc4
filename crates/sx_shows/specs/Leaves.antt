-- The leaves of a document: node k stands in leaf k / 64, slot k % 64, and so does path k.
use Rattle.std.specs.Prelude.{ℕ, ◌≡◌, ◌+◌, ◌*◌, ◌≤◌, ◌<◌, List, length, Option}
use Rattle.std.specs.Option.{option_or}
use Rattle.sx_model.specs.Commit.{Commit, state_of}
use Rattle.sx_model.specs.Records.{NodeRow, PathRow, entry, node}
use Rattle.sx_model.specs.State.{empty_document}
use Rattle.sx_shows.specs.Fragments.{Fragment, fragments, merged}
use Rattle.sx_shows.specs.Rows.{same_node, same_path_row}

-- the row that a leaf of these commits has at a revision in a slot
abbrev pub node_leaf : List Commit → ℕ → ℕ → ℕ → Option NodeRow
node_leaf commits l r s = node (state_of commits r) (64 * l + s)

abbrev pub path_leaf : List Commit → ℕ → ℕ → ℕ → Option PathRow
path_leaf commits l r s = entry (state_of commits r) (64 * l + s)

-- the fragments of a leaf at a revision, newest first, under a window
abbrev pub node_fragments : List Commit → ℕ → ℕ → ℕ → List (Fragment NodeRow)
node_fragments commits w l r = fragments same_node (node_leaf commits l) w r

abbrev pub path_fragments : List Commit → ℕ → ℕ → ℕ → List (Fragment PathRow)
path_fragments commits w l r = fragments same_path_row (path_leaf commits l) w r

-- The window law: each leaf of a revision is told by at most as many fragments as the window says. Where none has the record of the
-- Document, it is that of the empty document.
pub record NodesAreTold (commits : List Commit) (w l r : ℕ) : Type 0 where
  pub few : length (node_fragments commits w l r) ≤ w
  pub told : (s : ℕ) → s < 64 → option_or (merged (node_fragments commits w l r) s) (node empty_document (64 * l + s)) ≡ node_leaf commits l r s

pub record PathsAreTold (commits : List Commit) (w l r : ℕ) : Type 0 where
  pub few : length (path_fragments commits w l r) ≤ w
  pub told : (s : ℕ) → s < 64 → merged (path_fragments commits w l r) s ≡ path_leaf commits l r s

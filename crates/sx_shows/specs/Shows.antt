-- Which groups of frames show which commits.
use Rattle.std.specs.Prelude.{ℕ, zero, suc, ◌≡◌, ◌+◌, ◌-◌, ◌/◌, ◌≤◌, List, ◌++◌, length, map, filter, take}
use Rattle.std.specs.List.{AllByRecursion, range_with_len}
use Rattle.sx_frame.specs.Frame.{frame_bytes}
use Rattle.sx_frame.specs.declared.frame.Frame.{Frame}
use Rattle.sx_layout.specs.Birth.{Birth}
use Rattle.sx_layout.specs.FrameGroup.{FrameGroup, frames_after, group_limit, group_of_frames, group_size, joined}
use Rattle.sx_layout.specs.Rules.{log_limit}
use Rattle.sx_model.specs.Commit.{Commit, IsLegal, first_time, last_time, state_of}
use Rattle.sx_model.specs.Tree.{size}
use Rattle.sx_root.specs.declared.root.RevisionRoot.{RevisionRoot}
use Rattle.sx_shows.specs.Fragments.{touched}
use Rattle.sx_shows.specs.Leaves.{node_fragments, node_leaf, path_fragments, path_leaf}
use Rattle.sx_shows.specs.Pages.{kind_at, newest_body, node_spelling, page_body, path_spelling}
use Rattle.sx_shows.specs.Rows.{same_node, same_path_row}
use Rattle.sx_shows.specs.Seats.{Nodes, Paths, Seat, Side, all_seats, frames_up_to, references, root_reference, seat_below, top_seat}

-- how many leaves the numbers below this one have
abbrev pub leaf_count : ℕ → ℕ
leaf_count n = (n + 63) / 64

-- the leaves that a revision touches, ascending
abbrev pub node_leaves : List Commit → ℕ → List ℕ
node_leaves commits r = filter (λ l. touched same_node (node_leaf commits l) r) (range_with_len 0 (leaf_count (state_of commits r).next))

abbrev pub path_leaves : List Commit → ℕ → List ℕ
path_leaves commits r = filter (λ l. touched same_path_row (path_leaf commits l) r) (range_with_len 0 (leaf_count (length (state_of commits r).paths + 1)))

-- The seats for which a revision makes frames, in the order of the frames: of nodes and then of paths the fragments that are new, and
-- the pages whose references changed, level by level.
abbrev pub new_seats : List Commit → ℕ → List Seat
new_seats commits r = all_seats Nodes (node_leaves commits r) ++ all_seats Paths (path_leaves commits r)

-- ---- the frames of a revision, under a window

-- the body of a leaf's newest fragment
abbrev pub leaf_body : List Commit → ℕ → ℕ → Side → ℕ → List ℕ
leaf_body commits w r Nodes l = newest_body node_spelling l (node_fragments commits w l r)
leaf_body commits w r Paths l = newest_body path_spelling l (path_fragments commits w l r)

abbrev pub body_at : List Commit → ℕ → ℕ → Side → ℕ → ℕ → List ℕ
body_at commits w r side zero index = leaf_body commits w r side index
body_at commits w r side (suc level) index =
    page_body (suc level) index (λ s. references (new_seats commits) w r (seat_below side level index s))

abbrev pub frame_of : List Commit → ℕ → ℕ → Seat → Frame
frame_of commits w r seat = record { kind = kind_at seat.side seat.level; body = body_at commits w r seat.side seat.level seat.index }

-- the bytes of its frames
abbrev pub frames_of : List Commit → ℕ → ℕ → List (List ℕ)
frames_of commits w r = map (λ seat. frame_bytes (frame_of commits w r seat)) (new_seats commits r)

-- the reference to the top of a side's tree
abbrev pub root_of : List Commit → ℕ → ℕ → Side → ℕ
root_of commits w r side = root_reference (references (new_seats commits) w r (top_seat side))

-- the head of a revision whose frames have so many bytes together
abbrev pub head_of : List Commit → ℕ → ℕ → ℕ → RevisionRoot
head_of commits w r bytes = record {
  revision = r;
  time = last_time first_time (take r commits);
  first_frame = frames_up_to (new_seats commits) (r - 1);
  frames = length (new_seats commits r);
  node_root = root_of commits w r Nodes;
  path_root = root_of commits w r Paths;
  next = (state_of commits r).next;
  nodes = size (state_of commits r).trees;
  paths = length (state_of commits r).paths;
  body = bytes;
}

abbrev pub group_of : List Commit → ℕ → ℕ → FrameGroup
group_of commits w r = group_of_frames (head_of commits w r (length (joined (frames_of commits w r)))) (frames_of commits w r)

-- ---- the groups of commits

-- The commits are legal, and the groups are those of their revisions from 1 on, under the window of the birth.
pub record Shows (birth : Birth) (groups : List FrameGroup) (commits : List Commit) : Type 0 where
  pub legal : IsLegal commits
  pub groups_are : groups ≡ map (group_of commits birth.window) (range_with_len 1 (length commits))

-- The group is within the limits on revisions, frames and bytes.
pub record IsWithin (group : FrameGroup) : Type 0 where
  pub revisions : group.root.revision ≤ log_limit
  pub frames : frames_after group.root ≤ log_limit
  pub bytes : group_size group.root.frames group.root.body ≤ group_limit

abbrev pub AreWithin : List FrameGroup → Type 0
AreWithin groups = AllByRecursion IsWithin groups

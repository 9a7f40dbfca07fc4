-- What the pages lead to from the root of a revision.
use Rattle.std.specs.Prelude.{ℕ, zero, suc, ◌≡◌, ◌/◌, ◌%◌, ◌^◌, ◌<◌, ◌≤◌, List, [], ◌∷◌, ◌++◌, length, take, drop, slice_get, Some}
use Rattle.sx_frame.specs.Frame.{frame_bytes}
use Rattle.sx_frame.specs.declared.table.FrameRow.{FrameRow}
use Rattle.sx_layout.specs.FrameGroup.{FrameGroup, frames_after}
use Rattle.sx_model.specs.Commit.{Commit}
use Rattle.sx_shows.specs.Fragments.{Fragment}
use Rattle.sx_shows.specs.Leaves.{node_fragments, path_fragments}
use Rattle.sx_shows.specs.Pages.{fragment_body, kind_at, node_spelling, page_body, path_spelling}
use Rattle.sx_shows.specs.Seats.{Nodes, Paths, Seat, Side, most, top_level}

-- ---- frames by their numbers

-- the frames of a group, by the lengths in its table
abbrev pub cut : List FrameRow → List ℕ → List (List ℕ)
cut [] body = []
cut (row ∷ rows) body = take row.bytes body ∷ cut rows (drop row.bytes body)

-- the frames of all groups, in the order of their numbers
abbrev pub frames_in : List FrameGroup → List (List ℕ)
frames_in [] = []
frames_in (group ∷ groups) = cut group.table group.body ++ frames_in groups

-- what is read: frames by their numbers, the window, and how many frames there are up to the revision that is read
pub record FrameStore : Type 0 where
  pub frames : List (List ℕ)
  pub window : ℕ
  pub count : ℕ

-- the frame of this number is that of the seat, with this body
abbrev pub IsFrameAt : FrameStore → ℕ → Seat → List ℕ → Type 0
IsFrameAt store number seat body = slice_get store.frames number ≡ Some (frame_bytes (record { kind = kind_at seat.side seat.level; body = body }))

-- ---- the descent

-- numbers below a bound, each below the one before it
abbrev pub Descend : ℕ → List ℕ → Type 0
Descend bound [] = Unit {0}
Descend bound (n ∷ ns) = (n < bound) × Descend n ns

-- The references to a seat of this level, newest first: no more than are referred to, and each to an older frame than the one before it.
pub record AreReferences (store : FrameStore) (level : ℕ) (frames : List ℕ) : Type 0 where
  pub few : length frames ≤ most store.window level
  pub descend : Descend store.count frames

-- the index of the page of a level above a leaf
abbrev pub index_above : ℕ → ℕ → ℕ
index_above l zero = l
index_above l (suc level) = index_above l level / 64

abbrev pub seat_over : Side → ℕ → ℕ → Seat
seat_over side l level = record { side = side; level = level; index = index_above l level }

-- From the references to the seat over a leaf at a level, the pages lead to these references of the leaf. A page that is referred to is
-- the frame of its seat. A leaf that no reference leads to has none.
abbrev pub LeadTo : FrameStore → Side → ℕ → ℕ → List ℕ → List ℕ → Type 0
LeadTo store side l zero frames found = found ≡ frames
LeadTo store side l (suc level) [] found = found ≡ []
LeadTo store side l (suc level) (frame ∷ older) found =
    (row : ℕ → List ℕ)
    × IsFrameAt store frame (seat_over side l (suc level)) (page_body (suc level) (index_above l (suc level)) row)
    × ((s : ℕ) → s < 64 → AreReferences store level (row s))
    × LeadTo store side l level (row (index_above l level % 64)) found

-- the references to a root
abbrev pub referred : ℕ → List ℕ
referred zero = []
referred (suc frame) = frame ∷ []

-- the frames of these numbers are the fragments of a leaf
abbrev pub AreFragments : {Row : Type 0} → FrameStore → Seat → (Row → List ℕ) → List ℕ → List (Fragment Row) → Type 0
AreFragments store leaf spelling [] [] = Unit {0}
AreFragments store leaf spelling [] (f ∷ fs) = ⊥
AreFragments store leaf spelling (frame ∷ frames) [] = ⊥
AreFragments store leaf spelling (frame ∷ frames) (f ∷ fs) =
    IsFrameAt store frame leaf (fragment_body spelling leaf.index f) × AreFragments store leaf spelling frames fs

-- From a root reference the pages lead to the frames of a leaf's fragments, newest first.
pub record Leads {Row : Type 0} (store : FrameStore) (leaf : Seat) (spelling : Row → List ℕ) (root : ℕ) (fragments : List (Fragment Row)) : Type 0 where
  pub found : List ℕ
  pub root_is : AreReferences store top_level (referred root)
  pub lead : LeadTo store leaf.side leaf.index top_level (referred root) found
  pub references : AreReferences store 0 found
  pub are : AreFragments store leaf spelling found fragments

-- leaves have numbers below this one
abbrev pub leaf_limit : ℕ
leaf_limit = 2 ^ 24

-- what is read at the revision of a group
abbrev pub store_at : ℕ → List FrameGroup → FrameGroup → FrameStore
store_at w groups group = record { frames = frames_in groups; window = w; count = frames_after group.root }

-- In these groups each leaf of a revision is led to, of nodes and of paths.
pub record LeavesLead (w : ℕ) (groups : List FrameGroup) (commits : List Commit) (r : ℕ) (group : FrameGroup) : Type 0 where
  pub nodes : (l : ℕ) → l < leaf_limit
      → Leads (store_at w groups group) (record { side = Nodes; level = 0; index = l }) node_spelling group.root.node_root (node_fragments commits w l r)
  pub paths : (l : ℕ) → l < leaf_limit
      → Leads (store_at w groups group) (record { side = Paths; level = 0; index = l }) path_spelling group.root.path_root (path_fragments commits w l r)

-- Places in the trees of pages, and the numbers of the frames that are made for them.
use Rattle.std.specs.Prelude.{ℕ, zero, suc, ◌+◌, ◌*◌, ◌/◌, ◌==◌, ◌&&◌, Bool, true, false, if◌then◌else◌, List, [], ◌∷◌, ◌++◌, length, map, take}
use Rattle.std.specs.List.{list_any}

-- the tree of node fragments, and that of path fragments
pub data Side : Type 0 where
  Nodes : Side
  Paths : Side

-- A place in one of the trees. At level 0 stand the fragments, and the index is the leaf. A page of level L with index i stands above
-- those of level L - 1 with indices from 64 i to 64 i + 63.
pub record Seat : Type 0 where
  pub side : Side
  pub level : ℕ
  pub index : ℕ

abbrev pub same_side : Side → Side → Bool
same_side Nodes Nodes = true
same_side Nodes Paths = false
same_side Paths Nodes = false
same_side Paths Paths = true

abbrev pub same_seat : Seat → Seat → Bool
same_seat a b = same_side a.side b.side && a.level == b.level && a.index == b.index

-- the top of a side's tree
abbrev pub top_level : ℕ
top_level = 4

abbrev pub top_seat : Side → Seat
top_seat side = record { side = side; level = top_level; index = 0 }

-- the seat of a level that stands in a slot of the page above it with this index
abbrev pub seat_below : Side → ℕ → ℕ → ℕ → Seat
seat_below side level index s = record { side = side; level = level; index = 64 * index + s }

-- ---- the seats over leaves

-- the list without this number at its front
abbrev pub unless_first : ℕ → List ℕ → List ℕ
unless_first i [] = i ∷ []
unless_first i (j ∷ js) = if i == j then j ∷ js else i ∷ j ∷ js

-- the indices of the pages above those with these ascending indices, ascending, each once
abbrev pub up : List ℕ → List ℕ
up [] = []
up (i ∷ is) = unless_first (i / 64) (up is)

-- the seats with these indices of a level, then those above them, and so on for so many levels
abbrev pub seats_over : ℕ → Side → ℕ → List ℕ → List Seat
seats_over zero side level indices = []
seats_over (suc more) side level indices =
    map (λ i. record { side = side; level = level; index = i }) indices ++ seats_over more side (suc level) (up indices)

-- all seats over these leaves of a side
abbrev pub all_seats : Side → List ℕ → List Seat
all_seats side leaves = seats_over 5 side 0 leaves

-- ---- the numbers of frames

-- the place of a seat in a list, or its length where it is not there
abbrev pub place_in : List Seat → Seat → ℕ
place_in [] seat = 0
place_in (other ∷ seats) seat = if same_seat seat other then 0 else suc (place_in seats seat)

-- Over the seats that are new at each revision, in the order of their frames. Each has one frame of that revision. Frames are numbered
-- over all revisions from 1 on.
module _ (seats : ℕ → List Seat) where
  -- how many frames there are up to a revision
  abbrev pub frames_up_to : ℕ → ℕ
  frames_up_to zero = 0
  frames_up_to (suc r) = frames_up_to r + length (seats (suc r))

  -- the frame that a revision makes for a seat
  abbrev pub number : ℕ → Seat → ℕ
  number zero seat = 0
  number (suc r) seat = frames_up_to r + place_in (seats (suc r)) seat

  -- a revision makes a frame for the seat
  abbrev pub is_new : ℕ → Seat → Bool
  is_new r seat = list_any (same_seat seat) (seats r)

  -- the frames that are made for the seat up to a revision, newest first
  abbrev pub made : ℕ → Seat → List ℕ
  made zero seat = []
  made (suc r) seat = if is_new (suc r) seat then number (suc r) seat ∷ made r seat else made r seat

-- how many frames of a seat of this level are referred to, under a window
abbrev pub most : ℕ → ℕ → ℕ
most w zero = w
most w (suc level) = 1

-- the reference that a root has: 0 for none, or a frame's number and 1
abbrev pub root_reference : List ℕ → ℕ
root_reference [] = 0
root_reference (frame ∷ frames) = frame + 1

module _ (seats : ℕ → List Seat) (w : ℕ) where
  -- the frames that a revision refers to for a seat, newest first: the last one of a page, and of a leaf as many as the window says
  abbrev pub references : ℕ → Seat → List ℕ
  references r seat = take (most w seat.level) (made seats r seat)

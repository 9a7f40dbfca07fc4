-- The groups that the rows commit.
use Rattle.std.specs.Prelude.{ℕ, pos, List, [], ◌∷◌}
use Rattle.sx_layout.specs.FrameGroup.{FrameGroup, group_of_frames}

-- a frame of kind 1 with the body `leaf`, and one of kind 2 with no body
abbrev pub leaf_frame : List ℕ
leaf_frame = 1 ∷ 0 ∷ 0 ∷ 0 ∷ 4 ∷ 108 ∷ 101 ∷ 97 ∷ 102 ∷ []

abbrev pub empty_frame : List ℕ
empty_frame = 2 ∷ 0 ∷ 0 ∷ 0 ∷ 0 ∷ []

abbrev pub first_group : FrameGroup
first_group = group_of_frames (record { revision = 1; time = pos 1000; first_frame = 0; frames = 1; node_root = 1; path_root = 0; next = 1; nodes = 1; paths = 0; body = 9 }) (leaf_frame ∷ [])

abbrev pub second_group : FrameGroup
second_group = group_of_frames (record { revision = 2; time = pos 1000; first_frame = 1; frames = 2; node_root = 2; path_root = 0; next = 3; nodes = 2; paths = 0; body = 14 }) (empty_frame ∷ leaf_frame ∷ [])

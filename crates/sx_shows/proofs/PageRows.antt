-- The frames of small documents: their seats, lengths and numbers.
use Rattle.std.proofs.Common.{◌≡◌, ◌+◌, ◌*◌, [], ◌∷◌, length, refl}
use Rattle.std.specs.Prelude.{map, pos}
use Rattle.sha2.specs.Sha256.{sha256, digest_bytes, hash_after, compress, rounds, schedule, first_words}
use Rattle.sx_layout.specs.FrameGroup.{frame_group_bytes, gate_behind}
use Rattle.sx_record.specs.Spelling.{node_bytes, path_bytes}
use Rattle.sx_root.specs.Root.{root_bytes}
use Rattle.sx_shows.specs.Seats.{Nodes, all_seats, references}
use Rattle.sx_shows.specs.Shows.{frames_of, group_of, new_seats}
use Rattle.sx_shows.proofs.WindowRows.{sets, undone}

-- ---- [1,2,3]

lengths_at_1 : map length (frames_of sets 3 1) ≡ 293 ∷ 23 ∷ 22 ∷ 22 ∷ 22 ∷ 51 ∷ 23 ∷ 22 ∷ 22 ∷ 22 ∷ []
unfolding node_bytes path_bytes sha256 digest_bytes hash_after compress rounds schedule first_words
lengths_at_1 = refl

head_at_1 : (group_of sets 3 1).root
    ≡ record { revision = 1; time = pos 1000; first_frame = 0; frames = 10; node_root = 5; path_root = 10; next = 5; nodes = 5; paths = 2; body = 522 }
unfolding node_bytes path_bytes sha256 digest_bytes hash_after compress rounds schedule first_words
head_at_1 = refl

bytes_at_1 : length (frame_group_bytes (group_of sets 3 1)) + 1 ≡ 963
unfolding root_bytes node_bytes path_bytes sha256 digest_bytes hash_after compress rounds schedule first_words
bytes_at_1 = refl

-- the group stands at place 174, its frames behind head and table, and the volume ends behind its gate
places_at_1 : (174 + 80 + 36 * 10 ≡ 614) × (gate_behind (group_of sets 3 1 ∷ []) + 1 ≡ 1137)
unfolding node_bytes path_bytes sha256 digest_bytes hash_after compress rounds schedule first_words
places_at_1 = (refl, refl)

-- ---- a scalar is set

lengths_at_2 : map length (frames_of sets 3 2) ≡ 185 ∷ 27 ∷ 22 ∷ 22 ∷ 22 ∷ []
unfolding node_bytes path_bytes sha256 digest_bytes hash_after compress rounds schedule first_words
lengths_at_2 = refl

head_at_2 : (group_of sets 3 2).root
    ≡ record { revision = 2; time = pos 1000; first_frame = 10; frames = 5; node_root = 15; path_root = 10; next = 5; nodes = 5; paths = 2; body = 278 }
unfolding node_bytes path_bytes sha256 digest_bytes hash_after compress rounds schedule first_words
head_at_2 = refl

bytes_at_2 : length (frame_group_bytes (group_of sets 3 2)) + 1 ≡ 539
unfolding root_bytes node_bytes path_bytes sha256 digest_bytes hash_after compress rounds schedule first_words
bytes_at_2 = refl

-- with a window of 1 the fragment has all five records, and the lowest page one reference
lengths_of_one_at_2 : map length (frames_of sets 1 2) ≡ 293 ∷ 23 ∷ 22 ∷ 22 ∷ 22 ∷ []
unfolding node_bytes path_bytes sha256 digest_bytes hash_after compress rounds schedule first_words
lengths_of_one_at_2 = refl

bytes_of_one_at_2 : length (frame_group_bytes (group_of sets 1 2)) + 1 ≡ 643
unfolding root_bytes node_bytes path_bytes sha256 digest_bytes hash_after compress rounds schedule first_words
bytes_of_one_at_2 = refl

-- the fragments of the window, newest first
references_at_4 : references (new_seats sets) 3 4 (record { side = Nodes; level = 0; index = 0 }) ≡ 20 ∷ 15 ∷ 10 ∷ []
unfolding sha256 digest_bytes hash_after compress rounds schedule first_words
references_at_4 = refl

-- ---- commits that change nothing

heads_of_nothing : (group_of undone 3 2).root
    ≡ record { revision = 2; time = pos 1000; first_frame = 10; frames = 0; node_root = 5; path_root = 10; next = 5; nodes = 5; paths = 2; body = 0 }
unfolding node_bytes path_bytes sha256 digest_bytes hash_after compress rounds schedule first_words
heads_of_nothing = refl

-- the next number grew
undone_root : (group_of undone 3 3).root
    ≡ record { revision = 3; time = pos 1000; first_frame = 10; frames = 0; node_root = 5; path_root = 10; next = 6; nodes = 5; paths = 2; body = 0 }
unfolding node_bytes path_bytes sha256 digest_bytes hash_after compress rounds schedule first_words
undone_root = refl

bytes_of_nothing : (length (frame_group_bytes (group_of undone 3 2)) + 1 ≡ 81) × (length (frame_group_bytes (group_of undone 3 3)) + 1 ≡ 81)
unfolding root_bytes node_bytes path_bytes sha256 digest_bytes hash_after compress rounds schedule first_words
bytes_of_nothing = (refl, refl)

-- ---- four leaves under two lowest pages

nine_seats : all_seats Nodes (0 ∷ 1 ∷ 63 ∷ 64 ∷ [])
    ≡ record { side = Nodes; level = 0; index = 0 }
    ∷ record { side = Nodes; level = 0; index = 1 }
    ∷ record { side = Nodes; level = 0; index = 63 }
    ∷ record { side = Nodes; level = 0; index = 64 }
    ∷ record { side = Nodes; level = 1; index = 0 }
    ∷ record { side = Nodes; level = 1; index = 1 }
    ∷ record { side = Nodes; level = 2; index = 0 }
    ∷ record { side = Nodes; level = 3; index = 0 }
    ∷ record { side = Nodes; level = 4; index = 0 }
    ∷ []
nine_seats = refl

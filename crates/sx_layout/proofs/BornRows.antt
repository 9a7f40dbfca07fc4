-- The definitions of the birth part and of groups, on worked rows. The bytes were written by another program.
use Rattle.std.proofs.Common.{◌≡◌, ℕ, ◌+◌, ◌*◌, List, [], ◌∷◌, ◌++◌, length, replicate, None, Some, refl}
use Rattle.std.specs.Prelude.{pos}
use Rattle.sha2.specs.Sha256.{compress, digest_bytes, first_words, hash_after, rounds, schedule, sha256}
use Rattle.sx_bytes.specs.Front.{front_number, front_piece}
use Rattle.sx_frame.specs.Violation.{tell}
use Rattle.sx_layout.specs.Birth.{Birth, birth_part, fields_bytes, undigested}
use Rattle.sx_layout.specs.FrameGroup.{FrameGroup, first_root, frame_group_bytes, group_of_frames, group_size}
use Rattle.sx_layout.specs.Rule.{first_broken}
use Rattle.sx_layout.specs.Rules.{count_rules, group_violation, order_rules, table_rules}
use Rattle.sx_root.specs.Root.{front_root, root_bytes}
use Rattle.sx_root.specs.declared.root.RevisionRoot.{RevisionRoot}

-- a window of 3, and the names validFrom and validTo
abbrev default_birth : Birth
default_birth = record { window = 3; from = 118 ∷ 97 ∷ 108 ∷ 105 ∷ 100 ∷ 70 ∷ 114 ∷ 111 ∷ 109 ∷ []; to = 118 ∷ 97 ∷ 108 ∷ 105 ∷ 100 ∷ 84 ∷ 111 ∷ [] }

abbrev default_digest : List ℕ
default_digest = 72 ∷ 46 ∷ 249 ∷ 96 ∷ 30 ∷ 35 ∷ 54 ∷ 110 ∷ 40 ∷ 141 ∷ 197 ∷ 244 ∷ 45 ∷ 198 ∷ 99 ∷ 96 ∷ 151 ∷ 213 ∷ 247 ∷ 161 ∷ 158 ∷ 218 ∷ 226 ∷ 107 ∷ 125 ∷ 212 ∷ 67 ∷ 210 ∷ 122 ∷ 125 ∷ 84 ∷ 252 ∷ []

row_of_the_fields : fields_bytes (undigested default_birth []) ≡ 83 ∷ 88 ∷ 83 ∷ 78 ∷ 65 ∷ 80 ∷ 48 ∷ 49 ∷ 0 ∷ 3 ∷ 9 ∷ 118 ∷ 97 ∷ 108 ∷ 105 ∷ 100 ∷ 70 ∷ 114 ∷ 111 ∷ 109 ∷ 0 ∷ 0 ∷ 0 ∷ 0 ∷ 0 ∷ 0 ∷ 0 ∷ 0 ∷ 0 ∷ 0 ∷ 0 ∷ 0 ∷ 0 ∷ 0 ∷ 0 ∷ 0 ∷ 0 ∷ 0 ∷ 0 ∷ 0 ∷ 0 ∷ 0 ∷ 0 ∷ 0 ∷ 0 ∷ 0 ∷ 0 ∷ 0 ∷ 0 ∷ 0 ∷ 0 ∷ 0 ∷ 0 ∷ 0 ∷ 0 ∷ 0 ∷ 0 ∷ 0 ∷ 0 ∷ 0 ∷ 0 ∷ 0 ∷ 0 ∷ 0 ∷ 0 ∷ 0 ∷ 0 ∷ 0 ∷ 0 ∷ 0 ∷ 0 ∷ 0 ∷ 0 ∷ 0 ∷ 0 ∷ 7 ∷ 118 ∷ 97 ∷ 108 ∷ 105 ∷ 100 ∷ 84 ∷ 111 ∷ 0 ∷ 0 ∷ 0 ∷ 0 ∷ 0 ∷ 0 ∷ 0 ∷ 0 ∷ 0 ∷ 0 ∷ 0 ∷ 0 ∷ 0 ∷ 0 ∷ 0 ∷ 0 ∷ 0 ∷ 0 ∷ 0 ∷ 0 ∷ 0 ∷ 0 ∷ 0 ∷ 0 ∷ 0 ∷ 0 ∷ 0 ∷ 0 ∷ 0 ∷ 0 ∷ 0 ∷ 0 ∷ 0 ∷ 0 ∷ 0 ∷ 0 ∷ 0 ∷ 0 ∷ 0 ∷ 0 ∷ 0 ∷ 0 ∷ 0 ∷ 0 ∷ 0 ∷ 0 ∷ 0 ∷ 0 ∷ 0 ∷ 0 ∷ 0 ∷ 0 ∷ 0 ∷ 0 ∷ 0 ∷ 0 ∷ 0 ∷ []
row_of_the_fields = refl

row_of_the_digest : sha256 (fields_bytes (undigested default_birth [])) ≡ default_digest
unfolding sha256 digest_bytes hash_after compress rounds schedule first_words
row_of_the_digest = refl

-- places 0 to 173
row_of_174_bytes : length (1 ∷ (birth_part default_birth ++ 0 ∷ [])) ≡ 174
unfolding birth_part sha256 digest_bytes hash_after compress rounds schedule first_words
row_of_174_bytes = refl

-- ten frames of 522 bytes, and a commit that changes nothing
row_of_963_bytes : group_size 10 522 ≡ 963
row_of_963_bytes = refl

row_of_81_bytes : group_size 0 0 ≡ 81
row_of_81_bytes = refl

-- the first frame behind the head, the table and the digest of the group at place 174
row_of_614 : 174 + (80 + 36 * 10) ≡ 614
row_of_614 = refl

-- the first commit, of no edits, at the time 1000
abbrev empty_commit : FrameGroup
empty_commit = group_of_frames (record { revision = 1; time = pos 1000; first_frame = 0; frames = 0; node_root = 0; path_root = 0; next = 1; nodes = 1; paths = 0; body = 0 }) []

row_of_an_empty_commit : frame_group_bytes empty_commit ≡ 83 ∷ 88 ∷ 71 ∷ 82 ∷ 0 ∷ 0 ∷ 0 ∷ 1 ∷ 0 ∷ 0 ∷ 0 ∷ 0 ∷ 0 ∷ 0 ∷ 3 ∷ 232 ∷ 0 ∷ 0 ∷ 0 ∷ 0 ∷ 0 ∷ 0 ∷ 0 ∷ 0 ∷ 0 ∷ 0 ∷ 0 ∷ 0 ∷ 0 ∷ 0 ∷ 0 ∷ 0 ∷ 0 ∷ 0 ∷ 0 ∷ 1 ∷ 0 ∷ 0 ∷ 0 ∷ 1 ∷ 0 ∷ 0 ∷ 0 ∷ 0 ∷ 0 ∷ 0 ∷ 0 ∷ 0 ∷ 190 ∷ 47 ∷ 179 ∷ 10 ∷ 132 ∷ 83 ∷ 146 ∷ 49 ∷ 0 ∷ 101 ∷ 58 ∷ 226 ∷ 110 ∷ 40 ∷ 19 ∷ 95 ∷ 18 ∷ 74 ∷ 215 ∷ 84 ∷ 62 ∷ 96 ∷ 59 ∷ 194 ∷ 44 ∷ 51 ∷ 124 ∷ 154 ∷ 242 ∷ 146 ∷ 155 ∷ 216 ∷ []
unfolding root_bytes sha256 digest_bytes hash_after compress rounds schedule first_words
row_of_an_empty_commit = refl

row_of_no_violation : group_violation first_root (frame_group_bytes empty_commit ++ 0 ∷ []) ≡ None
unfolding root_bytes front_root front_piece front_number sha256 digest_bytes hash_after compress rounds schedule first_words
row_of_no_violation = refl

-- without the gate behind it
row_of_a_group_cut_short : group_violation first_root (frame_group_bytes empty_commit) ≡ Some (tell 6 80 81)
unfolding root_bytes front_root front_piece front_number sha256 digest_bytes hash_after compress rounds schedule first_words
row_of_a_group_cut_short = refl

-- 47 bytes are too few for a head, whatever they are
row_of_47_bytes : group_violation first_root (replicate 47 0) ≡ Some (tell 6 47 48)
row_of_47_bytes = refl

-- 48 other bytes have no mark
row_of_no_mark : group_violation first_root (replicate 48 0) ≡ Some (tell 5 1398294354 0)
unfolding front_root front_piece front_number
row_of_no_mark = refl

-- of several rules the first one is told
abbrev odd_root : RevisionRoot
odd_root = record { revision = 2; time = pos 1000; first_frame = 1; frames = 0; node_root = 9; path_root = 0; next = 0; nodes = 0; paths = 0; body = 4 }

row_of_the_order : first_broken (order_rules first_root odd_root) ≡ Some (tell 7 1 2)
row_of_the_order = refl

row_of_the_counts : first_broken (count_rules first_root odd_root) ≡ Some (tell 12 1 0)
row_of_the_counts = refl

row_of_the_table : first_broken (table_rules odd_root []) ≡ Some (tell 15 0 4)
row_of_the_table = refl

-- The rules that groups keep, in their order, and what tells of one that breaks a rule.
use Rattle.std.specs.Prelude.{ℕ, ◌≡◌, ◌==◌, ◌+◌, ◌*◌, nat_lt, int_lt, Bool, not, List, [], ◌∷◌, ◌++◌, length, take, drop, map, Option, None, Some, if◌then◌else◌}
use Rattle.std.specs.Int.{cast_unsigned, from_be_bytes, w32, w64}
use Rattle.std.specs.Str.{bytes_eq}
use Rattle.sha2.specs.Sha256.{sha256}
use Rattle.sx_frame.specs.Violation.{Violation, tell}
use Rattle.sx_frame.specs.declared.table.FrameRow.{FrameRow}
use Rattle.sx_layout.specs.FrameGroup.{FrameGroup, IsFrameGroup, frames_after, group_limit, group_size, rows_at}
use Rattle.sx_layout.specs.Rule.{first_broken}
use Rattle.sx_model.specs.Edit.{number_limit}
use Rattle.sx_root.specs.Root.{front_root, mark}
use Rattle.sx_root.specs.declared.root.RevisionRoot.{RevisionRoot}

-- a log has at most so many frames, and at most so many revisions
abbrev pub log_limit : ℕ
log_limit = 16777216

-- the greatest path number
abbrev pub path_limit : ℕ
path_limit = 1073741823

-- a frame has at least its kind and the length of its body
abbrev pub least_frame : ℕ
least_frame = 5

-- the bytes of all frames of a table
abbrev pub frames_size : List FrameRow → ℕ
frames_size [] = 0
frames_size (row ∷ rows) = row.bytes + frames_size rows

-- rule 6, of a whole group with so many bytes left behind its gate
abbrev pub size_rules : ℕ → RevisionRoot → List (Bool × Violation)
size_rules left root =
    (nat_lt left (group_size root.frames root.body), tell 6 left (group_size root.frames root.body))
    ∷ (nat_lt group_limit (group_size root.frames root.body), tell 6 group_limit (group_size root.frames root.body))
    ∷ []

-- rule 1, of a group whose head and table have so many bytes
abbrev pub digest_rule : List ℕ → ℕ → Bool × Violation
digest_rule bytes count =
    (not (bytes_eq (take 32 (drop count bytes)) (sha256 (take count bytes))), record { rule = 1; kept = take 32 (drop count bytes); found = sha256 (take count bytes) })

-- rules 7 to 11, behind a group with the root `last`: how the group follows it
abbrev pub order_rules : RevisionRoot → RevisionRoot → List (Bool × Violation)
order_rules last root =
    (not (root.revision == last.revision + 1), tell 7 (last.revision + 1) root.revision)
    ∷ (int_lt root.time last.time, tell 8 (cast_unsigned w64 last.time) (cast_unsigned w64 root.time))
    ∷ (not (root.first_frame == frames_after last), tell 9 (frames_after last) root.first_frame)
    ∷ (nat_lt log_limit (frames_after root), tell 10 log_limit (frames_after root))
    ∷ (nat_lt log_limit root.revision, tell 10 log_limit root.revision)
    ∷ (nat_lt (frames_after root) root.node_root, tell 11 (frames_after root) root.node_root)
    ∷ (nat_lt (frames_after root) root.path_root, tell 11 (frames_after root) root.path_root)
    ∷ []

-- rules 12 to 14: the numbers of the tree
abbrev pub count_rules : RevisionRoot → RevisionRoot → List (Bool × Violation)
count_rules last root =
    (nat_lt root.next last.next, tell 12 last.next root.next)
    ∷ (nat_lt number_limit root.next, tell 12 number_limit root.next)
    ∷ (nat_lt root.nodes 1, tell 13 1 root.nodes)
    ∷ (nat_lt root.next root.nodes, tell 13 root.next root.nodes)
    ∷ (nat_lt root.paths last.paths, tell 14 last.paths root.paths)
    ∷ (nat_lt path_limit root.paths, tell 14 path_limit root.paths)
    ∷ []

abbrev pub length_rule : FrameRow → Bool × Violation
length_rule row = (nat_lt row.bytes least_frame, tell 15 least_frame row.bytes)

-- rule 15: the lengths of the frames
abbrev pub table_rules : RevisionRoot → List FrameRow → List (Bool × Violation)
table_rules root table = map length_rule table ++ (not (root.body == frames_size table), tell 15 (frames_size table) root.body) ∷ []

-- The first rule that bytes break which begin with this head, behind a group with the root `last`.
abbrev pub head_violation : RevisionRoot → List ℕ → Option (RevisionRoot × List ℕ) → Option Violation
head_violation last bytes None = Some (tell 5 (from_be_bytes w32 mark) (from_be_bytes w32 (take 4 bytes)))
head_violation last bytes (Some head) =
    first_broken
    (size_rules (length bytes) head.0 ++ digest_rule bytes (48 + 36 * head.0.frames) ∷ (order_rules last head.0 ++ (count_rules last head.0 ++ table_rules head.0 (rows_at head.0.frames head.1))))

-- The first rule that the bytes behind an open gate break, behind a group with the root `last`.
abbrev pub group_violation : RevisionRoot → List ℕ → Option Violation
group_violation last bytes = if nat_lt (length bytes) 48 then Some (tell 6 (length bytes) 48) else head_violation last bytes (front_root bytes)

-- Each is a group and follows the one before it: none breaks a rule from 7 to 11.
abbrev pub Follow : RevisionRoot → List FrameGroup → Type 0
Follow last [] = Unit {0}
Follow last (group ∷ groups) = IsFrameGroup group × (first_broken (order_rules last group.root) ≡ None) × Follow group.root groups

-- and none breaks a rule from 12 to 15
abbrev pub KeepCounts : RevisionRoot → List FrameGroup → Type 0
KeepCounts last [] = Unit {0}
KeepCounts last (group ∷ groups) =
    (first_broken (count_rules last group.root) ≡ None) × (first_broken (table_rules group.root group.table) ≡ None) × KeepCounts group.root groups

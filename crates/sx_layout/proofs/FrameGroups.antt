-- A group of frames at the front of bytes: what breaks a rule there, and where none is broken.
use Rattle.std.proofs.Common.{◌≡◌, ◌∙◌, ℕ, ◌+◌, ◌*◌, ◌<◌, ◌≤◌, Bool, false, not, List, ◌∷◌, ◌++◌, length, take, drop, Option, None, Some, if◌then◌else◌, ap, sym, append_assoc, length-append, arith, nat_lt}
use Rattle.std.specs.Str.{bytes_eq}
use Rattle.std.proofs.lemmas.Bool.Decides.{nat_tests}
use Rattle.std.proofs.lemmas.List.{take_at, drop_at}
use Rattle.std.proofs.lemmas.Slice.Eq.{bytes_eq-Decides}
use Rattle.sha2.proofs.Facts256.{length-sha256}
use Rattle.sha2.specs.Sha256.{sha256}
use Rattle.sx_frame.specs.Violation.{Violation, tell}
use Rattle.sx_frame.specs.declared.table.FrameRow.{FrameRow}
use Rattle.sx_layout.proofs.Broken.{broken_behind, unbroken}
use Rattle.sx_layout.proofs.Fronts.{same_front}
use Rattle.sx_layout.proofs.Tables.{length-table_bytes, rows_again}
use Rattle.sx_layout.specs.FrameGroup.{AreRows, FrameGroup, IsFrameGroup, frame_group_bytes, group_limit, group_size, head_part, rows_at, table_bytes}
use Rattle.sx_layout.specs.Rule.{first_broken}
use Rattle.sx_layout.specs.Rules.{count_rules, digest_rule, group_violation, head_violation, order_rules, size_rules, table_rules}
use Rattle.sx_root.proofs.Again.{front_root-again, length-root_bytes, root-one_spelling}
use Rattle.sx_root.specs.Root.{IsRoot, front_root, root_bytes}
use Rattle.sx_root.specs.declared.root.RevisionRoot.{RevisionRoot}

-- what the rules are tested on, behind the head
abbrev pub rules_of : RevisionRoot → List ℕ → RevisionRoot → List FrameRow → List (Bool × Violation)
rules_of last bytes root table = digest_rule bytes (48 + 36 * root.frames) ∷ (order_rules last root ++ (count_rules last root ++ table_rules root table))

at_least : (a b : ℕ) → b ≤ a → nat_lt a b ≡ false
at_least a b le = grind (arith, nat_tests)

-- bytes that begin with a head are tested by the rules on it
pub violation_of_head : (last root : RevisionRoot) (tail bytes : List ℕ) → IsRoot root → bytes ≡ root_bytes root ++ tail
    → group_violation last bytes ≡ first_broken (size_rules (length bytes) root ++ rules_of last bytes root (rows_at root.frames tail))
violation_of_head last root tail bytes is are =
    let long : nat_lt (length bytes) 48 ≡ false = at_least (length bytes) 48 (omega (arith, ap length are, length-append (root_bytes root) tail, length-root_bytes root)) in
    let head : front_root bytes ≡ Some (root, tail) = ap front_root are ∙ front_root-again root tail is in
    ap (λ (test : Bool). if test then Some (tell 6 (length bytes) 48) else head_violation last bytes (front_root bytes)) long
    ∙ ap (λ (h : Option (RevisionRoot × List ℕ)). head_violation last bytes h) head

-- a group's bytes have 80 and 36 for each frame, and the frames
pub length-group : (group : FrameGroup) → IsFrameGroup group → length (frame_group_bytes group) + 1 ≡ group_size group.root.frames group.root.body
length-group group is =
    let head = length-append (root_bytes group.root) (table_bytes group.table) in
    let table = length-table_bytes group.table is.rows in
    let tail = length-append (sha256 (head_part group.root group.table)) group.body in
    let all = length-append (head_part group.root group.table) (sha256 (head_part group.root group.table) ++ group.body) in
    let digest = length-sha256 (head_part group.root group.table) in
    omega (arith, length-root_bytes group.root, head, table, tail, all, digest, is.frames, is.body)

length-head_part : (root : RevisionRoot) (table : List FrameRow) → AreRows table → length (head_part root table) ≡ 48 + 36 * length table
length-head_part root table are = omega (arith, length-append (root_bytes root) (table_bytes table), length-root_bytes root, length-table_bytes table are)

not_same : (a b : List ℕ) → a ≡ b → not (bytes_eq a b) ≡ false
not_same a b same = ap not ((bytes_eq-Decides a b).1 same)

-- the group with what stands behind it, by its parts
pub group_parts : (group : FrameGroup) (rest : List ℕ)
    → frame_group_bytes group ++ rest ≡ root_bytes group.root ++ (table_bytes group.table ++ (sha256 (head_part group.root group.table) ++ (group.body ++ rest)))
group_parts group rest =
    append_assoc (head_part group.root group.table) (sha256 (head_part group.root group.table) ++ group.body) rest
    ∙ ap (λ (t : List ℕ). head_part group.root group.table ++ t) (append_assoc (sha256 (head_part group.root group.table)) group.body rest)
    ∙ append_assoc (root_bytes group.root) (table_bytes group.table) (sha256 (head_part group.root group.table) ++ (group.body ++ rest))

-- the digest of a group that stands at the front is right
pub digest_kept : (root : RevisionRoot) (table : List FrameRow) (tail : List ℕ) (count : ℕ) → AreRows table → count ≡ 48 + 36 * length table
    → (digest_rule (head_part root table ++ (sha256 (head_part root table) ++ tail)) count).0 ≡ false
digest_kept root table tail count are is =
    let head = head_part root table in
    let long : length head ≡ count = length-head_part root table are ∙ sym is in
    let bytes = head ++ (sha256 head ++ tail) in
    let behind : take 32 (drop count bytes) ≡ sha256 head = ap (λ (b : List ℕ). take 32 b) (drop_at head (sha256 head ++ tail) count long) ∙ take_at (sha256 head) tail 32 (length-sha256 head) in
    let before : sha256 (take count bytes) ≡ sha256 head = ap sha256 (take_at head (sha256 head ++ tail) count long) in
    not_same (take 32 (drop count bytes)) (sha256 (take count bytes)) (behind ∙ sym before)

-- Behind a group with the root `last`, bytes with a group that keeps the rules, and a byte or more behind it, break none.
pub none_broken : (last : RevisionRoot) (group : FrameGroup) (rest bytes : List ℕ) → IsFrameGroup group → first_broken (order_rules last group.root) ≡ None
    → first_broken (count_rules last group.root) ≡ None → first_broken (table_rules group.root group.table) ≡ None → 0 < length rest → bytes ≡ frame_group_bytes group ++ rest
    → group_violation last bytes ≡ None
none_broken last group rest bytes is order count kept some are =
    let root = group.root in
    let head = head_part root group.table in
    let tail = sha256 head ++ (group.body ++ rest) in
    let parts : bytes ≡ root_bytes root ++ (table_bytes group.table ++ tail) = are ∙ group_parts group rest in
    let rows : rows_at root.frames (table_bytes group.table ++ tail) ≡ group.table =
    ap (λ (n : ℕ). rows_at n (table_bytes group.table ++ tail)) (sym is.frames) ∙ rows_again group.table tail is.rows in
    let whole = length-group group is in
    let long : group_size root.frames root.body ≤ length bytes = omega (arith, ap length are, length-append (frame_group_bytes group) rest, whole, some) in
    let left = at_least (length bytes) (group_size root.frames root.body) long in
    let limit = at_least group_limit (group_size root.frames root.body) is.size in
    let digest : (digest_rule bytes (48 + 36 * root.frames)).0 ≡ false =
    ap (λ (b : List ℕ). (digest_rule b (48 + 36 * root.frames)).0) (parts ∙ sym (append_assoc (root_bytes root) (table_bytes group.table) tail))
    ∙ digest_kept root group.table (group.body ++ rest) (48 + 36 * root.frames) is.rows (ap (λ n. 48 + 36 * n) (sym is.frames)) in
    let size = group_size root.frames root.body in
    let table = table_rules root (rows_at root.frames (table_bytes group.table ++ tail)) in
    let others = order_rules last root ++ (count_rules last root ++ table) in
    violation_of_head last root (table_bytes group.table ++ tail) bytes is.root parts
    ∙ unbroken (nat_lt (length bytes) size) (tell 6 (length bytes) size) ((nat_lt group_limit size, tell 6 group_limit size) ∷ digest_rule bytes (48 + 36 * root.frames) ∷ others) left
    ∙ unbroken (nat_lt group_limit size) (tell 6 group_limit size) (digest_rule bytes (48 + 36 * root.frames) ∷ others) limit
    ∙ unbroken (digest_rule bytes (48 + 36 * root.frames)).0 (digest_rule bytes (48 + 36 * root.frames)).1 others digest
    ∙ broken_behind (order_rules last root) (count_rules last root ++ table) order
    ∙ broken_behind (count_rules last root) table count
    ∙ ap (λ (t : List FrameRow). first_broken (table_rules root t)) rows
    ∙ kept

-- two groups at the front of the same bytes are one
pub frame_group_again : (a b : FrameGroup) (x y : List ℕ) → IsFrameGroup a → IsFrameGroup b → frame_group_bytes a ++ x ≡ frame_group_bytes b ++ y → (a ≡ b) × (x ≡ y)
frame_group_again a b x y is also same =
    let tail_a = sha256 (head_part a.root a.table) ++ (a.body ++ x) in
    let tail_b = sha256 (head_part b.root b.table) ++ (b.body ++ y) in
    let roots = root-one_spelling a.root b.root (table_bytes a.table ++ tail_a) (table_bytes b.table ++ tail_b) is.root also.root (sym (group_parts a x) ∙ same ∙ group_parts b y) in
    let frames : length a.table ≡ length b.table = is.frames ∙ ap (λ (r : RevisionRoot). r.frames) roots.0 ∙ sym also.frames in
    let tables : a.table ≡ b.table =
    sym (rows_again a.table tail_a is.rows) ∙ ap (λ (n : ℕ). rows_at n (table_bytes a.table ++ tail_a)) frames ∙ ap (λ (t : List ℕ). rows_at (length b.table) t) roots.1 ∙ rows_again b.table tail_b also.rows in
    let bodies : length a.body ≡ length b.body = is.body ∙ ap (λ (r : RevisionRoot). r.body) roots.0 ∙ sym also.body in
    let behind_table = same_front (table_bytes a.table) (table_bytes b.table) tail_a tail_b (ap (λ (t : List FrameRow). length (table_bytes t)) tables) roots.1 in
    let behind_digest = same_front (sha256 (head_part a.root a.table)) (sha256 (head_part b.root b.table)) (a.body ++ x) (b.body ++ y)
    (length-sha256 (head_part a.root a.table) ∙ sym (length-sha256 (head_part b.root b.table))) behind_table.1 in
    let both = same_front a.body b.body x y bodies behind_digest.1 in (
      ap (λ (r : RevisionRoot). record { root = r; table = a.table; body = a.body }) roots.0
          ∙ ap (λ (t : List FrameRow). record { root = b.root; table = t; body = a.body }) tables
          ∙ ap (λ (c : List ℕ). record { root = b.root; table = b.table; body = c }) both.0,
      both.1,
    )

-- Groups one behind another, and their rows.
use Rattle.std.proofs.Common.{◌≡◌, ◌∙◌, ℕ, suc, ◌+◌, ◌*◌, ◌-◌, List, [], ◌∷◌, ◌++◌, length, None, Some, slice_get, refl, ap, subst, sym, append_assoc, length-append, arith}
use Rattle.sx_layout.proofs.FrameGroups.{length-group}
use Rattle.sx_layout.specs.FrameGroup.{FrameGroup, IsFrameGroup, behind_gates, frame_group_bytes, group_size, groups_size, last_root}
use Rattle.sx_layout.specs.Rule.{first_broken}
use Rattle.sx_layout.specs.Rules.{Follow, KeepCounts, count_rules, order_rules, table_rules}
use Rattle.sx_log.specs.Kept.{root_behind, row_at, rows_from, rows_size}
use Rattle.sx_log.specs.declared.log.GroupRow.{GroupRow}
use Rattle.sx_root.specs.declared.root.RevisionRoot.{RevisionRoot}

-- the row at the last index is the last
last_at : (root : RevisionRoot) (rows : List GroupRow) (row : GroupRow) (n : ℕ) → length rows ≡ n + 1 → slice_get rows n ≡ Some row → root_behind root rows ≡ row.root
last_at root [] row n long last = cc last
last_at root (first ∷ []) row n long last =
    let zero_index : n ≡ 0 = omega (arith, long) in
    let at : slice_get (first ∷ []) 0 ≡ Some row = subst (λ k. slice_get (first ∷ []) k ≡ Some row) zero_index last in
    let same : first ≡ row = cc at in
    ap (λ (r : GroupRow). r.root) same
last_at root (first ∷ second ∷ rows) row n long last =
    let one_more : n ≡ suc (length rows) = omega (arith, long) in
    let at : slice_get (second ∷ rows) (length rows) ≡ Some row = subst (λ k. slice_get (first ∷ second ∷ rows) k ≡ Some row) one_more last in
    last_at first.root (second ∷ rows) row (length rows) (omega arith) at

pub last_row : (root : RevisionRoot) (rows : List GroupRow) (row : GroupRow) → Some row ≡ slice_get rows (length rows - 1) → row.root ≡ root_behind root rows
last_row root [] row last = cc last
last_row root (first ∷ rows) row last =
    let index : length (first ∷ rows) - 1 ≡ length rows = omega arith in
    sym (last_at root (first ∷ rows) row (length rows) (omega arith) (sym (subst (λ n. Some row ≡ slice_get (first ∷ rows) n) index last)))

pub same_root : (root : RevisionRoot) (place : ℕ) (groups : List FrameGroup) → root_behind root (rows_from place groups) ≡ last_root root groups
same_root root place [] = refl
same_root root place (group ∷ groups) = same_root group.root (place + group_size group.root.frames group.root.body) groups

-- ---- one group more

pub rows_from-append : (place : ℕ) (groups : List FrameGroup) (group : FrameGroup) → rows_from place (groups ++ group ∷ []) ≡ rows_from place groups ++ row_at (place + groups_size groups) group ∷ []
rows_from-append place [] group = let here : place ≡ place + 0 = omega arith in ap (λ n. row_at n group ∷ []) here
rows_from-append place (first ∷ groups) group =
    let size = group_size first.root.frames first.root.body in
    let here : (place + size) + groups_size groups ≡ place + (size + groups_size groups) = omega arith in
    ap (λ (rows : List GroupRow). row_at place first ∷ rows) (rows_from-append (place + size) groups group ∙ ap (λ n. rows_from (place + size) groups ++ row_at n group ∷ []) here)

pub groups_size-append : (groups : List FrameGroup) (group : FrameGroup) → groups_size (groups ++ group ∷ []) ≡ groups_size groups + group_size group.root.frames group.root.body
groups_size-append [] group = omega arith
groups_size-append (first ∷ groups) group = omega (arith, groups_size-append groups group)

pub rows_size-append : (rows : List GroupRow) (row : GroupRow) → rows_size (rows ++ row ∷ []) ≡ rows_size rows + (81 + 36 * row.root.frames)
rows_size-append [] row = omega arith
rows_size-append (first ∷ rows) row = omega (arith, rows_size-append rows row)

pub behind_gates-append : (groups : List FrameGroup) (group : FrameGroup) (rest : List ℕ) → behind_gates (groups ++ group ∷ []) ++ rest ≡ behind_gates groups ++ 1 ∷ (frame_group_bytes group ++ rest)
behind_gates-append [] group rest = ap (λ (b : List ℕ). 1 ∷ b) (append_assoc (frame_group_bytes group) [] rest)
behind_gates-append (first ∷ groups) group rest =
    ap (λ (b : List ℕ). 1 ∷ b)
    (append_assoc (frame_group_bytes first) (behind_gates (groups ++ group ∷ [])) rest ∙ ap (λ (b : List ℕ). frame_group_bytes first ++ b) (behind_gates-append groups group rest)
    ∙ sym (append_assoc (frame_group_bytes first) (behind_gates groups) (1 ∷ (frame_group_bytes group ++ rest))))

pub length-behind_gates : (last : RevisionRoot) (groups : List FrameGroup) → Follow last groups → length (behind_gates groups) ≡ groups_size groups
length-behind_gates last [] follow = refl
length-behind_gates last (group ∷ groups) follow =
    let rest = length-behind_gates group.root groups follow.2 in omega (arith, rest, length-append (frame_group_bytes group) (behind_gates groups), length-group group follow.0)

pub follow-append : (last : RevisionRoot) (groups : List FrameGroup) (group : FrameGroup) → Follow last groups → IsFrameGroup group → first_broken (order_rules (last_root last groups) group.root) ≡ None
    → Follow last (groups ++ group ∷ [])
follow-append last [] group follow is order = (is, order, tt)
follow-append last (first ∷ groups) group follow is order = (follow.0, follow.1, follow-append first.root groups group follow.2 is order)

pub keep-append : (last : RevisionRoot) (groups : List FrameGroup) (group : FrameGroup) → KeepCounts last groups → first_broken (count_rules (last_root last groups) group.root) ≡ None
    → first_broken (table_rules group.root group.table) ≡ None → KeepCounts last (groups ++ group ∷ [])
keep-append last [] group keep counts lengths = (counts, lengths, tt)
keep-append last (first ∷ groups) group keep counts lengths = (keep.0, keep.1, keep-append first.root groups group keep.2 counts lengths)

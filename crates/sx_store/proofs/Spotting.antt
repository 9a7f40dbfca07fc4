-- The frames of groups, where they stand in an image and in memory.
use Rattle.std.proofs.Common.{◌≡◌, ◌∙◌, ℕ, ◌+◌, ◌*◌, ◌≤◌, false, not, List, [], ◌∷◌, ◌++◌, length, map, take, drop, Some, None, refl, ap, sym, append_assoc, length-append, arith, nat_lt}
use Rattle.std.proofs.Math.Seq.{drop-append-add}
use Rattle.std.proofs.lemmas.Bool.Decides.{nat_tests}
use Rattle.std.proofs.lemmas.List.{drop-drop, drop_at, drop-append-le, length-drop, map-append, take-append-le}
use Rattle.std.specs.Prelude.{◌==◌}
use Rattle.std.specs.List.{AllByRecursion}
use Rattle.sha2.proofs.Facts256.{length-sha256}
use Rattle.sha2.specs.Sha256.{sha256}
use Rattle.sx_frame.specs.declared.table.FrameRow.{FrameRow}
use Rattle.sx_layout.proofs.FrameGroups.{length-group}
use Rattle.sx_layout.proofs.Tables.{length-table_bytes}
use Rattle.sx_layout.specs.FrameGroup.{FrameGroup, IsFrameGroup, behind_gates, frame_group_bytes, group_size, groups_size, table_bytes}
use Rattle.sx_layout.specs.Rule.{first_broken}
use Rattle.sx_layout.specs.Rules.{Follow, KeepCounts, frames_size, length_rule, table_rules}
use Rattle.sx_log.proofs.Ruled.{none_parts, not_broken, passes}
use Rattle.sx_log.specs.Kept.{rows_from}
use Rattle.sx_reader.specs.Cells.{LieBelow, Placed, StartBelow, TellFrames, TellsPiece, frames_from, frames_of, placed, placed_from, placed_in}
use Rattle.sx_reader.specs.declared.cell.Cell.{Cell}
use Rattle.sx_root.proofs.Again.{length-root_bytes}
use Rattle.sx_root.specs.Root.{root_bytes}
use Rattle.sx_root.specs.declared.root.RevisionRoot.{RevisionRoot}
use Rattle.sx_volume.specs.declared.spot.Spot.{Ghosts}

-- ---- the lengths of the frames

-- each frame has at least 5 bytes
abbrev AreLong : List FrameRow → Type 0
AreLong table = AllByRecursion (λ (row : FrameRow). 5 ≤ row.bytes) table

least-of : (a : ℕ) → nat_lt a 5 ≡ false → 5 ≤ a
least-of a is = grind (arith, nat_tests)

same-of : (a b : ℕ) → not (a == b) ≡ false → a ≡ b
same-of a b is = grind (arith, nat_tests)

long-of : (table : List FrameRow) → first_broken (map length_rule table) ≡ None → AreLong table
long-of [] none = tt
long-of (row ∷ table) none =
    let parts = passes (length_rule row).0 (length_rule row).1 (map length_rule table) none in
    (least-of row.bytes parts.0, long-of table parts.1)

-- what the rules on the table of a group give
pub table-kept : (root : RevisionRoot) (table : List FrameRow) → first_broken (table_rules root table) ≡ None → AreLong table × (root.body ≡ frames_size table)
table-kept root table none =
    let parts = none_parts (map length_rule table) _ none in
    (long-of table parts.0, same-of root.body (frames_size table) (not_broken _ _ parts.1))

pub bodies-kept : (last : RevisionRoot) (groups : List FrameGroup) → KeepCounts last groups → AllByRecursion (λ (group : FrameGroup). group.root.body ≡ frames_size group.table) groups
bodies-kept last [] keep = tt
bodies-kept last (group ∷ groups) keep = ((table-kept group.root group.table keep.1).1, bodies-kept group.root groups keep.2)

-- ---- they lie below the end

all-append : {A : Type 0} (P : A → Type 0) (xs ys : List A) → AllByRecursion P xs → AllByRecursion P ys → AllByRecursion P (xs ++ ys)
all-append P [] ys one other = other
all-append P (x ∷ xs) ys one other = (one.0, all-append P xs ys one.1 other)

table-below : (end place : ℕ) (table : List FrameRow) → AreLong table → place + frames_size table ≤ end → LieBelow end (placed_from place table)
table-below end place [] long fits = tt
table-below end place (row ∷ table) long fits = ((omega (arith, fits), long.0), table-below end (place + row.bytes) table long.1 (omega (arith, fits)))

pub lie-below : (end place : ℕ) (last : RevisionRoot) (groups : List FrameGroup) → KeepCounts last groups → place + groups_size groups ≤ end + 1 → LieBelow end (placed_in (rows_from place groups))
lie-below end place last [] keep fits = tt
lie-below end place last (group ∷ groups) keep fits =
    let table = table-kept group.root group.table keep.1 in
    all-append _ (placed_from (place + (80 + 36 * group.root.frames)) group.table) _
    (table-below end (place + (80 + 36 * group.root.frames)) group.table table.0 (omega (arith, table.1, fits)))
    (lie-below end (place + group_size group.root.frames group.root.body) group.root groups keep.2 (omega (arith, fits)))

pub start-below : (end place : ℕ) (groups : List FrameGroup) → place + groups_size groups ≤ end + 1 → StartBelow end (rows_from place groups)
start-below end place [] fits = tt
start-below end place (group ∷ groups) fits =
    (omega (arith, fits), start-below end (place + group_size group.root.frames group.root.body) groups (omega (arith, fits)))

-- ---- the spots tell them

-- the bytes that stand there
abbrev piece_of : List ℕ → Placed → List ℕ
piece_of all frame = take frame.1.bytes (drop frame.0 all)

pieces-of : (all : List ℕ) (place : ℕ) (table : List FrameRow) (body rest : List ℕ) → drop place all ≡ body ++ rest → frames_size table ≤ length body
    → map (piece_of all) (placed_from place table) ≡ frames_from table body
pieces-of all place [] body rest at fits = refl
pieces-of all place (row ∷ table) body rest at fits =
    let here : piece_of all (place, row) ≡ take row.bytes body = ap (λ (b : List ℕ). take row.bytes b) at ∙ take-append-le row.bytes body rest (omega (arith, fits)) in
    let next : drop (place + row.bytes) all ≡ drop row.bytes body ++ rest =
    sym (drop-drop row.bytes place all) ∙ ap (λ (b : List ℕ). drop row.bytes b) at ∙ drop-append-le row.bytes body rest (omega (arith, fits)) in
    let more = pieces-of all (place + row.bytes) table (drop row.bytes body) rest next (omega (arith, fits, length-drop row.bytes body)) in
    λ i. here i ∷ more i

-- the frames of a group stand behind its head, its table and its digest
behind-head : (group : FrameGroup) (rest : List ℕ) → IsFrameGroup group → drop (80 + 36 * group.root.frames) (frame_group_bytes group ++ rest) ≡ group.body ++ rest
behind-head group rest is =
    let head : List ℕ = root_bytes group.root ++ table_bytes group.table in
    let digest : List ℕ = sha256 head in
    let whole : frame_group_bytes group ++ rest ≡ (head ++ digest) ++ (group.body ++ rest) =
    append_assoc head (digest ++ group.body) rest ∙ ap (λ (b : List ℕ). head ++ b) (append_assoc digest group.body rest) ∙ sym (append_assoc head digest (group.body ++ rest)) in
    let long : length (head ++ digest) ≡ 80 + 36 * group.root.frames =
    omega (arith, length-append head digest, length-append (root_bytes group.root) (table_bytes group.table), length-root_bytes group.root, length-table_bytes group.table is.rows, length-sha256 head, is.frames) in
    ap (λ (b : List ℕ). drop (80 + 36 * group.root.frames) b) whole ∙ drop_at (head ++ digest) (group.body ++ rest) (80 + 36 * group.root.frames) long

pieces-in : (all : List ℕ) (place : ℕ) (last : RevisionRoot) (groups : List FrameGroup) (rest : List ℕ) → Follow last groups → KeepCounts last groups
    → drop place all ≡ drop 1 (behind_gates groups ++ rest) → map (piece_of all) (placed_in (rows_from place groups)) ≡ frames_of groups
pieces-in all place last [] rest follow keep at = refl
pieces-in all place last (group ∷ groups) rest follow keep at =
    let start : ℕ = place + (80 + 36 * group.root.frames) in
    let next : ℕ = place + group_size group.root.frames group.root.body in
    let table = table-kept group.root group.table keep.1 in
    let tail : List ℕ = behind_gates groups ++ rest in
    let here : drop place all ≡ frame_group_bytes group ++ tail = at ∙ append_assoc (frame_group_bytes group) (behind_gates groups) rest in
    let body : drop start all ≡ group.body ++ tail =
    sym (drop-drop (80 + 36 * group.root.frames) place all) ∙ ap (λ (b : List ℕ). drop (80 + 36 * group.root.frames) b) here ∙ behind-head group tail follow.0 in
    let size : group_size group.root.frames group.root.body ≡ length (frame_group_bytes group) + 1 = sym (length-group group follow.0) in
    let behind : drop next all ≡ drop 1 tail =
    sym (drop-drop (group_size group.root.frames group.root.body) place all) ∙ ap (λ (b : List ℕ). drop (group_size group.root.frames group.root.body) b) here
    ∙ ap (λ n. drop n (frame_group_bytes group ++ tail)) size ∙ drop-append-add (frame_group_bytes group) tail 1 in
    let own = pieces-of all start group.table group.body tail body (omega (arith, table.1, follow.0.body)) in
    let more = pieces-in all next group.root groups rest follow.2 keep.2 behind in
    map-append (piece_of all) (placed_from start group.table) (placed_in (rows_from next groups)) ∙ (λ i. own i ++ more i)

pieces-told : {S : Type 0} (g : Ghosts S) (all : List ℕ) (cells : List (Cell S)) → AllByRecursion (TellsPiece g all) cells
    → map (λ (cell : Cell S). g.content cell.spot) cells ≡ map Some (map (piece_of all) (map placed cells))
pieces-told g all [] tell = refl
pieces-told g all (cell ∷ cells) tell = let more = pieces-told g all cells tell.1 in λ i. tell.0 i ∷ more i

-- The spots tell the frames of the groups that stand in the image from this place on.
pub frames-told : {S : Type 0} (g : Ghosts S) (all : List ℕ) (place : ℕ) (last : RevisionRoot) (groups : List FrameGroup) (rest : List ℕ) (cells : List (Cell S)) → Follow last groups → KeepCounts last groups
    → drop place all ≡ drop 1 (behind_gates groups ++ rest) → map placed cells ≡ placed_in (rows_from place groups) → AllByRecursion (TellsPiece g all) cells → TellFrames g cells (frames_of groups)
frames-told g all place last groups rest cells follow keep at placed_are tell =
    pieces-told g all cells tell
    ∙ ap (λ (l : List Placed). map Some (map (piece_of all) l)) placed_are
    ∙ ap (λ (l : List (List ℕ)). map Some l) (pieces-in all place last groups rest follow keep at)

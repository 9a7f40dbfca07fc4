-- What is known of a ledger whose log is of groups that follow one another.
use Rattle.std.proofs.Common.{◌≡◌, ◌∙◌, ℕ, zero, suc, ◌+◌, ◌*◌, ◌-◌, ◌≤◌, List, [], ◌∷◌, length, map, take, refl, ap, sym, subst, arith, length-append, Some}
use Rattle.std.specs.Prelude.{slice_get}
use Rattle.sx_frame.specs.declared.table.FrameRow.{FrameRow}
use Rattle.sx_layout.specs.FrameGroup.{FrameGroup, first_root, frames_after, group_size, last_root}
use Rattle.sx_layout.specs.Rules.{Follow, log_limit}
use Rattle.sx_log.specs.Kept.{first_place, root_behind, rows_from}
use Rattle.sx_log.specs.declared.log.GroupRow.{GroupRow}
use Rattle.sx_log.proofs.OpenedGroups.{same_root}
use Rattle.sx_reader.specs.Cells.{placed, placed_from, placed_in}
use Rattle.sx_root.specs.declared.root.RevisionRoot.{RevisionRoot}
use Rattle.sx_store.specs.Sound.{IsWhole}
use Rattle.sx_store.specs.Shows.{count_of, frames_in, last_root_of}
use Rattle.sx_store.specs.Damage.{root_at}
use Rattle.sx_store.specs.declared.ledger.Ledger.{Ledger}
use Rattle.sx_store.proofs.Orders.{order-of}
use Rattle.sx_volume.specs.declared.spot.Spot.{Ghosts}

pub length-mapped : {A B : Type 0} (f : A → B) (xs : List A) → length (map f xs) ≡ length xs
length-mapped f [] = refl
length-mapped f (x ∷ xs) = ap suc (length-mapped f xs)

length-placed : (place : ℕ) (rows : List FrameRow) → length (placed_from place rows) ≡ length rows
length-placed place [] = refl
length-placed place (row ∷ rows) = ap suc (length-placed (place + row.bytes) rows)

pub length-rows : (place : ℕ) (groups : List FrameGroup) → length (rows_from place groups) ≡ length groups
length-rows place [] = refl
length-rows place (group ∷ groups) = ap suc (length-rows (place + group_size group.root.frames group.root.body) groups)

-- the frames are counted on
frames-are : (last : RevisionRoot) (place : ℕ) (groups : List FrameGroup) → Follow last groups → length (placed_in (rows_from place groups)) + frames_after last ≡ frames_after (last_root last groups)
frames-are last place [] follow = omega arith
frames-are last place (group ∷ groups) follow =
    let next : ℕ = place + group_size group.root.frames group.root.body in
    let at : ℕ = place + (80 + 36 * group.root.frames) in
    let order = order-of last group.root follow.1 in
    let rest = frames-are group.root next groups follow.2 in
    let own : length (placed_from at group.table) ≡ group.root.frames = length-placed at group.table ∙ follow.0.frames in
    omega (arith, order.first, rest, own, length-append (placed_from at group.table) (placed_in (rows_from next groups)))

-- Revisions and frames are within their limits.
limits : (last : RevisionRoot) (groups : List FrameGroup) → Follow last groups → frames_after last ≤ log_limit → last.revision ≤ log_limit
    → (frames_after (last_root last groups) ≤ log_limit) × ((last_root last groups).revision ≤ log_limit) × ((last_root last groups).revision ≡ last.revision + length groups)
    × (frames_after last ≤ frames_after (last_root last groups))
limits last [] follow frames revisions = (frames, revisions, omega arith, omega arith)
limits last (group ∷ groups) follow frames revisions =
    let order = order-of last group.root follow.1 in
    let rest = limits group.root groups follow.2 order.frames order.revisions in
    (rest.0, rest.1, omega (arith, rest.2, order.revision), omega (arith, rest.3, order.first))

-- a reference to nodes leads to a frame
node-below : (last : RevisionRoot) (place r : ℕ) (groups : List FrameGroup) → Follow last groups → frames_after last ≤ log_limit → last.revision ≤ log_limit → last.node_root ≤ frames_after last
    → (root_behind last (take r (rows_from place groups))).node_root ≤ frames_after (last_root last groups)
node-below last place zero groups follow frames revisions below = let later = (limits last groups follow frames revisions).3 in omega (arith, later, below)
node-below last place (suc r) [] follow frames revisions below = below
node-below last place (suc r) (group ∷ groups) follow frames revisions below =
    let order = order-of last group.root follow.1 in
    node-below group.root (place + group_size group.root.frames group.root.body) r groups follow.2 order.frames order.revisions order.node_root

-- what follows of it in numbers
pub record Numbers {S : Type 0} (ledger : Ledger S) : Type 0 where
  pub count : count_of ledger ≤ log_limit
  pub cells : length ledger.cells.items ≡ frames_in ledger
  pub frames : frames_in ledger ≤ log_limit
  pub revision : (last_root_of ledger).revision ≡ count_of ledger
  pub roots : (r : ℕ) → (root_at ledger r).node_root ≤ length ledger.cells.items

pub numbers : {S : Type 0} (g : Ghosts S) (ledger : Ledger S) → IsWhole g ledger → Numbers ledger
numbers g ledger whole =
    let groups : List FrameGroup = whole.groups in
    let rows = whole.is_log.rows in
    let most = limits first_root groups whole.follow (omega arith) (omega arith) in
    let last : last_root_of ledger ≡ last_root first_root groups = ap (root_behind first_root) rows ∙ same_root first_root first_place groups in
    let long : count_of ledger ≡ length groups = ap length rows ∙ length-rows first_place groups in
    let frames : frames_in ledger ≡ frames_after (last_root first_root groups) = ap frames_after last in
    let cells : length ledger.cells.items ≡ frames_after (last_root first_root groups) =
    sym (length-mapped placed ledger.cells.items) ∙ ap length whole.cells.placed_are ∙ ap (λ (l : List GroupRow). length (placed_in l)) rows ∙ counted (frames-are first_root first_place groups whole.follow) in
    record {
      count = omega (arith, long, most.1, most.2);
      cells = cells ∙ sym frames;
      frames = omega (arith, frames, most.0);
      revision = omega (arith, ap (λ (root : RevisionRoot). root.revision) last, most.2, long);
      roots = λ r. subst (λ (n : ℕ). (root_at ledger r).node_root ≤ n) (sym cells)
          (subst (λ (l : List GroupRow). (root_behind first_root (take r l)).node_root ≤ frames_after (last_root first_root groups)) (sym rows)
          (node-below first_root first_place r groups whole.follow (omega arith) (omega arith) (omega arith)));
    }
  where
    counted : {a b : ℕ} → a + 0 ≡ b → a ≡ b
    counted is = omega (arith, is)

-- the root of a revision is that of its row
pub root-taken : (root : RevisionRoot) (rows : List GroupRow) (k : ℕ) (row : GroupRow) → slice_get rows k ≡ Some row → row.root ≡ root_behind root (take (suc k) rows)
root-taken root [] k row is = absurd cc
root-taken root (x ∷ rows) zero row is = let same : x ≡ row = cc in ap (λ (r : GroupRow). r.root) (sym same)
root-taken root (x ∷ rows) (suc k) row is = root-taken x.root rows k row is

pub root-at : (root : RevisionRoot) (rows : List GroupRow) (r : ℕ) (row : GroupRow) → (r ≡ 0 → ⊥) → slice_get rows (r - 1) ≡ Some row → row.root ≡ root_behind root (take r rows)
root-at root rows zero row some is = absurd (some refl)
root-at root rows (suc k) row some is = let e : suc k - 1 ≡ k = omega arith in root-taken root rows k row (rw e at is)

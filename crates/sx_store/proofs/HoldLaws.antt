-- A group that a volume holds.
use Rattle.std.proofs.Common.{◌≡◌, ◌∙◌, ℕ, ◌+◌, ◌*◌, ◌-◌, ◌^◌, ◌<◌, ◌≤◌, List, [], ◌∷◌, length, take, drop, ap, sym, subst, arith, length-append, Option, Some, Result, Ok, Err, IfSome}
use Rattle.std.specs.Prelude.{IfOk}
use Rattle.sx_layout.proofs.FrameGroups.{length-group}
use Rattle.sx_layout.specs.FrameGroup.{FrameGroup, first_root, frame_group_bytes, groups_size}
use Rattle.sx_layout.specs.Rules.{Follow, frames_size}
use Rattle.sx_log.proofs.Finding.{if_told}
use Rattle.sx_log.specs.Kept.{first_place}
use Rattle.sx_reader.specs.declared.cell.Cell.{Cell}
use Rattle.sx_root.specs.declared.root.RevisionRoot.{RevisionRoot}
use Rattle.sx_store.specs.Groups.{IsGroupAfter}
use Rattle.sx_store.specs.Sound.{IsWhole}
use Rattle.sx_store.specs.declared.group.NewGroup.{NewGroup}
use Rattle.sx_store.specs.declared.ledger.Ledger.{Ledger}
use Rattle.sx_store.proofs.Wholes.{length-rows, numbers}
use Rattle.sx_volume.specs.Held.{LiesInHeld, held_range}
use Rattle.sx_volume.specs.declared.spot.Spot as spot

-- ---- the end of a log

groups-size : (last : RevisionRoot) (groups : List FrameGroup) → Follow last groups → groups_size groups ≤ length groups * 268_435_456
groups-size last [] follow = omega arith
groups-size last (group ∷ groups) follow =
    let rest = groups-size group.root groups follow.2 in
    let own = follow.0.size in
    omega (arith, rest, own)

-- the log ends far below the greatest place
pub end-below : {S : Type 0} (g : spot.Ghosts S) (ledger : Ledger S) → IsWhole g ledger → ledger.log.end < 2 ^ 53
end-below g ledger whole =
    let count = (numbers g ledger whole).count in
    let rows = ap length whole.is_log.rows ∙ length-rows first_place whole.groups in
    let bytes = groups-size first_root whole.groups whole.follow in
    omega (arith, count, rows, bytes, whole.is_log.end)

-- ---- the held frame

-- it has one frame, as long as its table says
length-sealed : (last : RevisionRoot) (made : NewGroup) (after : IsGroupAfter last made) → length made.bytes.items ≡ 117 + made.row.bytes
length-sealed last made after =
    let group = after.group in
    let long = length-group group after.is_group in
    let one : group.root.frames ≡ 1 = sym after.is_group.frames ∙ ap length after.table in
    let body : group.root.body ≡ made.row.bytes + 0 = after.sizes ∙ ap frames_size after.table in
    omega (arith, ap length after.bytes_are, length-append (frame_group_bytes group) (0 ∷ []), long, one, body)

-- its frame lies in the held piece
pub lies-held : (last : RevisionRoot) (made : NewGroup) (after : IsGroupAfter last made) (held : Option (ℕ × List ℕ)) (end place : ℕ) → held ≡ Some (end + 1, made.bytes.items) → place ≡ end + 1 + 116
    → LiesInHeld held place made.row.bytes
lies-held last made after held end place is at =
    let long = length-sealed last made after in
    subst (λ (o : Option (ℕ × List ℕ)). LiesInHeld o place made.row.bytes) (sym is) (omega (arith, at), omega (arith, at, long))

pub range-held : (bytes : List ℕ) (held : Option (ℕ × List ℕ)) (end place count : ℕ) → held ≡ Some (end + 1, bytes) → place ≡ end + 1 + 116 → held_range held place count ≡ take count (drop 116 bytes)
range-held bytes held end place count is at =
    let front : place - (end + 1) ≡ 116 = omega (arith, at) in
    ap (λ (o : Option (ℕ × List ℕ)). held_range o place count) is ∙ ap (λ (n : ℕ). take count (drop n bytes)) front

pub content-held : {S E : Type 0} (s : spot.Ghosts S) (r : Result (Cell S) E) (new old : Option (List ℕ)) (P : Type 0) (a b : List ℕ) → new ≡ old → P → a ≡ b
    → IfOk r (λ cell. IfSome new (λ _. P → s.content cell.spot ≡ Some a)) → IfOk r (λ cell. IfSome old (λ _. s.content cell.spot ≡ Some b))
content-held s (Err e) new old P a b same holds is told = tt
content-held s (Ok cell) new old P a b same holds is told =
    subst (λ (o : Option (List ℕ)). IfSome o (λ _. s.content cell.spot ≡ Some b)) same
    (if_told new (λ _. P → s.content cell.spot ≡ Some a) (λ _. s.content cell.spot ≡ Some b) (λ all here known. known holds ∙ ap Some is) told)

-- A ledger with one group more, which has one frame.
use Rattle.std.proofs.Common.{◌≡◌, ◌∙◌, ℕ, ◌+◌, ◌*◌, List, [], ◌∷◌, ◌++◌, length, take, drop, map, Option, Some, ap, sym, subst, arith, append-nil, length-append}
use Rattle.std.proofs.lemmas.List.{append_assoc, drop_at, map_push, take_at}
use Rattle.std.specs.List.{AllByRecursion}
use Rattle.sha2.specs.Sha256.{sha256}
use Rattle.sx_frame.specs.declared.table.FrameRow.{FrameRow}
use Rattle.sx_layout.specs.FrameGroup.{FrameGroup, first_root, frame_group_bytes, head_part}
use Rattle.sx_layout.specs.Rules.{frames_size}
use Rattle.sx_layout.proofs.FrameGroups.{frame_group_again, length-group}
use Rattle.sx_log.specs.Committing.{IsNext, KeepsLog}
use Rattle.sx_log.specs.Kept.{listed, root_behind, row_at}
use Rattle.sx_log.specs.declared.log.GroupRow.{GroupRow}
use Rattle.sx_reader.specs.Cells.{AreCells, IsCell, Placed, frames_from, frames_of, placed, placed_from, placed_in, placed_of}
use Rattle.sx_reader.specs.declared.cell.Cell.{Cell}
use Rattle.sx_reader.proofs.Checking.{all-push}
use Rattle.sx_root.specs.declared.root.RevisionRoot.{RevisionRoot}
use Rattle.sx_store.specs.Groups.{IsGroupAfter}
use Rattle.sx_store.specs.Sound.{IsLedgerOf}
use Rattle.sx_store.specs.declared.group.NewGroup.{NewGroup}
use Rattle.sx_store.specs.declared.ledger.Ledger.{Ledger}
use Rattle.sx_volume.specs.declared.spot.Spot as spot
use Rattle.sx_volume.specs.declared.volume.Volume as volume

placed_in-append : (rows : List GroupRow) (row : GroupRow) → placed_in (rows ++ row ∷ []) ≡ placed_in rows ++ placed_from (row.place + (80 + 36 * row.root.frames)) row.table
placed_in-append [] row = append-nil (placed_from (row.place + (80 + 36 * row.root.frames)) row.table)
placed_in-append (x ∷ rows) row =
    let first : List Placed = placed_from (x.place + (80 + 36 * x.root.frames)) x.table in
    let last : List Placed = placed_from (row.place + (80 + 36 * row.root.frames)) row.table in
    ap (λ (l : List Placed). first ++ l) (placed_in-append rows row) ∙ sym (append_assoc first (placed_in rows) last)

frames_of-append : (groups : List FrameGroup) (group : FrameGroup) → frames_of (groups ++ group ∷ []) ≡ frames_of groups ++ frames_from group.table group.body
frames_of-append [] group = append-nil (frames_from group.table group.body)
frames_of-append (x ∷ groups) group =
    let first : List (List ℕ) = frames_from x.table x.body in
    let last : List (List ℕ) = frames_from group.table group.body in
    ap (λ (l : List (List ℕ)). first ++ l) (frames_of-append groups group) ∙ sym (append_assoc first (frames_of groups) last)

-- one group has these bytes
pub next-is : (last : RevisionRoot) (made : NewGroup) (rows : List GroupRow) (next : FrameGroup) → (after : IsGroupAfter last made) → IsNext rows made.bytes.items next → after.group ≡ next
next-is last made rows next after is = (frame_group_again after.group next (0 ∷ []) (0 ∷ []) after.is_group is.is_group (sym after.bytes_are ∙ is.bytes_are)).0

pub is-next : (last : RevisionRoot) (made : NewGroup) (rows : List GroupRow) (after : IsGroupAfter last made) → last ≡ root_behind first_root rows → IsNext rows made.bytes.items after.group
is-next last made rows after same = record { is_group = after.is_group; follows = rw (sym same) after.follows; bytes_are = after.bytes_are }

module _ (last : RevisionRoot) (made : NewGroup) (after : IsGroupAfter last made) where
  one-frame : after.group.root.frames ≡ 1
  one-frame = sym after.is_group.frames ∙ ap length after.table

  body-long : length after.group.body ≡ made.row.bytes
  body-long = let sizes = after.sizes ∙ ap frames_size after.table in omega (arith, after.is_group.body, sizes)

  head-long : length (frame_group_bytes after.group) ≡ 116 + length after.group.body
  head-long = let all = length-group after.group after.is_group in omega (arith, all, one-frame, after.is_group.body)

  -- the frame, where it is cut from the bytes of the group
  pub frame-cut : take made.row.bytes (drop 116 made.bytes.items) ≡ after.group.body
  frame-cut =
      let group = after.group in
      let head : List ℕ = head_part group.root group.table in
      let front : List ℕ = head ++ sha256 head in
      let parts : made.bytes.items ≡ front ++ (group.body ++ 0 ∷ []) =
      after.bytes_are ∙ append_assoc head (sha256 head ++ group.body) (0 ∷ []) ∙ ap (λ (l : List ℕ). head ++ l) (append_assoc (sha256 head) group.body (0 ∷ [])) ∙ sym (append_assoc head (sha256 head) (group.body ++ 0 ∷ [])) in
      let long : length front ≡ 116 =
      omega (arith, head-long, length-append head (sha256 head ++ group.body), length-append (sha256 head) group.body, length-append head (sha256 head)) in
      ap (λ (l : List ℕ). take made.row.bytes (drop 116 l)) parts ∙ ap (take made.row.bytes) (drop_at front (group.body ++ 0 ∷ []) 116 long)
      ∙ take_at group.body (0 ∷ []) made.row.bytes body-long

  one-frame_from : frames_from after.group.table after.group.body ≡ after.group.body ∷ []
  one-frame_from =
      let whole : take made.row.bytes after.group.body ≡ after.group.body = ap (take made.row.bytes) (sym (append-nil after.group.body)) ∙ take_at after.group.body [] made.row.bytes body-long in
      ap (λ (table : List FrameRow). frames_from table after.group.body) after.table ∙ ap (λ (frame : List ℕ). frame ∷ []) whole

  module _ {S : Type 0} (s : spot.Ghosts S) (old new : Ledger S) (cell : Cell S) (rows : listed new.log.groups ≡ listed old.log.groups ++ row_at (old.log.end + 1) after.group ∷ [])
      (cells : new.cells.items ≡ old.cells.items ++ cell ∷ []) where
    pub are-cells : AreCells s old.log old.cells.items → placed cell ≡ (old.log.end + 117, made.row) → IsCell s cell → AreCells s new.log new.cells.items
    are-cells are placed_is is = record {
      placed_are =
          let place : old.log.end + 1 + (80 + 36 * after.group.root.frames) ≡ old.log.end + 117 = omega (arith, one-frame) in
          let own : placed_from (old.log.end + 1 + (80 + 36 * after.group.root.frames)) after.group.table ≡ placed cell ∷ [] =
          ap (λ (n : ℕ). placed_from n after.group.table) place ∙ ap (placed_from (old.log.end + 117)) after.table ∙ ap (λ (p : Placed). p ∷ []) (sym placed_is) in
          ap (map placed) cells ∙ map_push placed old.cells.items cell ∙ ap (λ (l : List Placed). l ++ placed cell ∷ []) are.placed_are
          ∙ ap (λ (l : List Placed). placed_of old.log ++ l) (sym own) ∙ sym (placed_in-append (listed old.log.groups) (row_at (old.log.end + 1) after.group)) ∙ ap placed_in (sym rows);
      each = subst (λ (l : List (Cell S)). AllByRecursion (IsCell s) l) (sym cells) (all-push (IsCell s) old.cells.items cell are.each is);
    }

    pub is-ledger_of : {V E : Type 0} (g : volume.Ghosts V S E) (volume : V) (groups : List FrameGroup) → IsLedgerOf s old groups → KeepsLog g new.log volume (groups ++ after.group ∷ [])
        → s.content cell.spot ≡ Some (take made.row.bytes (drop 116 made.bytes.items)) → IsLedgerOf s new (groups ++ after.group ∷ [])
    is-ledger_of g volume groups of keeps content = record {
      is_log = keeps.is_log;
      bodies = all-push (λ (group : FrameGroup). group.root.body ≡ frames_size group.table) groups after.group of.bodies after.sizes;
      follow = keeps.follow;
      frames =
          let told = λ (c : Cell S). s.content c.spot in
          let mine : List (Option (List ℕ)) = map Some (frames_of groups) in
          ap (map told) cells ∙ map_push told old.cells.items cell ∙ ap (λ (l : List (Option (List ℕ))). l ++ told cell ∷ []) of.frames
          ∙ ap (λ (o : Option (List ℕ)). mine ++ o ∷ []) (content ∙ ap Some frame-cut) ∙ sym (map_push Some (frames_of groups) after.group.body)
          ∙ ap (λ (l : List (List ℕ)). map Some (frames_of groups ++ l)) (sym one-frame_from) ∙ ap (map Some) (sym (frames_of-append groups after.group));
    }

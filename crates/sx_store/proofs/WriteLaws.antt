-- A group that a volume holds, and that is written or not.
use Rattle.std.proofs.Common.{◌≡◌, ◌∙◌, ℕ, ◌+◌, List, [], ◌∷◌, ◌++◌, take, drop, Option, None, Some, IfSome, refl, ap, sym, subst, Vec, Global, Result, Ok, Err}
use Rattle.std.specs.Prelude.{IsErrAnd, IsSome, is_some}
use Rattle.sx_layout.specs.Born.{HasLog}
use Rattle.sx_layout.specs.FrameGroup.{FrameGroup}
use Rattle.sx_log.proofs.Finding.{all_told}
use Rattle.sx_log.specs.Committing.{HoldsNext, IsNext, KeepsLog, OnlyHolds}
use Rattle.sx_log.specs.Creating.{birth_of}
use Rattle.sx_log.specs.Kept.{listed, row_at}
use Rattle.sx_log.specs.declared.birth.Birth.{Birth as Names}
use Rattle.sx_reader.specs.Cells.{IsCell, placed}
use Rattle.sx_reader.specs.declared.cell.Cell.{Cell}
use Rattle.sx_store.proofs.Committing.{are-cells, is-ledger_of, is-next, next-is}
use Rattle.sx_store.proofs.Keeping.{ledger-same}
use Rattle.sx_store.proofs.Leaving.{done_then, failed_then, refused_leaves}
use Rattle.sx_store.proofs.Ledgers.{images_of, keeps_groups, kept_in, some_groups}
use Rattle.sx_store.specs.Commits.{Adds, LeavesLog, LeavesWritten}
use Rattle.sx_store.specs.Groups.{IsGroupAfter}
use Rattle.sx_store.specs.Shows.{birth_in, last_root_of, stage_of}
use Rattle.sx_store.specs.Sound.{IsKeptIn, IsLedgerOf, IsSound, SameBut}
use Rattle.sx_store.specs.declared.fault.CommitFault.{CommitFault}
use Rattle.sx_store.specs.declared.fault.CommitFault.TheVariants as faults
use Rattle.sx_store.specs.declared.fault.Committed.{Committed}
use Rattle.sx_store.specs.declared.group.NewGroup.{NewGroup}
use Rattle.sx_store.specs.declared.ledger.Ledger.{Ledger}
use Rattle.sx_volume.specs.Images.{Elapses}
use Rattle.sx_volume.specs.declared.spot.Spot as spot
use Rattle.sx_volume.specs.declared.volume.Volume as volume

all_of : (bytes : Option (List ℕ)) → IsSome bytes → (all : List ℕ) × (bytes ≡ Some all)
all_of None is = absurd (cc is)
all_of (Some all) is = (all, refl)

-- the volume holds the group, or not: nothing was written
module _ {V S E : Type 0} (g : volume.Ghosts V S E) (s : spot.Ghosts S) (start held : V) (old : Ledger S) (sound : IsSound g s start old) (going : stage_of old ≡ None) (only : OnlyHolds g start held) where
  images-held : (all : List ℕ) → g.bytes start ≡ Some all → (groups : List FrameGroup) → IsLedgerOf s old groups → (image : List ℕ) → g.was_image held (g.moment start) image → HasLog image (birth_in old) groups
  images-held all is groups of image left = images_of g s start old sound going all is groups of image (only.no_image_more image left)

  pub refused-leaves : (r : Result Committed CommitFault) (bytes : List ℕ) → IsErrAnd r (λ e. e ≡ faults.OutOfMemory)
      → IfSome (g.bytes start) (λ _. (next : FrameGroup) → IsNext (listed old.log.groups) bytes next → LeavesLog s old next r (g.moment start) (g.was_image held) (g.synced held))
  refused-leaves r bytes none =
      all_told (g.bytes start) (λ _. (next : FrameGroup) → IsNext (listed old.log.groups) bytes next → LeavesLog s old next r (g.moment start) (g.was_image held) (g.synced held))
      (λ all is next is_next groups of. refused_leaves (birth_in old) groups next r (g.moment start) (g.was_image held) (g.synced held) none (images-held all is groups of))

  -- the ledger that goes with it, and its volume
  module _ (mid : Ledger S) (same : SameBut old mid) (sound_mid : IsSound g s held mid) where
    mid-going : stage_of mid ≡ None
    mid-going = same.stage ∙ going

    mid-of : (groups : List FrameGroup) → IsLedgerOf s old groups → IsLedgerOf s mid groups
    mid-of = ledger-same s old mid same.log same.cells

    mid-keeps : (all : List ℕ) → g.bytes start ≡ Some all → (groups : List FrameGroup) → IsLedgerOf s old groups → KeepsLog g mid.log held groups
    mid-keeps all is groups of = keeps_groups g s held mid sound_mid mid-going all (only.same_bytes ∙ is) groups (mid-of groups of)

    -- what writing it leaves
    module _ (end : V) (time : Elapses (g.moment held) (g.moment end) (g.was_image held) (g.was_image end) (g.synced held) (g.synced end)) (bytes : List ℕ) (r : Result (Unit {0}) ℕ)
        (holds : (next : FrameGroup) → IsNext (listed old.log.groups) bytes next → HoldsNext g mid.log held next)
        (leaves : (groups : List FrameGroup) (group : FrameGroup) → KeepsLog g mid.log held groups → HoldsNext g mid.log held group
        → IfSome (g.bytes held) (λ _. LeavesWritten (birth_in mid) groups group r (g.moment held) (g.was_image end) (g.synced end))) where
      leaves-written : (all : List ℕ) → g.bytes start ≡ Some all → (next : FrameGroup) → IsNext (listed old.log.groups) bytes next → (groups : List FrameGroup) → IsLedgerOf s old groups
          → (now : Result (Unit {0}) ℕ) → r ≡ now → LeavesWritten (birth_in old) groups next now (g.moment held) (g.was_image end) (g.synced end)
      leaves-written all is next is_next groups of now as_now =
          subst (λ (n : Result (Unit {0}) ℕ). LeavesWritten (birth_in old) groups next n (g.moment held) (g.was_image end) (g.synced end)) as_now
          (subst (λ (b : Names). LeavesWritten (birth_of b) groups next r (g.moment held) (g.was_image end) (g.synced end)) same.log.birth
          (subst (λ (b : Option (List ℕ)). IfSome b (λ _. LeavesWritten (birth_in mid) groups next r (g.moment held) (g.was_image end) (g.synced end))) (only.same_bytes ∙ is)
          (leaves groups next (mid-keeps all is groups of) (holds next is_next))))

      pub failed-leaves : (stage : ℕ) → r ≡ Err stage
          → IfSome (g.bytes start) (λ _. (next : FrameGroup) → IsNext (listed old.log.groups) bytes next → LeavesLog s old next (Err (faults.Failed stage)) (g.moment start) (g.was_image end) (g.synced end))
      failed-leaves stage as_err =
          all_told (g.bytes start)
          (λ _. (next : FrameGroup) → IsNext (listed old.log.groups) bytes next → LeavesLog s old next (Err (faults.Failed stage)) (g.moment start) (g.was_image end) (g.synced end))
          (λ all is next is_next groups of.
          failed_then g start held end only.time.later time (birth_in old) groups next stage (images-held all is groups of) (leaves-written all is next is_next groups of (Err stage) as_err))

      pub done-leaves : (done : Committed) (unit : Unit {0}) → r ≡ Ok unit
          → IfSome (g.bytes start) (λ _. (next : FrameGroup) → IsNext (listed old.log.groups) bytes next → LeavesLog s old next (Ok done) (g.moment start) (g.was_image end) (g.synced end))
      done-leaves done unit as_ok =
          all_told (g.bytes start)
          (λ _. (next : FrameGroup) → IsNext (listed old.log.groups) bytes next → LeavesLog s old next (Ok done) (g.moment start) (g.was_image end) (g.synced end))
          (λ all is next is_next groups of.
          done_then g start held end only.time.later time (birth_in old) groups next done (images-held all is groups of) (leaves-written all is next is_next groups of (Ok unit) as_ok))

    -- the ledger with the group
    module _ (made : NewGroup) (after : IsGroupAfter (last_root_of old) made) (end : V) (put new : Ledger S) (cell : Cell S)
        (holds : (next : FrameGroup) → IsNext (listed old.log.groups) made.bytes.items next → HoldsNext g mid.log held next)
        (entered : (group : FrameGroup) → HoldsNext g mid.log held group → listed new.log.groups ≡ listed mid.log.groups ++ row_at (mid.log.end + 1) group ∷ [])
        (keeps : (groups : List FrameGroup) (group : FrameGroup) → KeepsLog g mid.log held groups → HoldsNext g mid.log held group → KeepsLog g new.log end (groups ++ group ∷ []))
        (same_cells : put.cells ≡ mid.cells) (pushed : new.cells.items ≡ put.cells.items ++ cell ∷ []) (content : IfSome (g.bytes start) (λ _. s.content cell.spot ≡ Some (take made.row.bytes (drop 116 made.bytes.items)))) where
      cells : new.cells.items ≡ mid.cells.items ++ cell ∷ []
      cells = pushed ∙ ap (λ (v : Vec (Cell S) Global). v.items ++ cell ∷ []) same_cells

      own-held : HoldsNext g mid.log held after.group
      own-held = holds after.group (is-next (last_root_of old) made (listed old.log.groups) after refl)

      ledger-with : (all : List ℕ) → g.bytes start ≡ Some all → (groups : List FrameGroup) → IsLedgerOf s mid groups → IsLedgerOf s new (groups ++ after.group ∷ [])
      ledger-with all is groups of =
          is-ledger_of (last_root_of old) made after s mid new cell (entered after.group own-held) cells g end groups of
          (keeps groups after.group (keeps_groups g s held mid sound_mid mid-going all (only.same_bytes ∙ is) groups of) own-held)
          (subst (λ (b : Option (List ℕ)). IfSome b (λ _. s.content cell.spot ≡ Some (take made.row.bytes (drop 116 made.bytes.items)))) is content)

      pub with-adds : IfSome (g.bytes start) (λ _. (next : FrameGroup) → IsNext (listed old.log.groups) made.bytes.items next → next.table ≡ made.row ∷ [] → Adds s old next new)
      with-adds =
          all_told (g.bytes start) (λ _. (next : FrameGroup) → IsNext (listed old.log.groups) made.bytes.items next → next.table ≡ made.row ∷ [] → Adds s old next new)
          (λ all is next is_next table groups of.
          subst (λ (group : FrameGroup). IsLedgerOf s new (groups ++ group ∷ [])) (next-is (last_root_of old) made (listed old.log.groups) next after is_next) (ledger-with all is groups (mid-of groups of)))

      pub with-sound : (IsSome (g.bytes end) → IsSome (g.bytes held)) → placed cell ≡ (old.log.end + 117, made.row) → IsCell s cell → IsSound g s end new
      with-sound told place is_cell =
          let some = some_groups g s held mid sound_mid mid-going in
          let grown = keeps some.0 after.group some.1 own-held in
          let at : placed cell ≡ (mid.log.end + 117, made.row) = place ∙ ap (λ (n : ℕ). (n + 117, made.row)) (sym same.log.end) in
          record {
            whole = record {
              groups = some.0 ++ after.group ∷ [];
              is_log = grown.is_log;
              follow = grown.follow;
              cells = are-cells (last_root_of old) made after s mid new cell (entered after.group own-held) cells sound_mid.whole.cells at is_cell;
            };
            gate = λ none. grown.gate;
            kept = λ none.
                all_told (g.bytes end) (λ _. IsKeptIn g s end new)
                (λ last as_last.
                let before = all_of (g.bytes held) (told (ap (λ (b : Option (List ℕ)). is_some b) as_last)) in
                let own = kept_in g s held mid sound_mid mid-going before.0 before.1 in
                record {
                  groups = own.groups ++ after.group ∷ [];
                  is_of = ledger-with before.0 (sym only.same_bytes ∙ before.1) own.groups own.is_of;
                  keeps = keeps own.groups after.group own.keeps own-held;
                });
          }

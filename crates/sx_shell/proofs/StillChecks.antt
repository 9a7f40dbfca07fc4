-- What a check of cells tells, as of the frames of the groups.
use Rattle.std.proofs.Common.{◌≡◌, ◌∙◌, inl, inr, ℕ, zero, suc, Bool, List, [], ◌∷◌, map, Option, Some, IfSome, refl, ap, sym, subst}
use Rattle.std.specs.Prelude.{slice_get}
use Rattle.sx_bytes.proofs.Fronts.{some_is}
use Rattle.sx_bytes.specs.declared.damage.Damage.{Damage}
use Rattle.sx_layout.specs.FrameGroup.{FrameGroup}
use Rattle.sx_log.specs.Kept.{first_place, listed, rows_from}
use Rattle.sx_log.specs.declared.log.GroupRow.{GroupRow}
use Rattle.sx_reader.specs.Asked.{BreaksAsking, ExplainsEach, ExplainsSome, KeepAll, KeepEach, KeepsAsking, asked_in}
use Rattle.sx_reader.specs.Cells.{AreCells, Placed, TellFrames, frames_of, placed, placed_in}
use Rattle.sx_reader.specs.Frames.{IsReadOf}
use Rattle.sx_reader.specs.declared.cell.Cell.{Cell}
use Rattle.sx_shell.proofs.StillEnds.{IsWritten, written-is}
use Rattle.sx_shell.specs.Still.{ChecksGroups, IsChecked, IsCheckedDamage, IsFrameDamage, IsUnwritten, unchecked_status}
use Rattle.sx_shell.specs.declared.status.Status.{Status}
use Rattle.sx_shell.specs.declared.status.Status.TheVariants.{Done, Usage, ReadFault, WriteFault, VolumeFault, Damaged, NotOurs, Unborn, Born, Missing, OutOfMemory}
use Rattle.sx_store.specs.Sound.{IsLedgerOf}
use Rattle.sx_store.specs.declared.ledger.Ledger.{Ledger}
use Rattle.sx_view.specs.declared.fault.Fault.{Fault}
use Rattle.sx_view.specs.declared.fault.Fault.TheVariants as readings
use Rattle.sx_volume.specs.declared.spot.Spot.{Ghosts}

mapped-at : {A B : Type 0} (f : A → B) (xs : List A) (ys : List B) (i : ℕ) (x : A) → map f xs ≡ ys → slice_get xs i ≡ Some x → slice_get ys i ≡ Some (f x)
mapped-at f [] ys i x are is = absurd cc
mapped-at f (z ∷ xs) [] i x are is = absurd cc
mapped-at f (z ∷ xs) (y ∷ ys) zero x are is =
    let head : f z ≡ y = cc are in
    ap Some (sym head ∙ ap f (some_is z x is))
mapped-at f (z ∷ xs) (y ∷ ys) (suc i) x are is =
    let tail : map f xs ≡ ys = cc are in
    mapped-at f xs ys i x tail is

at-mapped : {A B : Type 0} (f : A → B) (xs : List A) (ys : List B) (i : ℕ) (y : B) → map f xs ≡ ys → slice_get ys i ≡ Some y → (x : A) × (slice_get xs i ≡ Some x) × (f x ≡ y)
at-mapped f [] [] i y are is = absurd cc
at-mapped f [] (z ∷ ys) i y are is = absurd cc
at-mapped f (x ∷ xs) [] i y are is = absurd cc
at-mapped f (x ∷ xs) (z ∷ ys) zero y are is =
    let head : f x ≡ z = cc are in
    (x, refl, head ∙ some_is z y is)
at-mapped f (x ∷ xs) (z ∷ ys) (suc i) y are is =
    let tail : map f xs ≡ ys = cc are in
    at-mapped f xs ys i y tail is

module _ {S : Type 0} (g : Ghosts S) where
  -- the cell whose fault is told
  explains-at : (tells rose : Type 0) (asked : List Bool) (cells : List (Cell S)) (damage : Damage) → ExplainsEach g tells rose asked cells (readings.Damaged damage)
      → (i : ℕ) × (whole : Bool) × (cell : Cell S) × (bytes : List ℕ) × (slice_get asked i ≡ Some whole) × (slice_get cells i ≡ Some cell)
      × IsReadOf g tells cell bytes × BreaksAsking whole cell.place cell.row.digest bytes damage
  explains-at tells rose [] cells damage is = absurd is
  explains-at tells rose (whole ∷ asked) [] damage is = absurd is
  explains-at tells rose (whole ∷ asked) (cell ∷ cells) damage (inl is) = (zero, whole, cell, is.0, refl, refl, is.1, is.2)
  explains-at tells rose (whole ∷ asked) (cell ∷ cells) damage (inr is) =
      let rest = explains-at tells rose asked cells damage is in
      (suc rest.0, rest.1, rest.2, rest.3, rest.4, rest.5, rest.6, rest.7)

  -- what is asked of a cell is kept
  keep-at : (asked : List Bool) (cells : List (Cell S)) (i : ℕ) (whole : Bool) (cell : Cell S) → KeepEach g asked cells → slice_get asked i ≡ Some whole → slice_get cells i ≡ Some cell
      → KeepsAsking g whole cell
  keep-at [] cells i whole cell keep is at = absurd cc
  keep-at (first ∷ asked) [] i whole cell keep is at = absurd cc
  keep-at (first ∷ asked) (one ∷ cells) zero whole cell keep is at =
      subst (λ (t : Bool). KeepsAsking g t cell) (some_is first whole is) (subst (λ (c : Cell S). KeepsAsking g first c) (some_is one cell at) keep.0)
  keep-at (first ∷ asked) (one ∷ cells) (suc i) whole cell keep is at = keep-at asked cells i whole cell keep.1 is at

  -- the cell's spot tells its frame
  tells-frame : (cells : List (Cell S)) (frames : List (List ℕ)) (i : ℕ) (cell : Cell S) → TellFrames g cells frames → slice_get cells i ≡ Some cell
      → (bytes : List ℕ) × (slice_get frames i ≡ Some bytes) × (g.content cell.spot ≡ Some bytes)
  tells-frame cells frames i cell are at =
      let there = at-mapped Some frames (map (λ (c : Cell S). g.content c.spot) cells) i (g.content cell.spot) (sym are) (mapped-at (λ (c : Cell S). g.content c.spot) cells _ i cell refl at) in
      (there.0, there.1, sym there.2)

  -- Damage that a check of the cells tells is that of a frame of the groups.
  pub frame-damage : (tells rose : Type 0) (ledger : Ledger S) (groups : List FrameGroup) (damage : Damage) → tells → IsLedgerOf g ledger groups → AreCells g ledger.log ledger.cells.items
      → ExplainsSome g tells rose ledger.log ledger.cells.items (readings.Damaged damage) → IsFrameDamage groups damage
  frame-damage tells rose ledger groups damage is_told is_of cells explains =
      let rows = is_of.is_log.rows in
      let at = explains-at tells rose (asked_in 0 (listed ledger.log.groups)) ledger.cells.items damage explains in
      let frame = tells-frame ledger.cells.items (frames_of groups) at.0 at.2 is_of.frames at.5 in
      let same : at.3 ≡ frame.0 = subst (λ (o : Option (List ℕ)). IfSome o (λ all. at.3 ≡ all)) frame.2 (at.6.told is_told) in (
        at.1,
        placed at.2,
        frame.0,
        record {
          frame = at.0;
          asked = subst (λ (list : List GroupRow). slice_get (asked_in 0 list) at.0 ≡ Some at.1) rows at.4;
          placed_is = mapped-at placed ledger.cells.items (placed_in (rows_from first_place groups)) at.0 at.2 (cells.placed_are ∙ ap placed_in rows) at.5;
          bytes_are = frame.1;
        },
        subst (λ (bytes : List ℕ). BreaksAsking at.1 at.2.place at.2.row.digest bytes damage) same at.7,
      )

  -- Where all cells keep what is asked of them, so do the frames of the groups.
  pub no-damage : (ledger : Ledger S) (groups : List FrameGroup) (damage : Damage) → IsLedgerOf g ledger groups → AreCells g ledger.log ledger.cells.items
      → KeepAll g ledger.log ledger.cells.items → IsFrameDamage groups damage → ⊥
  no-damage ledger groups damage is_of cells keep (whole, place, bytes, asked, broken) =
      let rows = is_of.is_log.rows in
      let at = at-mapped placed ledger.cells.items (placed_in (rows_from first_place groups)) asked.frame place (cells.placed_are ∙ ap placed_in rows) asked.placed_is in
      let frame = tells-frame ledger.cells.items (frames_of groups) asked.frame at.0 is_of.frames at.1 in
      let same : bytes ≡ frame.0 = some_is bytes frame.0 (sym asked.bytes_are ∙ frame.1) in
      let keeps = keep-at (asked_in 0 (rows_from first_place groups)) ledger.cells.items asked.frame whole at.0 (subst (λ (list : List GroupRow). KeepEach g (asked_in 0 list) ledger.cells.items) rows keep) asked.asked at.1 in
      let never = subst (λ (o : Option (List ℕ)). IfSome o (λ all. (d : Damage) → BreaksAsking whole at.0.place at.0.row.digest all d → ⊥)) frame.2 keeps in
      let moved = subst (λ (p : Placed). BreaksAsking whole p.0 p.1.digest bytes damage) (sym at.2) broken in
      never damage (subst (λ (b : List ℕ). BreaksAsking whole at.0.place at.0.row.digest b damage) same moved)

-- An end without a line is one that a check of these groups may have.
pub checks-groups : (groups : List FrameGroup) (status : Status) → IsChecked status → IsUnwritten status → ((damage : Damage) → status ≡ Damaged damage → IsFrameDamage groups damage) → ChecksGroups groups status
checks-groups groups Done is un damaged = absurd (un.0 refl)
checks-groups groups WriteFault is un damaged = absurd (un.1 refl)
checks-groups groups (Damaged damage) is un damaged = damaged damage refl
checks-groups groups VolumeFault is un damaged = tt
checks-groups groups OutOfMemory is un damaged = tt
checks-groups groups Usage is un damaged = is
checks-groups groups ReadFault is un damaged = is
checks-groups groups (NotOurs first) is un damaged = is
checks-groups groups Unborn is un damaged = is
checks-groups groups Born is un damaged = is
checks-groups groups (Missing asked seen) is un damaged = is

-- the same with a line
pub written-groups : (groups : List FrameGroup) (status : Status) → IsWritten status → ((damage : Damage) → IsFrameDamage groups damage → ⊥) → ChecksGroups groups status
written-groups groups status is never = written-is (ChecksGroups groups) status is never never

-- ---- faults of a check

pub checked-damage : (fault : Fault) (damage : Damage) → unchecked_status fault ≡ Damaged damage → fault ≡ readings.Damaged damage
checked-damage readings.Failed damage is = absurd cc
checked-damage (readings.Damaged d) damage is = let same : d ≡ damage = cc is in ap readings.Damaged same
checked-damage readings.OutOfMemory damage is = absurd cc

pub checked-failed : (fault : Fault) → unchecked_status fault ≡ VolumeFault → fault ≡ readings.Failed
checked-failed readings.Failed is = refl
checked-failed (readings.Damaged damage) is = absurd cc
checked-failed readings.OutOfMemory is = absurd cc

module _ {S : Type 0} (g : Ghosts S) where
  rose-of : (tells rose : Type 0) (asked : List Bool) (cells : List (Cell S)) → ExplainsEach g tells rose asked cells readings.Failed → rose
  rose-of tells rose [] cells is = absurd is
  rose-of tells rose (whole ∷ asked) [] is = absurd is
  rose-of tells rose (whole ∷ asked) (cell ∷ cells) (inl is) = is
  rose-of tells rose (whole ∷ asked) (cell ∷ cells) (inr is) = rose-of tells rose asked cells is

  pub rose-some : (tells rose : Type 0) (ledger : Ledger S) (fault : Fault) → fault ≡ readings.Failed → ExplainsSome g tells rose ledger.log ledger.cells.items fault → rose
  rose-some tells rose ledger fault is explains =
      rose-of tells rose (asked_in 0 (listed ledger.log.groups)) ledger.cells.items (subst (λ (f : Fault). ExplainsEach g tells rose (asked_in 0 (listed ledger.log.groups)) ledger.cells.items f) is explains)

  damage-of : (tells rose other : Type 0) (asked : List Bool) (cells : List (Cell S)) (damage : Damage) → ExplainsEach g tells rose asked cells (readings.Damaged damage) → ExplainsEach g tells other asked cells (readings.Damaged damage)
  damage-of tells rose other [] cells damage is = absurd is
  damage-of tells rose other (whole ∷ asked) [] damage is = absurd is
  damage-of tells rose other (whole ∷ asked) (cell ∷ cells) damage (inl is) = inl is
  damage-of tells rose other (whole ∷ asked) (cell ∷ cells) damage (inr is) = inr (damage-of tells rose other asked cells damage is)

  pub damage-some : (tells rose : Type 0) (ledger : Ledger S) (fault : Fault) (damage : Damage) → fault ≡ readings.Damaged damage
      → ExplainsSome g tells rose ledger.log ledger.cells.items fault → IsCheckedDamage g tells damage ledger
  damage-some tells rose ledger fault damage is explains =
      damage-of tells rose (Unit {0}) (asked_in 0 (listed ledger.log.groups)) ledger.cells.items damage
      (subst (λ (f : Fault). ExplainsEach g tells rose (asked_in 0 (listed ledger.log.groups)) ledger.cells.items f) is explains)

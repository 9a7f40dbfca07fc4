-- A ledger over a log that was opened, with a cell for each of its frames and no draft.
use Rattle.std.proofs.Common.{◌≡◌, ◌∙◌, ℕ, ◌+◌, ◌<◌, ◌≤◌, ◌⊎◌, inl, inr, List, ◌∷◌, ◌++◌, length, drop, Option, Some, None, IfSome, refl, ap, sym, subst, arith}
use Rattle.std.proofs.Math.Seq.{drop-append-add}
use Rattle.std.specs.Prelude.{Result, Ok, Err, IfErr, IsErrAnd}
use Rattle.std.specs.List.{AllByRecursion}
use Rattle.sx_layout.proofs.Births.{length-birth_part}
use Rattle.sx_layout.proofs.BornReadings.{reads_one}
use Rattle.sx_layout.specs.Birth.{Birth, birth_part}
use Rattle.sx_layout.specs.Born as born
use Rattle.sx_layout.specs.Born.{HasLog, Reading, Reads}
use Rattle.sx_layout.specs.FrameGroup.{FrameGroup, behind_gates, first_root}
use Rattle.sx_log.specs.Calls.{IsSettled, IsSynced}
use Rattle.sx_log.specs.Committing.{OnlyHolds}
use Rattle.sx_log.specs.Creating.{birth_of}
use Rattle.sx_log.specs.Kept.{first_place, listed}
use Rattle.sx_log.specs.Opening as log
use Rattle.sx_log.specs.Opening.{IsOpened}
use Rattle.sx_log.specs.declared.fault.LogFault.{LogFault}
use Rattle.sx_log.specs.declared.log.GroupRow.{GroupRow}
use Rattle.sx_log.specs.declared.log.Log.{Log}
use Rattle.sx_model.specs.Commit.{Commit}
use Rattle.sx_reader.specs.Cells.{AreCells, LieBelow, StartBelow, TellPieces, TellsPiece, placed_in, placed_of}
use Rattle.sx_run.specs.Run.{book_of}
use Rattle.sx_store.proofs.Counting.{shown-keep}
use Rattle.sx_store.proofs.Spotting.{bodies-kept, frames-told, lie-below, start-below}
use Rattle.sx_store.specs.Opening.{IsGiven, IsOther}
use Rattle.sx_store.specs.Shows.{HasDraft, Shows, birth_in, stage_of}
use Rattle.sx_store.specs.Sound.{IsKeptIn, IsLedgerOf, IsReadOf, IsSound}
use Rattle.sx_store.specs.declared.draft.Draft.{Draft}
use Rattle.sx_store.specs.declared.ledger.Ledger.{Ledger}
use Rattle.sx_volume.specs.declared.spot.Spot as spot
use Rattle.sx_volume.specs.declared.volume.Volume as volume
use Rattle.sx_whole.specs.Stands.{Stands}

-- ---- what the cells need

pub starts : (bytes : Option (List ℕ)) (size : ℕ) (log : Log) → IsOpened bytes size log → StartBelow log.end (listed log.groups)
starts bytes size log opened =
    subst (λ (rows : List GroupRow). StartBelow log.end rows) (sym opened.rows.rows) (start-below log.end first_place opened.groups (omega (arith, opened.rows.end)))

pub below : (bytes : Option (List ℕ)) (size : ℕ) (log : Log) → IsOpened bytes size log → LieBelow log.end (placed_of log)
below bytes size log opened =
    subst (λ (rows : List GroupRow). LieBelow log.end (placed_in rows)) (sym opened.rows.rows) (lie-below log.end first_place first_root opened.groups opened.keep (omega (arith, opened.rows.end)))

-- ---- what the ledger is

-- the first group stands behind the birth part and its gate
behind-birth : (image : List ℕ) (birth : Birth) (groups : List FrameGroup) (has : HasLog image birth groups) → drop first_place image ≡ drop 1 (behind_gates groups ++ has.gate ∷ has.behind)
behind-birth image birth groups has =
    let before : List ℕ = 1 ∷ birth_part birth in
    let rest : List ℕ = behind_gates groups ++ has.gate ∷ has.behind in
    let long : length before + 1 ≡ first_place = omega (arith, length-birth_part birth has.is_birth) in
    ap (λ (b : List ℕ). drop first_place b) has.bytes_are ∙ ap (λ n. drop n (before ++ rest)) (sym long) ∙ drop-append-add before rest 1

ledger-of : {S : Type 0} (g : spot.Ghosts S) (image : List ℕ) (size : ℕ) (ledger : Ledger S) (opened : IsOpened (Some image) size ledger.log) → AreCells g ledger.log ledger.cells.items
    → AllByRecursion (TellsPiece g image) ledger.cells.items → IsLedgerOf g ledger opened.groups
ledger-of g image size ledger opened cells told = record {
  is_log = opened.rows;
  bodies = bodies-kept first_root opened.groups opened.keep;
  follow = opened.follow;
  frames = frames-told g image first_place first_root opened.groups (opened.has.gate ∷ opened.has.behind) ledger.cells.items opened.follow opened.keep
      (behind-birth image (birth_of ledger.log.birth) opened.groups opened.has) (cells.placed_are ∙ ap placed_in opened.rows.rows) told;
}

-- the answer is that of the one reading
pub given : {S : Type 0} (g : spot.Ghosts S) (bytes : Option (List ℕ)) (size : ℕ) (ledger : Ledger S) → IsOpened bytes size ledger.log → AreCells g ledger.log ledger.cells.items
    → TellPieces g bytes ledger.cells.items → IfSome bytes (λ image. (reading : Reading) → Reads image reading → IsGiven g reading (Ok ledger))
given g None size ledger opened cells told = tt
given g (Some image) size ledger opened cells told = λ reading reads.
    subst (λ (r : Reading). IsGiven g r (Ok ledger)) (reads_one image (born.Log (birth_of ledger.log.birth) opened.groups) reading (opened.has, opened.keep) reads)
    (refl, ledger-of g image size ledger opened cells told)

pub read : {S : Type 0} (g : spot.Ghosts S) (bytes : Option (List ℕ)) (size : ℕ) (ledger : Ledger S) → IsOpened bytes size ledger.log → AreCells g ledger.log ledger.cells.items
    → TellPieces g bytes ledger.cells.items → stage_of ledger ≡ None → IfSome bytes (λ image. IsReadOf g image ledger)
read g None size ledger opened cells told none = tt
read g (Some image) size ledger opened cells told none = ((opened.groups, (opened.has, opened.keep), ledger-of g image size ledger opened cells told), none)

-- Over an image that stands for commits the ledger shows their book.
pub shown : {S : Type 0} (g : spot.Ghosts S) (image : List ℕ) (birth : Birth) (commits : List Commit) (ledger : Ledger S)
    → ((reading : Reading) → Reads image reading → IsGiven g reading (Ok ledger)) → ledger.draft ≡ None → stage_of ledger ≡ None → Stands image (Some birth) commits
    → Shows g ledger (book_of commits) × (birth_in ledger ≡ birth)
shown g image birth commits ledger given no_draft none stands =
    let groups : List FrameGroup = stands.0 in
    let is = given (born.Log birth groups) (stands.1, shown-keep commits groups stands.2) in (
      record {
        groups = groups;
        is_log = is.1.is_log;
        commits = stands.2;
        frames = is.1.frames;
        accepted = tt;
        draft = subst (λ (o : Option Draft). HasDraft o (book_of commits)) (sym no_draft) refl;
        stopped = none;
      },
      is.0,
    )

-- ---- a refusal

-- over an image that stands for commits nothing is told but a failed call or want of memory
pub other : {S : Type 0} (image : List ℕ) (birth : Birth) (commits : List Commit) (opened : Result Log LogFault) (fault : LogFault) (result : Result (Ledger S) LogFault)
    → ((reading : Reading) → Reads image reading → log.IsGiven reading opened) → opened ≡ Err fault → IsErrAnd result (λ e. e ≡ fault) → Stands image (Some birth) commits → IfErr result IsOther
other image birth commits opened fault (Ok ledger) given is same stands = tt
other image birth commits opened fault (Err e) given is same stands =
    let groups : List FrameGroup = stands.0 in
    let at = subst (λ (r : Result Log LogFault). log.IsGiven (born.Log birth groups) r) is (given (born.Log birth groups) (stands.1, shown-keep commits groups stands.2)) in
    subst IsOther (sym same) at

-- ---- the volume

pub sound : {V S E : Type 0} (g : volume.Ghosts V S E) (s : spot.Ghosts S) (mid new : V) (bytes : Option (List ℕ)) (size : ℕ) (ledger : Ledger S) → IsOpened bytes size ledger.log
    → AreCells s ledger.log ledger.cells.items → TellPieces s (g.bytes new) ledger.cells.items → g.bytes new ≡ bytes → g.size new ≡ size
    → ((c : List ℕ) → g.is_image new c → g.is_image mid c) → g.bytes mid ≡ bytes → IsSettled g mid → IsSound g s new ledger
sound g s mid new bytes size ledger opened cells told same_bytes same_size within mid_bytes settled = record {
  whole = record { groups = opened.groups; is_log = opened.rows; follow = opened.follow; cells = cells };
  gate = λ none. gate;
  kept = λ none. kept bytes same_bytes opened
      (subst (λ (o : Option (List ℕ)). TellPieces s o ledger.cells.items) same_bytes told)
      (subst (λ (o : Option (List ℕ)). IfSome o (λ all. (c : List ℕ) → g.is_image mid c → c ≡ all)) mid_bytes settled);
}
  where
    gate : ledger.log.end < g.size new
    gate = omega (arith, opened.gate, same_size)

    kept : (o : Option (List ℕ)) → g.bytes new ≡ o → IsOpened o size ledger.log → TellPieces s o ledger.cells.items → IfSome o (λ all. (c : List ℕ) → g.is_image mid c → c ≡ all)
        → IfSome (g.bytes new) (λ _. IsKeptIn g s new ledger)
    kept None same opened told only = subst (λ (o : Option (List ℕ)). IfSome o (λ _. IsKeptIn g s new ledger)) (sym same) tt
    kept (Some all) same opened told only =
        let is_of = ledger-of s all size ledger opened cells told in
        subst (λ (o : Option (List ℕ)). IfSome o (λ _. IsKeptIn g s new ledger)) (sym same) (record {
          groups = opened.groups;
          is_of = is_of;
          keeps = record {
            is_log = opened.rows;
            follow = opened.follow;
            gate = gate;
            bytes = subst (λ (o : Option (List ℕ)). IfSome o (λ all. HasLog all (birth_of ledger.log.birth) opened.groups)) (sym same) opened.has;
            images = subst (λ (o : Option (List ℕ)). IfSome o (λ _. (image : List ℕ) → g.is_image new image → HasLog image (birth_of ledger.log.birth) opened.groups)) (sym same)
                (λ image is. subst (λ (i : List ℕ). HasLog i (birth_of ledger.log.birth) opened.groups) (sym (only image (within image is))) opened.has);
          };
        })

-- What the first sync left is left after calls that take memory too.
pub synced : {V S E : Type 0} (g : volume.Ghosts V S E) (old mid new : V) (bytes : Option (List ℕ)) → OnlyHolds g mid new
    → ((v : V) (t : ℕ) (c : List ℕ) → t ≤ g.moment v → g.is_image v c → g.was_image v t c)
    → IfSome bytes (λ image. IsSynced g image old mid) → IfSome bytes (λ image. IsSynced g image old new)
synced g old mid new None only counts_now is = tt
synced g old mid new (Some image) only counts_now is = record {
  moment = is.moment;
  later = is.later;
  no_later = omega (arith, is.no_later, only.time.later);
  here = only.time.syncs is.moment is.here;
  first = λ t before here. is.first t before (only.no_sync t here);
  up_to = λ c was. up_to c (before c (only.time.nothing_else (g.moment old) c earlier was));
  since = λ c was. since c (only.time.nothing_else is.moment c is.no_later was);
}
  where
    earlier : g.moment old ≤ g.moment mid
    earlier = omega (arith, is.later, is.no_later)

    before : (c : List ℕ) → g.was_image mid (g.moment old) c ⊎ g.was_image new (g.moment mid) c → g.is_image old c ⊎ g.was_image mid is.moment c
    before c (inl was) = is.up_to c was
    before c (inr now) = is.up_to c (counts_now mid (g.moment old) c earlier (only.no_image_more c now))

    up_to : (c : List ℕ) → g.is_image old c ⊎ g.was_image mid is.moment c → g.is_image old c ⊎ g.was_image new is.moment c
    up_to c (inl before) = inl before
    up_to c (inr was) = inr (only.time.keeps is.moment c is.no_later was)

    since : (c : List ℕ) → g.was_image mid is.moment c ⊎ g.was_image new (g.moment mid) c → c ≡ image
    since c (inl was) = is.since c was
    since c (inr now) = is.since c (counts_now mid is.moment c is.no_later (only.no_image_more c now))

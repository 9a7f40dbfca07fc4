-- What a commit makes of the book that a ledger shows.
use Rattle.std.proofs.Common.{◌≡◌, ◌∙◌, ◌⊎◌, inl, inr, ℕ, ℤ, zero, suc, ◌+◌, List, [], ◌∷◌, ◌++◌, length, None, Some, refl, ap, sym, subst, arith, Ok, Err, FitsSigned, w64}
use Rattle.std.proofs.lemmas.Int.{ints}
use Rattle.std.specs.Int.{int_max}
use Rattle.std.specs.Prelude.{◌≤ℤ◌, Bool, true, false, int_lt, cond, T}
use lib.Signed.{lt_z_yes}
use Rattle.sx_layout.specs.Birth.{Birth}
use Rattle.sx_layout.specs.FrameGroup.{FrameGroup, first_root, frames_after, last_root}
use Rattle.sx_log.specs.Kept.{first_place, root_behind}
use Rattle.sx_log.proofs.OpenedGroups.{same_root}
use Rattle.sx_model.specs.Commit.{Commit, AreLegal, IsLegal, replay, first_time, last_time}
use Rattle.sx_model.specs.Edit.{AreAccepted, after}
use Rattle.sx_model.specs.State.{State, empty_document}
use Rattle.sx_root.specs.declared.root.RevisionRoot.{RevisionRoot}
use Rattle.sx_run.specs.Run.{Book, current, next_commit, with_commit}
use Rattle.sx_store.specs.Commits.{Commits, Leaves, LeavesFailed, LeavesGroups, LeavesStage, HasWithOrWithout, StandsWithOrWithout, failed_book}
use Rattle.sx_store.specs.Room.{room}
use Rattle.sx_store.specs.Shows.{HasDraft, Shows, last_root_of, stage_of}
use Rattle.sx_store.specs.Sound.{IsLedgerOf, IsWhole}
use Rattle.sx_store.specs.declared.fault.CommitFault.TheVariants as faults
use Rattle.sx_store.specs.declared.fault.Committed.{Committed}
use Rattle.sx_store.specs.declared.ledger.Ledger.{Ledger}
use Rattle.sx_store.proofs.Telling.{cells-shown, count-shown}
use Rattle.sx_store.proofs.Wholes.{numbers}
use Rattle.sx_volume.specs.declared.spot.Spot.{Ghosts}
use Rattle.sx_whole.specs.Stands.{ShowCommits, ShowFrom, ShowsState}

-- ---- one more commit

pub replay-append : (commits : List Commit) (commit : Commit) (state : State) → replay (commits ++ commit ∷ []) state ≡ after commit.edits (replay commits state)
replay-append [] commit state = refl
replay-append (first ∷ commits) commit state = replay-append commits commit (after first.edits state)

legal-append : (commits : List Commit) (next : Commit) (time : ℤ) (state : State) → AreLegal time state commits → FitsSigned w64 next.time → last_time time commits ≤ℤ next.time
    → AreAccepted next.edits (replay commits state) → AreLegal time state (commits ++ next ∷ [])
legal-append [] next time state legal fits later all = (fits, later, all, tt)
legal-append (c ∷ commits) next time state legal fits later all =
    (legal.0, legal.1, legal.2, legal-append commits next c.time (after c.edits state) legal.3 fits later all)

last_fits : (commits : List Commit) (time : ℤ) (state : State) → FitsSigned w64 time → AreLegal time state commits → FitsSigned w64 (last_time time commits)
last_fits [] time state fits legal = fits
last_fits (c ∷ commits) time state fits legal = last_fits commits c.time (after c.edits state) legal.0 legal.3

max_fits : (a b : ℤ) → FitsSigned w64 a → FitsSigned w64 b → FitsSigned w64 (int_max a b)
max_fits a b one other = by (int_lt b a)
  where
    by : (t : Bool) → FitsSigned w64 (cond t a b)
    by true = one
    by false = other

max_later : (a b : ℤ) → b ≤ℤ int_max a b
max_later a b = by (int_lt b a) refl
  where
    by : (t : Bool) → int_lt b a ≡ t → b ≤ℤ cond t a b
    by true is = let below = lt_z_yes {a = b} {b = a} (subst T (sym is) tt) in omega (arith, ints, below)
    by false is = omega (arith, ints)

-- the commit of the open edits is legal
next_legal : (book : Book) (moment : ℤ) → IsLegal book.commits → AreAccepted book.edits (replay book.commits empty_document) → FitsSigned w64 moment
    → IsLegal (book.commits ++ next_commit book moment ∷ [])
next_legal book moment legal accepted fits =
    let last = last_fits book.commits first_time empty_document (record { sfits = omega arith }) legal in
    legal-append book.commits (next_commit book moment) first_time empty_document legal
    (max_fits moment (last_time first_time book.commits) fits last) (max_later moment (last_time first_time book.commits)) accepted

show-append : (r : ℕ) (state : State) (commits : List Commit) (groups : List FrameGroup) (next : Commit) (group : FrameGroup) → ShowFrom r state commits groups
    → ShowsState (r + length commits) next.time (after next.edits (replay commits state)) group → ShowFrom r state (commits ++ next ∷ []) (groups ++ group ∷ [])
show-append r state [] [] next group shows last =
    let same : r + 0 ≡ r = omega arith in (subst (λ (n : ℕ). ShowsState n next.time (after next.edits state) group) same last, tt)
show-append r state [] (x ∷ groups) next group shows last = absurd shows
show-append r state (c ∷ commits) [] next group shows last = absurd shows
show-append r state (c ∷ commits) (x ∷ groups) next group shows last =
    let same : r + suc (length commits) ≡ r + 1 + length commits = omega arith in (
      shows.0,
      show-append (r + 1) (after c.edits state) commits groups next group shows.1
          (subst (λ (n : ℕ). ShowsState n next.time (after next.edits (replay commits (after c.edits state))) group) same last),
    )

shown-time : (r : ℕ) (state : State) (commits : List Commit) (groups : List FrameGroup) (root : RevisionRoot) → ShowFrom r state commits groups → (last_root root groups).time ≡ last_time root.time commits
shown-time r state [] [] root shows = refl
shown-time r state [] (x ∷ groups) root shows = absurd shows
shown-time r state (c ∷ commits) [] root shows = absurd shows
shown-time r state (c ∷ commits) (x ∷ groups) root shows =
    shown-time (r + 1) (after c.edits state) commits groups x.root shows.1
    ∙ ap (λ (time : ℤ). last_time time commits) (ap (λ (group : FrameGroup). group.root.time) shows.0.group_is)

-- what is known of the last root of a ledger that shows a book
pub record LastOf {S : Type 0} (ledger : Ledger S) (book : Book) : Type 0 where
  pub revision : (last_root_of ledger).revision ≡ length book.commits
  pub frames : frames_after (last_root_of ledger) ≡ length book.commits
  pub time : (last_root_of ledger).time ≡ last_time first_time book.commits

pub last-of : {S : Type 0} (s : Ghosts S) (ledger : Ledger S) (book : Book) → IsWhole s ledger → Shows s ledger book → LastOf ledger book
last-of s ledger book whole shows =
    let all = numbers s ledger whole in
    record {
      revision = all.revision ∙ count-shown s ledger book shows;
      frames = sym all.cells ∙ cells-shown s ledger book shows;
      time = ap (λ (root : RevisionRoot). root.time) (ap (root_behind first_root) shows.is_log.rows ∙ same_root first_root first_place shows.groups)
          ∙ shown-time 1 empty_document book.commits shows.groups first_root shows.commits.1;
    }

-- ---- a group that was written, or not

module _ {S : Type 0} (s : Ghosts S) (birth : Birth) (ledger : Ledger S) (book : Book) (moment : ℤ) (groups : List FrameGroup) (group : FrameGroup) (shows : Shows s ledger book) (last : LastOf ledger book)
    (shown : ShowCommits groups book.commits) (fits : FitsSigned w64 moment) (is : ShowsState ((last_root_of ledger).revision + 1) (next_commit book moment).time (current book) group) where
  abbrev next : Commit
  next = next_commit book moment

  shown-next : ShowCommits (groups ++ group ∷ []) (book.commits ++ next ∷ [])
  shown-next =
      let number : (last_root_of ledger).revision + 1 ≡ 1 + length book.commits = omega (arith, last.revision) in
      (next_legal book moment shown.0 shows.accepted fits, show-append 1 empty_document book.commits groups next group shown.1 (subst (λ (n : ℕ). ShowsState n next.time (current book) group) number is))

  stands : (image : List ℕ) → HasWithOrWithout birth groups group image → StandsWithOrWithout birth book next image
  stands image (inl has) = inl (groups, has, shown)
  stands image (inr has) = inr (groups ++ group ∷ [], has, shown-next)

  failed-leaves : (stage : ℕ) (from : ℕ) (was : ℕ → List ℕ → Type 0) (has : ℕ → Type 0) → (stage ≡ 1) ⊎ (stage ≡ 2) → LeavesStage birth groups group stage from was has → LeavesFailed birth book next stage from was has
  failed-leaves zero from was has (inl one) leaves = absurd (omega (arith, one))
  failed-leaves zero from was has (inr two) leaves = absurd (omega (arith, two))
  failed-leaves (suc zero) from was has which leaves = λ image left. (groups, leaves image left, shown)
  failed-leaves (suc (suc stage)) from was has which leaves = (
    λ image left. stands image (leaves.0 image left),
    (leaves.1.0, leaves.1.1, leaves.1.2, λ image left. (groups, shown, (groups ++ group ∷ [], leaves.1.3 image left, shown-next))),
  )

  pub added : (new : Ledger S) (done : Committed) (from : ℕ) (was : ℕ → List ℕ → Type 0) (has : ℕ → Type 0) → room (book.commits ++ next ∷ []) ≡ None
      → done.revision ≡ (last_root_of ledger).revision + 1 → done.time ≡ next.time → IsLedgerOf s new (groups ++ group ∷ []) → new.draft ≡ None → stage_of new ≡ None
      → LeavesGroups birth groups group (Ok done) from was has → Commits s book next (Ok done) new × Leaves birth book next (Ok done) from was has
  added new done from was has free revision time of none going leaves =
      let shows_new : Shows s new (with_commit book next) = record {
        groups = groups ++ group ∷ [];
        is_log = of.is_log;
        commits = shown-next;
        frames = of.frames;
        accepted = tt;
        draft = subst (λ o. HasDraft o (with_commit book next)) (sym none) refl;
        stopped = going;
      } in (
        (free, revision ∙ omega (arith, last.revision), time, shows_new),
        λ image left. stands image (leaves image left),
      )

  pub not-added : (new : Ledger S) (stage : ℕ) (from : ℕ) (was : ℕ → List ℕ → Type 0) (has : ℕ → Type 0) → room (book.commits ++ next ∷ []) ≡ None → (stage ≡ 1) ⊎ (stage ≡ 2)
      → IsLedgerOf s new groups → new.draft ≡ None → stage_of new ≡ Some stage → LeavesGroups birth groups group (Err (faults.Failed stage)) from was has
      → Commits s book next (Err (faults.Failed stage)) new × Leaves birth book next (Err (faults.Failed stage)) from was has
  not-added new stage from was has free which of none stops leaves =
      let shows_new : Shows s new (failed_book book next stage) = record {
        groups = groups;
        is_log = of.is_log;
        commits = shown;
        frames = of.frames;
        accepted = tt;
        draft = subst (λ o. HasDraft o (failed_book book next stage)) (sym none) refl;
        stopped = stops;
      } in ((free, which, shows_new), failed-leaves stage from was has which leaves)

  pub no-memory : (new : Ledger S) (from : ℕ) (was : ℕ → List ℕ → Type 0) (has : ℕ → Type 0) → Shows s new book → LeavesGroups birth groups group (Err faults.OutOfMemory) from was has
      → Commits s book next (Err faults.OutOfMemory) new × Leaves birth book next (Err faults.OutOfMemory) from was has
  no-memory new from was has shows_new leaves = (shows_new, λ image left. (groups, leaves image left, shown))

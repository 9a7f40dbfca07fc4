-- What a commit does to a book, and to what a crash may leave.
use Rattle.std.specs.Prelude.{ℕ, zero, suc, ◌≡◌, ◌+◌, ◌⊎◌, List, [], ◌∷◌, ◌++◌, length, None, Some, Result, Ok, Err, slice_set}
use Rattle.sx_layout.specs.Birth.{Birth}
use Rattle.sx_layout.specs.Born.{HasLog}
use Rattle.sx_layout.specs.FrameGroup.{FrameGroup, gate_behind}
use Rattle.sx_model.specs.Commit.{Commit}
use Rattle.sx_run.specs.Run.{Book, with_commit}
use Rattle.sx_run.specs.declared.reply.Said.TheVariants as said
use Rattle.sx_store.specs.Room.{room}
use Rattle.sx_store.specs.Shows.{Shows, birth_in}
use Rattle.sx_store.specs.Sound.{IsLedgerOf}
use Rattle.sx_store.specs.declared.fault.CommitFault.{CommitFault}
use Rattle.sx_store.specs.declared.fault.CommitFault.TheVariants as faults
use Rattle.sx_store.specs.declared.fault.Committed.{Committed}
use Rattle.sx_store.specs.declared.ledger.Ledger.{Ledger}
use Rattle.sx_volume.specs.Images.{KeptSince}
use Rattle.sx_volume.specs.declared.spot.Spot.{Ghosts}
use Rattle.sx_whole.specs.Stands.{Stands, StandsOnceOpened}

-- the book of a writer that a commit stopped
abbrev pub failed_book : Book → Commit → ℕ → Book
failed_book book next stage = record { commits = book.commits; edits = []; stopped = Some (record { stage = stage; commit = next }) }

-- The commit joins the others, or it is refused, or it fails, and the writer stops.
abbrev pub Commits : {S : Type 0} → Ghosts S → Book → Commit → Result Committed CommitFault → Ledger S → Type 0
Commits g book next (Ok done) new =
    (room (book.commits ++ next ∷ []) ≡ None) × (done.revision ≡ length book.commits + 1) × (done.time ≡ next.time) × Shows g new (with_commit book next)
Commits g book next (Err (faults.Stopped stage)) new = ⊥
Commits g book next (Err faults.ReadFailed) new = Shows g new book
Commits g book next (Err (faults.Damaged damage)) new = ⊥
Commits g book next (Err (faults.LogFull frames revisions)) new =
    (room (book.commits ++ next ∷ []) ≡ Some (said.LogFull frames revisions)) × Shows g new book
Commits g book next (Err (faults.CommitTooLarge bytes)) new = (room (book.commits ++ next ∷ []) ≡ Some (said.CommitTooLarge bytes)) × Shows g new book
Commits g book next (Err faults.OutOfMemory) new = Shows g new book
Commits g book next (Err (faults.Failed stage)) new =
    (room (book.commits ++ next ∷ []) ≡ None) × ((stage ≡ 1) ⊎ (stage ≡ 2)) × Shows g new (failed_book book next stage)

-- the image stands for the commits of the book, or for these with the next one
abbrev pub StandsWithOrWithout : Birth → Book → Commit → List ℕ → Type 0
StandsWithOrWithout birth book next image = Stands image (Some birth) book.commits ⊎ Stands image (Some birth) (book.commits ++ next ∷ [])

-- What a commit that failed leaves: in stage 1 the commits before it; in stage 2 these with or without it, and since a sync in the
-- call those with it, once its gate is opened.
abbrev pub LeavesFailed : Birth → Book → Commit → ℕ → ℕ → (ℕ → List ℕ → Type 0) → (ℕ → Type 0) → Type 0
LeavesFailed birth book next (suc (suc stage)) from was has =
    ((image : List ℕ) → was from image → StandsWithOrWithout birth book next image)
    × KeptSince from was has (StandsOnceOpened (Some birth) book.commits next)
LeavesFailed birth book next (suc zero) from was has = (image : List ℕ) → was from image → Stands image (Some birth) book.commits
LeavesFailed birth book next zero from was has = ⊥

-- each image stands for the commits of the book
abbrev pub StandAll : Birth → Book → (List ℕ → Type 0) → Type 0
StandAll birth book images = (image : List ℕ) → images image → Stands image (Some birth) book.commits

-- What a crash may leave since the call began.
abbrev pub Leaves : Birth → Book → Commit → Result Committed CommitFault → ℕ → (ℕ → List ℕ → Type 0) → (ℕ → Type 0) → Type 0
Leaves birth book next (Ok done) from was has = (image : List ℕ) → was from image → StandsWithOrWithout birth book next image
Leaves birth book next (Err (faults.Failed stage)) from was has = LeavesFailed birth book next stage from was has
Leaves birth book next (Err (faults.Stopped stage)) from was has = ⊥
Leaves birth book next (Err faults.ReadFailed) from was has = StandAll birth book (was from)
Leaves birth book next (Err (faults.Damaged damage)) from was has = ⊥
Leaves birth book next (Err (faults.LogFull frames revisions)) from was has = StandAll birth book (was from)
Leaves birth book next (Err (faults.CommitTooLarge bytes)) from was has = StandAll birth book (was from)
Leaves birth book next (Err faults.OutOfMemory) from was has = StandAll birth book (was from)

-- it is no failure of the volume in a stage of a commit
abbrev pub IsNoFailure : CommitFault → Type 0
IsNoFailure fault = (stage : ℕ) → fault ≡ faults.Failed stage → ⊥

-- the later ledger has one group more
abbrev pub Adds : {S : Type 0} → Ghosts S → Ledger S → FrameGroup → Ledger S → Type 0
Adds g old next new = (groups : List FrameGroup) → IsLedgerOf g old groups → IsLedgerOf g new (groups ++ next ∷ [])

-- a group is not written for want of memory, or where the volume failed
abbrev pub IsWriteFault : CommitFault → Type 0
IsWriteFault (faults.Stopped stage) = ⊥
IsWriteFault faults.ReadFailed = ⊥
IsWriteFault (faults.Damaged damage) = ⊥
IsWriteFault (faults.LogFull frames revisions) = ⊥
IsWriteFault (faults.CommitTooLarge bytes) = ⊥
IsWriteFault faults.OutOfMemory = Unit {0}
IsWriteFault (faults.Failed stage) = Unit {0}

-- the image has the groups, or these with the next one
abbrev pub HasWithOrWithout : Birth → List FrameGroup → FrameGroup → List ℕ → Type 0
HasWithOrWithout birth groups next image = HasLog image birth groups ⊎ HasLog image birth (groups ++ next ∷ [])

-- What a crash may leave where the group was not written: in stage 1 the groups before it; in stage 2 these with or without it, and since
-- a sync these with it, once its gate is opened.
abbrev pub LeavesStage : Birth → List FrameGroup → FrameGroup → ℕ → ℕ → (ℕ → List ℕ → Type 0) → (ℕ → Type 0) → Type 0
LeavesStage birth groups next (suc (suc stage)) from was has =
    ((image : List ℕ) → was from image → HasWithOrWithout birth groups next image)
    × KeptSince from was has (λ image. HasLog (slice_set image (gate_behind groups) 1) birth (groups ++ next ∷ []))
LeavesStage birth groups next (suc zero) from was has = (image : List ℕ) → was from image → HasLog image birth groups
LeavesStage birth groups next zero from was has = (image : List ℕ) → was from image → HasLog image birth groups

-- What a crash may leave while a held group is written behind these groups, of which an error is the stage that failed.
abbrev pub LeavesWritten : Birth → List FrameGroup → FrameGroup → Result (Unit {0}) ℕ → ℕ → (ℕ → List ℕ → Type 0) → (ℕ → Type 0) → Type 0
LeavesWritten birth groups next (Ok done) from was has = (image : List ℕ) → was from image → HasWithOrWithout birth groups next image
LeavesWritten birth groups next (Err stage) from was has = LeavesStage birth groups next stage from was has

-- What a crash may leave while the group is taken, held and written behind these groups.
abbrev pub LeavesGroups : Birth → List FrameGroup → FrameGroup → Result Committed CommitFault → ℕ → (ℕ → List ℕ → Type 0) → (ℕ → Type 0) → Type 0
LeavesGroups birth groups next (Ok done) from was has = (image : List ℕ) → was from image → HasWithOrWithout birth groups next image
LeavesGroups birth groups next (Err (faults.Failed stage)) from was has = LeavesStage birth groups next stage from was has
LeavesGroups birth groups next (Err fault) from was has = (image : List ℕ) → was from image → HasLog image birth groups

abbrev pub LeavesLog : {S : Type 0} → Ghosts S → Ledger S → FrameGroup → Result Committed CommitFault → ℕ → (ℕ → List ℕ → Type 0) → (ℕ → Type 0) → Type 0
LeavesLog g ledger next result from was has = (groups : List FrameGroup) → IsLedgerOf g ledger groups → LeavesGroups (birth_in ledger) groups next result from was has

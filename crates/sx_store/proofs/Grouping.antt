-- The group of the open edits, or why there is none.
use Rattle.std.proofs.Common.{◌≡◌, ◌∙◌, inl, inr, ℕ, ℤ, ◌+◌, ◌-◌, List, [], ◌∷◌, ◌++◌, length, refl, ap, sym, subst, arith, length-append, Option, Some, None, Result, Ok, Err}
use Rattle.std.specs.Prelude.{IfErr, IfOk, IsErrAnd, IsErrOf, OnErr, OnOk}
use Rattle.sx_bytes.specs.declared.damage.Damage.{Damage}
use Rattle.sx_layout.specs.FrameGroup.{FrameGroup, frames_after}
use Rattle.sx_log.specs.Committing.{sealed_bytes}
use Rattle.sx_log.specs.Room.{room_for}
use Rattle.sx_model.specs.Commit.{Commit}
use Rattle.sx_model.specs.State.{State, empty_document}
use Rattle.sx_run.specs.Run.{Book, current, next_commit}
use Rattle.sx_store.specs.Commits.{Commits, IsNoFailure}
use Rattle.sx_store.specs.Damage.{IsCommitDamage, IsMade, IsTable, IsTakenDamage, place_behind}
use Rattle.sx_store.specs.Faults.{commit_fault}
use Rattle.sx_store.specs.Groups.{HasRoom, HasTooMany, IsGroupFault}
use Rattle.sx_store.specs.Room.{room, said_of}
use Rattle.sx_store.specs.Shows.{Shows, last_root_of, next_in, records_of}
use Rattle.sx_store.specs.Sound.{IsSameDocument, IsSameDraft, SameDraft}
use Rattle.sx_store.specs.declared.draft.Draft.{Draft}
use Rattle.sx_store.specs.declared.fault.CommitFault.{CommitFault}
use Rattle.sx_store.specs.declared.fault.CommitFault.TheVariants as faults
use Rattle.sx_store.specs.declared.group.NewGroup.{NewGroup}
use Rattle.sx_store.specs.declared.ledger.Ledger.{Ledger}
use Rattle.sx_store.proofs.Accepting.{LastOf, replay-append}
use Rattle.sx_tree.specs.declared.record.NodeRecord.{NodeRecord}
use Rattle.sx_view.specs.Records.{RecordMap}
use Rattle.sx_view.specs.declared.fault.Fault.{Fault}
use Rattle.sx_view.specs.declared.fault.Fault.TheVariants as views
use Rattle.sx_volume.specs.declared.spot.Spot.{Ghosts}
use Rattle.sx_whole.specs.Stands.{ShowsState, body_size}

-- ---- no draft

no-draft : {S : Type 0} (s : Ghosts S) (book : Book) (next : Commit) (fault : Fault) (new : Ledger S) → ((damage : Damage) → fault ≡ views.Damaged damage → ⊥) → Shows s new book
    → Commits s book next (Err (commit_fault fault)) new
no-draft s book next views.Failed new none shows = shows
no-draft s book next (views.Damaged damage) new none shows = absurd (none damage refl)
no-draft s book next views.OutOfMemory new none shows = shows

pub undrafted : {S : Type 0} (s : Ghosts S) (book : Book) (next : Commit) (r : Result NewGroup CommitFault) (fault : Fault) (new : Ledger S) → IsErrAnd r (λ e. e ≡ commit_fault fault)
    → ((damage : Damage) → fault ≡ views.Damaged damage → ⊥) → Shows s new book → IfErr r (λ e. Commits s book next (Err e) new)
undrafted s book next (Ok made) fault new is none shows = tt
undrafted s book next (Err e) fault new is none shows = subst (λ (f : CommitFault). Commits s book next (Err f) new) (sym is) (no-draft s book next fault new none shows)

no-failure : (fault : Fault) → IsNoFailure (commit_fault fault)
no-failure views.Failed = λ stage is. cc is
no-failure (views.Damaged damage) = λ stage is. cc is
no-failure views.OutOfMemory = λ stage is. cc is

pub undrafted-failure : (r : Result NewGroup CommitFault) (fault : Fault) → IsErrAnd r (λ e. e ≡ commit_fault fault) → IfErr r IsNoFailure
undrafted-failure (Ok made) fault is = tt
undrafted-failure (Err e) fault is = subst IsNoFailure (sym is) (no-failure fault)

-- ---- no group

-- the room for the commit is that for its frame behind the last root
room-is : {S : Type 0} (ledger : Ledger S) (book : Book) (moment : ℤ) → LastOf ledger book
    → room (book.commits ++ next_commit book moment ∷ []) ≡ said_of (room_for (frames_after (last_root_of ledger)) (last_root_of ledger).revision ((5 + body_size (current book)) ∷ []))
room-is ledger book moment last =
    let next = next_commit book moment in
    let all : List Commit = book.commits ++ next ∷ [] in
    let long = length-append book.commits (next ∷ []) in
    let frames : length all - 1 ≡ frames_after (last_root_of ledger) = omega (arith, long, last.frames) in
    let revisions : length all - 1 ≡ (last_root_of ledger).revision = omega (arith, long, last.revision) in
    ap (λ (state : State). said_of (room_for (length all - 1) (length all - 1) ((5 + body_size state) ∷ []))) (replay-append book.commits next empty_document)
    ∙ ap (λ (n : ℕ). said_of (room_for n (length all - 1) ((5 + body_size (current book)) ∷ []))) frames
    ∙ ap (λ (n : ℕ). said_of (room_for (frames_after (last_root_of ledger)) n ((5 + body_size (current book)) ∷ []))) revisions

pub has-room : {S : Type 0} (ledger : Ledger S) (book : Book) (moment : ℤ) (r : Result NewGroup CommitFault) → LastOf ledger book → HasRoom (last_root_of ledger) (5 + body_size (current book)) r
    → OnOk r (room (book.commits ++ next_commit book moment ∷ []) ≡ None)
has-room ledger book moment (Ok made) last is = room-is ledger book moment last ∙ ap said_of is.1
has-room ledger book moment (Err fault) last is = tt

no-group : {S : Type 0} (s : Ghosts S) (place : ℕ) (draft : Draft) (ledger : Ledger S) (book : Book) (moment : ℤ) (fault : CommitFault) (new : Ledger S) → LastOf ledger book → IsGroupFault place draft fault
    → HasRoom {X = NewGroup} (last_root_of ledger) (5 + body_size (current book)) (Err fault) → Shows s new book → Commits s book (next_commit book moment) (Err fault) new
no-group s place draft ledger book moment (faults.Stopped stage) new last is none shows = absurd is
no-group s place draft ledger book moment faults.ReadFailed new last is none shows = absurd is
no-group s place draft ledger book moment (faults.Damaged damage) new last is none shows = absurd none
no-group s place draft ledger book moment (faults.LogFull frames revisions) new last is none shows = (room-is ledger book moment last ∙ ap said_of none, shows)
no-group s place draft ledger book moment (faults.CommitTooLarge bytes) new last is none shows = (room-is ledger book moment last ∙ ap said_of none, shows)
no-group s place draft ledger book moment faults.OutOfMemory new last is none shows = shows
no-group s place draft ledger book moment (faults.Failed stage) new last is none shows = absurd is

pub ungrouped : {S : Type 0} (s : Ghosts S) (place : ℕ) (draft : Draft) (ledger : Ledger S) (book : Book) (moment : ℤ) (r : Result NewGroup CommitFault) (new : Ledger S) → LastOf ledger book → IfErr r (IsGroupFault place draft)
    → HasRoom (last_root_of ledger) (5 + body_size (current book)) r → Shows s new book → IfErr r (λ fault. Commits s book (next_commit book moment) (Err fault) new)
ungrouped s place draft ledger book moment (Ok made) new last is none shows = tt
ungrouped s place draft ledger book moment (Err fault) new last is none shows = no-group s place draft ledger book moment fault new last is none shows

group-failure : (place : ℕ) (draft : Draft) (fault : CommitFault) → IsGroupFault place draft fault → IsNoFailure fault
group-failure place draft (faults.Stopped stage) is = absurd is
group-failure place draft faults.ReadFailed is = absurd is
group-failure place draft (faults.Damaged damage) is = λ stage same. cc same
group-failure place draft (faults.LogFull frames revisions) is = λ stage same. cc same
group-failure place draft (faults.CommitTooLarge bytes) is = λ stage same. cc same
group-failure place draft faults.OutOfMemory is = λ stage same. cc same
group-failure place draft (faults.Failed stage) is = absurd is

pub ungrouped-failure : (place : ℕ) (draft : Draft) (r : Result NewGroup CommitFault) → IfErr r (IsGroupFault place draft) → IfErr r IsNoFailure
ungrouped-failure place draft (Ok made) is = tt
ungrouped-failure place draft (Err fault) is = group-failure place draft fault is

-- it is none of these
pub never : (place : ℕ) (draft : Draft) (r : Result NewGroup CommitFault) (fault : CommitFault) → IfErr r (IsGroupFault place draft) → IsErrOf r fault → (IsGroupFault place draft fault → ⊥) → ⊥
never place draft r fault is told none = none (subst (λ (r : Result NewGroup CommitFault). IfErr r (IsGroupFault place draft)) told is)

-- ---- damage

-- what damages the making of a draft damages the commit
taken : {S : Type 0} (g : Ghosts S) (tells : Type 0) (before : Option Draft) (ledger : Ledger S) (damage : Damage) → IsTakenDamage g tells before ledger damage → IsCommitDamage g tells before ledger damage
taken g tells (Some before) ledger damage is = absurd is
taken g tells None ledger damage (inl frame) = inl frame
taken g tells None ledger damage (inr (kept, keeps, broken)) = inr (kept, keeps, inl broken)

told-fault : (fault : Fault) (damage : Damage) → commit_fault fault ≡ faults.Damaged damage → fault ≡ views.Damaged damage
told-fault views.Failed damage is = absurd (cc is)
told-fault (views.Damaged other) damage is = cc is
told-fault views.OutOfMemory damage is = absurd (cc is)

err-same : (a b : CommitFault) → IsErrOf {T = NewGroup} (Err a) b → a ≡ b
err-same a b is = cc is

pub undrafted-damage : {S : Type 0} (g : Ghosts S) (tells : Type 0) (before : Option Draft) (ledger : Ledger S) (r : Result NewGroup CommitFault) (fault : Fault) (damage : Damage) → IsErrAnd r (λ e. e ≡ commit_fault fault)
    → (fault ≡ views.Damaged damage → IsTakenDamage g tells before ledger damage) → IsErrOf r (faults.Damaged damage) → IsCommitDamage g tells before ledger damage
undrafted-damage g tells before ledger (Ok made) fault damage is damaged told = absurd is
undrafted-damage g tells before ledger (Err e) fault damage is damaged told =
    taken g tells before ledger damage (damaged (told-fault fault damage (sym is ∙ err-same e (faults.Damaged damage) told)))

too-many-made : {S : Type 0} (g : Ghosts S) (tells : Type 0) (before : Option Draft) (ledger : Ledger S) (draft : Draft) (damage : Damage) → HasTooMany (place_behind ledger) (records_of draft) draft.next damage
    → IsMade g tells ledger before draft → draft.next ≡ next_in before (last_root_of ledger) → IsCommitDamage g tells before ledger damage
too-many-made g tells (Some before) ledger draft damage is made next = subst (λ (d : Draft). HasTooMany (place_behind ledger) (records_of d) d.next damage) made is
too-many-made g tells None ledger draft damage is (kept, keeps, (records, table)) next =
    inr (
      kept,
      keeps,
      inr (subst (λ (n : ℕ). HasTooMany (place_behind ledger) kept.nodes n damage) next (subst (λ (m : RecordMap NodeRecord). HasTooMany (place_behind ledger) m draft.next damage) records is)),
    )

pub ungrouped-damage : {S : Type 0} (g : Ghosts S) (tells : Type 0) (before : Option Draft) (ledger : Ledger S) (draft : Draft) (r : Result NewGroup CommitFault) (damage : Damage)
    → IfErr r (IsGroupFault (place_behind ledger) draft) → IsErrOf r (faults.Damaged damage) → IsMade g tells ledger before draft → draft.next ≡ next_in before (last_root_of ledger)
    → IsCommitDamage g tells before ledger damage
ungrouped-damage g tells before ledger draft r damage is told made next =
    too-many-made g tells before ledger draft damage (subst (λ (r : Result NewGroup CommitFault). IfErr r (IsGroupFault (place_behind ledger) draft)) told is) made next

-- ---- the draft

pub same-open : {S : Type 0} (g : Ghosts S) (tells : Type 0) (ledger : Ledger S) (before : Option Draft) (draft now : Draft) → IsMade g tells ledger before draft → IsSameDocument draft now → IsSameDraft g tells ledger before (Some now)
same-open g tells ledger None draft now (kept, keeps, loaded) same = (kept, keeps, (same.0 ∙ loaded.0, subst (IsTable kept.paths (last_root_of ledger).paths) (sym same.1) loaded.1))
same-open g tells ledger (Some before) draft now made same = subst (λ (d : Draft). IsSameDocument d now) made same

same-itself : {S : Type 0} (g : Ghosts S) (tells : Type 0) (ledger : Ledger S) (draft : Option Draft) → IsSameDraft g tells ledger draft draft
same-itself g tells ledger None = tt
same-itself g tells ledger (Some draft) = (refl, refl, refl)

pub same-untouched : {S : Type 0} (g : Ghosts S) (tells : Type 0) (old new : Ledger S) → new ≡ old → SameDraft g tells old new
same-untouched g tells old new is = subst (SameDraft g tells old) (sym is) (record { draft = same-itself g tells old old.draft; next = refl })

pub if_err : {A E : Type 0} (r : Result A E) (P : Type 0) → P → OnErr r P
if_err (Ok x) P holds = tt
if_err (Err e) P holds = holds

-- ---- the group

-- the group that was made is that of the state, at this time
abbrev HasGroup : ℕ → ℤ → State → NewGroup → Type 0
HasGroup number time state made =
    (group : FrameGroup) × ShowsState number time state group × (made.root ≡ group.root) × (made.bytes.items ≡ sealed_bytes group) × (made.row ∷ [] ≡ group.table)

pub at-time : (r : Result NewGroup CommitFault) (number : ℕ) (a b : ℤ) (state : State) → a ≡ b → IfOk r (HasGroup number a state) → IfOk r (HasGroup number b state)
at-time r number a b state same = subst (λ (t : ℤ). IfOk r (HasGroup number t state)) same

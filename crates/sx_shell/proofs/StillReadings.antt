-- What a reading of the volume's bytes is due to end with.
use Rattle.std.proofs.Common.{◌≡◌, ◌≢◌, ◌∙◌, ◌⊎◌, ◌+◌, inl, inr, ℕ, suc, List, [], ◌∷◌, ◌++◌, length, Option, None, Some, IfSome, Err, Ok, refl, ap, sym, subst, arith, length-append}
use Rattle.std.specs.Prelude.{◌≤◌, IsErrOf, IsSome}
use Rattle.sx_bytes.specs.declared.damage.Damage.{Damage}
use Rattle.sx_cursor.specs.Damage.{broken_link}
use Rattle.sx_layout.proofs.BornReadings.{is_born}
use Rattle.sx_layout.specs.Birth.{Birth, IsBorn}
use Rattle.sx_layout.specs.Born as born
use Rattle.sx_layout.specs.Born.{Reading}
use Rattle.sx_layout.specs.FrameGroup.{FrameGroup, behind_gates, group_size}
use Rattle.sx_log.specs.Creating as log
use Rattle.sx_log.specs.Calls.{IsSynced, IsSyncedOrNot, IsUnsynced}
use Rattle.sx_log.specs.Creating.{IsOther, IsTaken}
use Rattle.sx_log.specs.Kept.{first_place, rows_from}
use Rattle.sx_log.specs.declared.fault.LogFault.{LogFault}
use Rattle.sx_log.specs.declared.fault.LogFault.TheVariants as logs
use Rattle.sx_model.specs.Commit.{Commit}
use Rattle.sx_model.specs.Edit.{after}
use Rattle.sx_model.specs.State.{State, empty_document}
use Rattle.sx_outside.specs.Faults.{Rose}
use Rattle.sx_run.specs.Run.{Book}
use Rattle.sx_shell.specs.Still as still
use Rattle.sx_shell.specs.Code.{status_of}
use Rattle.sx_shell.specs.Still.{ChecksReading, IsShown, ShowsReading}
use Rattle.sx_shell.specs.declared.status.Status.{Status}
use Rattle.sx_shell.specs.declared.status.Status.TheVariants.{Done, VolumeFault, Damaged, OutOfMemory}
use Rattle.sx_store.specs.Damage.{HasNoNode, IsQueryDamage, root_at}
use Rattle.sx_store.specs.Opening.{IsGiven}
use Rattle.sx_store.specs.Shows.{Shows, count_of}
use Rattle.sx_store.specs.Sound.{IsLedgerOf}
use Rattle.sx_store.specs.declared.ledger.Ledger.{Ledger}
use Rattle.sx_tree.specs.declared.query.Query.TheVariants.{Text}
use Rattle.sx_view.specs.declared.fault.QueryFault.{QueryFault}
use Rattle.sx_view.specs.declared.fault.QueryFault.TheVariants as questions
use Rattle.sx_volume.specs.declared.spot.Spot.{Ghosts}
use Rattle.sx_volume.specs.declared.volume.Volume as volume
use Rattle.sx_whole.specs.Stands.{ShowFrom, Stands}

-- a volume that stands with a birth is born
pub stands-born : (image : List ℕ) (birth : Birth) (commits : List Commit) → Stands image (Some birth) commits → IsBorn image
stands-born image birth commits (groups, has, shows) =
    is_born image birth has.is_birth (behind_gates groups ++ has.gate ∷ has.behind) (omega (arith, length-append (behind_gates groups) (has.gate ∷ has.behind))) has.bytes_are

length-rows : (place : ℕ) (groups : List FrameGroup) → length (rows_from place groups) ≡ length groups
length-rows place [] = refl
length-rows place (group ∷ groups) = ap suc (length-rows (place + group_size group.root.frames group.root.body) groups)

-- a call failed, or memory ran out
other-status : (fault : LogFault) → IsOther fault → still.IsOther (status_of fault)
other-status fault (inl failed) = inl (ap status_of failed)
other-status fault (inr memory) = inr (ap status_of memory)

other-is : (P : Status → Type 0) (fault : LogFault) → IsOther fault → P VolumeFault → P OutOfMemory → P (status_of fault)
other-is P fault (inl failed) volume memory = subst P (sym (ap status_of failed)) volume
other-is P fault (inr out) volume memory = subst P (sym (ap status_of out)) memory

due-or-other : (fault due : LogFault) → (fault ≡ due) ⊎ IsOther fault → (status_of fault ≡ status_of due) ⊎ still.IsOther (status_of fault)
due-or-other fault due (inl is) = inl (ap status_of is)
due-or-other fault due (inr other) = inr (other-status fault other)

module _ {S : Type 0} (g : Ghosts S) where
  count-groups : (ledger : Ledger S) (groups : List FrameGroup) → IsLedgerOf g ledger groups → count_of ledger ≡ length groups
  count-groups ledger groups is = ap length is.is_log.rows ∙ length-rows first_place groups

  -- no log was opened
  pub shows-none : (reading : Reading) (r : ℕ) (fault : LogFault) → IsGiven g reading (Err fault) → ShowsReading reading r (status_of fault)
  shows-none (born.Log birth groups) r fault is = other-is (IsShown (length groups) r) fault is tt tt
  shows-none born.Unborn r fault is = due-or-other fault _ is
  shows-none (born.NotOurs first) r fault is = due-or-other fault _ is
  shows-none (born.Damaged damage) r fault is = due-or-other fault _ is

  pub checks-none : (reading : Reading) (fault : LogFault) → IsGiven g reading (Err fault) → ChecksReading reading (status_of fault)
  checks-none (born.Log birth groups) fault is = other-is (still.ChecksGroups groups) fault is tt tt
  checks-none born.Unborn fault is = due-or-other fault _ is
  checks-none (born.NotOurs first) fault is = due-or-other fault _ is
  checks-none (born.Damaged damage) fault is = due-or-other fault _ is

  -- a log was opened
  pub shows-log : (reading : Reading) (r : ℕ) (ledger : Ledger S) (status : Status) → IsGiven g reading (Ok ledger) → IsShown (count_of ledger) r status → ShowsReading reading r status
  shows-log (born.Log birth groups) r ledger status is shown = subst (λ (n : ℕ). IsShown n r status) (count-groups ledger groups is.1) shown
  shows-log born.Unborn r ledger status is shown = absurd is
  shows-log (born.NotOurs first) r ledger status is shown = absurd is
  shows-log (born.Damaged damage) r ledger status is shown = absurd is

  pub checks-log : (reading : Reading) (ledger : Ledger S) (status : Status) → IsGiven g reading (Ok ledger)
      → ((groups : List FrameGroup) → IsLedgerOf g ledger groups → still.ChecksGroups groups status) → ChecksReading reading status
  checks-log (born.Log birth groups) ledger status is checks = checks groups is.1
  checks-log born.Unborn ledger status is checks = absurd is
  checks-log (born.NotOurs first) ledger status is checks = absurd is
  checks-log (born.Damaged damage) ledger status is checks = absurd is

-- ---- a volume that stands

pub other-end : (P : Status → Type 0) (fault : LogFault) (status : Status) → status ≡ status_of fault → IsOther fault → P VolumeFault → P OutOfMemory → P status
other-end P fault status is other volume memory = subst P (sym is) (other-is P fault other volume memory)

length-shown : (r : ℕ) (state : State) (commits : List Commit) (groups : List FrameGroup) → ShowFrom r state commits groups → length groups ≡ length commits
length-shown r state [] [] shows = refl
length-shown r state [] (group ∷ groups) shows = absurd shows
length-shown r state (commit ∷ commits) [] shows = absurd shows
length-shown r state (commit ∷ commits) (group ∷ groups) shows = ap suc (length-shown (r + 1) (after commit.edits state) commits groups shows.1)

pub count-commits : {S : Type 0} (g : Ghosts S) (ledger : Ledger S) (book : Book) → Shows g ledger book → count_of ledger ≡ length book.commits
count-commits g ledger book shows =
    ap length shows.is_log.rows ∙ length-rows first_place shows.groups ∙ length-shown 1 empty_document book.commits shows.groups shows.commits.1

-- ---- making a volume

made-ok : (image : List ℕ) (value : Unit {0}) → log.IsMade image (Ok value) → still.IsMade image Done
made-ok image value made = record {
  unborn = λ is. inl refl;
  born = λ is. let never = (made.born is).1 in absurd cc;
  not_ours = λ first is. let never = (made.not_ours first is).1 in absurd cc;
}

made-err : (image : List ℕ) (fault : LogFault) → log.IsMade image (Err fault) → still.IsMade image (status_of fault)
made-err image fault made = record {
  unborn = λ is. elim (made.unborn is) [
    | inl done ↦ absurd cc
    | inr other ↦ let same : fault ≡ other.0 = cc other.1 in inr (other-status fault (subst IsOther (sym same) other.2))
  ];
  born = λ is. let other = made.born is in let same : fault ≡ other.0 = cc other.1 in
      due-or-other fault logs.Born (subst (λ (f : LogFault). (f ≡ logs.Born) ⊎ IsOther f) (sym same) other.2);
  not_ours = λ first is. let other = made.not_ours first is in let same : fault ≡ other.0 = cc other.1 in
      due-or-other fault (logs.NotOurs first) (subst (λ (f : LogFault). (f ≡ logs.NotOurs first) ⊎ IsOther f) (sym same) other.2);
}

pub made-done : (bytes : Option (List ℕ)) (value : Unit {0}) → IfSome bytes (λ image. log.IsMade image (Ok value)) → IfSome bytes (λ image. still.IsMade image Done)
made-done None value made = tt
made-done (Some image) value made = made-ok image value made

pub made-not : (bytes : Option (List ℕ)) (fault : LogFault) (status : Status) → status ≡ status_of fault
    → IfSome bytes (λ image. log.IsMade image (Err fault)) → IfSome bytes (λ image. still.IsMade image status)
made-not None fault status is made = tt
made-not (Some image) fault status is made = subst (λ (s : Status). still.IsMade image s) (sym is) (made-err image fault made)

never-done : (fault : LogFault) → status_of fault ≡ Done → ⊥
never-done logs.Failed is = absurd cc
never-done (logs.NotOurs first) is = absurd cc
never-done logs.Unborn is = absurd cc
never-done logs.Born is = absurd cc
never-done (logs.Damaged damage) is = absurd cc
never-done logs.OutOfMemory is = absurd cc

pub empty-not : (P : List ℕ → Type 0) (A B C : Type 0) (bytes : Option (List ℕ)) (fault : LogFault) (status : Status) → status ≡ status_of fault
    → IfSome bytes (λ image. P image → A ⊎ (C × B)) → IfSome bytes (λ image. P image → A ⊎ ((status ≢ Done) × B))
empty-not P A B C None fault status is empty = tt
empty-not P A B C (Some image) fault status is empty = λ un. elim (empty un) [
  | inl since ↦ inl since
  | inr none ↦ inr (λ done. never-done fault (sym is ∙ done), none.1)
]

-- what was there stays
pub taken-ok : {V S E : Type 0} (g : volume.Ghosts V S E) (old new : V) (value : Unit {0}) (bytes : Option (List ℕ))
    → IfSome bytes (λ image. IsTaken image → (IsErrOf {T = Unit {0}} (Ok value) logs.Failed → ⊥) → g.bytes new ≡ g.bytes old)
    → IfSome bytes (λ image. IsTaken image → IsSynced g image old new ⊎ IsUnsynced g old new) → IfSome bytes (λ image. IsTaken image → still.IsLeft g image old new Done)
taken-ok g old new value None same images = tt
taken-ok g old new value (Some image) same images = λ taken. record { same = λ fine. same taken (λ failed. cc failed); images = images taken }

pub taken-err : {V S E : Type 0} (g : volume.Ghosts V S E) (old new : V) (fault : LogFault) (status : Status) (bytes : Option (List ℕ)) → status ≡ status_of fault
    → IfSome bytes (λ image. IsTaken image → (IsErrOf {T = Unit {0}} (Err fault) logs.Failed → ⊥) → g.bytes new ≡ g.bytes old)
    → IfSome bytes (λ image. IsTaken image → IsSynced g image old new ⊎ IsUnsynced g old new) → IfSome bytes (λ image. IsTaken image → still.IsLeft g image old new status)
taken-err g old new fault status None is same images = tt
taken-err g old new fault status (Some image) is same images = λ taken. record {
  same = λ fine. same taken (λ failed. let same_fault : fault ≡ logs.Failed = cc failed in fine (is ∙ ap status_of same_fault));
  images = images taken;
}

-- nothing was called
pub taken-still : {V S E : Type 0} (g : volume.Ghosts V S E) (volume : V) (status : Status) (bytes : Option (List ℕ))
    → ((c : List ℕ) → g.was_image volume (g.moment volume) c → g.is_image volume c) → IfSome bytes (λ image. IsTaken image → still.IsLeft g image volume volume status)
taken-still g volume status None only = tt
taken-still g volume status (Some image) only = λ taken. record { same = λ fine. refl; images = inr (record { no_sync = λ t had. had; up_to = only }) }

-- what an opening leaves that gives no ledger
pub leaves-err : {V S E : Type 0} (g : volume.Ghosts V S E) (old new : V) (fault : LogFault) (status : Status) → status ≡ status_of fault
    → (fault ≢ logs.Failed → g.bytes new ≡ g.bytes old) → (fault ≡ logs.Failed → Rose (g.faults old) (g.faults new)) → (IsSome (g.bytes old) → IsSome (g.bytes new)) → IsSyncedOrNot g old new
    → still.LeavesBytes g old new status
leaves-err g old new fault status is same cause told images = record {
  same = λ fine. same (λ failed. fine (is ∙ ap status_of failed));
  calm = λ none. by fault same cause none;
  told = told;
  synced_or_not = images;
  synced = λ done. absurd (never-done fault (sym is ∙ done));
}
  where
    by : (f : LogFault) → (f ≢ logs.Failed → g.bytes new ≡ g.bytes old) → (f ≡ logs.Failed → Rose (g.faults old) (g.faults new)) → (Rose (g.faults old) (g.faults new) → ⊥) → g.bytes new ≡ g.bytes old
    by logs.Failed same cause none = absurd (none (cause refl))
    by (logs.NotOurs first) same cause none = same (λ failed. cc failed)
    by logs.Unborn same cause none = same (λ failed. cc failed)
    by logs.Born same cause none = same (λ failed. cc failed)
    by (logs.Damaged damage) same cause none = same (λ failed. cc failed)
    by logs.OutOfMemory same cause none = same (λ failed. cc failed)

-- what a text that was not answered tells of the revision
pub shown-damage : {S : Type 0} (g : Ghosts S) (tells : Type 0) (ledger : Ledger S) (r : ℕ) (damage : Damage) (fault : QueryFault) → r ≤ count_of ledger
    → ((d : Damage) → fault ≡ questions.Damaged d → IsQueryDamage g tells ledger (root_at ledger r) (Text 0) d)
    → ((node : ℕ) → fault ≡ questions.NoNode node → (0 ≡ node) × HasNoNode g tells ledger (root_at ledger r) node)
    → ((path : ℕ) → fault ≡ questions.NoPath path → ⊥) → still.unanswered_status fault ≡ Damaged damage → still.IsShownDamage g tells r damage ledger
shown-damage g tells ledger r damage (questions.Missing asked seen) there broken absent path is = absurd (cc is)
shown-damage g tells ledger r damage (questions.NoNode node) there broken absent path is =
    let zero_is = (absent node refl).0 in
    let same : broken_link 0 node ≡ damage = cc is in
    (there, inr (subst (λ (n : ℕ). HasNoNode g tells ledger (root_at ledger r) n) (sym zero_is) (absent node refl).1, sym same ∙ ap (broken_link 0) (sym zero_is)))
shown-damage g tells ledger r damage (questions.NoPath other) there broken absent path is = absurd (path other refl)
shown-damage g tells ledger r damage questions.Failed there broken absent path is = absurd (cc is)
shown-damage g tells ledger r damage (questions.Damaged d) there broken absent path is =
    let same : d ≡ damage = cc is in (there, inl (subst (λ (e : Damage). IsQueryDamage g tells ledger (root_at ledger r) (Text 0) e) same (broken d refl)))
shown-damage g tells ledger r damage questions.OutOfMemory there broken absent path is = absurd (cc is)

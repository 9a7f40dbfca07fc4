-- A commit, an edit and a question, as the desk answers them.
use Rattle.std.proofs.Common.{◌≡◌, ◌∙◌, ◌↔◌, ℕ, ℤ, ◌<◌, ◌≤◌, ◌+◌, inl, inr, ⊎_elim, length, List, [], ◌∷◌, ◌++◌, get_or, slice_set, Option, None, Some, IfSome, IsSome, Result, Ok, Err, IfErr, OnOk, IsErrOf, FitsSigned, w64, refl, ap, sym, subst}
use Rattle.sx_layout.specs.Birth.{Birth}
use Rattle.sx_model.specs.Commit.{Commit, state_of}
use Rattle.sx_model.specs.Edit.{edit_of}
use Rattle.sx_outside.specs.Clock.{Ticks}
use Rattle.sx_outside.specs.Faults.{Rose}
use Rattle.sx_query.specs.Gives.{Gives}
use Rattle.sx_run.specs.Answers.{AnswersAt, ValidNames}
use Rattle.sx_run.specs.Run.{Answers, Book, Course, client_of, next_commit, with_client, with_commit}
use Rattle.sx_run.specs.declared.line.Command.TheVariants as commands
use Rattle.sx_run.specs.declared.reply.Said.{Said}
use Rattle.sx_run.specs.declared.reply.Said.TheVariants as said
use Rattle.sx_shell.proofs.Desks.{going_on, stopped_answers, said_same, said_edits, said_failed, left_same, shows_next, failed_client, same_revisions, length-slice_set, edit_answers, edit_refused, edit_failed, commit_answers, commit_failed, room_none, room_full, carries_commit, carries_none, carries_failed}
use Rattle.sx_shell.proofs.EndFaults.{end_on, rises_failed, rises_still}
use Rattle.sx_shell.proofs.Still.{if_told, both_told, when_some, not_some, has_all_before}
use Rattle.sx_store.proofs.Ledgers.{images_stand}
use Rattle.sx_shell.specs.Desk.{IsAnswered, IsSaid}
use Rattle.sx_shell.specs.Done.{Carries, Continues, HaveAll, place}
use Rattle.sx_shell.specs.Medium.{EndsGoOn, Medium, terms_of}
use Rattle.sx_shell.specs.Said.{IsAnswerOf, IsEditOf, IsSaidOf}
use Rattle.sx_shell.specs.Shows.{Shows}
use Rattle.sx_store.specs.Commits.{Commits, IsNoFailure, Leaves, failed_book}
use Rattle.sx_store.specs.Edits.{Edits, with_edit}
use Rattle.sx_store.specs.Room.{room}
use Rattle.sx_store.specs.Shows as store
use Rattle.sx_store.specs.Shows.{birth_in, count_of, names_in, stage_of}
use Rattle.sx_store.specs.Sound.{GrowsFrom, HasAll, HoldAll, IsSound, SameBut}
use Rattle.sx_store.specs.declared.fault.CommitFault.{CommitFault}
use Rattle.sx_store.specs.declared.fault.CommitFault.TheVariants as faults
use Rattle.sx_store.specs.declared.fault.Committed.{Committed}
use Rattle.sx_store.specs.declared.fault.WriterFault.{WriterFault}
use Rattle.sx_store.specs.declared.fault.WriterFault.TheVariants as edits
use Rattle.sx_store.specs.declared.ledger.Ledger.{Ledger}
use Rattle.sx_tree.specs.declared.edit.Edit as plain
use Rattle.sx_tree.specs.declared.edit.Edited.{Edited}
use Rattle.sx_tree.specs.declared.query.Answer.{Answer}
use Rattle.sx_tree.specs.declared.query.Query.{Query}
use Rattle.sx_view.specs.declared.fault.QueryFault.{QueryFault}
use Rattle.sx_view.specs.declared.fault.QueryFault.TheVariants as queries
use Rattle.sx_volume.specs.Images.{Elapses}
use Rattle.sx_volume.specs.declared.end.ReadEnd as end
use Rattle.sx_volume.specs.declared.spot.Spot as spot
use Rattle.sx_volume.specs.declared.volume.Volume as volume
use Rattle.sx_whole.specs.Stands.{Stands}

-- but for its draft the ledger is the same
pub but_draft : {S : Type 0} (X : Type 0) (before after : Ledger S) (result : Result Committed CommitFault) → IfErr result (λ fault. IsNoFailure fault → SameBut before after × X) → IfErr result (λ fault. IsNoFailure fault → SameBut before after)
but_draft X before after (Ok done) same = tt
but_draft X before after (Err fault) same = λ none. (same none).0

-- what a commit of the writer says of itself, whatever the volume stands for
pub record Ends {V S E : Type 0} (g : volume.Ghosts V S E) (s : spot.Ghosts S) (old new : V) (before after : Ledger S) (result : Result Committed CommitFault) : Type 0 where
  pub sound : IsSound g s new after
  pub goes_on : OnOk result (stage_of after ≡ None)
  pub fails : (stage : ℕ) → IsErrOf result (faults.Failed stage) → stage_of after ≡ Some stage
  pub stopped : (stage : ℕ) → IsErrOf result (faults.Stopped stage) ↔ (stage_of before ≡ Some stage)
  pub same_stopped : (stage : ℕ) → stage_of before ≡ Some stage → after ≡ before
  pub same_ledger : IfErr result (λ fault. IsNoFailure fault → SameBut before after)
  pub same_volume : (stage : ℕ) → stage_of before ≡ Some stage → new ≡ old
  pub same_birth : birth_in after ≡ birth_in before
  pub grows : IfSome (g.bytes old) (λ _. GrowsFrom s before after)
  pub keeps : stage_of before ≡ None → HoldAll s (g.bytes old) (g.was_image new (g.moment old)) before
  pub told : IsSome (g.bytes old) → IsSome (g.bytes new)
  pub time : Elapses (g.moment old) (g.moment new) (g.was_image old) (g.was_image new) (g.synced old) (g.synced new)
  pub cause : IfErr result (λ fault. (stage : ℕ) → fault ≡ faults.Failed stage → Rose (g.faults old) (g.faults new))
  pub no_fault : ((stage : ℕ) → IsErrOf result (faults.Failed stage) → ⊥) → g.faults new ≡ g.faults old
  pub never_falls : g.faults old ≤ g.faults new

module _ {V S E : Type 0} (g : volume.Ghosts V S E) (s : spot.Ghosts S) (old new : V) (before after : Ledger S) where
  no_fault_of : (result : Result Committed CommitFault) → Ends g s old new before after result → stage_of after ≡ None → g.faults new ≡ g.faults old
  no_fault_of (Ok done) ends going = ends.no_fault (λ stage is. cc is)
  no_fault_of (Err (faults.Failed stage)) ends going = absurd (cc (ends.fails stage refl, going))
  no_fault_of (Err (faults.Stopped stage)) ends going = ends.no_fault (λ other is. cc is)
  no_fault_of (Err faults.ReadFailed) ends going = ends.no_fault (λ other is. cc is)
  no_fault_of (Err (faults.Damaged damage)) ends going = ends.no_fault (λ other is. cc is)
  no_fault_of (Err (faults.LogFull frames revisions)) ends going = ends.no_fault (λ other is. cc is)
  no_fault_of (Err (faults.CommitTooLarge bytes)) ends going = ends.no_fault (λ other is. cc is)
  no_fault_of (Err faults.OutOfMemory) ends going = ends.no_fault (λ other is. cc is)

  -- the writer goes on after what is no failure
  still_going : SameBut before after → stage_of before ≡ None → IsSome (stage_of after) → ⊥
  still_going same going some = not_some (stage_of after) (same.stage ∙ going) some

  cause_of : (result : Result Committed CommitFault) → Ends g s old new before after result → stage_of before ≡ None → IsSome (stage_of after) → Rose (g.faults old) (g.faults new)
  cause_of (Ok done) ends going some = absurd (not_some (stage_of after) ends.goes_on some)
  cause_of (Err (faults.Failed stage)) ends going some = ends.cause stage refl
  cause_of (Err (faults.Stopped stage)) ends going some = absurd (cc ((ends.stopped stage).0 refl, going))
  cause_of (Err faults.ReadFailed) ends going some = absurd (still_going (ends.same_ledger (λ stage is. cc is)) going some)
  cause_of (Err (faults.Damaged damage)) ends going some = absurd (still_going (ends.same_ledger (λ stage is. cc is)) going some)
  cause_of (Err (faults.LogFull frames revisions)) ends going some = absurd (still_going (ends.same_ledger (λ stage is. cc is)) going some)
  cause_of (Err (faults.CommitTooLarge bytes)) ends going some = absurd (still_going (ends.same_ledger (λ stage is. cc is)) going some)
  cause_of (Err faults.OutOfMemory) ends going some = absurd (still_going (ends.same_ledger (λ stage is. cc is)) going some)

  stays_of : (result : Result Committed CommitFault) → Ends g s old new before after result → (stage : ℕ) → stage_of before ≡ Some stage → (stage_of after ≡ Some stage) × (g.faults new ≡ g.faults old)
  stays_of result ends stage is = (ap (λ (l : Ledger S). stage_of l) (ends.same_stopped stage is) ∙ is, ap g.faults (ends.same_volume stage is))

  abbrev Keeps : V → Type 0
  Keeps v = (from : ℕ) (first : Ledger S) → from ≤ g.moment old → GrowsFrom s first before → HaveAll g s from old first → HaveAll g s from v first

  keeps_of : (result : Result Committed CommitFault) → Ends g s old new before after result → (o : Option ℕ) → stage_of before ≡ o → IfSome (g.bytes old) (λ _. Keeps new)
  keeps_of result ends None going =
      both_told (g.bytes old)
      (λ (all : (image : List ℕ) → g.was_image new (g.moment old) image → HasAll s before image) (nothing : Unit {0}).
      λ from first le grew have image left.
      ⊎_elim (λ (earlier : g.was_image old from image). have image earlier) (λ (here : g.was_image new (g.moment old) image). has_all_before s first before image grew (all image here))
      (ends.time.nothing_else from image le left))
      (ends.keeps going) (if_told (g.bytes old) tt)
  keeps_of result ends (Some stage) is =
      subst (λ (v : V). IfSome (g.bytes old) (λ _. Keeps v)) (sym (ends.same_volume stage is)) (if_told (g.bytes old) (λ from first le grew have. have))

  pub commit_continues : (result : Result Committed CommitFault) → Ends g s old new before after result → Continues g s old new before after
  commit_continues result ends = record {
    time = ends.time;
    told = ends.told;
    same_birth = ends.same_birth;
    grows = ends.grows;
    keeps = keeps_of result ends (stage_of before) refl;
    stays = stays_of result ends;
    no_fault = no_fault_of result ends;
    cause = cause_of result ends;
    never_falls = ends.never_falls;
  }

-- an end among those of the clients: what it was, and what it is after a call
pub record One (E : Type 0) : Type 0 where
  pub ends : List E
  pub client : ℕ
  pub old : E
  pub new : E

-- The call read this end and no other.
pub record OnlyReads {S E : Type 0} (e : end.Ghosts E S) (one : One E) : Type 0 where
  pub known : one.client < length one.ends
  pub is : one.old ≡ get_or one.ends one.client one.old
  pub tells_on : e.tells one.old → e.tells one.new
  pub more : e.faults one.old ≤ e.faults one.new

-- the ends after the call
abbrev pub ends_after : {E : Type 0} → One E → List E
ends_after one = slice_set one.ends one.client one.new

pub ends_on : {S E : Type 0} (e : end.Ghosts E S) (one : One E) → OnlyReads e one → EndsGoOn e one.ends (ends_after one)
ends_on e one read = end_on e one.ends one.client one.old one.new read.known read.is read.more read.tells_on

-- ---- commits

module _ {V S E : Type 0} (g : Medium V S E) (old new : V) (before after : Ledger S) (one : One E) (read : OnlyReads g.end one) (revisions : List ℕ) (past moments : Option (List ℤ)) (course : Course)
    (shows : Shows g before one.ends revisions past course) (told : IsSome (g.volume.bytes old)) where
  -- the writer goes on, and its commit ended so
  abbrev pub Went : Result Committed CommitFault → Type 0
  Went result = (moment : ℤ) × FitsSigned w64 moment × Ticks past moment moments × Commits g.spot course.book (next_commit course.book moment) result after
      × Leaves g.birth course.book (next_commit course.book moment) result (g.volume.moment old) (g.volume.was_image new) (g.volume.synced new)

  abbrev Answer_of : {X : Type 0} → Result Said X → Type 0
  Answer_of r = IsAnswered g (record { course = course; old = place old before one.ends revisions None past; new = place new after (ends_after one) revisions None moments }) one.client commands.Commit r

  on : EndsGoOn g.end one.ends (ends_after one)
  on = ends_on g.end one read

  ticks_of : (moment : ℤ) → Ticks past moment moments → Ticks course.moments moment moments
  ticks_of moment ticks = subst (λ (m : Option (List ℤ)). Ticks m moment moments) (sym shows.moments_are) ticks

  -- the next course, whose clients are the same
  said_book : birth_in after ≡ birth_in before → (book : Book) → store.Shows g.spot after book → Carries g old new course.book book
      → IsSaid g (record { course = course; old = place old before one.ends revisions None past; new = place new after (ends_after one) revisions None moments }) (record course { book = book; moments = moments })
  said_book birth book shown carries = record {
    leads = record { shows = shown; carries = carries; rises = rises_still g.end one.ends (ends_after one) course.clients on };
    shows = shows_next g before after one.ends (ends_after one) revisions past moments course (record course { book = book; moments = moments }) shows birth on shown refl refl refl;
  }

  now_stand : (commits : List Commit) → IfSome (g.volume.bytes new) (λ _. (image : List ℕ) → g.volume.is_image new image → Stands image (Some g.birth) commits)
      → (IsSome (g.volume.bytes old) → IsSome (g.volume.bytes new)) → ((c : List ℕ) → g.volume.was_image new (g.volume.moment new) c → g.volume.is_image new c)
      → (image : List ℕ) → g.volume.was_image new (g.volume.moment new) image → Stands image (Some g.birth) commits
  now_stand commits stand on_telling only image left = when_some (g.volume.bytes new) (on_telling told) stand image (only image left)

  module _ (only : (c : List ℕ) → g.volume.was_image new (g.volume.moment new) c → g.volume.is_image new c) (same_clock : (stage : ℕ) → stage_of before ≡ Some stage → moments ≡ past) where
    went_done : (X : Type 0) (done : Committed) (reply : Said) → Ends g.volume g.spot old new before after (Ok done) → stage_of before ≡ None → Went (Ok done) → reply ≡ said.Committed done.revision done.time → Answer_of {X = X} (Ok reply)
    went_done X done reply ends going went is =
        let next = next_commit course.book went.0 in
        let book = with_commit course.book next in
        let unstopped = going_on g.spot before course.book shows.book going in
        let says : reply ≡ said.Committed (length course.book.commits + 1) next.time = is ∙ ap (λ (r : ℕ). said.Committed r done.time) went.3.1 ∙ ap (λ (t : ℤ). said.Committed (length course.book.commits + 1) t) went.3.2 in
        let birth : birth_in after ≡ g.birth = ends.same_birth ∙ shows.birth in (
          record course { book = book; moments = moments },
          commit_answers (terms_of g.birth) course one.client went.0 moments reply book unstopped went.1 (ticks_of went.0 went.2)
              (room_none (room (course.book.commits ++ next ∷ [])) course.book next reply book went.3.0 (inl (says, refl))),
          said_book ends.same_birth book went.3.3
              (carries_commit g old new course.book next unstopped ends.time done (if_told (g.volume.bytes old) went.4)
              (if_told (g.volume.bytes old) (now_stand book.commits
              (subst (λ (b : Birth). IfSome (g.volume.bytes new) (λ _. (image : List ℕ) → g.volume.is_image new image → Stands image (Some b) book.commits)) birth
              (images_stand g.volume g.spot new after ends.sound ends.goes_on book went.3.3)) ends.told only))),
        )

    -- nothing came of it
    went_none : birth_in after ≡ birth_in before → store.Shows g.spot after course.book → stage_of before ≡ None
        → Elapses (g.volume.moment old) (g.volume.moment new) (g.volume.was_image old) (g.volume.was_image new) (g.volume.synced old) (g.volume.synced new)
        → (moment : ℤ) → ((image : List ℕ) → g.volume.was_image new (g.volume.moment old) image → Stands image (Some g.birth) course.book.commits) → Carries g old new course.book course.book
    went_none birth shown going time moment leaves =
        carries_none g old new course.book (next_commit course.book moment) (going_on g.spot before course.book shows.book going) time (if_told (g.volume.bytes old) leaves)

    -- there is no room for it
    went_full : (X : Type 0) (reply : Said) → birth_in after ≡ birth_in before → stage_of before ≡ None → (moment : ℤ) → FitsSigned w64 moment → Ticks past moment moments
        → room (course.book.commits ++ next_commit course.book moment ∷ []) ≡ Some reply → store.Shows g.spot after course.book → Carries g old new course.book course.book → Answer_of {X = X} (Ok reply)
    went_full X reply birth going moment fits ticks full shown carries = (
      record course { moments = moments },
      commit_answers (terms_of g.birth) course one.client moment moments reply course.book (going_on g.spot before course.book shows.book going) fits (ticks_of moment ticks)
          (room_full (room (course.book.commits ++ next_commit course.book moment ∷ [])) course.book (next_commit course.book moment) reply full),
      said_book birth course.book shown carries,
    )

    went_failed : (X : Type 0) (stage : ℕ) (reply : Said) → Ends g.volume g.spot old new before after (Err (faults.Failed stage)) → stage_of before ≡ None → Went (Err (faults.Failed stage)) → reply ≡ said.FailedStage stage → Answer_of {X = X} (Ok reply)
    went_failed X stage reply ends going went is =
        let next = next_commit course.book went.0 in
        let book = failed_book course.book next stage in
        let unstopped = going_on g.spot before course.book shows.book going in (
          record course { book = book; moments = moments },
          commit_answers (terms_of g.birth) course one.client went.0 moments reply book unstopped went.1 (ticks_of went.0 went.2)
              (room_none (room (course.book.commits ++ next ∷ [])) course.book next reply book went.3.0 (inr (stage, went.3.1, is, refl))),
          said_book ends.same_birth book went.3.2 (carries_failed g old new course.book next unstopped ends.time stage went.3.1 (if_told (g.volume.bytes old) went.4)),
        )

    -- a read of the client's end failed
    went_unread : (X : Type 0) (reply : Said) → Ends g.volume g.spot old new before after (Err faults.ReadFailed) → Rose (g.end.faults one.old) (g.end.faults one.new) → stage_of before ≡ None → Went (Err faults.ReadFailed) → reply ≡ said.Failed
        → Answer_of {X = X} (Ok reply)
    went_unread X reply ends rose going went is =
        let part = failed_client course one.client in
        let next : Course = with_client (record course { moments = moments }) one.client part in (
          next,
          subst (λ (s : Said). Answers (terms_of g.birth) course one.client commands.Commit s next) (sym is)
              (commit_failed (terms_of g.birth) course one.client went.0 moments (going_on g.spot before course.book shows.book going) went.1 (ticks_of went.0 went.2)),
          record {
            leads = record {
              shows = went.3;
              carries = went_none ends.same_birth went.3 going ends.time went.0 went.4;
              rises = rises_failed g.end one.ends course.clients one.client one.old one.new part read.known read.is rose refl;
            };
            shows = shows_next g before after one.ends (ends_after one) revisions past moments course next shows ends.same_birth on went.3
                (same_revisions course.clients one.client part refl) (length-slice_set course.clients one.client part) refl;
          },
        )

    went_short : {X : Type 0} (e : X) → Ends g.volume g.spot old new before after (Err faults.OutOfMemory) → stage_of before ≡ None → Went (Err faults.OutOfMemory) → Answer_of (Err e)
    went_short e ends going went =
        record { shows = went.3; carries = went_none ends.same_birth went.3 going ends.time went.0 went.4; rises = rises_still g.end one.ends (ends_after one) course.clients on }

    -- the writer had stopped
    was_stopped : (X : Type 0) (stage : ℕ) (reply : Said) → Ends g.volume g.spot old new before after (Err (faults.Stopped stage)) → reply ≡ said.Stopped stage → Answer_of {X = X} (Ok reply)
    was_stopped X stage reply ends is =
        let at = (ends.stopped stage).0 refl in (
          course,
          stopped_answers _ _ course.book.stopped stage reply (sym shows.book.stopped ∙ at) is refl,
          subst (λ (m : Option (List ℤ)). IsSaid g (record { course = course; old = place old before one.ends revisions None past; new = place new after (ends_after one) revisions None m }) course) (sym (same_clock stage at))
              (said_same g old before one.ends revisions past course shows new after (ends_after one) (ends.same_volume stage at) ends.same_birth on
              (subst (λ (l : Ledger S). store.Shows g.spot l course.book) (sym (ends.same_stopped stage at)) shows.book)),
        )

    pub commit_answered : {X : Type 0} (result : Result Committed CommitFault) (r : Result Said X) → Ends g.volume g.spot old new before after result
        → (IsErrOf result faults.ReadFailed → Rose (g.end.faults one.old) (g.end.faults one.new)) → (stage_of before ≡ None → Went result) → IsSaidOf result r
        → (o : Option ℕ) → stage_of before ≡ o → Answer_of r
    commit_answered {X} (Ok done) (Ok reply) ends rose went is None going = went_done X done reply ends going (went going) is
    commit_answered {X} (Ok done) (Err e) ends rose went is o going = absurd is
    commit_answered {X} (Ok done) (Ok reply) ends rose went is (Some stage) at = absurd (cc ((ends.stopped stage).1 at))
    commit_answered {X} (Err (faults.Stopped stage)) (Ok reply) ends rose went is o at = was_stopped X stage reply ends is
    commit_answered {X} (Err (faults.Stopped stage)) (Err e) ends rose went is o at = absurd is
    commit_answered {X} (Err faults.ReadFailed) (Ok reply) ends rose went is None going = went_unread X reply ends (rose refl) going (went going) is
    commit_answered {X} (Err faults.ReadFailed) (Ok reply) ends rose went is (Some stage) at = absurd (cc ((ends.stopped stage).1 at))
    commit_answered {X} (Err faults.ReadFailed) (Err e) ends rose went is o at = absurd is
    commit_answered {X} (Err (faults.Damaged damage)) (Ok reply) ends rose went is None going = absurd (went going).3
    commit_answered {X} (Err (faults.Damaged damage)) (Ok reply) ends rose went is (Some stage) at = absurd (cc ((ends.stopped stage).1 at))
    commit_answered {X} (Err (faults.Damaged damage)) (Err e) ends rose went is o at = absurd is
    commit_answered {X} (Err (faults.LogFull frames older)) (Ok reply) ends rose went is None going =
        let end = went going in
        went_full X reply ends.same_birth going end.0 end.1 end.2 (end.3.0 ∙ ap (λ (r : Said). Some r) (sym is)) end.3.1 (went_none ends.same_birth end.3.1 going ends.time end.0 end.4)
    commit_answered {X} (Err (faults.LogFull frames older)) (Ok reply) ends rose went is (Some stage) at = absurd (cc ((ends.stopped stage).1 at))
    commit_answered {X} (Err (faults.LogFull frames older)) (Err e) ends rose went is o at = absurd is
    commit_answered {X} (Err (faults.CommitTooLarge bytes)) (Ok reply) ends rose went is None going =
        let end = went going in
        went_full X reply ends.same_birth going end.0 end.1 end.2 (end.3.0 ∙ ap (λ (r : Said). Some r) (sym is)) end.3.1 (went_none ends.same_birth end.3.1 going ends.time end.0 end.4)
    commit_answered {X} (Err (faults.CommitTooLarge bytes)) (Ok reply) ends rose went is (Some stage) at = absurd (cc ((ends.stopped stage).1 at))
    commit_answered {X} (Err (faults.CommitTooLarge bytes)) (Err e) ends rose went is o at = absurd is
    commit_answered {X} (Err faults.OutOfMemory) (Ok reply) ends rose went is o at = absurd is
    commit_answered {X} (Err faults.OutOfMemory) (Err e) ends rose went is None going = went_short e ends going (went going)
    commit_answered {X} (Err faults.OutOfMemory) (Err e) ends rose went is (Some stage) at = absurd (cc ((ends.stopped stage).1 at))
    commit_answered {X} (Err (faults.Failed stage)) (Ok reply) ends rose went is None going = went_failed X stage reply ends going (went going) is
    commit_answered {X} (Err (faults.Failed stage)) (Ok reply) ends rose went is (Some other) at = absurd (cc ((ends.stopped other).1 at))
    commit_answered {X} (Err (faults.Failed stage)) (Err e) ends rose went is o at = absurd is

-- ---- edits and questions

module _ {V S E : Type 0} (g : Medium V S E) (old new : V) (before after : Ledger S) (one : One E) (read : OnlyReads g.end one) (revisions : List ℕ) (moments : Option (List ℤ)) (course : Course)
    (shows : Shows g before one.ends revisions moments course) (same : new ≡ old) (birth : birth_in after ≡ birth_in before) where
  goes : EndsGoOn g.end one.ends (ends_after one)
  goes = ends_on g.end one read

  module _ (edit : plain.Edit) (stopped : (stage : ℕ) → stage_of before ≡ Some stage → after ≡ before) where
    abbrev Edited_as : {X : Type 0} → Result Said X → Type 0
    Edited_as r = IsAnswered g (record { course = course; old = place old before one.ends revisions None moments; new = place new after (ends_after one) revisions None moments }) one.client (commands.Edit edit) r

    pub edit_answered : {X : Type 0} (result : Result Edited WriterFault) (r : Result Said X) → ((stage : ℕ) → IsErrOf result (edits.Stopped stage) ↔ (stage_of before ≡ Some stage))
        → (IsErrOf result edits.Failed → Rose (g.end.faults one.old) (g.end.faults one.new)) → (stage_of before ≡ None → Edits g.spot course.book (edit_of edit) result after) → IsEditOf result r
        → (o : Option ℕ) → stage_of before ≡ o → Edited_as r
    edit_answered {X} (Ok edited) (Ok reply) stops rose went is None going =
        let done = went going in (
          record course { book = with_edit course.book (edit_of edit) },
          subst (λ (s : Said). Answers (terms_of g.birth) course one.client (commands.Edit edit) s (record course { book = with_edit course.book (edit_of edit) })) (sym is)
              (edit_answers (terms_of g.birth) course one.client edit edited done.0 (going_on g.spot before course.book shows.book going) done.1 done.2),
          said_edits g old before one.ends revisions moments course shows new after (ends_after one) (with_edit course.book (edit_of edit)).edits same birth goes done.3,
        )
    edit_answered {X} (Ok edited) (Ok reply) stops rose went is (Some stage) at = absurd (cc ((stops stage).1 at))
    edit_answered {X} (Ok edited) (Err e) stops rose went is o at = absurd is
    edit_answered {X} (Err (edits.Stopped stage)) (Ok reply) stops rose went is o at =
        let there = (stops stage).0 refl in (
          course,
          stopped_answers _ _ course.book.stopped stage reply (sym shows.book.stopped ∙ there) is refl,
          said_same g old before one.ends revisions moments course shows new after (ends_after one) same birth goes (subst (λ (l : Ledger S). store.Shows g.spot l course.book) (sym (stopped stage there)) shows.book),
        )
    edit_answered {X} (Err (edits.Stopped stage)) (Err e) stops rose went is o at = absurd is
    edit_answered {X} (Err (edits.Refused refusal)) (Ok reply) stops rose went is None going =
        let done = went going in (
          course,
          subst (λ (s : Said). Answers (terms_of g.birth) course one.client (commands.Edit edit) s course) (sym is)
              (edit_refused (terms_of g.birth) course one.client edit refusal (going_on g.spot before course.book shows.book going) done.0),
          said_same g old before one.ends revisions moments course shows new after (ends_after one) same birth goes done.1,
        )
    edit_answered {X} (Err (edits.Refused refusal)) (Ok reply) stops rose went is (Some stage) at = absurd (cc ((stops stage).1 at))
    edit_answered {X} (Err (edits.Refused refusal)) (Err e) stops rose went is o at = absurd is
    edit_answered {X} (Err edits.Failed) (Ok reply) stops rose went is None going = (
      with_client course one.client (failed_client course one.client),
      subst (λ (s : Said). Answers (terms_of g.birth) course one.client (commands.Edit edit) s (with_client course one.client (failed_client course one.client))) (sym is)
          (edit_failed (terms_of g.birth) course one.client edit (going_on g.spot before course.book shows.book going)),
      said_failed g old before one.ends revisions moments course shows new after one.client one.old one.new same birth read.known read.is (rose refl) goes (went going),
    )
    edit_answered {X} (Err edits.Failed) (Ok reply) stops rose went is (Some stage) at = absurd (cc ((stops stage).1 at))
    edit_answered {X} (Err edits.Failed) (Err e) stops rose went is o at = absurd is
    edit_answered {X} (Err (edits.Damaged damage)) (Ok reply) stops rose went is None going = absurd (went going)
    edit_answered {X} (Err (edits.Damaged damage)) (Ok reply) stops rose went is (Some stage) at = absurd (cc ((stops stage).1 at))
    edit_answered {X} (Err (edits.Damaged damage)) (Err e) stops rose went is o at = absurd is
    edit_answered {X} (Err edits.OutOfMemory) (Ok reply) stops rose went is o at = absurd is
    edit_answered {X} (Err edits.OutOfMemory) (Err e) stops rose went is None going = left_same g old before one.ends revisions moments course shows new after (ends_after one) same goes (went going)
    edit_answered {X} (Err edits.OutOfMemory) (Err e) stops rose went is (Some stage) at = absurd (cc ((stops stage).1 at))

module _ {V S E : Type 0} (g : Medium V S E) (old : V) (before : Ledger S) (one : One E) (read : OnlyReads g.end one) (revisions : List ℕ) (moments : Option (List ℤ)) (course : Course)
    (shows : Shows g before one.ends revisions moments course) (query : Query) where
  abbrev Asked_as : {X : Type 0} → Result Said X → Type 0
  Asked_as r = IsAnswered g (record { course = course; old = place old before one.ends revisions None moments; new = place old before (ends_after one) revisions None moments }) one.client (commands.Ask query) r

  -- the names that the ledger goes by are those of the birth
  names_are : names_in before ≡ (terms_of g.birth).names
  names_are = ap (λ (b : Birth). record { from = b.from; to = b.to }) shows.birth

  asked_same : IsSaid g (record { course = course; old = place old before one.ends revisions None moments; new = place old before (ends_after one) revisions None moments }) course
  asked_same = said_same g old before one.ends revisions moments course shows old before (ends_after one) refl refl (ends_on g.end one read) shows.book

  pub ask_answered : {X : Type 0} (revision : ℕ) → revision ≡ (client_of course one.client).revision → (result : Result Answer QueryFault) (r : Result Said X)
      → (IsErrOf result queries.Failed → Rose (g.end.faults one.old) (g.end.faults one.new)) → Gives (names_in before) (state_of course.book.commits revision) query result → IsAnswerOf result r → Asked_as r
  ask_answered {X} revision here result r rose gives is =
      by result r rose (subst (λ (n : ValidNames). Gives n (state_of course.book.commits (client_of course one.client).revision) query result) names_are
      (subst (λ (n : ℕ). Gives (names_in before) (state_of course.book.commits n) query result) here gives)) is
    where
      by : (result : Result Answer QueryFault) (r : Result Said X) → (IsErrOf result queries.Failed → Rose (g.end.faults one.old) (g.end.faults one.new))
          → Gives (terms_of g.birth).names (state_of course.book.commits (client_of course one.client).revision) query result → IsAnswerOf result r → Asked_as r
      by (Ok answer) (Ok reply) rose gives is = (course, inl (subst (λ (s : Said). AnswersAt (terms_of g.birth).names (state_of course.book.commits (client_of course one.client).revision) query s) (sym is) gives, refl), asked_same)
      by (Ok answer) (Err e) rose gives is = absurd is
      by (Err (queries.Missing asked seen)) r rose gives is = absurd gives
      by (Err (queries.NoNode node)) (Ok reply) rose gives is = (course, inl (subst (λ (s : Said). AnswersAt (terms_of g.birth).names (state_of course.book.commits (client_of course one.client).revision) query s) (sym is) gives, refl), asked_same)
      by (Err (queries.NoNode node)) (Err e) rose gives is = absurd is
      by (Err (queries.NoPath path)) (Ok reply) rose gives is = (course, inl (subst (λ (s : Said). AnswersAt (terms_of g.birth).names (state_of course.book.commits (client_of course one.client).revision) query s) (sym is) gives, refl), asked_same)
      by (Err (queries.NoPath path)) (Err e) rose gives is = absurd is
      by (Err queries.Failed) (Ok reply) rose gives is = (
        with_client course one.client (failed_client course one.client),
        inr (is, refl),
        said_failed g old before one.ends revisions moments course shows old before one.client one.old one.new refl refl read.known read.is (rose refl) (ends_on g.end one read) shows.book,
      )
      by (Err queries.Failed) (Err e) rose gives is = absurd is
      by (Err (queries.Damaged damage)) r rose gives is = absurd gives
      by (Err queries.OutOfMemory) (Ok reply) rose gives is = absurd is
      by (Err queries.OutOfMemory) (Err e) rose gives is = left_same g old before one.ends revisions moments course shows old before (ends_after one) refl (ends_on g.end one read) shows.book

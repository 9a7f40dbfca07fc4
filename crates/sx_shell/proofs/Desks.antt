-- What the desk answers to a client's command.
use Rattle.std.proofs.Common.{◌≡◌, ◌∙◌, ℕ, ℤ, zero, suc, ◌<◌, ◌≤◌, ◌+◌, ◌⊎◌, inl, inr, ⊎_elim, List, [], ◌∷◌, ◌++◌, length, get_or, slice_set, Bool, Option, None, Some, IfSome, option_map, MatchResult, Result, Ok, Err, FitsSigned, w64, refl, ap, sym, subst, arith}
use Rattle.std.proofs.lemmas.Bool.Decides.{leb_tells}
use Rattle.std.specs.Bool.{MatchBool}
use Rattle.sx_model.specs.Edit.{Edit, apply, edit_of, first_new, told_of}
use Rattle.sx_model.specs.Commit.{Commit}
use Rattle.sx_model.specs.State.{State}
use Rattle.sx_outside.specs.Clock.{Ticks}
use Rattle.sx_outside.specs.Faults.{Rose}
use Rattle.sx_run.specs.Run.{Answers, AnswersCommit, Book, Client, Course, Failure, IfStopped, Terms, client_of, current, edited_said, next_commit, nobody, with_client, with_commit}
use Rattle.sx_run.specs.declared.line.Command.{Command}
use Rattle.sx_run.specs.declared.line.Command.TheVariants as commands
use Rattle.sx_run.specs.declared.reply.Said.{Said}
use Rattle.sx_run.specs.declared.reply.Said.TheVariants as said
use Rattle.sx_shell.proofs.Climbing.{climbed_more, climbed_still}
use Rattle.sx_shell.proofs.EndFaults.{rises_client, rises_failed, rises_still, tell_on}
use Rattle.sx_shell.proofs.Still.{if_told, both_told, carries_still}
use Rattle.sx_shell.specs.Crash.{HasClimbed, IfSecond}
use Rattle.sx_shell.specs.Desk.{IsAnswered, IsSaid, Opens, Served, wanted}
use Rattle.sx_shell.specs.Done.{Carries, IsLeft, place}
use Rattle.sx_shell.specs.Medium.{EndsGoOn, Medium, terms_of}
use Rattle.sx_shell.specs.Shows.{Shows, revisions_of}
use Rattle.sx_store.specs.Commits.{Leaves, LeavesFailed, failed_book}
use Rattle.sx_store.specs.Edits.{with_edit}
use Rattle.sx_store.specs.Shows as store
use Rattle.sx_store.specs.Shows.{birth_in, stage_in, stage_of}
use Rattle.sx_store.specs.declared.fault.CommitFault.TheVariants as commit_faults
use Rattle.sx_store.specs.declared.fault.Committed.{Committed}
use Rattle.sx_store.specs.declared.ledger.Ledger.{Ledger}
use Rattle.sx_tree.specs.declared.edit.Edit as plain
use Rattle.sx_tree.specs.declared.edit.EditRefusal.{EditRefusal}
use Rattle.sx_tree.specs.declared.edit.Edited.{Edited}
use Rattle.sx_tree.specs.declared.query.Which.{Which}
use Rattle.sx_tree.specs.declared.query.Which.TheVariants as revisions
use Rattle.sx_volume.specs.Images.{Elapses, KeptSince}
use Rattle.sx_volume.specs.declared.spot.Spot as spot
use Rattle.sx_whole.specs.Stands.{Stands, StandsOnceOpened}

none_in : (failure : Option Failure) → option_map (λ (f : Failure). f.stage) failure ≡ None → failure ≡ None
none_in None none = refl
none_in (Some failure) none = cc none

-- the writer goes on
pub going_on : {S : Type 0} (s : spot.Ghosts S) (ledger : Ledger S) (book : Book) → store.Shows s ledger book → stage_of ledger ≡ None → book.stopped ≡ None
going_on s ledger book shows going = none_in book.stopped (sym shows.stopped ∙ going)

pub going_answers : (A B : Type 0) (stopped : Option Failure) (reply : Said) → stopped ≡ None → B → IfStopped stopped reply A B
going_answers A B stopped reply none answer = subst (λ (s : Option Failure). IfStopped s reply A B) (sym none) answer

-- the writer stopped
pub stopped_answers : (A B : Type 0) (stopped : Option Failure) (stage : ℕ) (reply : Said) → option_map (λ (f : Failure). f.stage) stopped ≡ Some stage → reply ≡ said.Stopped stage → A → IfStopped stopped reply A B
stopped_answers A B None stage reply is says same = cc is
stopped_answers A B (Some failure) stage reply is says same = (cc (is, says), same)

-- a writer that did not say at which stage it stopped goes on
pub never_stopped : {S : Type 0} (ledger : Ledger S) → ((stage : ℕ) → stage_of ledger ≡ Some stage → ⊥) → stage_of ledger ≡ None
never_stopped ledger never = by (stage_of ledger) refl
  where
    by : (o : Option ℕ) → stage_of ledger ≡ o → stage_of ledger ≡ None
    by None is = is
    by (Some stage) is = absurd (never stage is)

-- an accepted edit
pub edit_answers : (terms : Terms) (course : Course) (client : ℕ) (edit : plain.Edit) (edited : Edited) (state : State) → course.book.stopped ≡ None → apply (edit_of edit) (current course.book) ≡ Ok state → edited ≡ told_of (edit_of edit) (current course.book) state
    → Answers terms course client (commands.Edit edit) (edited_said edited.first) (record course { book = with_edit course.book (edit_of edit) })
edit_answers terms course client edit edited state going accepted told =
    let first : edited.first ≡ first_new (edit_of edit) (current course.book) = ap (λ (e : Edited). e.first) told in
    going_answers _ _ course.book.stopped (edited_said edited.first) going (inl (
      with_edit course.book (edit_of edit),
      subst
          (λ (r : Result State EditRefusal). MatchResult r (λ s. (edited_said edited.first ≡ edited_said (first_new (edit_of edit) (current course.book))) × (with_edit course.book (edit_of edit) ≡ with_edit course.book (edit_of edit)))
          (λ refusal. (edited_said edited.first ≡ said.Refused refusal) × (with_edit course.book (edit_of edit) ≡ course.book))) (sym accepted)
          (ap edited_said first, refl),
      refl,
    ))

-- a refused one
pub edit_refused : (terms : Terms) (course : Course) (client : ℕ) (edit : plain.Edit) (refusal : EditRefusal) → course.book.stopped ≡ None → apply (edit_of edit) (current course.book) ≡ Err refusal
    → Answers terms course client (commands.Edit edit) (said.Refused refusal) course
edit_refused terms course client edit refusal going refused =
    going_answers _ _ course.book.stopped (said.Refused refusal) going (inl (
      course.book,
      subst
          (λ (r : Result State EditRefusal). MatchResult r (λ s. (said.Refused refusal ≡ edited_said (first_new (edit_of edit) (current course.book))) × (course.book ≡ with_edit course.book (edit_of edit)))
          (λ other. (said.Refused refusal ≡ said.Refused other) × (course.book ≡ course.book))) (sym refused)
          (refl, refl),
      refl,
    ))

-- the client after a read of its end failed
abbrev pub failed_client : Course → ℕ → Client
failed_client course client = let part = client_of course client in record part { failed = part.failed + 1 }

-- one whose read failed
pub edit_failed : (terms : Terms) (course : Course) (client : ℕ) (edit : plain.Edit) → course.book.stopped ≡ None → Answers terms course client (commands.Edit edit) said.Failed (with_client course client (failed_client course client))
edit_failed terms course client edit going = going_answers _ _ course.book.stopped said.Failed going (inr (refl, refl))

-- a commit, as it went
pub commit_answers : (terms : Terms) (course : Course) (client : ℕ) (moment : ℤ) (moments : Option (List ℤ)) (reply : Said) (book : Book) → course.book.stopped ≡ None → FitsSigned w64 moment → Ticks course.moments moment moments
    → AnswersCommit (terms.room (course.book.commits ++ next_commit course.book moment ∷ [])) course.book (next_commit course.book moment) reply book
    → Answers terms course client commands.Commit reply (record course { book = book; moments = moments })
commit_answers terms course client moment moments reply book going fits ticks answers = going_answers _ _ course.book.stopped reply going (moment, fits, ticks, inl (book, answers, refl))

pub commit_failed : (terms : Terms) (course : Course) (client : ℕ) (moment : ℤ) (moments : Option (List ℤ)) → course.book.stopped ≡ None → FitsSigned w64 moment → Ticks course.moments moment moments
    → Answers terms course client commands.Commit said.Failed (with_client (record course { moments = moments }) client (failed_client course client))
commit_failed terms course client moment moments going fits ticks = going_answers _ _ course.book.stopped said.Failed going (moment, fits, ticks, inr (refl, refl))

pub room_none : (full : Option Said) (old : Book) (next : Commit) (reply : Said) (new : Book) → full ≡ None → AnswersCommit None old next reply new → AnswersCommit full old next reply new
room_none full old next reply new none answers = subst (λ (f : Option Said). AnswersCommit f old next reply new) (sym none) answers

pub room_full : (full : Option Said) (old : Book) (next : Commit) (reply : Said) → full ≡ Some reply → AnswersCommit full old next reply old
room_full full old next reply is = subst (λ (f : Option Said). AnswersCommit f old next reply old) (sym is) (refl, refl)

-- ---- revisions of the clients

pub map-slice_set : (clients : List Client) (i : ℕ) (now : Client) → revisions_of (slice_set clients i now) ≡ slice_set (revisions_of clients) i now.revision
map-slice_set [] i now = refl
map-slice_set (client ∷ clients) zero now = refl
map-slice_set (client ∷ clients) (suc i) now = ap (λ (rest : List ℕ). client.revision ∷ rest) (map-slice_set clients i now)

pub length-slice_set : (clients : List Client) (i : ℕ) (now : Client) → length (slice_set clients i now) ≡ length clients
length-slice_set [] i now = refl
length-slice_set (client ∷ clients) zero now = refl
length-slice_set (client ∷ clients) (suc i) now = ap (λ (n : ℕ). suc n) (length-slice_set clients i now)

pub revision_at : (clients : List Client) (i : ℕ) → get_or (revisions_of clients) i 0 ≡ (get_or clients i nobody).revision
revision_at [] i = refl
revision_at (client ∷ clients) zero = refl
revision_at (client ∷ clients) (suc i) = revision_at clients i

slice_set-same : (values : List ℕ) (i : ℕ) → slice_set values i (get_or values i 0) ≡ values
slice_set-same [] i = refl
slice_set-same (value ∷ values) zero = refl
slice_set-same (value ∷ values) (suc i) = ap (λ (rest : List ℕ). value ∷ rest) (slice_set-same values i)

pub get_or-slice_set : (values : List ℕ) (i j value bound : ℕ) → value ≤ bound → ((k : ℕ) → get_or values k 0 ≤ bound) → get_or (slice_set values i value) j 0 ≤ bound
get_or-slice_set [] i j value bound le all = all j
get_or-slice_set (v ∷ values) zero zero value bound le all = le
get_or-slice_set (v ∷ values) zero (suc j) value bound le all = all (suc j)
get_or-slice_set (v ∷ values) (suc i) zero value bound le all = all zero
get_or-slice_set (v ∷ values) (suc i) (suc j) value bound le all = get_or-slice_set values i j value bound le (λ k. all (suc k))

module _ {V S E : Type 0} (g : Medium V S E) where
  -- The desk shows the next course, whose clients have the same revisions open, over a ledger of the same birth.
  pub shows_next : (before after : Ledger S) (olds news : List E) (revisions : List ℕ) (past moments : Option (List ℤ)) (course next : Course) → Shows g before olds revisions past course
      → birth_in after ≡ birth_in before → EndsGoOn g.end olds news → store.Shows g.spot after next.book → revisions_of next.clients ≡ revisions_of course.clients → length next.clients ≡ length course.clients
      → next.moments ≡ moments → Shows g after news revisions moments next
  shows_next before after olds news revisions past moments course next shows birth on book clients count is = record {
    book = book;
    birth = birth ∙ shows.birth;
    tell = tell_on g.end olds news on shows.tell;
    clients = shows.clients ∙ sym clients;
    count = count ∙ shows.count;
    moments_are = is;
  }

-- a client's part with the same revision
pub same_revisions : (clients : List Client) (client : ℕ) (now : Client) → now.revision ≡ (get_or clients client nobody).revision → revisions_of (slice_set clients client now) ≡ revisions_of clients
same_revisions [] client now is = refl
same_revisions (one ∷ clients) zero now is = ap (λ (r : ℕ). r ∷ revisions_of clients) is
same_revisions (one ∷ clients) (suc client) now is = ap (λ (rest : List ℕ). one.revision ∷ rest) (same_revisions clients client now is)

-- the revision is there, or not
module _ (terms : Terms) (course : Course) (client r : ℕ) where
  abbrev pub seen_now : ℕ
  seen_now = length course.book.commits

  abbrev pub opened : Course
  opened = with_client course client (record (client_of course client) { revision = r; seen = seen_now })

  abbrev pub looked : Course
  looked = with_client course client (record (client_of course client) { seen = seen_now })

  pub opens_there : r ≤ length course.book.commits → Answers terms course client (commands.Open (revisions.Number r)) (said.Opened r) opened
  opens_there le =
      elim (leb_tells r (length course.book.commits)) [
        | inl fits ↦ subst (λ (t : Bool). MatchBool t ((said.Opened r ≡ said.Opened r) × (opened ≡ opened)) ((said.Opened r ≡ said.Missing r seen_now) × (opened ≡ looked))) (sym fits.0) (refl, refl)
        | inr over ↦ absurd (omega (arith, over.1, le))
      ]

  pub opens_missing : length course.book.commits < r → Answers terms course client (commands.Open (revisions.Number r)) (said.Missing r seen_now) looked
  opens_missing lt =
      elim (leb_tells r (length course.book.commits)) [
        | inl fits ↦ absurd (omega (arith, fits.1, lt))
        | inr over ↦ subst (λ (t : Bool). MatchBool t ((said.Missing r seen_now ≡ said.Opened r) × (looked ≡ opened)) ((said.Missing r seen_now ≡ said.Missing r seen_now) × (looked ≡ looked))) (sym over.0) (refl, refl)
      ]

-- what had climbed goes on over a commit
module _ {V S E : Type 0} (g : Medium V S E) (old new : V) (book : Book) (next : Commit) (going : book.stopped ≡ None)
    (time : Elapses (g.volume.moment old) (g.volume.moment new) (g.volume.was_image old) (g.volume.was_image new) (g.volume.synced old) (g.volume.synced new)) where
  abbrev Climbs_on : Book → Type 0
  Climbs_on after = (from : ℕ) (start : List Commit) → HasClimbed g from start old book → HasClimbed g from start new after

  pub carries_commit : (done : Committed) → IfSome (g.volume.bytes old) (λ _. Leaves g.birth book next (Ok done) (g.volume.moment old) (g.volume.was_image new) (g.volume.synced new))
      → IfSome (g.volume.bytes old) (λ _. (image : List ℕ) → g.volume.was_image new (g.volume.moment new) image → Stands image (Some g.birth) (with_commit book next).commits) → Carries g old new book (with_commit book next)
  carries_commit done leaves now =
      both_told (g.volume.bytes old)
      (λ (during : Leaves g.birth book next (Ok done) (g.volume.moment old) (g.volume.was_image new) (g.volume.synced new)) (all : (image : List ℕ) → g.volume.was_image new (g.volume.moment new) image → Stands image (Some g.birth) (with_commit book next).commits).
      λ from start climbed. climbed_more g from start old new book going climbed time next (with_commit book next) refl refl during all) leaves now

  -- no commit came, and none failed
  pub carries_none : IfSome (g.volume.bytes old) (λ _. (image : List ℕ) → g.volume.was_image new (g.volume.moment old) image → Stands image (Some g.birth) book.commits) → Carries g old new book book
  carries_none leaves =
      both_told (g.volume.bytes old)
      (λ (during : (image : List ℕ) → g.volume.was_image new (g.volume.moment old) image → Stands image (Some g.birth) book.commits) (nothing : Unit {0}).
      λ from start climbed. climbed_still g from start old new book going climbed time book refl (λ image left. inl (during image left))
      (subst (λ (s : Option Failure). IfSecond s (λ k. KeptSince (g.volume.moment old) (g.volume.was_image new) (g.volume.synced new) (StandsOnceOpened (Some g.birth) book.commits k))) (sym going) tt)) leaves (if_told (g.volume.bytes old) tt)

  pub carries_failed : (stage : ℕ) → (stage ≡ 1) ⊎ (stage ≡ 2) → IfSome (g.volume.bytes old) (λ _. Leaves g.birth book next (Err (commit_faults.Failed stage)) (g.volume.moment old) (g.volume.was_image new) (g.volume.synced new))
      → Carries g old new book (failed_book book next stage)
  carries_failed stage (inl first) leaves =
      both_told (g.volume.bytes old)
      (λ (left : LeavesFailed g.birth book next stage (g.volume.moment old) (g.volume.was_image new) (g.volume.synced new)) (nothing : Unit {0}).
      let during : LeavesFailed g.birth book next 1 (g.volume.moment old) (g.volume.was_image new) (g.volume.synced new) = subst (λ (s : ℕ). LeavesFailed g.birth book next s (g.volume.moment old) (g.volume.was_image new) (g.volume.synced new)) first left in
      λ from start climbed. climbed_still g from start old new book going climbed time (failed_book book next stage) refl (λ image here. inl (during image here)) (λ second. absurd (omega (arith, first, second)))) leaves (if_told (g.volume.bytes old) tt)
  carries_failed stage (inr second) leaves =
      both_told (g.volume.bytes old)
      (λ (left : LeavesFailed g.birth book next stage (g.volume.moment old) (g.volume.was_image new) (g.volume.synced new)) (nothing : Unit {0}).
      let during : LeavesFailed g.birth book next 2 (g.volume.moment old) (g.volume.was_image new) (g.volume.synced new) = subst (λ (s : ℕ). LeavesFailed g.birth book next s (g.volume.moment old) (g.volume.was_image new) (g.volume.synced new)) second left in
      λ from start climbed. climbed_still g from start old new book going climbed time (failed_book book next stage) refl
      (λ image here. ⊎_elim (λ (before : Stands image (Some g.birth) book.commits). inl before) (λ (with_next : Stands image (Some g.birth) (book.commits ++ next ∷ [])). inr (second, with_next)) (during.0 image here)) (λ _. during.1)) leaves (if_told (g.volume.bytes old) tt)

-- a command that leaves the volume as it was
module _ {V S E : Type 0} (g : Medium V S E) (volume : V) (before : Ledger S) (olds : List E) (values : List ℕ) (moments : Option (List ℤ)) (course : Course) (shows : Shows g before olds values moments course) where
  -- nothing is changed
  pub said_same : (new : V) (after : Ledger S) (news : List E) → new ≡ volume → birth_in after ≡ birth_in before → EndsGoOn g.end olds news → store.Shows g.spot after course.book
      → IsSaid g (record { course = course; old = place volume before olds values None moments; new = place new after news values None moments }) course
  said_same new after news same birth on book = record {
    leads = record { shows = book; carries = carries_still g volume new course.book course.book same refl refl; rises = rises_still g.end olds news course.clients on };
    shows = shows_next g before after olds news values moments moments course course shows birth on book refl refl shows.moments_are;
  }

  -- memory ran out
  pub left_same : (new : V) (after : Ledger S) (news : List E) → new ≡ volume → EndsGoOn g.end olds news → store.Shows g.spot after course.book
      → IsLeft g course (place volume before olds values None moments) (place new after news values None moments)
  left_same new after news same on book = record { shows = book; carries = carries_still g volume new course.book course.book same refl refl; rises = rises_still g.end olds news course.clients on }

  -- the open edits changed
  pub said_edits : (new : V) (after : Ledger S) (news : List E) (edits : List Edit) → new ≡ volume → birth_in after ≡ birth_in before → EndsGoOn g.end olds news
      → store.Shows g.spot after (record course.book { edits = edits })
      → IsSaid g (record { course = course; old = place volume before olds values None moments; new = place new after news values None moments }) (record course { book = record course.book { edits = edits } })
  said_edits new after news edits same birth on book = record {
    leads = record { shows = book; carries = carries_still g volume new course.book (record course.book { edits = edits }) same refl refl; rises = rises_still g.end olds news course.clients on };
    shows = shows_next g before after olds news values moments moments course (record course { book = record course.book { edits = edits } }) shows birth on book refl refl shows.moments_are;
  }

  -- a read of the client's end failed
  pub said_failed : (new : V) (after : Ledger S) (client : ℕ) (one now : E) → new ≡ volume → birth_in after ≡ birth_in before → client < length olds → one ≡ get_or olds client one
      → Rose (g.end.faults one) (g.end.faults now) → EndsGoOn g.end olds (slice_set olds client now) → store.Shows g.spot after course.book
      → IsSaid g (record { course = course; old = place volume before olds values None moments; new = place new after (slice_set olds client now) values None moments }) (with_client course client (failed_client course client))
  said_failed new after client one now same birth lt is rose on book = record {
    leads = record {
      shows = book;
      carries = carries_still g volume new course.book course.book same refl refl;
      rises = rises_failed g.end olds course.clients client one now (failed_client course client) lt is rose refl;
    };
    shows = shows_next g before after olds (slice_set olds client now) values moments moments course (with_client course client (failed_client course client)) shows birth on book
        (same_revisions course.clients client (failed_client course client) refl) (length-slice_set course.clients client (failed_client course client)) shows.moments_are;
  }

  -- a client's part changed, and no more
  said_client : (after : List ℕ) (client : ℕ) (now : Client) → after ≡ revisions_of (slice_set course.clients client now) → now.failed ≡ (get_or course.clients client nobody).failed
      → IsSaid g (record { course = course; old = place volume before olds values None moments; new = place volume before olds after None moments }) (with_client course client now)
  said_client after client now is failed = record {
    leads = record { shows = shows.book; carries = carries_still g volume volume course.book course.book refl refl refl; rises = rises_client g.end olds course.clients client now failed };
    shows = record { book = shows.book; birth = shows.birth; tell = shows.tell; clients = is; count = length-slice_set course.clients client now ∙ shows.count; moments_are = shows.moments_are };
  }

  abbrev pub OpenSaid : ℕ → ℕ → Which → Said → List ℕ → Type 0
  OpenSaid client seen which reply after =
      (next : Course) × Answers (terms_of g.birth) course client (commands.Open which) reply next × IsSaid g (record { course = course; old = place volume before olds values None moments; new = place volume before olds after None moments }) next

  -- the revision that is wanted is there
  open_there : (client seen asked : ℕ) (which : Which) (reply : Said) (after : List ℕ) → seen ≡ length course.book.commits → asked ≡ wanted which seen → asked ≤ seen → reply ≡ said.Opened asked → after ≡ slice_set values client asked
      → OpenSaid client seen which reply after
  open_there client seen asked revisions.Latest reply after is same le says set =
      let now : ℕ = length course.book.commits in
      let part : Client = record (client_of course client) { revision = now; seen = now } in
      let all : asked ≡ now = same ∙ is in (
        with_client course client part,
        (says ∙ ap (λ (r : ℕ). said.Opened r) all, refl),
        said_client after client part
            (set ∙ ap (λ (r : ℕ). slice_set values client r) all ∙ ap (λ (list : List ℕ). slice_set list client now) shows.clients ∙ sym (map-slice_set course.clients client part)) refl,
      )
  open_there client seen asked (revisions.Number r) reply after is same le says set =
      let now : ℕ = length course.book.commits in
      let part : Client = record (client_of course client) { revision = r; seen = now } in (
        with_client course client part,
        subst (λ (s : Said). Answers (terms_of g.birth) course client (commands.Open (revisions.Number r)) s (with_client course client part)) (sym (says ∙ ap (λ (n : ℕ). said.Opened n) same))
            (opens_there (terms_of g.birth) course client r (omega (arith, le, same, is))),
        said_client after client part
            (set ∙ ap (λ (n : ℕ). slice_set values client n) same ∙ ap (λ (list : List ℕ). slice_set list client r) shows.clients ∙ sym (map-slice_set course.clients client part)) refl,
      )

  -- it is not
  open_missing : (client seen asked : ℕ) (which : Which) (reply : Said) (after : List ℕ) → seen ≡ length course.book.commits → asked ≡ wanted which seen → seen < asked → reply ≡ said.Missing asked seen → after ≡ values
      → OpenSaid client seen which reply after
  open_missing client seen asked revisions.Latest reply after is same lt says kept = absurd (omega (arith, same, lt))
  open_missing client seen asked (revisions.Number r) reply after is same lt says kept =
      let now : ℕ = length course.book.commits in
      let part : Client = record (client_of course client) { seen = now } in (
        with_client course client part,
        subst (λ (s : Said). Answers (terms_of g.birth) course client (commands.Open (revisions.Number r)) s (with_client course client part))
            (sym (says ∙ ap (λ (n : ℕ). said.Missing n seen) same ∙ ap (λ (n : ℕ). said.Missing r n) is))
            (opens_missing (terms_of g.birth) course client r (omega (arith, lt, same, is))),
        said_client after client part (kept ∙ shows.clients ∙ sym (same_revisions course.clients client part refl)) refl,
      )

  pub open_said : (client seen : ℕ) (which : Which) (reply : Said) (after : List ℕ) → seen ≡ length course.book.commits → Opens (wanted which seen) seen client values reply after → OpenSaid client seen which reply after
  open_said client seen which reply after is (inl there) = open_there client seen (wanted which seen) which reply after is refl there.0 there.1 there.2
  open_said client seen which reply after is (inr missing) = open_missing client seen (wanted which seen) which reply after is refl missing.0 missing.1 missing.2

-- the command that was asked is this one
pub answered_as : {V S E X : Type 0} (g : Medium V S E) (served : Served V S E) (client : ℕ) (a b : Command) (r : Result Said X) → a ≡ b → IsAnswered g served client b r → IsAnswered g served client a r
answered_as g served client a b r same answered = subst (λ (c : Command). IsAnswered g served client c r) (sym same) answered

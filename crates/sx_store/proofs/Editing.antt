-- What an edit does to a draft, and to the book that a ledger shows.
use Rattle.std.proofs.Common.{◌≡◌, ◌∙◌, ℕ, ◌<◌, ◌≤◌, inl, inr, List, [], ◌∷◌, ◌++◌, length, refl, ap, sym, subst, Option, Some, None, Result, Ok, Err}
use Rattle.std.specs.Prelude.{All, IsErrAnd, IsErrOf, IsOk, min}
use Rattle.sx_bytes.specs.declared.damage.Damage.{Damage}
use Rattle.sx_edit.specs.Answers.{Answers, AnswersEach, AreOf, IsTableOf}
use Rattle.sx_edit.specs.EditFault.{ExplainsEdit}
use Rattle.sx_edit.specs.Pathways.{Kept as Moment}
use Rattle.sx_edit.specs.declared.fault.EditFault.{EditFault}
use Rattle.sx_edit.specs.declared.fault.EditFault.TheVariants as edits
use Rattle.sx_model.specs.Commit.{Commit, replay, state_of}
use Rattle.sx_model.specs.Edit.{AreAccepted, Edit, IsEdit, after, apply, edited, number_limit, told_of}
use Rattle.sx_model.specs.Paths.{number_of}
use Rattle.sx_model.specs.Tree.{numbers, size}
use Rattle.std.specs.Result.{result_unwrap_or}
use Rattle.sx_edit.specs.Edited.{rows_in}
use Rattle.sx_edit.specs.Told.{Holds}
use Rattle.sx_store.proofs.Drafting.{all-below}
use Rattle.sx_model.specs.State.{State, empty_document}
use Rattle.sx_run.specs.Run.{Book, current}
use Rattle.sx_store.specs.Damage.{IsTakenDamage, IsEditDamage, IsMade, IsToldDamage}
use Rattle.sx_store.specs.Drafts.{AnswersDraft, IsReached}
use Rattle.sx_store.specs.Edits.{Edits, with_edit}
use Rattle.sx_store.specs.Faults.{fault_of_edit, writer_fault}
use Rattle.sx_store.specs.Shows.{HasDraft, IsDraftOf, Shows, last_root_of, next_in, records_of}
use Rattle.sx_store.specs.Sound.{IsSameDocument, SameBut}
use Rattle.sx_reader.specs.Cells.{TellFrames, frames_of}
use Rattle.sx_reader.specs.declared.cell.Cell.{Cell}
use Rattle.sx_store.specs.declared.draft.Draft.{Draft}
use Rattle.sx_store.specs.declared.fault.WriterFault.{WriterFault}
use Rattle.sx_store.specs.declared.fault.WriterFault.TheVariants as writers
use Rattle.sx_store.specs.declared.ledger.Ledger.{Ledger}
use Rattle.sx_store.proofs.States.{reached}
use Rattle.sx_store.proofs.Taking.{take-all}
use Rattle.sx_model.specs.Records.{PathRow}
use Rattle.sx_tree.specs.declared.edit.Edited.{Edited}
use Rattle.sx_tree.specs.declared.record.NodeRecord.{NodeRecord}
use Rattle.sx_view.specs.Records.{RecordMap}
use Rattle.sx_view.specs.declared.fault.Fault.{Fault}
use Rattle.sx_view.specs.declared.fault.Fault.TheVariants as faults
use Rattle.sx_volume.specs.declared.spot.Spot.{Ghosts}

no-edit : {S : Type 0} (g : Ghosts S) (book : Book) (edit : Edit) (fault : Fault) (new : Ledger S) → ((damage : Damage) → fault ≡ faults.Damaged damage → ⊥) → Shows g new book
    → Edits g book edit (Err (writer_fault fault)) new
no-edit g book edit faults.Failed new sound shows = shows
no-edit g book edit (faults.Damaged damage) new sound shows = sound damage refl
no-edit g book edit faults.OutOfMemory new sound shows = shows

-- no draft could be made
pub edits-nothing : {S : Type 0} (g : Ghosts S) (book : Book) (edit : Edit) (r : Result Edited WriterFault) (fault : Fault) (new : Ledger S) → IsErrAnd r (λ e. e ≡ writer_fault fault)
    → ((damage : Damage) → fault ≡ faults.Damaged damage → ⊥) → Shows g new book → Edits g book edit r new
edits-nothing g book edit (Ok edited) fault new is sound shows = absurd is
edits-nothing g book edit (Err e) fault new is sound shows = subst (λ (e : WriterFault). Edits g book edit (Err e) new) (sym is) (no-edit g book edit fault new sound shows)

told-fault : (fault : Fault) (damage : Damage) → writer_fault fault ≡ writers.Damaged damage → fault ≡ faults.Damaged damage
told-fault faults.Failed damage is = absurd cc
told-fault (faults.Damaged other) damage is = let same : other ≡ damage = cc in ap faults.Damaged same
told-fault faults.OutOfMemory damage is = absurd cc

err-same : (a b : WriterFault) → IsErrOf {T = Edited} (Err a) b → a ≡ b
err-same a b is = cc is

pub fault-told : (r : Result Edited WriterFault) (fault : Fault) (damage : Damage) → IsErrAnd r (λ e. e ≡ writer_fault fault) → IsErrOf r (writers.Damaged damage) → fault ≡ faults.Damaged damage
fault-told (Ok edited) fault damage is told = absurd is
fault-told (Err e) fault damage is told = told-fault fault damage (sym is ∙ err-same e (writers.Damaged damage) told)

-- what damages the making of a draft damages the edit
pub wider : {S : Type 0} (g : Ghosts S) (tells : Type 0) (edit : Edit) (draft : Option Draft) (ledger : Ledger S) (damage : Damage) → IsTakenDamage g tells draft ledger damage → IsEditDamage g tells edit draft ledger damage
wider g tells edit (Some before) ledger damage is = absurd is
wider g tells edit None ledger damage (inl frame) = inl frame
wider g tells edit None ledger damage (inr (kept, keeps, broken)) = inr (kept, keeps, inl broken)

pub answers-state : (edit : Edit) (next : ℕ) (before after : Moment) (r : Result Edited EditFault) (state : State) → AnswersEach edit next before after r → AreOf state next before.told × IsTableOf state before.table → Answers edit state after r
unfolding AnswersEach
answers-state edit next before after r state answers is = answers state is.0 is.1

no-change : (edit : Edit) (state : State) (after : Moment) (draft : Draft) (fault : EditFault) → Answers edit state after (Err fault) → AnswersDraft edit state draft (Err fault)
no-change edit state after draft (edits.Refused refusal) is = is
no-change edit state after draft edits.Failed is = tt
no-change edit state after draft (edits.Damaged damage) is = is
no-change edit state after draft edits.OutOfMemory is = tt

pub refused-draft : (edit : Edit) (state : State) (after : Moment) (draft : Draft) (r : Result Edited EditFault) (fault : EditFault) → IsErrAnd r (λ e. e ≡ fault) → Answers edit state after (Err fault)
    → AnswersDraft edit state draft r
refused-draft edit state after draft (Ok edited) fault is answers = absurd is
refused-draft edit state after draft (Err e) fault is answers =
    subst (λ (e : EditFault). AnswersDraft edit state draft (Err e)) (sym is) (no-change edit state after draft fault answers)

-- ---- the book that the ledger shows

-- a ledger with the same log, cells and stage shows the book with other open edits, which its draft has
pub shows-with : {S : Type 0} (g : Ghosts S) (old new : Ledger S) (book : Book) (open_edits : List Edit) → SameBut old new → Shows g old book → AreAccepted open_edits (replay book.commits empty_document)
    → HasDraft new.draft (record book { edits = open_edits }) → Shows g new (record book { edits = open_edits })
shows-with g old new book open_edits same shows accepted draft = record {
  groups = shows.groups;
  is_log = record { rows = same.log.rows ∙ shows.is_log.rows; end = same.log.end ∙ shows.is_log.end };
  commits = shows.commits;
  frames = subst (λ (cells : List (Cell _)). TellFrames g cells (frames_of shows.groups)) (sym same.cells) shows.frames;
  accepted = accepted;
  draft = draft;
  stopped = same.stage ∙ shows.stopped;
}

pub same-draft : (book : Book) (old new : Draft) → IsSameDocument old new → IsDraftOf book old → IsDraftOf book new
same-draft book old new (records, paths, next) is = record {
  records = subst (λ (n : ℕ). AreOf (current book) n (Some (records_of new))) (sym next) (subst (λ m. AreOf (current book) old.next (Some m)) (sym records) is.records);
  table = subst (IsTableOf (current book)) (sym paths) is.table;
}

no-edit_done : {S : Type 0} (g : Ghosts S) (book : Book) (edit : Edit) (draft : Draft) (fault : EditFault) (new : Ledger S) → AnswersDraft edit (current book) draft (Err fault) → Shows g new book
    → Edits g book edit (Err (fault_of_edit fault)) new
no-edit_done g book edit draft (edits.Refused refusal) new is shows = (is, shows)
no-edit_done g book edit draft edits.Failed new is shows = shows
no-edit_done g book edit draft (edits.Damaged damage) new is shows = is
no-edit_done g book edit draft edits.OutOfMemory new is shows = shows

-- the edit was refused, and the book is the same
pub edits-refused : {S : Type 0} (g : Ghosts S) (book : Book) (edit : Edit) (draft : Draft) (r : Result Edited WriterFault) (fault : EditFault) (new : Ledger S) → IsErrAnd r (λ e. e ≡ fault_of_edit fault)
    → AnswersDraft edit (current book) draft (Err fault) → Shows g new book → Edits g book edit r new
edits-refused g book edit draft (Ok edited) fault new is answers shows = absurd is
edits-refused g book edit draft (Err e) fault new is answers shows =
    subst (λ (e : WriterFault). Edits g book edit (Err e) new) (sym is) (no-edit_done g book edit draft fault new answers shows)

-- the document with the open edits is one to which accepted edits lead
pub current-reached : {S : Type 0} (g : Ghosts S) (ledger : Ledger S) (book : Book) → Shows g ledger book → IsReached (current book)
current-reached g ledger book shows =
    let last : state_of book.commits (length book.commits) ≡ replay book.commits empty_document = ap (λ (commits : List Commit). replay commits empty_document) (take-all book.commits) in
    subst (λ (state : State). IsReached (after book.edits state)) last
    (reached book.commits (length book.commits) book.edits shows.commits.0 (subst (AreAccepted book.edits) (sym last) shows.accepted))

damage-of : (edit : Edit) (next : ℕ) (nodes : RecordMap NodeRecord) (table : List PathRow) (rose : Type 0) (fault : EditFault) (damage : Damage)
    → ExplainsEdit edit (min next number_limit) (Some nodes) table (λ _. ⊥) rose fault → fault_of_edit fault ≡ writers.Damaged damage → IsToldDamage edit next nodes table damage
damage-of edit next nodes table rose (edits.Refused refusal) damage explains is = absurd (cc is)
damage-of edit next nodes table rose edits.Failed damage explains is = absurd (cc is)
damage-of edit next nodes table rose (edits.Damaged other) damage explains is = let same : other ≡ damage = cc is in subst (IsToldDamage edit next nodes table) same explains
damage-of edit next nodes table rose edits.OutOfMemory damage explains is = absurd (cc is)

pub damage-told : (edit : Edit) (next : ℕ) (nodes : RecordMap NodeRecord) (table : List PathRow) (rose : Type 0) (r : Result Edited WriterFault) (fault : EditFault) (damage : Damage) → IsErrAnd r (λ e. e ≡ fault_of_edit fault)
    → ExplainsEdit edit (min next number_limit) (Some nodes) table (λ _. ⊥) rose fault → IsErrOf r (writers.Damaged damage) → IsToldDamage edit next nodes table damage
damage-told edit next nodes table rose (Ok edited) fault damage is explains told_damage = absurd is
damage-told edit next nodes table rose (Err e) fault damage is explains told_damage = damage-of edit next nodes table rose fault damage explains (sym is ∙ err-same e (writers.Damaged damage) told_damage)

-- what damages the edit of a draft that was made
pub edit-damage : {S : Type 0} (g : Ghosts S) (tells : Type 0) (edit : Edit) (ledger : Ledger S) (before : Option Draft) (draft : Draft) (damage : Damage) → IsMade g tells ledger before draft
    → draft.next ≡ next_in before (last_root_of ledger) → IsToldDamage edit draft.next (records_of draft) draft.paths.paths damage → IsEditDamage g tells edit before ledger damage
edit-damage g tells edit ledger (Some before) draft damage made next is = subst (λ (d : Draft). IsToldDamage edit d.next (records_of d) d.paths.paths damage) made is
edit-damage g tells edit ledger None draft damage (kept, keeps, (records, table)) next is =
    inr (
      kept,
      keeps,
      inr
          (draft.paths.paths, table, subst (λ (n : ℕ). IsToldDamage edit n kept.nodes draft.paths.paths damage) next (subst (λ m. IsToldDamage edit draft.next m draft.paths.paths damage) records is)),
    )

-- ---- the edit joins the open ones

after-append : (open_edits : List Edit) (edit : Edit) (state : State) → after (open_edits ++ edit ∷ []) state ≡ edited edit (after open_edits state)
after-append [] edit state = refl
after-append (first ∷ open_edits) edit state = after-append open_edits edit (edited first state)

accepted-append : (open_edits : List Edit) (edit : Edit) (state : State) → AreAccepted open_edits state → IsEdit edit → IsOk (apply edit (after open_edits state)) → AreAccepted (open_edits ++ edit ∷ []) state
accepted-append [] edit state accepted is ok = (is, ok, tt)
accepted-append (first ∷ open_edits) edit state accepted is ok = (accepted.0, accepted.1, accepted-append open_edits edit (edited first state) accepted.2 is ok)

pub edits-done : {S : Type 0} (g : Ghosts S) (old new : Ledger S) (book : Book) (edit : Edit) (state : State) (draft : Draft) (told : Edited) → SameBut old new → Shows g old book → IsEdit edit
    → new.draft ≡ Some draft → apply edit (current book) ≡ Ok state → told ≡ told_of edit (current book) state → draft.next ≡ told.next
    → Holds (Some (records_of draft)) (rows_in (number_of state.paths) state.trees) → IsTableOf state draft.paths.paths → Shows g new (with_edit book edit)
edits-done g old new book edit state draft told same shows is_edit drafted is told_is next holds table =
    let start : State = replay book.commits empty_document in
    let more : List Edit = book.edits ++ edit ∷ [] in
    let accepted = accepted-append book.edits edit start shows.accepted is_edit (subst IsOk (sym is) refl) in
    let last : state_of book.commits (length book.commits) ≡ start = ap (λ (commits : List Commit). replay commits empty_document) (take-all book.commits) in
    let made : after more start ≡ state = after-append book.edits edit start ∙ ap (λ r. result_unwrap_or r (current book)) is in
    let is_reached : IsReached state = subst IsReached made
    (subst (λ (s : State). IsReached (after more s)) last (reached book.commits (length book.commits) more shows.commits.0 (subst (AreAccepted more) (sym last) accepted))) in
    let next_is : state.next ≡ draft.next = sym (next ∙ ap (λ (t : Edited). t.next) told_is) in
    let are : AreOf state draft.next (Some (records_of draft)) = record {
      holds = holds;
      next_is = next_is;
      well_formed = is_reached.sound.well_formed;
      below_next = subst (λ (n : ℕ). All (λ k. k < n) (numbers state.trees)) next_is (all-below state.next (numbers state.trees) is_reached.sound.given);
      few = subst (λ (n : ℕ). size state.trees ≤ n) next_is is_reached.few;
    } in
    let has : IsDraftOf (with_edit book edit) draft = record {
      records = subst (λ (s : State). AreOf s draft.next (Some (records_of draft))) (sym made) are;
      table = subst (λ (s : State). IsTableOf s draft.paths.paths) (sym made) table;
    } in
    shows-with g old new book more same shows accepted (subst (λ o. HasDraft o (with_edit book edit)) (sym drafted) has)

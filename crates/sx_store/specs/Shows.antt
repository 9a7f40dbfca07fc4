-- What the ledger of a writer stands for.
use Rattle.std.specs.Prelude.{ℕ, ◌≡◌, [], length, List, Option, None, Some, option_map}
use Rattle.sx_edit.specs.Answers.{AreOf, IsTableOf}
use Rattle.sx_layout.specs.Birth.{Birth}
use Rattle.sx_layout.specs.FrameGroup.{FrameGroup, first_root, frames_after}
use Rattle.sx_log.specs.Creating as log
use Rattle.sx_log.specs.Kept.{IsLogOf, listed, root_behind}
use Rattle.sx_model.specs.Commit.{replay}
use Rattle.sx_model.specs.Edit.{AreAccepted}
use Rattle.sx_model.specs.State.{empty_document}
use Rattle.sx_reader.specs.Cells.{TellFrames, frames_of}
use Rattle.sx_root.specs.declared.root.RevisionRoot.{RevisionRoot}
use Rattle.sx_run.specs.Answers.{ValidNames}
use Rattle.sx_run.specs.Run.{Book, current}
use Rattle.sx_store.specs.declared.draft.Draft.{Draft}
use Rattle.sx_store.specs.declared.ledger.Ledger.{Ledger}
use Rattle.sx_tree.specs.declared.record.NodeRecord.{NodeRecord}
use Rattle.sx_view.specs.Records.{RecordMap}
use Rattle.sx_view.specs.Slots.{held}
use Rattle.sx_volume.specs.declared.spot.Spot.{Ghosts}
use Rattle.sx_whole.specs.Stands.{ShowCommits}

-- the stage at which a commit failed, where one did
abbrev pub stage_of : {S : Type 0} → Ledger S → Option ℕ
stage_of ledger = ledger.stopped

-- how many commits it has
abbrev pub count_of : {S : Type 0} → Ledger S → ℕ
count_of ledger = length (listed ledger.log.groups)

-- how many frames they have
abbrev pub frames_in : {S : Type 0} → Ledger S → ℕ
frames_in ledger = frames_after (root_behind first_root (listed ledger.log.groups))

-- what its volume was made with
abbrev pub birth_in : {S : Type 0} → Ledger S → Birth
birth_in ledger = log.birth_of ledger.log.birth

-- the names that questions for valid objects go by
abbrev pub names_in : {S : Type 0} → Ledger S → ValidNames
names_in ledger = record { from = (birth_in ledger).from; to = (birth_in ledger).to }

abbrev pub stage_in : Book → Option ℕ
stage_in book = option_map (λ failure. failure.stage) book.stopped

-- the records of the draft's nodes
abbrev pub records_of : Draft → RecordMap NodeRecord
records_of draft = held draft.nodes.slots.entries

-- the number that the next new node takes, over a last revision with this root
abbrev pub next_in : Option Draft → RevisionRoot → ℕ
next_in None root = root.next
next_in (Some draft) root = draft.next

-- the root of the last revision
abbrev pub last_root_of : {S : Type 0} → Ledger S → RevisionRoot
last_root_of ledger = root_behind first_root (listed ledger.log.groups)

-- the number that the next new node takes
abbrev pub next_of : {S : Type 0} → Ledger S → ℕ
next_of ledger = next_in ledger.draft (last_root_of ledger)

-- The draft is the document with the open edits: its records, its table and its next number.
pub record IsDraftOf (book : Book) (draft : Draft) : Type 0 where
  pub records : AreOf (current book) draft.next (Some (records_of draft))
  pub table : IsTableOf (current book) draft.paths.paths

-- Where there is no draft, no edit is open.
abbrev pub HasDraft : Option Draft → Book → Type 0
HasDraft None book = book.edits ≡ []
HasDraft (Some draft) book = IsDraftOf book draft

-- The log is that of the groups of the commits, whose frames the spots tell, and the draft has the open edits.
pub record Shows {S : Type 0} (g : Ghosts S) (ledger : Ledger S) (book : Book) : Type 0 where
  pub groups : List FrameGroup
  pub is_log : IsLogOf ledger.log groups
  pub commits : ShowCommits groups book.commits
  pub frames : TellFrames g ledger.cells.items (frames_of groups)
  pub accepted : AreAccepted book.edits (replay book.commits empty_document)
  pub draft : HasDraft ledger.draft book
  pub stopped : stage_of ledger ≡ stage_in book

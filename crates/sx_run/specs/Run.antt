-- A run over the items of a script: what it changes and what it writes.
use Rattle.std.specs.Prelude.{ℕ, ℤ, ◌≡◌, ◌+◌, ◌⊎◌, nat_le, List, [], ◌∷◌, ◌++◌, length, replicate, slice_set, get_or, Option, None, Some, MatchResult, FitsSigned}
use Rattle.std.specs.Bool.{MatchBool}
use Rattle.std.specs.Int.{int_max, w64}
use Rattle.sx_model.specs.Commit.{Commit, replay, state_of, first_time, last_time}
use Rattle.sx_model.specs.Edit.{Edit, apply, after, edit_of, first_new}
use Rattle.sx_model.specs.State.{State, empty_document}
use Rattle.sx_outside.specs.Clock.{Ticks}
use Rattle.sx_run.specs.Answers.{AnswersAt, ValidNames}
use Rattle.sx_run.specs.Client.{client_count}
use Rattle.sx_run.specs.Item.{Item, single, quit}
use Rattle.sx_run.specs.Reply.{reply_bytes}
use Rattle.sx_run.specs.declared.line.Command.{Command}
use Rattle.sx_run.specs.declared.line.Command.TheVariants as commands
use Rattle.sx_run.specs.declared.line.Line.{Line}
use Rattle.sx_run.specs.declared.line.Line.TheVariants as lines
use Rattle.sx_run.specs.declared.reply.Said.{Said}
use Rattle.sx_run.specs.declared.reply.Said.TheVariants as said
use Rattle.sx_tree.specs.declared.query.Which.{Which}
use Rattle.sx_tree.specs.declared.query.Which.TheVariants as revisions

-- a commit that failed, and the stage of it: 1 before its gate, 2 at its gate
pub record Failure : Type 0 where
  pub stage : ℕ
  pub commit : Commit

-- what the writer has: the commits, the open edits, and the commit that stopped it
pub record Book : Type 0 where
  pub commits : List Commit
  pub edits : List Edit
  pub stopped : Option Failure

-- the revision that a client has open, the number of commits that it has seen, and how many of its commands a failed read
-- has ended
pub record Client : Type 0 where
  pub revision : ℕ
  pub seen : ℕ
  pub failed : ℕ

pub record Course : Type 0 where
  pub book : Book
  pub clients : List Client
  -- the clock's moments to come, where it tells them
  pub moments : Option (List ℤ)

-- What a run needs to know of the volume.
pub record Terms : Type 0 where
  -- what its layout has no room for: the reply to a commit that would make these commits, where there is one
  pub room : List Commit → Option Said
  -- what it was born with
  pub names : ValidNames

-- the book of these commits, with nothing open
abbrev pub book_of : List Commit → Book
book_of commits = record { commits = commits; edits = []; stopped = None }

-- a run begins over these commits, with all of them seen and revision 0 open
abbrev pub started : List Commit → Option (List ℤ) → Course
started commits moments = record { book = book_of commits; clients = replicate client_count (record { revision = 0; seen = length commits; failed = 0 }); moments = moments }

-- the state of the last commit with the open edits applied
abbrev pub current : Book → State
current book = after book.edits (replay book.commits empty_document)

-- the commit of the open edits, at a moment of the clock: its time is the greater of that and the last commit's time
abbrev pub next_commit : Book → ℤ → Commit
next_commit book moment = record { time = int_max moment (last_time first_time book.commits); edits = book.edits }

-- ---- the writer's commands

-- a writer that stopped says so
abbrev pub IfStopped : Option Failure → Said → Type 0 → Type 0 → Type 0
IfStopped None reply same other = other
IfStopped (Some failure) reply same other = (reply ≡ said.Stopped failure.stage) × same

-- what is said of an accepted edit, by the first new number
abbrev pub edited_said : Option ℕ → Said
edited_said None = said.Done
edited_said (Some number) = said.First number

abbrev pub AnswersEdit : Book → Edit → Said → Book → Type 0
AnswersEdit old asked reply new =
    MatchResult (apply asked (current old))
    (λ state. (reply ≡ edited_said (first_new asked (current old))) × (new ≡ record old { edits = old.edits ++ asked ∷ [] }))
    (λ refusal. (reply ≡ said.Refused refusal) × (new ≡ old))

-- it joins the commits, and no edits are open
abbrev pub with_commit : Book → Commit → Book
with_commit old next = book_of (old.commits ++ next ∷ [])

-- A commit that failed drops the open edits and stops the writer.
abbrev pub FailsCommit : Book → Commit → Said → Book → Type 0
FailsCommit old next reply new =
    (stage : ℕ) × ((stage ≡ 1) ⊎ (stage ≡ 2)) × (reply ≡ said.FailedStage stage)
    × (new ≡ record { commits = old.commits; edits = []; stopped = Some (record { stage = stage; commit = next }) })

-- what a commit at a moment of the clock answers, where the volume may fail
abbrev pub AnswersCommit : Option Said → Book → Commit → Said → Book → Type 0
AnswersCommit None old next reply new =
    ((reply ≡ said.Committed (length old.commits + 1) next.time) × (new ≡ with_commit old next)) ⊎ FailsCommit old next reply new
AnswersCommit (Some full) old next reply new = (reply ≡ full) × (new ≡ old)

-- ---- each command

-- the client's part after the command
abbrev pub with_client : Course → ℕ → Client → Course
with_client old client now = record old { clients = slice_set old.clients client now }

-- no client is there
abbrev pub nobody : Client
nobody = record { revision = 0; seen = 0; failed = 0 }

abbrev pub client_of : Course → ℕ → Client
client_of course client = get_or course.clients client nobody

-- A read of the client's end failed, and nothing else is changed.
abbrev pub FailsRead : Course → ℕ → Said → Course → Type 0
FailsRead old client reply new =
    let part = client_of old client in
    (reply ≡ said.Failed) × (new ≡ with_client old client (record part { failed = part.failed + 1 }))

-- An open looks, and sees all commits. The revision that is asked for is opened, if it is there.
abbrev pub AnswersOpen : Course → ℕ → Which → Said → Course → Type 0
AnswersOpen old client revisions.Latest reply new =
    let seen = length old.book.commits in
    (reply ≡ said.Opened seen) × (new ≡ with_client old client (record (client_of old client) { revision = seen; seen = seen }))
AnswersOpen old client (revisions.Number r) reply new =
    let seen = length old.book.commits in
    MatchBool (nat_le r seen)
    ((reply ≡ said.Opened r) × (new ≡ with_client old client (record (client_of old client) { revision = r; seen = seen })))
    ((reply ≡ said.Missing r seen) × (new ≡ with_client old client (record (client_of old client) { seen = seen })))

-- What a command of a client answers, and what it leaves. An edit and a commit may read the writer's end, and a question that of
-- its client.
abbrev pub Answers : Terms → Course → ℕ → Command → Said → Course → Type 0
Answers terms old client (commands.Edit edit) reply new =
    IfStopped old.book.stopped reply (new ≡ old)
    (((book : Book) × AnswersEdit old.book (edit_of edit) reply book × (new ≡ record old { book = book })) ⊎ FailsRead old client reply new)
Answers terms old client commands.Rollback reply new = (reply ≡ said.Done) × (new ≡ record old { book = record old.book { edits = [] } })
-- the clock is asked once, unless the writer is stopped
Answers terms old client commands.Commit reply new =
    IfStopped old.book.stopped reply (new ≡ old)
    ((moment : ℤ) × FitsSigned w64 moment × Ticks old.moments moment new.moments
    × (((book : Book) × AnswersCommit (terms.room (with_commit old.book (next_commit old.book moment)).commits) old.book (next_commit old.book moment) reply book
    × (new ≡ record old { book = book; moments = new.moments }))
    ⊎ FailsRead (record old { moments = new.moments }) client reply new))
Answers terms old client (commands.Open which) reply new = AnswersOpen old client which reply new
Answers terms old client (commands.Ask query) reply new =
    (AnswersAt terms.names (state_of old.book.commits (client_of old client).revision) query reply × (new ≡ old)) ⊎ FailsRead old client reply new
Answers terms old client commands.Quit reply new = ⊥

-- ---- runs

-- What a line writes, and what it leaves.
abbrev pub Replies : Terms → Course → Line → List ℕ → Course → Type 0
Replies terms old lines.Skip out new = (out ≡ []) × (new ≡ old)
Replies terms old (lines.Refused client) out new = (out ≡ reply_bytes None said.NoCommand) × (new ≡ old)
Replies terms old (lines.BadJson client fault) out new = (out ≡ reply_bytes None (said.Json fault)) × (new ≡ old)
Replies terms old (lines.Command client command) out new = (reply : Said) × Answers terms old client command reply new × (out ≡ reply_bytes None reply)

-- What an item writes, and what it leaves.
abbrev pub Gives : Terms → Course → Item → List ℕ → Course → Type 0
Gives terms old (single line) out new = Replies terms old line out new
Gives terms old quit out new = (out ≡ []) × (new ≡ old)

-- the items in their order write these bytes
abbrev pub Run : Terms → Course → List Item → List ℕ → Course → Type 0
Run terms old [] out new = (out ≡ []) × (new ≡ old)
Run terms old (item ∷ items) out new =
    (mid : Course) × (written : List ℕ) × (rest : List ℕ)
    × Gives terms old item written mid × Run terms mid items rest new × (out ≡ written ++ rest)

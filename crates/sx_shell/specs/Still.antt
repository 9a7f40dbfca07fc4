-- What the commands leave that run no script.
use Rattle.std.specs.Prelude.{ℕ, ◌≡◌, ◌≢◌, ◌<◌, ◌≤◌, ◌⊎◌, nat_le, Bool, if◌then◌else◌, List, [], ◌∷◌, ◌++◌, length, codes, Option, None, Some, IfSome, IsSome, slice_get}
use Rattle.std.specs.Fmt.{decimal}
use Rattle.sx_bytes.specs.declared.damage.Damage.{Damage}
use Rattle.sx_cursor.specs.Damage.{broken_link}
use Rattle.sx_layout.specs.Birth.{Birth, IsBorn, IsNotOurs, IsUnborn}
use Rattle.sx_layout.specs.Born as born
use Rattle.sx_layout.specs.Born.{Reading}
use Rattle.sx_layout.specs.FrameGroup.{FrameGroup}
use Rattle.sx_log.specs.Kept.{first_place, rows_from}
use Rattle.sx_log.specs.Calls.{IsSynced, IsSyncedOrNot, IsUnsynced}
use Rattle.sx_log.specs.Opening.{Explains}
use Rattle.sx_log.specs.declared.fault.LogFault.TheVariants as faults
use Rattle.sx_model.specs.Commit.{Commit, state_of}
use Rattle.sx_outside.specs.Faults.{Rose}
use Rattle.sx_model.specs.TreeText.{document_text}
use Rattle.sx_reader.specs.Asked.{BreaksAsking, ExplainsSome, asked_in}
use Rattle.sx_reader.specs.Cells.{Placed, frames_of, placed_in}
use Rattle.sx_shell.specs.declared.command.Wanted.{Wanted}
use Rattle.sx_shell.specs.declared.command.Wanted.TheVariants.{Live, Create, Show, Check}
use Rattle.sx_shell.specs.declared.status.Status.{Status}
use Rattle.sx_shell.specs.declared.status.Status.TheVariants.{Done, Usage, ReadFault, WriteFault, VolumeFault, Damaged, NotOurs, Unborn, Born, Missing, OutOfMemory}
use Rattle.sx_store.specs.Damage.{HasNoNode, IsQueryDamage, root_at}
use Rattle.sx_store.specs.Shows.{count_of}
use Rattle.sx_store.specs.Sound.{IsReadOf, IsWhole}
use Rattle.sx_store.specs.declared.ledger.Ledger.{Ledger}
use Rattle.sx_tree.specs.declared.query.Answer.{Answer}
use Rattle.sx_tree.specs.declared.query.Answer.TheVariants as answers
use Rattle.sx_tree.specs.declared.query.Query.TheVariants.{Text}
use Rattle.sx_view.specs.declared.fault.Fault.{Fault}
use Rattle.sx_view.specs.declared.fault.Fault.TheVariants as readings
use Rattle.sx_view.specs.declared.fault.QueryFault.{QueryFault}
use Rattle.sx_view.specs.declared.fault.QueryFault.TheVariants as questions
use Rattle.sx_volume.specs.declared.spot.Spot as spot
use Rattle.sx_volume.specs.declared.volume.Volume as volume

-- the words want none of these commands
abbrev pub WantsNone : Option Wanted → Type 0
WantsNone None = Unit {0}
WantsNone (Some (Live file)) = Unit {0}
WantsNone (Some (Create file window from to)) = ⊥
WantsNone (Some (Show file revision)) = ⊥
WantsNone (Some (Check file)) = ⊥

-- the words want a revision to be shown or the frames to be checked
abbrev pub WantsReading : Option Wanted → Type 0
WantsReading None = ⊥
WantsReading (Some (Live file)) = ⊥
WantsReading (Some (Create file window from to)) = ⊥
WantsReading (Some (Show file revision)) = Unit {0}
WantsReading (Some (Check file)) = Unit {0}

-- a call of the volume or of its end failed, or memory ran out
abbrev pub IsOther : Status → Type 0
IsOther status = (status ≡ VolumeFault) ⊎ (status ≡ OutOfMemory)

-- How a call ends whose question has no answer: a Document that has no record is damage. A revision that is there is not missing, and no
-- path is asked for.
abbrev pub unanswered_status : QueryFault → Status
unanswered_status (questions.Missing asked seen) = Missing asked seen
unanswered_status (questions.NoNode node) = Damaged (broken_link 0 node)
unanswered_status (questions.NoPath path) = Damaged (broken_link 0 path)
unanswered_status questions.Failed = VolumeFault
unanswered_status (questions.Damaged damage) = Damaged damage
unanswered_status questions.OutOfMemory = OutOfMemory

-- how a call ends that meets this fault of a check
abbrev pub unchecked_status : Fault → Status
unchecked_status readings.Failed = VolumeFault
unchecked_status (readings.Damaged damage) = Damaged damage
unchecked_status readings.OutOfMemory = OutOfMemory

-- How a command is due to end over a volume that stands for these commits, with or without a birth, where no call fails.
abbrev pub due_status : Wanted → Option Birth → List Commit → Status
due_status (Live file) birth commits = Usage
due_status (Create file window from to) None commits = Done
due_status (Create file window from to) (Some birth) commits = Born
due_status (Show file revision) None commits = Unborn
due_status (Show file revision) (Some birth) commits = if nat_le revision (length commits) then Done else Missing revision (length commits)
due_status (Check file) None commits = Unborn
due_status (Check file) (Some birth) commits = Done

-- ---- making a volume

-- It is made exactly where the image is unborn, unless a call failed or memory ran out.
pub record IsMade (image : List ℕ) (status : Status) : Type 0 where
  pub unborn : IsUnborn image → (status ≡ Done) ⊎ IsOther status
  pub born : IsBorn image → (status ≡ Born) ⊎ IsOther status
  pub not_ours : (first : ℕ) → IsNotOurs image first → (status ≡ NotOurs first) ⊎ IsOther status

-- making a volume ends in no other way
abbrev pub IsOfCreate : Status → Type 0
IsOfCreate Done = Unit {0}
IsOfCreate Usage = ⊥
IsOfCreate ReadFault = ⊥
IsOfCreate WriteFault = ⊥
IsOfCreate VolumeFault = Unit {0}
IsOfCreate (Damaged damage) = ⊥
IsOfCreate (NotOurs first) = Unit {0}
IsOfCreate Unborn = ⊥
IsOfCreate Born = Unit {0}
IsOfCreate (Missing asked seen) = ⊥
IsOfCreate OutOfMemory = Unit {0}

-- making a volume is refused
abbrev pub IsNotMade : Status → Type 0
IsNotMade status = (status ≡ Born) ⊎ ((first : ℕ) × (status ≡ NotOurs first))

-- The bytes that were there stay, unless a call of the volume failed, and a crash leaves them and nothing else from the first sync that
-- succeeded on; before that what it could leave at the start.
pub record IsLeft {V S E : Type 0} (g : volume.Ghosts V S E) (image : List ℕ) (old new : V) (status : Status) : Type 0 where
  pub same : status ≢ VolumeFault → g.bytes new ≡ g.bytes old
  pub images : IsSynced g image old new ⊎ IsUnsynced g old new

-- ---- what is written

-- What was written is the line, or where the sink failed a front of it. In every other case nothing was.
abbrev pub Writes : List ℕ → Status → List ℕ → List ℕ → Type 0
Writes line Done before after = after ≡ before ++ line
Writes line WriteFault before after = (front : List ℕ) × (rest : List ℕ) × (line ≡ front ++ rest) × (after ≡ before ++ front)
Writes line Usage before after = after ≡ before
Writes line ReadFault before after = after ≡ before
Writes line VolumeFault before after = after ≡ before
Writes line (Damaged damage) before after = after ≡ before
Writes line (NotOurs first) before after = after ≡ before
Writes line Unborn before after = after ≡ before
Writes line Born before after = after ≡ before
Writes line (Missing asked seen) before after = after ≡ before
Writes line OutOfMemory before after = after ≡ before

-- the call ended before a line was whole
abbrev pub IsUnwritten : Status → Type 0
IsUnwritten status = (status ≢ Done) × (status ≢ WriteFault)

-- a document's text, or `empty` where it has no value
abbrev pub shown_text : List ℕ → List ℕ
shown_text [] = codes "empty"
shown_text (byte ∷ bytes) = byte ∷ bytes

-- the line of an answer that is a text, or says that there is none
abbrev pub answered_line : Answer → List ℕ
answered_line (answers.Text bytes) = bytes ++ 10 ∷ []
answered_line answers.Empty = codes "empty" ++ 10 ∷ []
answered_line (answers.Node row) = []
answered_line (answers.Hash hash) = []
answered_line (answers.Nodes nodes) = []
answered_line (answers.Path count text) = []
answered_line (answers.Total count) = []

-- the line of a revision
abbrev pub shown_line : List Commit → ℕ → List ℕ
shown_line commits r = shown_text (document_text (state_of commits r).trees) ++ 10 ∷ []

-- the line of so many commits and frames
abbrev pub checked_line : ℕ → ℕ → List ℕ
checked_line commits frames = codes "ok " ++ (decimal commits ++ (32 ∷ (decimal frames ++ 10 ∷ [])))

-- Of so many revisions this one is shown, or it is not there; or its frame is damaged, a call failed or memory ran out.
abbrev pub IsShown : ℕ → ℕ → Status → Type 0
IsShown count r Done = r ≤ count
IsShown count r WriteFault = r ≤ count
IsShown count r (Damaged damage) = r ≤ count
IsShown count r (Missing asked seen) = (count < r) × (asked ≡ r) × (seen ≡ count)
IsShown count r VolumeFault = Unit {0}
IsShown count r OutOfMemory = Unit {0}
IsShown count r Usage = ⊥
IsShown count r ReadFault = ⊥
IsShown count r (NotOurs first) = ⊥
IsShown count r Unborn = ⊥
IsShown count r Born = ⊥

-- All frames are whole; or a frame is damaged, a call failed or memory ran out.
abbrev pub IsChecked : Status → Type 0
IsChecked Done = Unit {0}
IsChecked WriteFault = Unit {0}
IsChecked (Damaged damage) = Unit {0}
IsChecked VolumeFault = Unit {0}
IsChecked OutOfMemory = Unit {0}
IsChecked Usage = ⊥
IsChecked ReadFault = ⊥
IsChecked (NotOurs first) = ⊥
IsChecked Unborn = ⊥
IsChecked Born = ⊥
IsChecked (Missing asked seen) = ⊥

-- nothing damaged is told
abbrev pub IsUndamaged : Status → Type 0
IsUndamaged status = (damage : Damage) → status ≢ Damaged damage

-- ---- volumes that are read

-- What a call that reads leaves of the volume: its bytes, unless the volume failed, also where its end did; and a crash leaves what it could leave at the start, or from
-- the first sync's success on these bytes and nothing else.
pub record LeavesBytes {V S E : Type 0} (g : volume.Ghosts V S E) (old new : V) (status : Status) : Type 0 where
  pub same : status ≢ VolumeFault → g.bytes new ≡ g.bytes old
  pub calm : (Rose (g.faults old) (g.faults new) → ⊥) → g.bytes new ≡ g.bytes old
  pub told : IsSome (g.bytes old) → IsSome (g.bytes new)
  pub synced_or_not : IsSyncedOrNot g old new
  pub synced : status ≡ Done → IfSome (g.bytes old) (λ image. IsSynced g image old new)

-- A volume that is read as no log is told so, unless a call failed or memory ran out.
abbrev pub TellsNoLog : Reading → Status → Type 0
TellsNoLog (born.Log birth groups) status = ⊥
TellsNoLog born.Unborn status = (status ≡ Unborn) ⊎ IsOther status
TellsNoLog (born.NotOurs first) status = (status ≡ NotOurs first) ⊎ IsOther status
TellsNoLog (born.Damaged damage) status = (status ≡ Damaged damage) ⊎ IsOther status

-- What showing a revision ends with over a volume that is read as this.
abbrev pub ShowsReading : Reading → ℕ → Status → Type 0
ShowsReading (born.Log birth groups) r status = IsShown (length groups) r status
ShowsReading born.Unborn r status = TellsNoLog born.Unborn status
ShowsReading (born.NotOurs first) r status = TellsNoLog (born.NotOurs first) status
ShowsReading (born.Damaged damage) r status = TellsNoLog (born.Damaged damage) status

-- The volume was read as a log, where its bytes are told, and what is kept of it in memory is such.
pub record IsOfLog {S : Type 0} (g : spot.Ghosts S) (bytes : Option (List ℕ)) (cause : Ledger S → Type 0) : Type 0 where
  pub ledger : Ledger S
  pub whole : IsWhole g ledger
  pub read : IfSome bytes (λ image. IsReadOf g image ledger)
  pub holds : cause ledger

-- What damages a revision that is shown: its frame, or its records; or they have none of the Document, which is rule 23 from 0 to 0.
abbrev pub IsShownDamage : {S : Type 0} → spot.Ghosts S → Type 0 → ℕ → Damage → Ledger S → Type 0
IsShownDamage g tells r damage ledger =
    let root = root_at ledger r in
    (r ≤ count_of ledger) × (IsQueryDamage g tells ledger root (Text 0) damage ⊎ (HasNoNode g tells ledger root 0 × (damage ≡ broken_link 0 0)))

-- What damages frames that are checked: one of them.
abbrev pub IsCheckedDamage : {S : Type 0} → spot.Ghosts S → Type 0 → Damage → Ledger S → Type 0
IsCheckedDamage g tells damage ledger = ExplainsSome g tells (Unit {0}) ledger.log ledger.cells.items (readings.Damaged damage)

-- Opening tells the damage, or it is such of what was opened.
abbrev pub IsDamage : {S : Type 0} → spot.Ghosts S → Option (List ℕ) → Damage → (Ledger S → Type 0) → Type 0
IsDamage g bytes damage cause = Explains bytes (faults.Damaged damage) ⊎ IsOfLog g bytes cause

-- ---- the frames of any groups

-- A frame of the groups: what is asked of it, where it stands with its table's row, and its bytes.
pub record IsAskedOf (groups : List FrameGroup) (whole : Bool) (placed : Placed) (bytes : List ℕ) : Type 0 where
  pub frame : ℕ
  pub asked : slice_get (asked_in 0 (rows_from first_place groups)) frame ≡ Some whole
  pub placed_is : slice_get (placed_in (rows_from first_place groups)) frame ≡ Some placed
  pub bytes_are : slice_get (frames_of groups) frame ≡ Some bytes

-- The damage is that of one of the frames.
abbrev pub IsFrameDamage : List FrameGroup → Damage → Type 0
IsFrameDamage groups damage =
    (whole : Bool) × (placed : Placed) × (bytes : List ℕ) × IsAskedOf groups whole placed bytes × BreaksAsking whole placed.0 placed.1.digest bytes damage

-- What a check of these groups ends with, unless a call failed or memory ran out: all is well where no frame breaks what is asked of it.
abbrev pub ChecksGroups : List FrameGroup → Status → Type 0
ChecksGroups groups Done = (damage : Damage) → IsFrameDamage groups damage → ⊥
ChecksGroups groups WriteFault = (damage : Damage) → IsFrameDamage groups damage → ⊥
ChecksGroups groups (Damaged damage) = IsFrameDamage groups damage
ChecksGroups groups VolumeFault = Unit {0}
ChecksGroups groups OutOfMemory = Unit {0}
ChecksGroups groups Usage = ⊥
ChecksGroups groups ReadFault = ⊥
ChecksGroups groups (NotOurs first) = ⊥
ChecksGroups groups Unborn = ⊥
ChecksGroups groups Born = ⊥
ChecksGroups groups (Missing asked seen) = ⊥

-- What a check of a volume ends with that is read as this.
abbrev pub ChecksReading : Reading → Status → Type 0
ChecksReading (born.Log birth groups) status = ChecksGroups groups status
ChecksReading born.Unborn status = TellsNoLog born.Unborn status
ChecksReading (born.NotOurs first) status = TellsNoLog (born.NotOurs first) status
ChecksReading (born.Damaged damage) status = TellsNoLog (born.Damaged damage) status

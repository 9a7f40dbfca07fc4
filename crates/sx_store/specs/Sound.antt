-- What a ledger has of its volume, whatever the volume's bytes stand for.
use Rattle.std.specs.Prelude.{ℕ, ◌≡◌, ◌<◌, List, ◌++◌, Option, None, Some, IfSome}
use Rattle.std.specs.List.{AllByRecursion}
use Rattle.sx_layout.specs.Born as born
use Rattle.sx_layout.specs.Born.{HasLog, Reads}
use Rattle.sx_layout.specs.FrameGroup.{FrameGroup, first_root}
use Rattle.sx_layout.specs.Rules.{Follow, frames_size}
use Rattle.sx_log.specs.Committing.{KeepsLog, SameLog}
use Rattle.sx_log.specs.Kept.{IsLogOf}
use Rattle.sx_reader.specs.Cells.{AreCells, TellFrames, frames_of}
use Rattle.sx_store.specs.Damage.{IsMade}
use Rattle.sx_store.specs.Shows.{birth_in, next_of, records_of, stage_of}
use Rattle.sx_store.specs.declared.draft.Draft.{Draft}
use Rattle.sx_store.specs.declared.ledger.Ledger.{Ledger}
use Rattle.sx_volume.specs.declared.spot.Spot as spot
use Rattle.sx_volume.specs.declared.volume.Volume as volume

-- The log is of groups that follow one another, and there is a cell for each of their frames.
pub record IsWhole {S : Type 0} (g : spot.Ghosts S) (ledger : Ledger S) : Type 0 where
  pub groups : List FrameGroup
  pub is_log : IsLogOf ledger.log groups
  pub follow : Follow first_root groups
  pub cells : AreCells g ledger.log ledger.cells.items

-- The log is of these groups, whose frames the spots tell: there are no others of which it is.
pub record IsLedgerOf {S : Type 0} (g : spot.Ghosts S) (ledger : Ledger S) (groups : List FrameGroup) : Type 0 where
  pub is_log : IsLogOf ledger.log groups
  pub bodies : AllByRecursion (λ (group : FrameGroup). group.root.body ≡ frames_size group.table) groups
  pub follow : Follow first_root groups
  pub frames : TellFrames g ledger.cells.items (frames_of groups)

-- the image has all that the ledger has, and maybe more behind it
abbrev pub HasAll : {S : Type 0} → spot.Ghosts S → Ledger S → List ℕ → Type 0
HasAll g ledger image =
    (groups : List FrameGroup) → IsLedgerOf g ledger groups → (more : List FrameGroup) × HasLog image (birth_in ledger) (groups ++ more)

-- The later ledger has all that the earlier one has, under the same birth.
pub record GrowsFrom {S : Type 0} (g : spot.Ghosts S) (old new : Ledger S) : Type 0 where
  pub birth : birth_in new ≡ birth_in old
  pub grown : (groups : List FrameGroup) → IsLedgerOf g old groups → (more : List FrameGroup) × IsLedgerOf g new (groups ++ more)

-- the ledger is what is read of the image
abbrev pub IsReadOf : {S : Type 0} → spot.Ghosts S → List ℕ → Ledger S → Type 0
IsReadOf g image ledger =
    ((groups : List FrameGroup) × Reads image (born.Log (birth_in ledger) groups) × IsLedgerOf g ledger groups) × (stage_of ledger ≡ None)

-- where the volume tells its bytes, each image has all that the ledger has
abbrev pub HoldAll : {S : Type 0} → spot.Ghosts S → Option (List ℕ) → (List ℕ → Type 0) → Ledger S → Type 0
HoldAll g bytes is_image ledger = IfSome bytes (λ _. (image : List ℕ) → is_image image → HasAll g ledger image)

-- the volume and each image have the groups of the ledger and no others
pub record IsKeptIn {V S E : Type 0} (g : volume.Ghosts V S E) (s : spot.Ghosts S) (volume : V) (ledger : Ledger S) : Type 0 where
  pub groups : List FrameGroup
  pub is_of : IsLedgerOf s ledger groups
  pub keeps : KeepsLog g ledger.log volume groups

-- The ledger is whole. While no commit failed, the gate behind its groups lies below the volume's length, and where the volume tells its
-- bytes, it keeps the ledger.
pub record IsSound {V S E : Type 0} (g : volume.Ghosts V S E) (s : spot.Ghosts S) (volume : V) (ledger : Ledger S) : Type 0 where
  pub whole : IsWhole s ledger
  pub gate : stage_of ledger ≡ None → ledger.log.end < g.size volume
  pub kept : stage_of ledger ≡ None → IfSome (g.bytes volume) (λ _. IsKeptIn g s volume ledger)

-- The later ledger has the same log, the same cells and the same stage. Its draft may be another one, and its room.
pub record SameBut {S : Type 0} (old new : Ledger S) : Type 0 where
  pub log : SameLog old.log new.log
  pub cells : new.cells.items ≡ old.cells.items
  pub stage : stage_of new ≡ stage_of old

-- the document has the same records, the same table and the same next number
abbrev pub IsSameDocument : Draft → Draft → Type 0
IsSameDocument before after =
    (records_of after ≡ records_of before) × (after.paths.paths ≡ before.paths.paths) × (after.next ≡ before.next)

-- The draft is the same, or one without an edit, made of the last revision, where there was none.
abbrev pub IsSameDraft : {S : Type 0} → spot.Ghosts S → Type 0 → Ledger S → Option Draft → Option Draft → Type 0
IsSameDraft g tells ledger None None = Unit {0}
IsSameDraft g tells ledger None (Some after) = IsMade g tells ledger None after
IsSameDraft g tells ledger (Some before) None = ⊥
IsSameDraft g tells ledger (Some before) (Some after) = IsSameDocument before after

-- what the next new node's number is, and the open edits, are the same
pub record SameDraft {S : Type 0} (g : spot.Ghosts S) (tells : Type 0) (old new : Ledger S) : Type 0 where
  pub draft : IsSameDraft g tells old old.draft new.draft
  pub next : next_of new ≡ next_of old

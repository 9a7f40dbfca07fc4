-- What is told of a revision that stands for no document.
use Rattle.std.specs.Prelude.{ℕ, zero, suc, ◌≡◌, ◌+◌, ◌⊎◌, List, Option, None, Some, length, option_map, min, slice_get, take}
use Rattle.std.specs.FinMap as fin
use Rattle.sha2.specs.Sha256.{sha256}
use Rattle.sx_bytes.specs.declared.damage.Damage.{Damage}
use Rattle.sx_edit.specs.Damage.{IsDamage}
use Rattle.sx_log.specs.Kept.{listed, root_behind}
use Rattle.sx_layout.specs.FrameGroup.{first_root}
use Rattle.sx_model.specs.Edit.{Edit, number_limit}
use Rattle.sx_model.specs.Records.{node}
use Rattle.sx_model.specs.State.{empty_document}
use Rattle.sx_model.specs.Records.{PathRow}
use Rattle.sx_paths.specs.Load.{HasBrokenPath, TellsFrom}
use Rattle.sx_reader.specs.Frames.{BreaksFrame, IsReadOf}
use Rattle.sx_reader.specs.declared.cell.Cell.{Cell}
use Rattle.sx_query.specs.Causes.{IsCause}
use Rattle.sx_query.specs.Gives as query
use Rattle.sx_query.specs.declared.about.About.{About}
use Rattle.sx_root.specs.declared.root.RevisionRoot.{RevisionRoot}
use Rattle.sx_store.specs.Groups.{HasTooMany}
use Rattle.sx_store.specs.Shows.{last_root_of, names_in, records_of}
use Rattle.sx_store.specs.declared.draft.Draft.{Draft}
use Rattle.sx_store.specs.declared.ledger.Ledger.{Ledger}
use Rattle.sx_tree.specs.declared.query.Query.{Query}
use Rattle.sx_tree.specs.declared.record.NodeRecord.{NodeRecord}
use Rattle.sx_tree.specs.declared.record.PathRecord.{PathRecord}
use Rattle.sx_view.specs.Records.{RecordMap}
use Rattle.sx_view.specs.Rows.{row_of}
use Rattle.sx_volume.specs.declared.spot.Spot.{Ghosts}
use Rattle.sx_whole.specs.Body.{body_bytes, rows_of}
use Rattle.sx_whole.specs.Stands.{whole_frame}

-- the records of the nodes and of the paths of a document
pub record Kept : Type 0 where
  pub nodes : RecordMap NodeRecord
  pub paths : RecordMap PathRecord

-- the table of so many of these paths
abbrev pub IsTable : RecordMap PathRecord → ℕ → List PathRow → Type 0
IsTable paths count table = TellsFrom paths 1 table × (length table ≡ count)

-- The frame to which the reference leads breaks a rule.
abbrev pub BreaksAt : {S : Type 0} → Ghosts S → Type 0 → List (Cell S) → ℕ → Damage → Type 0
BreaksAt {S = S} g tells cells zero damage = ⊥
BreaksAt {S = S} g tells cells (suc number) damage =
    (cell : Cell S) × (bytes : List ℕ) × (slice_get cells number ≡ Some cell) × IsReadOf g tells cell bytes
    × BreaksFrame cell.place cell.row.digest bytes damage

-- The document to which the reference leads has these records.
abbrev pub KeepsAt : {S : Type 0} → Ghosts S → Type 0 → List (Cell S) → ℕ → Kept → Type 0
KeepsAt {S = S} g tells cells zero kept =
    ((k : ℕ) → option_map row_of (fin.get kept.nodes k) ≡ node empty_document k) × (kept.paths ≡ fin.empty)
KeepsAt {S = S} g tells cells (suc number) kept =
    (cell : Cell S) × (bytes : List ℕ) × (slice_get cells number ≡ Some cell) × IsReadOf g tells cell bytes
    × (sha256 bytes ≡ cell.row.digest) × (bytes ≡ whole_frame (body_bytes (fin.entries kept.nodes) (rows_of (Some kept.paths))))

-- The frame breaks a rule, or the records in it do, by this cause.
abbrev pub IsDamagedAt : {S : Type 0} → Ghosts S → Type 0 → List (Cell S) → ℕ → (Kept → Damage → Type 0) → Damage → Type 0
IsDamagedAt g tells cells node_root cause damage =
    BreaksAt g tells cells node_root damage ⊎ ((kept : Kept) × KeepsAt g tells cells node_root kept × cause kept damage)

-- the root of a revision, which for 0 is not stored
abbrev pub root_at : {S : Type 0} → Ledger S → ℕ → RevisionRoot
root_at ledger r = root_behind first_root (take r (listed ledger.log.groups))

-- What damages the last revision where a draft is made of it: its frame or its table of paths.
abbrev pub IsDraftDamage : {S : Type 0} → Ghosts S → Type 0 → Ledger S → Damage → Type 0
IsDraftDamage g tells ledger damage =
    let root = last_root_of ledger in
    IsDamagedAt g tells ledger.cells.items root.node_root (λ kept damage. HasBrokenPath (Some kept.paths) root.paths damage) damage

-- These records are those of no document, in what the edit reaches.
abbrev pub IsToldDamage : Edit → ℕ → RecordMap NodeRecord → List PathRow → Damage → Type 0
IsToldDamage edit next nodes table damage = IsDamage edit (min next number_limit) (Some nodes) table (λ _. ⊥) damage

-- The same of those of a revision with this root.
abbrev pub IsRecordDamage : Edit → RevisionRoot → Kept → Damage → Type 0
IsRecordDamage edit root kept damage =
    (table : List PathRow) × IsTable kept.paths root.paths table × IsToldDamage edit root.next kept.nodes table damage

-- What damages an edit: over the open edits their records, and else the last revision's frame, table or records.
abbrev pub IsEditDamage : {S : Type 0} → Ghosts S → Type 0 → Edit → Option Draft → Ledger S → Damage → Type 0
IsEditDamage g tells edit (Some draft) ledger damage = IsToldDamage edit draft.next (records_of draft) draft.paths.paths damage
IsEditDamage g tells edit None ledger damage =
    let root = last_root_of ledger in
    IsDamagedAt g tells ledger.cells.items root.node_root
    (λ kept damage. HasBrokenPath (Some kept.paths) root.paths damage ⊎ IsRecordDamage edit root kept damage) damage

-- What damages the making of a draft: nothing where edits are open, and else the last revision's frame or table.
abbrev pub IsTakenDamage : {S : Type 0} → Ghosts S → Type 0 → Option Draft → Ledger S → Damage → Type 0
IsTakenDamage g tells (Some draft) ledger damage = ⊥
IsTakenDamage g tells None ledger damage = IsDraftDamage g tells ledger damage

-- the place of a group that comes
abbrev pub place_behind : {S : Type 0} → Ledger S → ℕ
place_behind ledger = ledger.log.end + 1

-- What damages a commit: that the document tells of too many nodes; and where no edit is open, the last revision's frame or table.
abbrev pub IsCommitDamage : {S : Type 0} → Ghosts S → Type 0 → Option Draft → Ledger S → Damage → Type 0
IsCommitDamage g tells (Some draft) ledger damage = HasTooMany (place_behind ledger) (records_of draft) draft.next damage
IsCommitDamage g tells None ledger damage =
    let root = last_root_of ledger in
    IsDamagedAt g tells ledger.cells.items root.node_root
    (λ kept damage. HasBrokenPath (Some kept.paths) root.paths damage ⊎ HasTooMany (place_behind ledger) kept.nodes root.next damage) damage

-- what a question needs to know of the revision with this root
abbrev pub IsAboutOf : {S : Type 0} → Ledger S → RevisionRoot → About → Type 0
IsAboutOf ledger root about = (about.nodes ≡ root.nodes) × (about.paths ≡ root.paths) × (query.names_of about ≡ names_in ledger)

-- the cause is that of the records that are asked about the revision with this root
abbrev pub IsQueryCause : {S : Type 0} → Ledger S → RevisionRoot → Query → Kept → Damage → Type 0
IsQueryCause ledger root asked kept damage = (about : About) × IsAboutOf ledger root about × IsCause asked (Some kept.nodes) (Some kept.paths) about damage

-- What damages a question about the revision with this root: its frame, or the records that are asked.
abbrev pub IsQueryDamage : {S : Type 0} → Ghosts S → Type 0 → Ledger S → RevisionRoot → Query → Damage → Type 0
IsQueryDamage g tells ledger root asked damage = IsDamagedAt g tells ledger.cells.items root.node_root (IsQueryCause ledger root asked) damage

-- the revision with this root has no record of the node
abbrev pub HasNoNode : {S : Type 0} → Ghosts S → Type 0 → Ledger S → RevisionRoot → ℕ → Type 0
HasNoNode g tells ledger root node = (kept : Kept) × KeepsAt g tells ledger.cells.items root.node_root kept × (fin.get kept.nodes node ≡ None)

-- the draft has these records, and the table of so many of the paths
abbrev pub IsLoaded : Kept → ℕ → Draft → Type 0
IsLoaded kept count draft = (records_of draft ≡ kept.nodes) × IsTable kept.paths count draft.paths.paths

-- The draft is the one that is open, or it was made of the last revision.
abbrev pub IsMade : {S : Type 0} → Ghosts S → Type 0 → Ledger S → Option Draft → Draft → Type 0
IsMade g tells ledger (Some before) draft = draft ≡ before
IsMade g tells ledger None draft =
    let root = last_root_of ledger in (kept : Kept) × KeepsAt g tells ledger.cells.items root.node_root kept × IsLoaded kept root.paths draft

abbrev pub IsMadeOf : {S : Type 0} → Ghosts S → Type 0 → Ledger S → Draft → Type 0
IsMadeOf g tells ledger draft = IsMade g tells ledger ledger.draft draft

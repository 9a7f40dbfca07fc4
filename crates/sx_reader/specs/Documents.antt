-- The document of a revision, as it is read.
use Rattle.std.specs.Prelude.{ℕ, zero, suc, ◌≡◌, List, Some, Result, Ok, Err, option_map, slice_get}
use Rattle.sha2.specs.Sha256.{sha256}
use Rattle.sx_model.specs.State.{State, empty_document}
use Rattle.sx_paths.specs.Listed.{AreListed}
use Rattle.sx_paths.specs.OfState.{ShowsPaths}
use Rattle.sx_model.specs.Records.{node}
use Rattle.std.specs.FinMap as fin
use Rattle.sx_reader.specs.Frames.{BreaksFrame, ExplainsRead, IsReadOf}
use Rattle.sx_reader.specs.declared.cell.Cell.{Cell}
use Rattle.sx_tree.specs.declared.record.NodeRecord.{NodeRecord}
use Rattle.sx_tree.specs.declared.record.PathRecord.{PathRecord}
use Rattle.sx_view.specs.Records.{RecordMap}
use Rattle.sx_view.specs.Rows.{row_of}
use Rattle.sx_view.specs.Slots.{held}
use Rattle.sx_view.specs.declared.fault.Fault.{Fault}
use Rattle.sx_view.specs.declared.fault.Fault.TheVariants.{Failed, Damaged, OutOfMemory}
use Rattle.sx_volume.specs.declared.spot.Spot.{Ghosts}
use Rattle.sx_whole.specs.Body.{AreNumbered, AreWhole, body_bytes, rows_of}
use Rattle.sx_whole.specs.Stands.{IsBodyOf, whole_frame}
use Rattle.sx_whole.specs.declared.document.Document.{Document}

-- the records of its nodes
abbrev pub nodes_of : Document → RecordMap NodeRecord
nodes_of document = held document.nodes.slots.entries

-- the records of its paths
abbrev pub paths_of : Document → RecordMap PathRecord
paths_of document = held document.paths.slots.entries

-- the bytes are the frame of the document, and have the digest
pub record IsDocumentIn (digest bytes : List ℕ) (document : Document) : Type 0 where
  pub same_digest : sha256 bytes ≡ digest
  pub bytes_are : bytes ≡ whole_frame (body_bytes (fin.entries (nodes_of document)) (rows_of (Some (paths_of document))))
  pub whole : AreWhole (fin.entries (nodes_of document)) (rows_of (Some (paths_of document)))
  pub numbered : AreNumbered (Some (paths_of document))

-- The document has the records of this state, and no others.
pub record IsDocumentOf (state : State) (document : Document) : Type 0 where
  pub nodes : (k : ℕ) → option_map row_of (fin.get (nodes_of document) k) ≡ node state k
  pub paths : ShowsPaths state (Some (paths_of document))

-- The cell's spot tells the frame of the state, which has the digest.
pub record TellsState {S : Type 0} (g : Ghosts S) (state : State) (cell : Cell S) : Type 0 where
  pub listed : AreListed state.paths
  pub body : List ℕ
  pub is_body : IsBodyOf state body
  pub content : g.content cell.spot ≡ Some (whole_frame body)
  pub digest : cell.row.digest ≡ sha256 (whole_frame body)

-- The document to which the reference leads: that of the frame of one of the cells, or the one without a child.
abbrev pub IsDocumentAt : {S : Type 0} → Ghosts S → Type 0 → List (Cell S) → ℕ → Document → Type 0
IsDocumentAt {S = S} g tells cells zero document = IsDocumentOf empty_document document × (paths_of document ≡ fin.empty)
IsDocumentAt {S = S} g tells cells (suc number) document =
    (cell : Cell S) × (bytes : List ℕ) × (slice_get cells number ≡ Some cell) × IsReadOf g tells cell bytes × IsDocumentIn cell.row.digest bytes document

-- The root's frame is one of the cells, and tells the state.
abbrev pub TellsAt : {S : Type 0} → Ghosts S → State → List (Cell S) → ℕ → Type 0
TellsAt {S = S} g state cells zero = state ≡ empty_document
TellsAt {S = S} g state cells (suc number) = (cell : Cell S) × (slice_get cells number ≡ Some cell) × TellsState g state cell

-- It is the state's document, or a read failed or memory ran out.
abbrev pub GivesDocument : State → Result Document Fault → Type 0
GivesDocument state (Ok document) = IsDocumentOf state document
GivesDocument state (Err Failed) = Unit {0}
GivesDocument state (Err (Damaged damage)) = ⊥
GivesDocument state (Err OutOfMemory) = Unit {0}

-- The fault is that of the frame to which the reference leads.
abbrev pub ExplainsAt : {S : Type 0} → Ghosts S → Type 0 → Type 0 → List (Cell S) → ℕ → Fault → Type 0
ExplainsAt {S = S} g tells rose cells zero fault = fault ≡ OutOfMemory
ExplainsAt {S = S} g tells rose cells (suc number) fault =
    (cell : Cell S) × (slice_get cells number ≡ Some cell) × ExplainsRead g tells rose cell BreaksFrame fault

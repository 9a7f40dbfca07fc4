-- Where the frames of a log stand, and what is kept of each.
use Rattle.std.specs.Prelude.{ℕ, ◌≡◌, ◌+◌, ◌*◌, ◌≤◌, List, [], ◌∷◌, ◌++◌, map, take, drop, Option, Some, IfSome}
use Rattle.std.specs.List.{AllByRecursion}
use Rattle.sx_frame.specs.declared.table.FrameRow.{FrameRow}
use Rattle.sx_layout.specs.FrameGroup.{FrameGroup}
use Rattle.sx_log.specs.Kept.{listed}
use Rattle.sx_log.specs.declared.log.GroupRow.{GroupRow}
use Rattle.sx_log.specs.declared.log.Log.{Log}
use Rattle.sx_reader.specs.declared.cell.Cell.{Cell}
use Rattle.sx_volume.specs.declared.spot.Spot.{Ghosts}

-- a place, and what the table keeps of the frame that stands there
abbrev pub Placed : Type 0
Placed = ℕ × FrameRow

-- the frames of a table, the first of them at this place
abbrev pub placed_from : ℕ → List FrameRow → List Placed
placed_from place [] = []
placed_from place (row ∷ rows) = (place, row) ∷ placed_from (place + row.bytes) rows

-- the frames of groups, behind the head, the table and the digest of each
abbrev pub placed_in : List GroupRow → List Placed
placed_in [] = []
placed_in (row ∷ rows) = placed_from (row.place + (80 + 36 * row.root.frames)) row.table ++ placed_in rows

-- the frames of a log, in the order of their numbers
abbrev pub placed_of : Log → List Placed
placed_of log = placed_in (listed log.groups)

abbrev pub placed : {S : Type 0} → Cell S → Placed
placed cell = (cell.place, cell.row)

-- The spot has as many bytes as the table says, and there are at least 5.
pub record IsCell {S : Type 0} (g : Ghosts S) (cell : Cell S) : Type 0 where
  pub count : g.count cell.spot ≡ cell.row.bytes
  pub least : 5 ≤ cell.row.bytes

-- There is one cell for each frame of the log, in the order of their numbers.
pub record AreCells {S : Type 0} (g : Ghosts S) (log : Log) (cells : List (Cell S)) : Type 0 where
  pub placed_are : map placed cells ≡ placed_of log
  pub each : AllByRecursion (IsCell g) cells

-- the frames lie before the end of the log, and each has at least 5 bytes
abbrev pub LieBelow : ℕ → List Placed → Type 0
LieBelow end frames = AllByRecursion (λ (frame : Placed). (frame.0 + frame.1.bytes ≤ end) × (5 ≤ frame.1.bytes)) frames

-- the tables of the groups end before the end of the log
abbrev pub StartBelow : ℕ → List GroupRow → Type 0
StartBelow end rows = AllByRecursion (λ (row : GroupRow). row.place + (80 + 36 * row.root.frames) ≤ end) rows

-- the spot tells the piece of these bytes at its place
abbrev pub TellsPiece : {S : Type 0} → Ghosts S → List ℕ → Cell S → Type 0
TellsPiece g all cell = g.content cell.spot ≡ Some (take cell.row.bytes (drop cell.place all))

-- where the bytes are told, so do the spots of all cells
abbrev pub TellPieces : {S : Type 0} → Ghosts S → Option (List ℕ) → List (Cell S) → Type 0
TellPieces g bytes cells = IfSome bytes (λ all. AllByRecursion (TellsPiece g all) cells)

-- the bytes of the frames of a table
abbrev pub frames_from : List FrameRow → List ℕ → List (List ℕ)
frames_from [] bytes = []
frames_from (row ∷ rows) bytes = take row.bytes bytes ∷ frames_from rows (drop row.bytes bytes)

-- the bytes of all frames of groups, in the order of their numbers
abbrev pub frames_of : List FrameGroup → List (List ℕ)
frames_of [] = []
frames_of (group ∷ groups) = frames_from group.table group.body ++ frames_of groups

-- The spots tell these frames.
abbrev pub TellFrames : {S : Type 0} → Ghosts S → List (Cell S) → List (List ℕ) → Type 0
TellFrames g cells frames = map (λ cell. g.content cell.spot) cells ≡ map Some frames

-- What a check asks of each frame.
use Rattle.std.specs.Prelude.{ℕ, ◌+◌, ◌⊎◌, nat_eq, List, [], ◌∷◌, ◌++◌, Bool, true, false, length, IfSome}
use Rattle.sx_bytes.specs.declared.damage.Damage.{Damage}
use Rattle.sx_log.specs.Kept.{listed}
use Rattle.sx_log.specs.declared.log.GroupRow.{GroupRow}
use Rattle.sx_log.specs.declared.log.Log.{Log}
use Rattle.sx_reader.specs.Frames.{BreaksFrame, BreaksHead, ExplainsRead}
use Rattle.sx_reader.specs.declared.cell.Cell.{Cell}
use Rattle.sx_view.specs.declared.fault.Fault.{Fault}
use Rattle.sx_volume.specs.declared.spot.Spot.{Ghosts}

-- Of the frames from this number on, so many: whether the node root leads there.
abbrev pub asked_from : {A : Type 0} → ℕ → ℕ → List A → List Bool
asked_from node_root number [] = []
asked_from node_root number (row ∷ rows) = nat_eq (number + 1) node_root ∷ asked_from node_root (number + 1) rows

-- Of each frame of groups, behind so many frames: whether the root of its own group leads there, and a whole document is asked for.
abbrev pub asked_in : ℕ → List GroupRow → List Bool
asked_in before [] = []
asked_in before (row ∷ rows) = asked_from row.root.node_root before row.table ++ asked_in (before + length row.table) rows

-- The bytes break a rule of what is asked: the frame of a whole document, or no more than a frame of that kind.
abbrev pub BreaksAsking : Bool → ℕ → List ℕ → List ℕ → Damage → Type 0
BreaksAsking true place digest bytes damage = BreaksFrame place digest bytes damage
BreaksAsking false place digest bytes damage = BreaksHead place digest bytes damage

-- Where its spot tells its bytes, they break no rule of what is asked of the cell.
abbrev pub KeepsAsking : {S : Type 0} → Ghosts S → Bool → Cell S → Type 0
KeepsAsking g whole cell =
    IfSome (g.content cell.spot) (λ bytes. (damage : Damage) → BreaksAsking whole cell.place cell.row.digest bytes damage → ⊥)

-- So it is for each of the cells, of which this is asked.
abbrev pub KeepEach : {S : Type 0} → Ghosts S → List Bool → List (Cell S) → Type 0
KeepEach g [] cells = Unit {0}
KeepEach g (whole ∷ asked) [] = Unit {0}
KeepEach g (whole ∷ asked) (cell ∷ cells) = KeepsAsking g whole cell × KeepEach g asked cells

-- The fault is that of some of the cells, of which this is asked.
abbrev pub ExplainsEach : {S : Type 0} → Ghosts S → Type 0 → Type 0 → List Bool → List (Cell S) → Fault → Type 0
ExplainsEach g tells rose [] cells fault = ⊥
ExplainsEach g tells rose (whole ∷ asked) [] fault = ⊥
ExplainsEach g tells rose (whole ∷ asked) (cell ∷ cells) fault =
    ExplainsRead g tells rose cell (BreaksAsking whole) fault ⊎ ExplainsEach g tells rose asked cells fault

-- No frame of the log whose spot tells its bytes breaks a rule of what is asked of it.
abbrev pub KeepAll : {S : Type 0} → Ghosts S → Log → List (Cell S) → Type 0
KeepAll g log cells = KeepEach g (asked_in 0 (listed log.groups)) cells

-- The fault is that of some frame of the log.
abbrev pub ExplainsSome : {S : Type 0} → Ghosts S → Type 0 → Type 0 → Log → List (Cell S) → Fault → Type 0
ExplainsSome g tells rose log cells fault = ExplainsEach g tells rose (asked_in 0 (listed log.groups)) cells fault

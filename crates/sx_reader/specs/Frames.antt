-- What is told of a frame that holds no whole document.
use Rattle.std.specs.Prelude.{ℕ, ◌≡◌, ◌≢◌, ◌<◌, ◌^◌, ◌⊎◌, List, length, IfSome}
use Rattle.sha2.specs.Sha256.{sha256}
use Rattle.sx_bytes.specs.Damage.{number_damage}
use Rattle.sx_bytes.specs.declared.damage.Damage.{Damage}
use Rattle.sx_frame.specs.Frame as frames
use Rattle.sx_frame.specs.Frame.{frame_bytes}
use Rattle.sx_frame.specs.Violation.{Violation, damage_at}
use Rattle.sx_frame.specs.declared.frame.Frame.{Frame}
use Rattle.sx_reader.specs.declared.cell.Cell.{Cell}
use Rattle.sx_reader.specs.declared.frame.TheConstants.{OTHER_KIND}
use Rattle.sx_view.specs.declared.fault.Fault.{Fault}
use Rattle.sx_view.specs.declared.fault.Fault.TheVariants.{Failed, Damaged, OutOfMemory}
use Rattle.sx_volume.specs.declared.spot.Spot.{Ghosts}
use Rattle.sx_whole.specs.Broken as wholes
use Rattle.sx_whole.specs.Stands.{whole_frame, whole_kind}

-- the bytes are this frame, and have the digest
abbrev pub IsFrame : List ℕ → List ℕ → Frame → Type 0
IsFrame digest bytes frame = (sha256 bytes ≡ digest) × (bytes ≡ frame_bytes frame)

-- rules 1 and 17: the digest is another one, or the length that is told is not that of the body
abbrev pub BreaksSpelling : ℕ → List ℕ → List ℕ → Damage → Type 0
BreaksSpelling place digest bytes damage = (violation : Violation) × frames.Breaks bytes digest violation × (damage ≡ damage_at place violation)

-- rule 16: the bytes are a frame of another kind than that of a whole document
abbrev pub BreaksKind : ℕ → List ℕ → List ℕ → Damage → Type 0
BreaksKind place digest bytes damage =
    (frame : Frame) × IsFrame digest bytes frame × (frame.kind ≢ whole_kind) × (damage ≡ number_damage place OTHER_KIND whole_kind frame.kind)

-- rules 1, 17 and 16
abbrev pub BreaksHead : ℕ → List ℕ → List ℕ → Damage → Type 0
BreaksHead place digest bytes damage = BreaksSpelling place digest bytes damage ⊎ BreaksKind place digest bytes damage

-- rules 20 and 21: the bytes are a frame of that kind, whose body is that of no document
abbrev pub BreaksBody : ℕ → List ℕ → List ℕ → Damage → Type 0
BreaksBody place digest bytes damage =
    (body : List ℕ) × (sha256 bytes ≡ digest) × (bytes ≡ whole_frame body) × wholes.Breaks place body damage

-- The damage is that of the first rule that is broken by the bytes at this place, whose table has this digest.
abbrev pub BreaksFrame : ℕ → List ℕ → List ℕ → Damage → Type 0
BreaksFrame place digest bytes damage =
    BreaksHead place digest bytes damage ⊎ BreaksBody place digest bytes damage

-- What is read of a cell where its end tells: bytes of the frame's length, and those of its spot where it tells them.
pub record IsReadOf {S : Type 0} (g : Ghosts S) (tells : Type 0) (cell : Cell S) (bytes : List ℕ) : Type 0 where
  pub long : length bytes ≡ g.count cell.spot
  pub fits : length bytes < 2 ^ 32
  pub told : tells → IfSome (g.content cell.spot) (λ all. bytes ≡ all)

-- The frame is that of bytes that were read.
abbrev pub IsFrameOf : {S : Type 0} → Ghosts S → Type 0 → Cell S → Frame → Type 0
IsFrameOf g tells cell frame = (bytes : List ℕ) × IsReadOf g tells cell bytes × IsFrame cell.row.digest bytes frame

-- Failed comes only where the end's faults rose, and damage is told only of bytes that were read and break a rule.
abbrev pub ExplainsRead : {S : Type 0} → Ghosts S → Type 0 → Type 0 → Cell S → (ℕ → List ℕ → List ℕ → Damage → Type 0) → Fault → Type 0
ExplainsRead g tells rose cell breaks Failed = rose
ExplainsRead g tells rose cell breaks (Damaged damage) =
    (bytes : List ℕ) × IsReadOf g tells cell bytes × breaks cell.place cell.row.digest bytes damage
ExplainsRead g tells rose cell breaks OutOfMemory = Unit {0}

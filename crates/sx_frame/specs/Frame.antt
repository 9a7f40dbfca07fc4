-- The one spelling of a frame, and what is told of bytes that are none.
use Rattle.std.specs.Prelude.{ℕ, ◌≡◌, ◌≢◌, ◌-◌, ◌⊎◌, List, ◌∷◌, ◌++◌, length, take, drop}
use Rattle.std.specs.Int.{to_be_bytes, from_be_bytes, w32}
use Rattle.sha2.specs.Sha256.{sha256}
use Rattle.sx_frame.specs.Violation.{Violation, damage_at, tell}
use Rattle.sx_frame.specs.declared.fault.FrameFault.{FrameFault}
use Rattle.sx_frame.specs.declared.fault.FrameFault.TheVariants.{Damaged, OutOfMemory}
use Rattle.sx_frame.specs.declared.frame.Frame.{Frame}

-- kind (1 byte), length of the body (4), body
abbrev pub frame_bytes : Frame → List ℕ
frame_bytes frame = frame.kind ∷ (to_be_bytes w32 (length frame.body) ++ frame.body)

-- the length of the body that the bytes of a frame tell
abbrev pub body_length : List ℕ → ℕ
body_length bytes = from_be_bytes w32 (take 4 (drop 1 bytes))

-- The first rule that is broken by bytes whose table has this digest: their digest is another one (rule 1), or the length that
-- they tell is not that of what stands behind the kind and the length (rule 17).
abbrev pub Breaks : List ℕ → List ℕ → Violation → Type 0
Breaks bytes digest violation =
    ((sha256 bytes ≢ digest) × (violation ≡ record { rule = 1; kept = digest; found = sha256 bytes }))
    ⊎ ((sha256 bytes ≡ digest) × (body_length bytes ≢ length bytes - 5) × (violation ≡ tell 17 (length bytes - 5) (body_length bytes)))

-- damage is that of the first rule that is broken
abbrev pub Explains : List ℕ → List ℕ → ℕ → FrameFault → Type 0
Explains bytes digest place (Damaged damage) = (violation : Violation) × Breaks bytes digest violation × (damage ≡ damage_at place violation)
Explains bytes digest place OutOfMemory = Unit {0}

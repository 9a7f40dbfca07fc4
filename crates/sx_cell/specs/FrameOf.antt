-- Which frame a spot and a digest name.
use Rattle.std.specs.Prelude.{ℕ, ◌≡◌, List, Option, IfSome}
use Rattle.sha2.specs.Sha256.{sha256}
use Rattle.sx_frame.specs.Frame.{frame_bytes}
use Rattle.sx_frame.specs.declared.frame.Frame.{Frame}

-- The frame has this digest and, where the bytes of the spot are told, is what they decode to.
abbrev pub IsFrameOf : Option (List ℕ) → List ℕ → Frame → Type 0
IsFrameOf content digest frame =
    (sha256 (frame_bytes frame) ≡ digest) × IfSome content (λ bytes. bytes ≡ frame_bytes frame)

-- A volume in memory behind a fuse, and what its calls make of it.
use Rattle.std.specs.Prelude.{ℕ, ◌≡◌, ◌-◌, ◌⊎◌, ◌==◌, if◌then◌else◌}
use Rattle.sx_volume.specs.Counts.{plus}
use Rattle.sx_volume.specs.Medium.{Medium}
use Rattle.sx_volume.specs.Tally.{FailsNext}

pub record Fuse : Type 0 where
  pub inner : Medium
  -- how many calls are passed on yet
  pub left : ℕ
  pub faults : ℕ
  pub bytes_read : ℕ

-- a call fails where no more are passed on, or where the volume behind the fuse fails it
abbrev pub Blows : Fuse → Type 0
Blows fuse = (fuse.left ≡ 0) ⊎ FailsNext fuse.inner.tally

-- after a call that was passed on and left the volume behind the fuse as this
abbrev pub passed : Fuse → Medium → Fuse
passed fuse medium = record fuse { inner = medium; left = fuse.left - 1 }

-- after a call that failed: it was not passed on, or it left the volume behind the fuse as this
abbrev pub blown : Fuse → Medium → Fuse
blown fuse medium = if fuse.left == 0 then record fuse { faults = plus fuse.faults 1 } else record (passed fuse medium) { faults = plus fuse.faults 1 }

-- after so many bytes more were to be read
abbrev pub reading : Fuse → ℕ → Fuse
reading fuse count = record fuse { bytes_read = plus fuse.bytes_read count }

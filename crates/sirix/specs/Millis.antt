-- Moments of the system's clock.
use Rattle.std.specs.Prelude.{◌/◌, ℤ, pos}
use Rattle.std.specs.Time.{system_time_nanos}
use Rattle.std.specs.declared.time.SystemTime.{SystemTime}

-- the whole milliseconds since the start of 1970 in UTC
abbrev pub millis_of : SystemTime → ℤ
millis_of now = pos (system_time_nanos now / 1_000_000)

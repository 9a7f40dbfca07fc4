-- A cut and a sync of a file in memory are those of a volume in memory over the same bytes and changes.
use Rattle.std.specs.Prelude.{None}
use Rattle.sx_volume.specs.Medium.{Medium}
use Rattle.sx_volume.specs.Stored.{Stored}

abbrev pub as_medium : Stored → Medium
as_medium file = record { first = file.first; changes = file.changes; held = None; spare = 0; tally = file.tally; bytes_read = 0 }

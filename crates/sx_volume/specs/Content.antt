-- What a volume in memory keeps of its bytes.
use Rattle.sx_volume.specs.Change.{Pending}
use Rattle.sx_volume.specs.declared.content.Content.{Content}

abbrev pub pending_in : Content → Pending
pending_in content = record { bytes = content.bytes.items; least = content.least; greatest = content.greatest; places = content.places.items; calm = content.calm }

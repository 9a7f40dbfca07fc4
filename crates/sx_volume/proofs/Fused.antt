-- What holds of a call behind the fuse holds of the call on the volume before it.
use Rattle.std.proofs.Common.{◌≡◌, subst, sym}
use Rattle.sx_volume.specs.Medium.{Medium}

pub moved : (P : Medium → Medium → Type 0) (inner old now new : Medium) → inner ≡ old → new ≡ now → P inner now → P old new
moved P inner old now new before after holds = subst (λ (m : Medium). P old m) (sym after) (subst (λ (m : Medium). P m now) before holds)

-- What opening leaves of a volume.
pub use Rattle.sx_log.specs.Calls.{HoldsSinceSync, IsSynced, IsSyncedOrNot, IsUnsynced}
pub use Rattle.sx_log.specs.Creating.{IsOther}
pub use Rattle.sx_log.specs.Opening.{Explains}
use Rattle.std.specs.Prelude.{◌≡◌, ◌⊎◌, Result, Ok, Err}
use Rattle.sx_layout.specs.Born as born
use Rattle.sx_layout.specs.Born.{Reading}
use Rattle.sx_log.specs.declared.fault.LogFault.{LogFault}
use Rattle.sx_log.specs.declared.fault.LogFault.TheVariants.{NotOurs, Unborn, Damaged}
use Rattle.sx_store.specs.Shows.{birth_in}
use Rattle.sx_store.specs.Sound.{IsLedgerOf}
use Rattle.sx_store.specs.declared.ledger.Ledger.{Ledger}
use Rattle.sx_volume.specs.declared.spot.Spot.{Ghosts}

-- The answer is that of the reading, unless a call failed or memory ran out.
abbrev pub IsGiven : {S : Type 0} → Ghosts S → Reading → Result (Ledger S) LogFault → Type 0
IsGiven g (born.Log birth groups) (Ok ledger) = (birth_in ledger ≡ birth) × IsLedgerOf g ledger groups
IsGiven g (born.Log birth groups) (Err fault) = IsOther fault
IsGiven g born.Unborn (Ok ledger) = ⊥
IsGiven g born.Unborn (Err fault) = (fault ≡ Unborn) ⊎ IsOther fault
IsGiven g (born.NotOurs first) (Ok ledger) = ⊥
IsGiven g (born.NotOurs first) (Err fault) = (fault ≡ NotOurs first) ⊎ IsOther fault
IsGiven g (born.Damaged damage) (Ok ledger) = ⊥
IsGiven g (born.Damaged damage) (Err fault) = (fault ≡ Damaged damage) ⊎ IsOther fault

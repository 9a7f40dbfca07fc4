-- Runs whose volume was not opened.
use Rattle.std.proofs.Common.{◌≡◌, ◌≢◌, ℕ, ℤ, ◌≤◌, ◌⊎◌, inl, inr, List, [], length, Option, None, Some, IfSome, Ok, refl, ap, sym, subst}
use Rattle.sx_bytes.specs.declared.damage.Damage.{Damage}
use Rattle.sx_layout.specs.Born as born
use Rattle.sx_layout.specs.Born.{Reading, Reads}
use Rattle.sx_log.specs.declared.fault.LogFault.{LogFault}
use Rattle.sx_log.specs.declared.fault.LogFault.TheVariants as faults
use Rattle.sx_model.specs.Commit.{Commit}
use Rattle.sx_run.specs.Client.{client_count}
use Rattle.sx_run.specs.Lines.{lines_of}
use Rattle.sx_run.specs.Run.{started}
use Rattle.sx_shell.proofs.Living.{MayBeOpened, refused_kept, refused_run}
use Rattle.sx_shell.specs.Live.{EndsAs, HasRun, IsKept, IsNoLog, IsWhole}
use Rattle.sx_shell.specs.Code.{status_of}
use Rattle.sx_shell.specs.Medium.{Medium}
use Rattle.sx_shell.specs.declared.status.Status.TheVariants as status
use Rattle.sx_store.specs.Opening.{Explains, IsGiven, IsOther}
use Rattle.sx_store.specs.declared.ledger.Ledger.{Ledger}
use Rattle.sx_volume.specs.declared.spot.Spot as spot
use Rattle.sx_volume.specs.declared.volume.Volume as volume
use Rattle.sx_whole.specs.Stands.{Stands}

-- what the status tells of damage
pub damaged_of : (bytes : Option (List ℕ)) (damage : Damage) (fault : LogFault) → Explains bytes fault → status_of fault ≡ status.Damaged damage → Explains bytes (faults.Damaged damage)
damaged_of bytes damage (faults.Damaged other) explains is =
    let same : other ≡ damage = cc is in subst (λ (d : Damage). Explains bytes (faults.Damaged d)) same explains
damaged_of bytes damage faults.Unborn explains is = cc is
damaged_of bytes damage faults.Failed explains is = cc is
damaged_of bytes damage faults.Born explains is = absurd explains
damaged_of bytes damage (faults.NotOurs other) explains is = cc is
damaged_of bytes damage faults.OutOfMemory explains is = cc is

-- the status is that of the reading
pub ends_as : (due fault : LogFault) → (fault ≡ due) ⊎ IsOther fault → EndsAs (status_of due) (status_of fault)
ends_as due fault (inl same) = inl (ap status_of same)
ends_as due fault (inr (inl failed)) = inr (inl (ap status_of failed))
ends_as due fault (inr (inr memory)) = inr (inr (ap status_of memory))

-- ---- what the run leaves

-- nothing was run
module _ {V S E : Type 0} (g : Medium V S E) (old mid : V) (image : List ℕ) (counts : (t : ℕ) (c : List ℕ) → t ≤ g.volume.moment mid → g.volume.is_image mid c → g.volume.was_image mid t c) where
  pub unopened_run : (ends : List E) (commits : List Commit) (moments : Option (List ℤ)) (input : List ℕ) (fault : LogFault) → length ends ≡ client_count → Stands image (Some g.birth) commits → IsOther fault
      → (fault ≢ faults.Failed → g.volume.bytes mid ≡ Some image) → MayBeOpened g.volume old mid image
      → HasRun g (record { old = old; new = mid; ends = ends; ends_after = ends }) (started commits moments) (record { input = input; left = input; written = [] }) (status_of fault)
  unopened_run ends commits moments input fault each stands (inl failed) bytes opened =
      subst (λ (f : LogFault). HasRun g (record { old = old; new = mid; ends = ends; ends_after = ends }) (started commits moments) (record { input = input; left = input; written = [] }) (status_of f)) (sym failed)
      (refused_run g old mid image counts ends commits moments input status.VolumeFault each stands tt (inl (refl, refl, refl)) (λ fine. absurd (fine refl)) opened)
  unopened_run ends commits moments input fault each stands (inr memory) bytes opened =
      subst (λ (f : LogFault). HasRun g (record { old = old; new = mid; ends = ends; ends_after = ends }) (started commits moments) (record { input = input; left = input; written = [] }) (status_of f)) (sym memory)
      (refused_run g old mid image counts ends commits moments input status.OutOfMemory each stands tt
      (record {
        mid = started commits moments;
        first = record { lines = []; more = lines_of input; lines_are = refl; items = []; items_are = tt; ran = (refl, refl) };
        last = inl refl;
      })
      (λ _. bytes (λ failed. cc (memory, failed))) opened)

module _ {V S E : Type 0} (g : volume.Ghosts V S E) (old mid : V) (image : List ℕ) (counts : (t : ℕ) (c : List ℕ) → t ≤ g.moment mid → g.is_image mid c → g.was_image mid t c) where
  pub unopened_kept : (fault : LogFault) → IsWhole image → IsOther fault → (fault ≢ faults.Failed → g.bytes mid ≡ g.bytes old) → MayBeOpened g old mid image → IsKept g old mid image (status_of fault)
  unopened_kept fault whole (inl failed) bytes opened =
      subst (λ (f : LogFault). IsKept g old mid image (status_of f)) (sym failed) (refused_kept g old mid image counts status.VolumeFault whole tt (λ fine. absurd (fine refl)) opened)
  unopened_kept fault whole (inr memory) bytes opened =
      subst (λ (f : LogFault). IsKept g old mid image (status_of f)) (sym memory) (refused_kept g old mid image counts status.OutOfMemory whole tt (λ _. bytes (λ failed. cc (memory, failed))) opened)

-- where the volume did not fail, memory ran out
pub complete_unopened : (fault : LogFault) → IsOther fault → fault ≢ faults.Failed → (status_of fault ≡ status.Done) ⊎ (status_of fault ≡ status.OutOfMemory)
complete_unopened fault (inl failed) fine = absurd (fine failed)
complete_unopened fault (inr memory) fine = inr (ap status_of memory)

-- ---- a volume that is read as no log

pub same_at : (P : List ℕ → Type 0) (o : Option (List ℕ)) → ((image : List ℕ) → P image) → IfSome o P
same_at P None holds = tt
same_at P (Some image) holds = holds image

pub unread : (o : Option (List ℕ)) (P : List ℕ → Type 0) → IfSome o P → IfSome o (λ image. (reading : Reading) → Reads image reading → IsNoLog reading → P image)
unread None P holds = tt
unread (Some image) P holds = λ reading reads none. holds

pub unread_never : {S : Type 0} (g : spot.Ghosts S) (o : Option (List ℕ)) (ledger : Ledger S) (P : List ℕ → Type 0) → IfSome o (λ image. (reading : Reading) → Reads image reading → IsGiven g reading (Ok ledger))
    → IfSome o (λ image. (reading : Reading) → Reads image reading → IsNoLog reading → P image)
unread_never {S} g None ledger P given = tt
unread_never {S} g (Some image) ledger P given = λ reading reads none. by reading (given reading reads) none
  where
    by : (reading : Reading) → IsGiven g reading (Ok ledger) → IsNoLog reading → P image
    by (born.Log birth groups) is none = absurd none
    by born.Unborn is none = absurd is
    by (born.NotOurs first) is none = absurd is
    by (born.Damaged damage) is none = absurd is

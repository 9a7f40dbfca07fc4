-- What a ledger that is sound has of its volume.
use Rattle.std.proofs.Common.{◌≡◌, List, [], Option, None, Some, IfSome, refl, sym, subst, append-nil, ℕ}
use Rattle.sx_layout.specs.Born.{HasLog}
use Rattle.sx_layout.specs.FrameGroup.{FrameGroup}
use Rattle.sx_run.specs.Run.{Book}
use Rattle.sx_store.proofs.Ledgers.{shown_groups}
use Rattle.sx_store.specs.Shows as store
use Rattle.sx_store.specs.Shows.{birth_in, stage_of}
use Rattle.sx_store.specs.Sound.{GrowsFrom, HasAll, IsKeptIn, IsLedgerOf, IsReadOf, IsSound}
use Rattle.sx_store.specs.declared.ledger.Ledger.{Ledger}
use Rattle.sx_volume.specs.declared.spot.Spot as spot
use Rattle.sx_volume.specs.declared.volume.Volume as volume
use Rattle.sx_whole.specs.Stands.{KeepsAll, Stands}

module _ {S : Type 0} (s : spot.Ghosts S) where
  pub grows_none : (ledger : Ledger S) → GrowsFrom s ledger ledger
  grows_none ledger = record { birth = refl; grown = λ groups is. ([], subst (λ (all : List FrameGroup). IsLedgerOf s ledger all) (sym (append-nil groups)) is) }

  pub keeps_all : (image : List ℕ) (ledger : Ledger S) (later : List ℕ) → IsReadOf s image ledger → HasAll s ledger later → KeepsAll image later
  keeps_all image ledger later read has =
      let all = has read.0.0 read.0.2 in (birth_in ledger, read.0.0, all.0, read.0.1, all.1)

module _ {V S E : Type 0} (g : volume.Ghosts V S E) (s : spot.Ghosts S) (volume : V) (ledger : Ledger S) where
  -- what the image has where the ledger shows a book
  stands_by : (book : Book) (image : List ℕ) → store.Shows s ledger book → (kept : IsKeptIn g s volume ledger) → HasLog image (birth_in ledger) kept.groups → Stands image (Some (birth_in ledger)) book.commits
  stands_by book image shows kept has = (kept.groups, has, shown_groups s ledger book kept.groups shows kept.is_of)

  pub bytes_stand : (book : Book) → IsSound g s volume ledger → store.Shows s ledger book → stage_of ledger ≡ None
      → IfSome (g.bytes volume) (λ all. Stands all (Some (birth_in ledger)) book.commits)
  bytes_stand book sound shows going = by (g.bytes volume) (sound.kept going) (λ kept. kept.keeps.bytes)
    where
      by : (bytes : Option (List ℕ)) → IfSome bytes (λ _. IsKeptIn g s volume ledger)
          → ((kept : IsKeptIn g s volume ledger) → IfSome bytes (λ all. HasLog all (birth_in ledger) kept.groups))
          → IfSome bytes (λ all. Stands all (Some (birth_in ledger)) book.commits)
      by None kept told = tt
      by (Some all) kept told = stands_by book all shows kept (told kept)

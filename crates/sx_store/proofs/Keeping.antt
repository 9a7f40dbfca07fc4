-- What stays of a ledger whose log, cells and stage are the same.
use Rattle.std.proofs.Common.{◌≡◌, ◌∙◌, ℕ, List, [], map, Option, IfSome, refl, ap, sym, subst, arith, append-nil}
use Rattle.std.specs.List.{AllByRecursion}
use Rattle.sx_layout.specs.Born.{HasLog}
use Rattle.sx_layout.specs.FrameGroup.{FrameGroup}
use Rattle.sx_log.specs.Committing.{KeepsLog, SameLog}
use Rattle.sx_log.specs.Creating as log
use Rattle.sx_log.specs.Kept.{IsLogOf}
use Rattle.sx_log.specs.declared.birth.Birth.{Birth as Names}
use Rattle.sx_log.specs.declared.log.Log.{Log}
use Rattle.sx_log.proofs.Finding.{if_told}
use Rattle.sx_reader.specs.Cells.{IsCell, TellFrames, frames_of, placed, placed_in}
use Rattle.sx_reader.specs.declared.cell.Cell.{Cell}
use Rattle.sx_store.specs.Shows.{stage_of}
use Rattle.sx_store.specs.Sound.{GrowsFrom, IsKeptIn, IsLedgerOf, IsSound, IsWhole}
use Rattle.sx_store.specs.declared.ledger.Ledger.{Ledger}
use Rattle.sx_volume.specs.declared.spot.Spot as spot
use Rattle.sx_volume.specs.declared.volume.Volume as volume

still : (old new : Log) (groups : List FrameGroup) → SameLog old new → IsLogOf old groups → IsLogOf new groups
still old new groups same is = record { rows = same.rows ∙ is.rows; end = same.end ∙ is.end }

keeps-same : {V S E : Type 0} (g : volume.Ghosts V S E) (volume : V) (old new : Log) (groups : List FrameGroup) → SameLog old new → KeepsLog g old volume groups → KeepsLog g new volume groups
keeps-same g volume old new groups same keeps = record {
  is_log = still old new groups same keeps.is_log;
  follow = keeps.follow;
  gate = omega (arith, keeps.gate, same.end);
  bytes = subst (λ (b : Names). IfSome (g.bytes volume) (λ all. HasLog all (log.birth_of b) groups)) (sym same.birth) keeps.bytes;
  images = subst (λ (b : Names). IfSome (g.bytes volume) (λ _. (image : List ℕ) → g.is_image volume image → HasLog image (log.birth_of b) groups)) (sym same.birth) keeps.images;
}

module _ {S : Type 0} (s : spot.Ghosts S) (old new : Ledger S) (log_same : SameLog old.log new.log) (cells : new.cells.items ≡ old.cells.items) where
  pub ledger-same : (groups : List FrameGroup) → IsLedgerOf s old groups → IsLedgerOf s new groups
  ledger-same groups is = record {
    is_log = still old.log new.log groups log_same is.is_log;
    bodies = is.bodies;
    follow = is.follow;
    frames = subst (λ (l : List (Cell S)). TellFrames s l (frames_of groups)) (sym cells) is.frames;
  }

  pub whole-same : IsWhole s old → IsWhole s new
  whole-same whole = record {
    groups = whole.groups;
    is_log = still old.log new.log whole.groups log_same whole.is_log;
    follow = whole.follow;
    cells = record {
      placed_are = ap (λ (l : List (Cell S)). map placed l) cells ∙ whole.cells.placed_are ∙ ap placed_in (sym log_same.rows);
      each = subst (λ (l : List (Cell S)). AllByRecursion (IsCell s) l) (sym cells) whole.cells.each;
    };
  }

  pub grows-same : GrowsFrom s old new
  grows-same = record {
    birth = ap (λ (b : Names). log.birth_of b) log_same.birth;
    grown = λ groups is. ([], subst (λ (l : List FrameGroup). IsLedgerOf s new l) (sym (append-nil groups)) (ledger-same groups is));
  }

  -- on a volume with the same bytes, where the log keeps its groups
  pub sound-held : {V E : Type 0} (g : volume.Ghosts V S E) (before after : V) → g.bytes after ≡ g.bytes before → g.size after ≡ g.size before → stage_of new ≡ stage_of old
      → ((groups : List FrameGroup) → KeepsLog g old.log before groups → KeepsLog g new.log after groups) → IsSound g s before old → IsSound g s after new
  sound-held g before after bytes size stage keeps sound = record {
    whole = whole-same sound.whole;
    gate = λ going. let below = sound.gate (sym stage ∙ going) in omega (arith, below, log_same.end, size);
    kept = λ going. subst (λ (b : Option (List ℕ)). IfSome b (λ _. IsKeptIn g s after new)) (sym bytes)
        (if_told (g.bytes before) (λ _. IsKeptIn g s before old) (λ _. IsKeptIn g s after new)
        (λ all is kept. record { groups = kept.groups; is_of = ledger-same kept.groups kept.is_of; keeps = keeps kept.groups kept.keeps }) (sound.kept (sym stage ∙ going)));
  }

  pub sound-same : {V E : Type 0} (g : volume.Ghosts V S E) (volume : V) → stage_of new ≡ stage_of old → IsSound g s volume old → IsSound g s volume new
  sound-same g volume stage sound = sound-held g volume volume refl refl stage (λ groups keeps. keeps-same g volume old.log new.log groups log_same keeps) sound

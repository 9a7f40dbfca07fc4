use Rattle.std.proofs.Common.{◌∙◌, refl, subst, List, Option, Some, IfSome, ℕ}
use Rattle.sx_layout.specs.Born.{Reading, Reads}
use Rattle.sx_log.specs.Opening.{IsGiven, IsOpened}
use Rattle.sx_reader.specs.Cells.{TellPieces}
use Rattle.sx_store.proofs.Begun.{below, given, other, read, shown, sound, starts, synced}
use Rattle.sx_store.proofs.opening.open_one.Goals as goal

pub returns-in_err-log-clause-undamaged : goal.returns-in_err-log-clause-undamaged
returns-in_err-log-clause-undamaged g c image birth commits is stands =
    other image birth commits c.open.result c.in_err-log.field-0.0 c.from_residual.result
    (subst (λ (o : Option (List ℕ)). IfSome o (λ image. (reading : Reading) → Reads image reading → IsGiven reading c.open.result)) is c.open.ensures.exactly)
    c.in_err-log.was c.from_residual.ensures.1 stands

pub cells_of-requires-clause-starts : goal.cells_of-requires-clause-starts
cells_of-requires-clause-starts g c = starts _ _ c.in_ok-log.log c.in_ok-log.ensures.log

pub cells_of-requires-clause-below : goal.cells_of-requires-clause-below
cells_of-requires-clause-below g c = below _ _ c.in_ok-log.log c.in_ok-log.ensures.log

pub returns-clause-exactly : goal.returns-clause-exactly
returns-clause-exactly g c =
    let told = subst (λ (o : Option (List ℕ)). TellPieces g.V.Spot.Spot o c.in_ok-cells.cells.items) (c.in_ok-drop_held.ensures.only.same_bytes ∙ c.in_ok-log.ensures.same_bytes) c.in_ok-cells.ensures.told in
    given g.V.Spot.Spot _ _ _ c.in_ok-log.ensures.log c.in_ok-cells.ensures.cells told

pub returns-clause-reads : goal.returns-clause-reads
returns-clause-reads g c =
    let told = subst (λ (o : Option (List ℕ)). TellPieces g.V.Spot.Spot o c.in_ok-cells.cells.items) (c.in_ok-drop_held.ensures.only.same_bytes ∙ c.in_ok-log.ensures.same_bytes) c.in_ok-cells.ensures.told in
    read g.V.Spot.Spot _ _ _ c.in_ok-log.ensures.log c.in_ok-cells.ensures.cells told refl

pub returns-clause-shows : goal.returns-clause-shows
returns-clause-shows g c image birth commits is stands =
    let told = subst (λ (o : Option (List ℕ)). TellPieces g.V.Spot.Spot o c.in_ok-cells.cells.items) (c.in_ok-drop_held.ensures.only.same_bytes ∙ c.in_ok-log.ensures.same_bytes) c.in_ok-cells.ensures.told in
    let opened = subst (λ (o : Option (List ℕ)). IsOpened o (g.V.Volume.size c.open.new.volume) c.in_ok-log.log) is c.in_ok-log.ensures.log in
    let pieces = subst (λ (o : Option (List ℕ)). TellPieces g.V.Spot.Spot o c.in_ok-cells.cells.items) is told in
    shown g.V.Spot.Spot image birth commits _ (given g.V.Spot.Spot (Some image) _ _ opened c.in_ok-cells.ensures.cells pieces) refl refl stands

pub returns-clause-sound : goal.returns-clause-sound
returns-clause-sound g c =
    let only = c.in_ok-drop_held.ensures.only in
    let mid = c.open.new.volume in
    let new = c.drop_held.new.volume in
    sound g.V.Volume g.V.Spot.Spot mid new _ _ _ c.in_ok-log.ensures.log c.in_ok-cells.ensures.cells c.in_ok-cells.ensures.told
    (only.same_bytes ∙ c.in_ok-log.ensures.same_bytes) only.same_size
    (λ image is. only.no_image_more image (g.met.V.Volume.counts_now new (g.V.Volume.moment mid) image only.time.later is)) c.in_ok-log.ensures.same_bytes c.in_ok-log.ensures.settled

pub returns-clause-synced : goal.returns-clause-synced
returns-clause-synced g c =
    synced g.V.Volume c.args.volume.now c.open.new.volume c.drop_held.new.volume _ c.in_ok-drop_held.ensures.only g.met.V.Volume.counts_now c.in_ok-log.ensures.synced

use Rattle.std.proofs.Common.{IsErr}
use Rattle.sx_log.proofs.Made.{empty_since, or_not, refused_since, taken_bytes, taken_images}
use Rattle.sx_log.specs.Calls.{IsUnsynced}
use Rattle.sx_log.specs.Creating.{IsEmptySince}
use Rattle.sx_log.proofs.creation.create.Goals as goal

pub returns-clause-empty : goal.returns-clause-empty
returns-clause-empty g c =
    let old = c.args.volume.now in
    let new = c.make_unborn.new.volume in
    or_not (g.V.Volume.bytes old) (λ image. IsEmptySince g.V.Volume old new) (IsErr c.make_unborn.result × IsUnsynced g.V.Volume old new)
    (empty_since g.V.Volume old c.begin.new.volume new c.in_ok-begin.ensures.same_bytes c.in_ok-begin.ensures.synced c.begin.ensures.images c.make_unborn.ensures.on.time c.make_unborn.ensures.images)

pub returns-clause-refused_images : goal.returns-clause-refused_images
returns-clause-refused_images g c =
    refused_since g.V.Volume c.args.volume.now c.begin.new.volume c.make_unborn.new.volume c.make_unborn.result c.in_ok-begin.ensures.same_bytes c.in_ok-begin.ensures.synced c.begin.ensures.images c.in_ok-begin.ensures.settled
    c.make_unborn.ensures.refused

pub returns-clause-same_bytes : goal.returns-clause-same_bytes
returns-clause-same_bytes g c = taken_bytes g.V.Volume c.args.volume.now c.begin.new.volume c.make_unborn.new.volume _ c.in_ok-begin.ensures.same_bytes c.make_unborn.ensures.taken

pub returns-clause-same_images : goal.returns-clause-same_images
returns-clause-same_images g c =
    taken_images g.V.Volume c.args.volume.now c.begin.new.volume c.make_unborn.new.volume c.in_ok-begin.ensures.same_bytes c.in_ok-begin.ensures.synced c.begin.ensures.images c.in_ok-begin.ensures.settled c.make_unborn.ensures.taken

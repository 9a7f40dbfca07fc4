use Rattle.std.proofs.Common.{IfSome, subst}
use Rattle.sx_log.proofs.Made.{never_taken, reads_unborn, then_unborn}
use Rattle.sx_log.specs.Finding.{Finds}
use Rattle.sx_log.specs.declared.reading.Finding.{Finding}
use Rattle.sx_log.proofs.creation.make_unborn.Goals as goal

pub returns-in-Born-clause-images : goal.returns-in-Born-clause-images
returns-in-Born-clause-images g c = reads_unborn (g.V.Volume.bytes c.args.volume.now) (g.V.Volume.is_image c.args.volume.now) (g.V.Volume.was_image c.find_birth.new.volume (g.V.Volume.moment c.args.volume.now)) c.requires.settled c.find_birth.ensures.kept.no_image_more

pub returns-in-NotOurs-clause-images : goal.returns-in-NotOurs-clause-images
returns-in-NotOurs-clause-images g c = reads_unborn (g.V.Volume.bytes c.args.volume.now) (g.V.Volume.is_image c.args.volume.now) (g.V.Volume.was_image c.find_birth.new.volume (g.V.Volume.moment c.args.volume.now)) c.requires.settled c.find_birth.ensures.kept.no_image_more

pub returns-in-Unborn-clause-images : goal.returns-in-Unborn-clause-images
returns-in-Unborn-clause-images g c =
    then_unborn (g.V.Volume.bytes c.args.volume.now) (g.V.Volume.bytes c.find_birth.new.volume) (g.V.Volume.moment c.args.volume.now) (g.V.Volume.moment c.find_birth.new.volume) (g.V.Volume.moment c.make.new.volume) (g.V.Volume.was_image c.find_birth.new.volume) (g.V.Volume.was_image c.make.new.volume) (g.V.Volume.synced c.find_birth.new.volume) (g.V.Volume.synced c.make.new.volume) c.find_birth.ensures.kept.same_bytes c.find_birth.ensures.kept.time.later
    (reads_unborn (g.V.Volume.bytes c.args.volume.now) (g.V.Volume.is_image c.args.volume.now) (g.V.Volume.was_image c.find_birth.new.volume (g.V.Volume.moment c.args.volume.now)) c.requires.settled c.find_birth.ensures.kept.no_image_more) c.make.ensures.images c.make.ensures.on.time

pub returns-in-Unborn-clause-taken : goal.returns-in-Unborn-clause-taken
returns-in-Unborn-clause-taken g c =
    let bytes = g.V.Volume.bytes c.args.volume.now in
    never_taken bytes _ (subst (λ (f : Finding). IfSome bytes (λ image. Finds image f)) c.in-Unborn.is c.in_ok-find_birth.ensures.found)

use Rattle.std.proofs.Common.{ap, refl}
use Rattle.sx_volume.proofs.Told.{told_cut, images_cut, no_sync_cut, time_cut}
use Rattle.sx_file.proofs.Cut.{as_medium}
use Rattle.sx_file.proofs.mem_file.MemFileFile.set_len.Goals as goal

pub returns-clause-cut : goal.returns-clause-cut
returns-clause-cut c = told_cut (as_medium c.args.self.now) (as_medium c.cut.new.self) c.args.len (ap as_medium c.in_ok-cut.ensures.done)

pub returns-clause-images : goal.returns-clause-images
returns-clause-images c = images_cut (as_medium c.args.self.now) (as_medium c.cut.new.self) c.args.len (ap as_medium c.in_ok-cut.ensures.done) (c.requires.place _ refl)

pub returns-clause-no_sync : goal.returns-clause-no_sync
returns-clause-no_sync c = no_sync_cut (as_medium c.args.self.now) (as_medium c.cut.new.self) c.args.len (ap as_medium c.in_ok-cut.ensures.done)

pub returns-clause-time : goal.returns-clause-time
returns-clause-time c = time_cut (as_medium c.args.self.now) (as_medium c.cut.new.self) c.args.len (ap as_medium c.in_ok-cut.ensures.done)

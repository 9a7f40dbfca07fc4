use Rattle.std.proofs.Common.{ap}
use Rattle.sx_volume.proofs.Told.{told_sync, durable_sync, images_sync, one_sync, time_sync}
use Rattle.sx_file.proofs.Cut.{as_medium}
use Rattle.sx_file.proofs.mem_file.MemFileFile.sync.Goals as goal

pub returns-clause-same_bytes : goal.returns-clause-same_bytes
returns-clause-same_bytes c = told_sync (as_medium c.args.self.now) (as_medium c.sync.new.self) (ap as_medium c.in_ok-sync.ensures.done)

pub returns-clause-durable : goal.returns-clause-durable
returns-clause-durable c = durable_sync (as_medium c.args.self.now) (as_medium c.sync.new.self) (ap as_medium c.in_ok-sync.ensures.done)

pub returns-clause-images : goal.returns-clause-images
returns-clause-images c = images_sync (as_medium c.args.self.now) (as_medium c.sync.new.self) (ap as_medium c.in_ok-sync.ensures.done)

pub returns-clause-synced : goal.returns-clause-synced
returns-clause-synced c = one_sync (as_medium c.args.self.now) (as_medium c.sync.new.self) (ap as_medium c.in_ok-sync.ensures.done)

pub returns-clause-time : goal.returns-clause-time
returns-clause-time c = time_sync (as_medium c.args.self.now) (as_medium c.sync.new.self) (ap as_medium c.in_ok-sync.ensures.done)

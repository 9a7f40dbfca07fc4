use Rattle.sx_volume.proofs.Told.{failed_append, told_append, size_append, images_append, no_sync_append, time_append}
use Rattle.sx_volume.proofs.mem_volume.MemVolumeVolume.append.Goals as goal

pub returns-in_err-append_held-clause-images : goal.returns-in_err-append_held-clause-images
returns-in_err-append_held-clause-images c = failed_append _ _ c.in_err-append_held.ensures.failed _

pub returns-clause-appended : goal.returns-clause-appended
returns-clause-appended c = told_append c.args.self.now c.append_held.new.self c.in_ok-append_held.ensures.done

pub returns-clause-longer : goal.returns-clause-longer
returns-clause-longer c = size_append c.args.self.now c.append_held.new.self c.in_ok-append_held.ensures.done

pub returns-clause-images : goal.returns-clause-images
returns-clause-images c = images_append c.args.self.now c.append_held.new.self c.in_ok-append_held.ensures.done c.in_ok-append_held.ensures.piece

pub returns-clause-no_sync : goal.returns-clause-no_sync
returns-clause-no_sync c = no_sync_append c.args.self.now c.append_held.new.self c.in_ok-append_held.ensures.done

pub returns-clause-time : goal.returns-clause-time
returns-clause-time c = time_append c.args.self.now c.append_held.new.self c.in_ok-append_held.ensures.done

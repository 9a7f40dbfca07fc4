use Rattle.sx_volume.proofs.Told.{failed_put, told_put, size_put, images_put, no_sync_put, time_put}
use Rattle.sx_volume.proofs.mem_volume.MemVolumeVolume.put_byte.Goals as goal

pub returns-in_err-put-clause-images : goal.returns-in_err-put-clause-images
returns-in_err-put-clause-images c = failed_put _ _ c.in_err-put.ensures.failed _

pub returns-clause-written : goal.returns-clause-written
returns-clause-written c = told_put _ _ _ _ c.in_ok-put.ensures.done

pub returns-clause-same_size : goal.returns-clause-same_size
returns-clause-same_size c = size_put _ _ _ _ c.in_ok-put.ensures.done

pub returns-clause-images : goal.returns-clause-images
returns-clause-images c = images_put _ _ _ _ c.in_ok-put.ensures.done c.requires.place c.ranges.byte.fits

pub returns-clause-no_sync : goal.returns-clause-no_sync
returns-clause-no_sync c = no_sync_put _ _ _ _ c.in_ok-put.ensures.done

pub returns-clause-time : goal.returns-clause-time
returns-clause-time c = time_put _ _ _ _ c.in_ok-put.ensures.done

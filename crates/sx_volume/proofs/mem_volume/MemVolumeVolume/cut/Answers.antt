use Rattle.sx_volume.proofs.Told.{failed_cut, told_cut, size_cut, images_cut, no_sync_cut, time_cut}
use Rattle.sx_volume.proofs.mem_volume.MemVolumeVolume.cut.Goals as goal

pub returns-in_err-cut_to-clause-images : goal.returns-in_err-cut_to-clause-images
returns-in_err-cut_to-clause-images c = failed_cut _ _ c.in_err-cut_to.ensures.failed _

pub returns-clause-cut : goal.returns-clause-cut
returns-clause-cut c = told_cut _ _ _ c.in_ok-cut_to.ensures.done

pub returns-clause-size : goal.returns-clause-size
returns-clause-size c = size_cut _ _ _ c.in_ok-cut_to.ensures.done c.requires.place

pub returns-clause-images : goal.returns-clause-images
returns-clause-images c = images_cut _ _ _ c.in_ok-cut_to.ensures.done c.requires.place

pub returns-clause-no_sync : goal.returns-clause-no_sync
returns-clause-no_sync c = no_sync_cut _ _ _ c.in_ok-cut_to.ensures.done

pub returns-clause-time : goal.returns-clause-time
returns-clause-time c = time_cut _ _ _ c.in_ok-cut_to.ensures.done

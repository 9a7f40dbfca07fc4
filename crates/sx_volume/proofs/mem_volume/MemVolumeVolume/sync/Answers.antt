use Rattle.sx_volume.proofs.Told.{failed_images, told_sync, size_sync, calm_sync, durable_sync, images_sync, one_sync, time_sync}
use Rattle.sx_volume.proofs.mem_volume.MemVolumeVolume.sync.Goals as goal

pub returns-in_err-keep-clause-images : goal.returns-in_err-keep-clause-images
returns-in_err-keep-clause-images c = failed_images _ _ c.in_err-keep.ensures.failed

pub returns-clause-same_bytes : goal.returns-clause-same_bytes
returns-clause-same_bytes c = told_sync _ _ c.in_ok-keep.ensures.done

pub returns-clause-calm : goal.returns-clause-calm
returns-clause-calm c = calm_sync _ _ c.in_ok-keep.ensures.done

pub returns-clause-same_size : goal.returns-clause-same_size
returns-clause-same_size c = size_sync _ _ c.in_ok-keep.ensures.done

pub returns-clause-durable : goal.returns-clause-durable
returns-clause-durable c = durable_sync _ _ c.in_ok-keep.ensures.done

pub returns-clause-images : goal.returns-clause-images
returns-clause-images c = images_sync _ _ c.in_ok-keep.ensures.done

pub returns-clause-synced : goal.returns-clause-synced
returns-clause-synced c = one_sync _ _ c.in_ok-keep.ensures.done

pub returns-clause-time : goal.returns-clause-time
returns-clause-time c = time_sync _ _ c.in_ok-keep.ensures.done

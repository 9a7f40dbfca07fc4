use Rattle.sx_shell.proofs.StillReadings.{empty-not, made-done, made-not, taken-err, taken-ok}
use Rattle.sx_shell.proofs.still_create.make.Goals as goal

pub returns-in-Ok-clause-made : goal.returns-in-Ok-clause-made
returns-in-Ok-clause-made g c = made-done (g.V.Volume.bytes c.args.volume.now) c.in-Ok.field-0 c.in-Ok.ensures.exactly

pub returns-in-Err-clause-made : goal.returns-in-Err-clause-made
returns-in-Err-clause-made g c = made-not (g.V.Volume.bytes c.args.volume.now) c.in-Err.fault c.status_of.result c.status_of.ensures c.in-Err.ensures.exactly

pub returns-in-Err-clause-empty : goal.returns-in-Err-clause-empty
returns-in-Err-clause-empty g c = empty-not _ _ _ _ (g.V.Volume.bytes c.args.volume.now) c.in-Err.fault c.status_of.result c.status_of.ensures c.in-Err.ensures.empty

pub returns-in-Ok-clause-taken : goal.returns-in-Ok-clause-taken
returns-in-Ok-clause-taken g c = taken-ok g.V.Volume c.args.volume.now c.create.new.volume c.in-Ok.field-0 (g.V.Volume.bytes c.args.volume.now) c.in-Ok.ensures.same_bytes c.in-Ok.ensures.same_images

pub returns-in-Err-clause-taken : goal.returns-in-Err-clause-taken
returns-in-Err-clause-taken g c = taken-err g.V.Volume c.args.volume.now c.create.new.volume c.in-Err.fault c.status_of.result (g.V.Volume.bytes c.args.volume.now) c.status_of.ensures c.in-Err.ensures.same_bytes c.in-Err.ensures.same_images

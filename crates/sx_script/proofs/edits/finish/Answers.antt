use Rattle.sx_script.specs.declared.heads.Head.TheVariants as heads
use Rattle.sx_script.proofs.EditEnds.{ends_as}
use Rattle.sx_script.proofs.edits.finish.Goals as goal

pub returns-in-Load : goal.returns-in-Load
returns-in-Load c = ends_as c.load.result c.args.head heads.Load c.args.rest.now c.in-Load.is c.load.ensures

pub returns-in-Insert : goal.returns-in-Insert
returns-in-Insert c = ends_as c.insert.result c.args.head (heads.Insert c.in-Insert.place) c.args.rest.now c.in-Insert.is c.insert.ensures

pub returns-in-Field : goal.returns-in-Field
returns-in-Field c = ends_as c.field.result c.args.head (heads.Field c.in-Field.place) c.args.rest.now c.in-Field.is c.field.ensures

pub returns-in-Set : goal.returns-in-Set
returns-in-Set c = ends_as c.set.result c.args.head (heads.Set c.in-Set.node) c.args.rest.now c.in-Set.is c.set.ensures

pub returns-in-Replace : goal.returns-in-Replace
returns-in-Replace c = ends_as c.replace.result c.args.head (heads.Replace c.in-Replace.node) c.args.rest.now c.in-Replace.is c.replace.ensures

pub returns-in-Rename : goal.returns-in-Rename
returns-in-Rename c = ends_as c.rename.result c.args.head (heads.Rename c.in-Rename.node) c.args.rest.now c.in-Rename.is c.rename.ensures

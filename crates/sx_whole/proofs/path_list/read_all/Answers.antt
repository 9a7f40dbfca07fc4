use Rattle.sx_view.specs.Slots.{held}
use Rattle.sx_whole.proofs.PathsRead.{paths-start, paths-more}
use Rattle.sx_whole.proofs.path_list.read_all.Goals as goal

pub loop-before-init : goal.loop-before-init
loop-before-init c = paths-start c.args.fields.now (held c.new-paths.result.slots.entries) c.new-paths.ensures.told

pub loop-before-preserved : goal.loop-before-preserved
loop-before-preserved c =
    paths-more c.args.fields.now c.loop-before.fields c.read_path.new.fields (held c.loop-before.paths.slots.entries) (held c.put.new.self.slots.entries) c.in_ok-path.path c.loop-before.before
    c.loop-before.invariant c.in_ok-path.ensures.found c.in_ok-path.ensures.known c.in_ok-put.ensures.ok

use Rattle.sx_view.specs.Rows.{row_of}
use Rattle.sx_axes.proofs.Starting.{starts, start_ready}
use Rattle.sx_axes.proofs.iterator.Walk.start.Goals as goal

pub returns-clause-starts : goal.returns-clause-starts
returns-clause-starts g c = starts _ _ _ _ (row_of c.args.told.now) _ c.requires.there c.start-course.ensures

pub returns-clause-ready : goal.returns-clause-ready
returns-clause-ready g c = start_ready _ _ _ _ (row_of c.args.told.now) _ c.requires.there c.start-course.ensures

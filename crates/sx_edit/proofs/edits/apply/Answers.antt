use Rattle.std.proofs.Common.{ap, arith}
use Rattle.sx_model.specs.Edit.{edit_of}
use Rattle.sx_edit.proofs.Results.{on_ok-then}
use Rattle.sx_edit.proofs.Answering.{settled-answers, settled-explains}
use Rattle.sx_edit.proofs.Getting.{settled-work}
use Rattle.sx_edit.proofs.edits.apply.Goals as goal

pub returns-clause-answers : goal.returns-clause-answers
returns-clause-answers g c =
    settled-answers _ _ _ _ _ _ c.settle.result c.change-outcome.result (g.met.N.RecordsMut.same_told _ _ c.begin.ensures.same) (ap (λ t. t.paths) c.begin-2.ensures) c.settle.ensures.same
    (on_ok-then c.settle.result _ _ (g.met.N.RecordsMut.same_told _ _) c.settle.ensures.kept) c.settle.ensures.kept_paths c.change-outcome.ensures.answers

pub returns-clause-fault : goal.returns-clause-fault
returns-clause-fault g c =
    settled-explains (edit_of c.args.edit.now) _ _ _ _ _ _ _ _ _ _ _ c.settle.result c.change-outcome.result (g.met.N.RecordsMut.same_told _ _ c.begin.ensures.same) (ap (λ t. t.paths) c.begin-2.ensures)
    (g.met.N.RecordsMut.same_base_damages _ _ c.begin.ensures.same_base) c.begin.ensures.never_falls c.settle.ensures.never_falls c.settle.ensures.same c.change-outcome.ensures.fault

pub returns-clause-work : goal.returns-clause-work
returns-clause-work g c =
    settled-work _ _ _ _ _ _ _ _ c.settle.result c.change-outcome.result (g.met.N.RecordsMut.same_told _ _ c.begin.ensures.same) c.begin.ensures.same_gets c.settle.ensures.same_gets c.settle.ensures.same c.change-outcome.ensures.work

pub returns-clause-same_base : goal.returns-clause-same_base
returns-clause-same_base g c =
    g.met.N.RecordsMut.same_base_then _ _ _ (g.met.N.RecordsMut.marks_same_base _ _ (c.change-outcome.ensures.goes_on.same_marked _ c.begin.ensures.marked)) c.settle.ensures.same_base

pub returns-clause-never_falls : goal.returns-clause-never_falls
returns-clause-never_falls g c = omega (arith, c.begin.ensures.never_falls, c.change-outcome.ensures.goes_on.never_falls, c.settle.ensures.never_falls)

use Rattle.std.proofs.Common.{None, refl}
use Rattle.sx_tree.specs.declared.edit.Place.TheVariants.{Last}
use Rattle.sx_tree.specs.Value.{value_of}
use Rattle.sx_model.specs.Edit.{insert, load, replace}
use Rattle.sx_edit.proofs.Going.{goes_itself}
use Rattle.sx_edit.proofs.Answering.{err-answers, err-explains_edit, later-explains_edit, untold-no_state}
use Rattle.sx_edit.proofs.Getting.{load-of_insert, load-of_replace}
use Rattle.sx_edit.proofs.Results.{if_err-then, on_ok-then}
use Rattle.sx_edit.proofs.DocumentChild.{load-as_insert, load-as_replace, load-inserts, load-replaces}
use Rattle.sx_edit.proofs.loading.load.Goals as goal

pub returns-in_err-child-clause-answers : goal.returns-in_err-child-clause-answers
returns-in_err-child-clause-answers g c =
    err-answers _ _ _ _ c.from_residual.result _ c.from_residual.ensures.1 (λ damaged. untold-no_state _ _ (c.in_err-child.ensures.untold damaged))

pub returns-in_err-child-clause-fault : goal.returns-in_err-child-clause-fault
returns-in_err-child-clause-fault g c =
    err-explains_edit g.N.Records.told g.N.Records.faults g.N.Records.damages g.N.RecordsMut.has_mark g.N.RecordsMut.marks (load (value_of c.args.value.now)) c.args.next c.args.paths.now.paths c.args.nodes.now c.args.nodes.now _ c.from_residual.result _ c.from_residual.ensures.1
    (goes_itself g.N.Records.told g.N.Records.faults g.N.Records.damages g.N.RecordsMut.has_mark g.N.RecordsMut.marks c.args.nodes.now) refl (c.in_err-child.ensures.fault c.args.next)

pub returns-in-Some-clause-answers : goal.returns-in-Some-clause-answers
returns-in-Some-clause-answers g c =
    load-replaces (value_of c.args.value.now) _ _ _ c.in_ok-child.ensures.child _ _ _ _ c.replace.result c.in_ok-child.ensures.same c.in-Some.is c.replace.ensures.answers

pub returns-in-None-clause-answers : goal.returns-in-None-clause-answers
returns-in-None-clause-answers g c =
    load-inserts (value_of c.args.value.now) _ _ _ c.in_ok-child.ensures.child _ _ _ c.insert.result c.in_ok-child.ensures.same c.in-None.is c.insert.ensures.answers

pub returns-in-Some-clause-fault : goal.returns-in-Some-clause-fault
returns-in-Some-clause-fault g c =
    if_err-then c.replace.result _ _ (λ e. load-as_replace (value_of c.args.value.now) c.args.next _ _ _ c.args.paths.now.paths (g.N.Records.damages c.args.nodes.now) _ e c.in_ok-child.ensures.child c.in-Some.is)
    (later-explains_edit g.N.Records.told g.N.Records.faults g.N.Records.damages g.N.RecordsMut.has_mark g.N.RecordsMut.marks (replace c.in-Some.child (value_of c.args.value.now)) c.args.next c.args.paths.now.paths c.args.nodes.now _ _ c.replace.result c.in_ok-child.ensures.goes_on c.in_ok-child.ensures.same c.replace.ensures.fault)

pub returns-in-None-clause-fault : goal.returns-in-None-clause-fault
returns-in-None-clause-fault g c =
    if_err-then c.insert.result _ _ (λ e. load-as_insert (value_of c.args.value.now) c.args.next _ _ c.args.paths.now.paths (g.N.Records.damages c.args.nodes.now) _ e c.in_ok-child.ensures.child c.in-None.is)
    (later-explains_edit g.N.Records.told g.N.Records.faults g.N.Records.damages g.N.RecordsMut.has_mark g.N.RecordsMut.marks (insert (Last 0) None (value_of c.args.value.now)) c.args.next c.args.paths.now.paths c.args.nodes.now _ _ c.insert.result c.in_ok-child.ensures.goes_on c.in_ok-child.ensures.same c.insert.ensures.fault)

pub returns-in-Some-clause-work : goal.returns-in-Some-clause-work
returns-in-Some-clause-work g c = on_ok-then c.replace.result _ _ (load-of_replace (value_of c.args.value.now) _ _ _ c.in_ok-child.ensures.same _ _ _ c.in_ok-child.ensures.gets _) c.replace.ensures.work

pub returns-in-None-clause-work : goal.returns-in-None-clause-work
returns-in-None-clause-work g c = on_ok-then c.insert.result _ _ (load-of_insert (value_of c.args.value.now) _ _ _ c.in_ok-child.ensures.same _ _ _ c.in_ok-child.ensures.gets) c.insert.ensures.work

use Rattle.std.proofs.Common.{refl, true, false}
use Rattle.sx_edit.proofs.Answering.{err-explains_edit}
use Rattle.sx_edit.proofs.Going.{goes_itself}
use Rattle.sx_edit.proofs.Inserting.{checks-fault, checks-passes}
use Rattle.sx_edit.proofs.insertion.check_children.Goals as goal

pub returns-in_err-node-clause-checks : goal.returns-in_err-node-clause-checks
returns-in_err-node-clause-checks g c = checks-fault _ _ _ _ _ c.from_residual.result c.from_residual.ensures.1 c.in_err-node.ensures.cannot

pub returns-in-Some-clause-checks : goal.returns-in-Some-clause-checks
returns-in-Some-clause-checks g c = checks-passes _ _ _ _ _ _ _ (rw c.in-Some.is at c.in_ok-node.ensures.found) refl refl

pub returns-then-is_full-clause-checks : goal.returns-then-is_full-clause-checks
returns-then-is_full-clause-checks g c = checks-passes _ _ _ _ _ true _ (rw c.in_default.is at c.in_ok-node.ensures.found) c.if-is_full.ensures refl

pub returns-clause-checks : goal.returns-clause-checks
returns-clause-checks g c = checks-passes _ _ _ _ _ false _ (rw c.in_default.is at c.in_ok-node.ensures.found) c.if-is_full.ensures refl

pub returns-in_err-node-clause-fault : goal.returns-in_err-node-clause-fault
returns-in_err-node-clause-fault g c =
    λ edit table. err-explains_edit g.N.Records.told g.N.Records.faults g.N.Records.damages g.N.RecordsMut.has_mark g.N.RecordsMut.marks edit c.args.next table c.args.nodes.now c.args.nodes.now _ c.from_residual.result _ c.from_residual.ensures.1
    (goes_itself g.N.Records.told g.N.Records.faults g.N.Records.damages g.N.RecordsMut.has_mark g.N.RecordsMut.marks c.args.nodes.now) refl c.in_err-node.ensures.fault

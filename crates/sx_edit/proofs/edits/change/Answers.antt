use Rattle.sx_edit.proofs.edits.change.Goals as goal

pub returns-in-SetScalar-clause-fault : goal.returns-in-SetScalar-clause-fault
returns-in-SetScalar-clause-fault g c = rw c.in-SetScalar.is (c.set_scalar.ensures.fault c.args.paths.now.paths)

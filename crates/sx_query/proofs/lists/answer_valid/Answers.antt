use Rattle.std.proofs.Common.{subst, FitsSigned, w64}
use Rattle.std.proofs.lemmas.Int.{to_z-of_z}
use Rattle.sx_valid.specs.Valid.{AreValid}
use Rattle.sx_query.proofs.OfNodes.{gives_fault, gives_valid}
use Rattle.sx_query.proofs.lists.answer_valid.Goals as goal

pub returns-in_err-valid-clause-gives : goal.returns-in_err-valid-clause-gives
returns-in_err-valid-clause-gives g c = gives_fault _ _ _ _ _ _ c.from_residual.ensures.1 c.in_err-valid.ensures.sound

pub returns-clause-gives : goal.returns-clause-gives
returns-clause-gives g c =
    let fits : FitsSigned w64 c.args.time = c.ranges.time in
    let about = c.args.about.now in
    let found = subst (λ t. AreValid (g.N.Records.told c.args.nodes.now) about.from.now about.to.now t c.in_ok-valid.valid) (to_z-of_z w64 c.args.time fits) c.in_ok-valid.ensures.valid in
    gives_valid _ c.args.about.now _ _ found

use Rattle.std.proofs.Common.{get_or, arith}
use Rattle.std.proofs.lemmas.Bool.{eqb-true, eq-eqb}
use Rattle.sx_script.proofs.Fronts.{front_at, front_all}
use Rattle.sx_script.proofs.words.front.Goals as goal

pub returns-in-Some-clause-front : goal.returns-in-Some-clause-front
returns-in-Some-clause-front c =
    let bytes = c.args.bytes.now in
    let first = c.in-Some.ensures in
    front_at c.args.end bytes c.in-Some.place first.0.high (λ k below same. first.0.before k (omega arith) below (eq-eqb (get_or bytes k 0) c.args.end same))
    (eqb-true (get_or bytes c.in-Some.place 0) c.args.end first.1)

pub returns-in-None-clause-front : goal.returns-in-None-clause-front
returns-in-None-clause-front c =
    let bytes = c.args.bytes.now in
    front_all c.args.end bytes (λ k below same. c.in-None.ensures k (omega arith) below (eq-eqb (get_or bytes k 0) c.args.end same))

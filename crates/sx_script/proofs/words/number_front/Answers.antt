use Rattle.sx_script.proofs.Found.{none_told}
use Rattle.sx_script.proofs.OneFront.{number_parts}
use Rattle.sx_script.proofs.words.number_front.Goals as goal

pub returns-in_default-clause-none : goal.returns-in_default-clause-none
returns-in_default-clause-none c = λ n rest begins.
    c.in_default.ensures.none rest (number_parts c.args.bytes.now c.front-digits.result.now n rest c.front-digits.ensures.front begins).1

pub returns-in-None-clause-none : goal.returns-in-None-clause-none
returns-in-None-clause-none c = λ n rest begins.
    none_told c.in_ok-n.field-0 _ c.in-None.is c.in_ok-n.ensures.none n
    (number_parts c.args.bytes.now c.front-digits.result.now n rest c.front-digits.ensures.front begins).0

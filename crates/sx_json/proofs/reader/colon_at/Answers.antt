use Rattle.std.proofs.Common.{ap, arith, length}
use Rattle.sx_json.proofs.StringTexts.{utf8_behind}
use Rattle.sx_json.proofs.reader.colon_at.Goals as goal

pub returns-in-Some-clause-goes_on : goal.returns-in-Some-clause-goes_on
returns-in-Some-clause-goes_on c =
    let g = c.skip_blanks-next.ensures.goes_on c.requires.utf8 in
    let h = c.skip_blanks-rest.ensures.goes_on (utf8_behind 58 c.skip_blanks-next.result.now c.in-Some.after.now (omega arith) c.in-Some.ensures g.0) in
    (h.0, omega (arith, h.1, g.1, ap length c.in-Some.ensures))

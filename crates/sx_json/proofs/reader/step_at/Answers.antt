use Rattle.std.proofs.Common.{ap, arith, length, refl}
use Rattle.sx_json.proofs.StringTexts.{utf8_behind}
use Rattle.sx_json.proofs.reader.step_at.Goals as goal

pub returns-in-Some-clause-ok : goal.returns-in-Some-clause-ok
returns-in-Some-clause-ok c =
    let next = c.skip_blanks-next in
    let rest = c.skip_blanks-rest in
    let g = next.ensures.goes_on c.requires.utf8 in
    let h = rest.ensures.goes_on (utf8_behind 44 next.result.now c.in-Some.after.now (omega arith) c.in-Some.ensures g.0) in (
      (next.result.now, next.ensures.skips, next.ensures.solid, (c.in-Some.after.now, c.in-Some.ensures, (rest.result.now, rest.ensures.skips, rest.ensures.solid, refl))),
      h.0,
      omega (arith, g.1, h.1, ap length c.in-Some.ensures),
    )

pub returns-in-Some-behind-clause-ok : goal.returns-in-Some-behind-clause-ok
returns-in-Some-behind-clause-ok c =
    let next = c.skip_blanks-next in
    let left = c.in-Some-behind in
    let g = next.ensures.goes_on c.requires.utf8 in (
      (next.result.now, next.ensures.skips, next.ensures.solid, left.ensures),
      (utf8_behind c.args.closing next.result.now left.left.now c.requires.small left.ensures g.0, omega (arith, g.1, ap length left.ensures)),
    )

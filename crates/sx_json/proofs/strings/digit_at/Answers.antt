use Rattle.std.proofs.Common.{◌≡◌, sym, subst, ◌∙◌, ◌∷◌}
use Rattle.sx_model.specs.Strings.{IsHexDigit}
use Rattle.sx_json.proofs.strings.digit_at.Goals as goal

pub returns-in-None-clause-err : goal.returns-in-None-clause-err
returns-in-None-clause-err c = λ digit left at.
    let same : c.in-Some.byte.now ∷ c.in-Some.left.now ≡ at.0 ∷ left = sym c.in-Some.ensures.cases.0 ∙ at.2 in
    let byte : c.in-Some.byte.now ≡ at.0 = cc in
    c.in-None.ensures.value digit (subst (λ b. IsHexDigit b digit) (sym byte) at.1)

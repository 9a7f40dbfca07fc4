use Rattle.std.proofs.Common.{◌≡◌, ◌∷◌, ◌∙◌, inl, inr, refl, sym, subst}
use Rattle.std.proofs.lemmas.Result.{err_from_is_err_and}
use Rattle.sx_model.specs.StringFaults.{LowFault}
use Rattle.sx_json.proofs.strings.low_at.Goals as goal

pub returns-clause-ok : goal.returns-clause-ok
returns-clause-ok c =
    let is : c.args.bytes.now ≡ 92 ∷ 117 ∷ c.in-Some-split_first.middle.now
    = c.in-Some.ensures.cases.0 ∙ rw (c.if-backslash-ne92.false, c.in-Some-split_first.ensures.cases.0, c.if-letter-ne117.false) in
    (c.in-Some-split_first.middle.now, is, c.in_ok-low.ensures.ok, (c.if-low-lt56320.false, c.if-low-gt57343.false))

pub returns-in_err-low-clause-fault : goal.returns-in_err-low-clause-fault
returns-in_err-low-clause-fault c =
    let is : c.args.bytes.now ≡ 92 ∷ 117 ∷ c.in-Some-split_first.middle.now
    = c.in-Some.ensures.cases.0 ∙ rw (c.if-backslash-ne92.false, c.in-Some-split_first.ensures.cases.0, c.if-letter-ne117.false) in
    let p = err_from_is_err_and c.from_residual.result c.from_residual.ensures.1 in
    rw (p.1, p.2) (subst (λ b. LowFault c.args.end c.args.start b c.in_err-low.field-0.0) (sym is) (inr (inr (refl, inr (inr (inl (refl, c.in_err-low.ensures.fault)))))))

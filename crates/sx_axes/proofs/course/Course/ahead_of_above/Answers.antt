use Rattle.std.proofs.Common.{arith, refl}
use Rattle.sx_view.specs.Rows.{row_of}
use Rattle.sx_axes.proofs.Passing.{above-more, above-passes, free-passes, low-ends, more_damaged, top-ends}
use Rattle.sx_axes.proofs.course.Course.ahead_of_above.Goals as goal

pub returns-then-not-goes_above-clause-advances : goal.returns-then-not-goes_above-clause-advances
returns-then-not-goes_above-clause-advances g c =
    let low = c.goes_above.ensures.low c.if-not-goes_above.true in
    low-ends _ _ c.requires.ahead c.requires.last low.0 low.1

pub returns-in_default-clause-advances : goal.returns-in_default-clause-advances
returns-in_default-clause-advances g c = top-ends _ _ c.requires.ahead c.requires.last (c.goes_above.ensures.on c.if-not-goes_above.false) c.in_default.is

pub returns-in_err-record-clause-beyond : goal.returns-in_err-record-clause-beyond
returns-in_err-record-clause-beyond g c =
    more_damaged _ _ _ c.from_residual.ensures.1
    (λ damage. above-more _ _ _ c.requires.ahead c.requires.last (c.goes_above.ensures.on c.if-not-goes_above.false) c.in-Some.is (c.in_err-record.ensures.none damage))

pub returns-then-self-eq0-clause-advances : goal.returns-then-self-eq0-clause-advances
returns-then-self-eq0-clause-advances g c =
    above-passes _ _ _ c.requires.ahead c.requires.last (c.goes_above.ensures.on c.if-not-goes_above.false) c.in-Some.is _ (row_of c.in_ok-record.record)
    c.in_ok-record.ensures.found c.if-self-eq0.true refl (omega (arith, c.in_ok-record.ensures.room, c.if-self-eq0.true)) refl

pub returns-clause-advances : goal.returns-clause-advances
returns-clause-advances g c =
    free-passes _ _ _ c.requires.ahead c.requires.last (c.goes_above.ensures.on c.if-not-goes_above.false) c.in-Some.is _ (row_of c.in_ok-record.record)
    c.in_ok-record.ensures.found (omega (arith, c.if-self-eq0.false)) refl refl refl

use Rattle.std.proofs.Common.{arith, refl}
use Rattle.sx_view.specs.Rows.{row_of}
use Rattle.sx_axes.proofs.Passing.{across-passes, ahead-more, down-passes, more_damaged, no_link, some_link}
use Rattle.sx_axes.proofs.course.Course.ahead.Goals as goal

pub returns-in_err-record-clause-beyond : goal.returns-in_err-record-clause-beyond
returns-in_err-record-clause-beyond g c =
    more_damaged _ _ _ c.from_residual.ensures.1 (λ damage. ahead-more _ _ _ c.requires.ahead c.in-Some.is (c.in_err-record.ensures.none damage))

pub returns-then-is_some-clause-advances : goal.returns-then-is_some-clause-advances
returns-then-is_some-clause-advances g c =
    down-passes _ _ _ c.requires.ahead _ (row_of c.in_ok-record.record) _ c.in-Some.is c.in_ok-record.ensures.found (some_link _ _ c.is_some.ensures c.if-is_some.true) refl
    (omega (arith, c.in_ok-record.ensures.room)) refl

pub returns-clause-advances : goal.returns-clause-advances
returns-clause-advances g c =
    across-passes _ _ _ c.requires.ahead _ (row_of c.in_ok-record.record) c.in-Some.is c.in_ok-record.ensures.found (no_link _ _ c.is_some.ensures c.if-is_some.false) refl
    (omega (arith, c.in_ok-record.ensures.room)) refl

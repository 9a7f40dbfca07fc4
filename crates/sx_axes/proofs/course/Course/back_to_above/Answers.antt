use Rattle.std.proofs.Common.{arith, refl}
use Rattle.sx_view.specs.Rows.{row_of}
use Rattle.sx_axes.proofs.Passing.{back-ends, before-more, before-passes, more_damaged, own-passes}
use Rattle.sx_axes.proofs.course.Course.back_to_above.Goals as goal

pub returns-in_default-clause-advances : goal.returns-in_default-clause-advances
returns-in_default-clause-advances g c = back-ends _ _ c.requires.back c.requires.first c.in_default.is

pub returns-in_err-record-clause-beyond : goal.returns-in_err-record-clause-beyond
returns-in_err-record-clause-beyond g c =
    more_damaged _ _ _ c.from_residual.ensures.1 (λ damage. before-more _ _ _ c.requires.back c.requires.first c.in-Some.is (c.in_err-record.ensures.none damage))

pub returns-then-self-eq0-clause-advances : goal.returns-then-self-eq0-clause-advances
returns-then-self-eq0-clause-advances g c =
    before-passes _ _ _ c.requires.back c.requires.first c.in-Some.is _ (row_of c.in_ok-record.record) c.in_ok-record.ensures.found c.if-self-eq0.true refl
    (omega (arith, c.in_ok-record.ensures.room, c.if-self-eq0.true)) refl

pub returns-clause-advances : goal.returns-clause-advances
returns-clause-advances g c =
    own-passes _ _ _ c.requires.back c.requires.first c.in-Some.is _ (row_of c.in_ok-record.record) c.in_ok-record.ensures.found (omega (arith, c.if-self-eq0.false)) refl refl refl

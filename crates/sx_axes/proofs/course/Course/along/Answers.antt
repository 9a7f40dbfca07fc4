use Rattle.std.proofs.Common.{arith, refl}
use Rattle.sx_view.specs.Rows.{row_of}
use Rattle.sx_axes.proofs.Passing.{along-ends, along-more, along-passes, more_damaged}
use Rattle.sx_axes.proofs.course.Course.along.Goals as goal

pub returns-in_default-clause-advances : goal.returns-in_default-clause-advances
returns-in_default-clause-advances g c = along-ends _ _ c.requires.along c.in_default.is

pub returns-in_err-record-clause-beyond : goal.returns-in_err-record-clause-beyond
returns-in_err-record-clause-beyond g c =
    more_damaged _ _ _ c.from_residual.ensures.1 (λ damage. along-more _ _ _ c.requires.along c.in-Some.is (c.in_err-record.ensures.none damage))

pub returns-clause-advances : goal.returns-clause-advances
returns-clause-advances g c =
    along-passes _ _ _ _ (row_of c.in_ok-record.record) c.requires.along c.in-Some.is c.in_ok-record.ensures.found refl (omega (arith, c.in_ok-record.ensures.room)) c.link-next.ensures.along

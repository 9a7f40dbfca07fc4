use Rattle.std.proofs.Common.{inl, inr}
use Rattle.std.proofs.lemmas.Result.{err_from_is_err_and}
use Rattle.sx_model.proofs.Units.{UnitAt-digits}
use Rattle.sx_json.proofs.strings.unit_at.Goals as goal

pub returns-clause-ok : goal.returns-clause-ok
returns-clause-ok c = UnitAt-digits _ _ _ _ _ _ _ _ _ c.in_ok-x.ensures.ok c.in_ok-y.ensures.ok c.in_ok-z.ensures.ok c.in_ok-w.ensures.ok

pub returns-in_err-z-clause-fault : goal.returns-in_err-z-clause-fault
returns-in_err-z-clause-fault c =
    let p = err_from_is_err_and c.from_residual-in_err-z.result c.from_residual-in_err-z.ensures.1 in
    rw (p.1, p.2) (inr (c.in_ok-x.x, c.in_ok-x.after_x.now, c.in_ok-x.ensures.ok, inr (c.in_ok-y.y, c.in_ok-y.after_y.now, c.in_ok-y.ensures.ok, inl (c.in_err-z.ensures.err, c.in_err-z.ensures.fault))))

pub returns-in_err-w-clause-fault : goal.returns-in_err-w-clause-fault
returns-in_err-w-clause-fault c =
    let p = err_from_is_err_and c.from_residual-in_err-w.result c.from_residual-in_err-w.ensures.1 in
    rw (p.1, p.2)
    (inr (c.in_ok-x.x, c.in_ok-x.after_x.now, c.in_ok-x.ensures.ok, inr (c.in_ok-y.y, c.in_ok-y.after_y.now, c.in_ok-y.ensures.ok, inr (c.in_ok-z.z, c.in_ok-z.after_z.now, c.in_ok-z.ensures.ok, inl (c.in_err-w.ensures.err, c.in_err-w.ensures.fault)))))

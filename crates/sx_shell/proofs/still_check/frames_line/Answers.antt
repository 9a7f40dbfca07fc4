use Rattle.std.proofs.Common.{◌≡◌, ◌∙◌, ap, sym, Err}
use Rattle.sx_outside.specs.Faults.{Rose}
use Rattle.sx_shell.proofs.StillChecks.{checked-damage, checked-failed, damage-some, rose-some}
use Rattle.sx_shell.specs.declared.status.Status.TheVariants.{Damaged, VolumeFault}
use Rattle.sx_shell.proofs.still_check.frames_line.Goals as goal

pub returns-in-Err-clause-undamaged : goal.returns-in-Err-clause-undamaged
returns-in-Err-clause-undamaged g c = λ tells book shows damage is.
    c.in-Err.ensures.undamaged tells book shows damage (ap Err (checked-damage c.in-Err.fault damage (sym c.unchecked_status.ensures ∙ is)))

pub returns-in-Err-clause-damaged : goal.returns-in-Err-clause-damaged
returns-in-Err-clause-damaged g c = λ damage is.
    let same : c.unchecked_status.result ≡ Damaged damage = cc is in
    damage-some g.S.Spot (g.E.ReadEnd.tells c.args.end.now) (Rose (g.E.ReadEnd.faults c.args.end.now) (g.E.ReadEnd.faults c.check.new.end)) c.args.ledger.now c.in-Err.fault damage
    (checked-damage c.in-Err.fault damage (sym c.unchecked_status.ensures ∙ same)) c.in-Err.ensures.explains

pub returns-in-Err-clause-cause : goal.returns-in-Err-clause-cause
returns-in-Err-clause-cause g c = λ is.
    let same : c.unchecked_status.result ≡ VolumeFault = cc is in
    rose-some g.S.Spot (g.E.ReadEnd.tells c.args.end.now) (Rose (g.E.ReadEnd.faults c.args.end.now) (g.E.ReadEnd.faults c.check.new.end)) c.args.ledger.now c.in-Err.fault
    (checked-failed c.in-Err.fault (sym c.unchecked_status.ensures ∙ same)) c.in-Err.ensures.explains

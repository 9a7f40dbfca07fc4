use Rattle.std.proofs.Common.{IfErr, IfOk, List, Option, subst, ℕ}
use Rattle.sx_log.proofs.Given.{all_given}
use Rattle.sx_log.specs.Opening.{Explains, IsOpened}
use Rattle.sx_log.proofs.opening.open.Goals as goal

pub returns-clause-exactly : goal.returns-clause-exactly
returns-clause-exactly g c =
    let bytes = g.V.Volume.bytes c.args.volume.now in
    let size : ℕ = g.V.Volume.size c.begin.new.volume in
    let opened = subst (λ (b : Option (List ℕ)). IfOk c.read_log.result (IsOpened b size)) c.in_ok-begin.ensures.same_bytes c.read_log.ensures.log in
    let explains = subst (λ (b : Option (List ℕ)). IfErr c.read_log.result (Explains b)) c.in_ok-begin.ensures.same_bytes c.read_log.ensures.explains in
    all_given bytes size c.read_log.result opened explains

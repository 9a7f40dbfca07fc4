use Rattle.std.proofs.Common.{◌∙◌, ap, arith, inl, inr, refl}
use Rattle.std.specs.Option.{option_copied}
use Rattle.sx_edit.proofs.Pathing.{counted-out, out-absent, out-none, row-none, row-some}
use Rattle.sx_edit.specs.Damage.{misplaced}
use Rattle.sx_edit.proofs.Drifting.{breach-lost, breach-spent, drifts-out, needs-value}
use Rattle.sx_edit.proofs.paths.count_out.Goals as goal

pub returns-in_default-clause-cannot : goal.returns-in_default-clause-cannot
returns-in_default-clause-cannot c = out-absent _ _ (row-none c.args.paths.now.paths c.args.path _ c.record.ensures (ap option_copied c.in_default.is))

pub returns-then-entry-eq0-clause-cannot : goal.returns-then-entry-eq0-clause-cannot
returns-then-entry-eq0-clause-cannot c = out-none _ _ _ (row-some c.args.paths.now.paths c.args.path _ _ c.record.ensures (ap option_copied c.in-Some.is)) c.if-entry-eq0.true

pub returns-clause-done : goal.returns-clause-done
returns-clause-done c = counted-out _ _ _ (ap (λ t. t.paths) c.count_out.ensures)

pub returns-in_default-clause-fault : goal.returns-in_default-clause-fault
returns-in_default-clause-fault c = λ o table reach plus visited own known value is comes drifts.
    breach-lost o table _ reach plus _ drifts c.args.node c.args.path _ (inr (needs-value o reach c.args.node c.args.node own _ known value is (inl refl))) (row-none c.args.paths.now.paths c.args.path _ c.record.ensures (ap option_copied c.in_default.is)) (c.misplaced.ensures ∙ ap (misplaced c.args.node) (omega arith))

pub returns-then-entry-eq0-clause-fault : goal.returns-then-entry-eq0-clause-fault
returns-then-entry-eq0-clause-fault c = λ o table reach plus visited own known value is comes drifts.
    breach-spent o table _ reach plus visited drifts c.args.node c.args.path own _ _ known value is comes (row-some c.args.paths.now.paths c.args.path _ _ c.record.ensures (ap option_copied c.in-Some.is)) c.if-entry-eq0.true c.misplaced-then-entry-eq0.ensures

pub returns-clause-drifts : goal.returns-clause-drifts
returns-clause-drifts c = drifts-out _ _ _ _ (row-some c.args.paths.now.paths c.args.path _ _ c.record.ensures (ap option_copied c.in-Some.is)) (ap (λ t. t.paths) c.count_out.ensures)

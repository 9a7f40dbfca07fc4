use Rattle.std.proofs.Common.{◌≡◌, ◌+◌, ◌∙◌, [], arith, ap}
use Rattle.std.specs.Prelude.{◌^◌}
use Rattle.std.specs.Option.{option_copied}
use Rattle.sx_edit.proofs.Pathing.{counted-in, in-absent, in-full, row-none, row-some}
use Rattle.sx_edit.specs.Damage.{misplaced}
use Rattle.sx_edit.proofs.Drifting.{breach-full, breach-lost, drifts-in, there-on, there-row}
use Rattle.sx_edit.proofs.paths.count_in.Goals as goal

pub returns-in_default-clause-cannot : goal.returns-in_default-clause-cannot
returns-in_default-clause-cannot c = in-absent _ _ (row-none c.args.paths.now.paths c.args.path _ c.record.ensures (ap option_copied c.in_default.is))

pub returns-then-count-clause-cannot : goal.returns-then-count-clause-cannot
returns-then-count-clause-cannot c = in-full _ _ _ (row-some c.args.paths.now.paths c.args.path _ _ c.record.ensures (ap option_copied c.in-Some.is)) (omega arith)

pub returns-clause-done : goal.returns-clause-done
returns-clause-done c = counted-in _ _ _ (ap (λ t. t.paths) c.count_in.ensures)

pub returns-in_default-clause-fault : goal.returns-in_default-clause-fault
returns-in_default-clause-fault c = λ o table reach plus minus came known before most few drifts.
    breach-lost o table _ reach plus minus drifts c.args.node c.args.path _ known (row-none c.args.paths.now.paths c.args.path _ c.record.ensures (ap option_copied c.in_default.is)) (c.misplaced.ensures ∙ ap (misplaced c.args.node) (omega arith))

pub returns-then-count-clause-fault : goal.returns-then-count-clause-fault
returns-then-count-clause-fault c = λ o table reach plus minus came known before most few drifts.
    let full : c.from-then-count.result + 1 ≡ 2 ^ 32 = omega arith in
    breach-full o table _ reach plus minus drifts c.args.node came c.args.path _ _ before most few (row-some c.args.paths.now.paths c.args.path _ _ c.record.ensures (ap option_copied c.in-Some.is)) (omega arith)
    (c.misplaced-then-count.ensures ∙ ap (misplaced c.args.node) full)

pub returns-clause-drifts : goal.returns-clause-drifts
returns-clause-drifts c = drifts-in _ _ _ (ap (λ t. t.paths) c.count_in.ensures)

pub returns-clause-there : goal.returns-clause-there
returns-clause-there c =
    there-on 1 [] c.args.paths.now.paths _ c.args.path (drifts-in _ _ _ (ap (λ t. t.paths) c.count_in.ensures))
    (there-row c.args.paths.now.paths c.args.path _ (row-some c.args.paths.now.paths c.args.path _ _ c.record.ensures (ap option_copied c.in-Some.is)))

use Rattle.std.proofs.Common.{◌∙◌, [], arith, ap, inl, inr}
use Rattle.sx_edit.proofs.Pathing.{memory-stops, onto-found, onto-full, onto-large, onto-low, onto-new, onto-orphan}
use Rattle.sx_edit.specs.Damage.{misplaced}
use Rattle.sx_edit.proofs.Drifting.{breach-low, breach-orphan, drifts-entered, drifts-itself, row-found, there-entered, there-row}
use Rattle.sx_edit.proofs.paths.step_onto.Goals as goal

pub returns-then-number-gt-LAST-clause-stops : goal.returns-then-number-gt-LAST-clause-stops
returns-then-number-gt-LAST-clause-stops c = onto-large _ _ _ _ c.find.ensures _ _ _ c.in-Some.is (omega arith)

pub returns-then-number-parent-clause-stops : goal.returns-then-number-parent-clause-stops
returns-then-number-parent-clause-stops c = onto-low _ _ _ _ c.find.ensures _ _ _ c.in-Some.is c.if-number-parent.true

pub returns-in-Some-clause-onto : goal.returns-in-Some-clause-onto
returns-in-Some-clause-onto c = onto-found _ _ _ _ c.find.ensures _ c.in-Some.is

pub returns-then-not-has_room-clause-stops : goal.returns-then-not-has_room-clause-stops
returns-then-not-has_room-clause-stops c =
    onto-full _ _ _ _ c.find.ensures _ c.in_default.is (c.has_room.ensures.full (cc))

pub enter-requires-clause-room : goal.enter-requires-clause-room
enter-requires-clause-room c = omega (arith, c.has_room.ensures.room (cc))

pub returns-clause-onto : goal.returns-clause-onto
returns-clause-onto c =
    onto-new _ _ _ _ c.find.ensures _ _ c.in_default.is (omega (arith, c.has_room.ensures.room (cc))) c.in_ok-enter.ensures.number
    (ap (λ t. t.paths) c.in_ok-enter.ensures.entered)

pub returns-in_err-enter-clause-stops : goal.returns-in_err-enter-clause-stops
returns-in_err-enter-clause-stops c = memory-stops _ _ _ _ c.from_residual.result c.from_residual.ensures.1

pub returns-clause-fits : goal.returns-clause-fits
returns-clause-fits c = omega (arith, c.in_ok-enter.ensures.number, c.has_room.ensures.room (cc))

pub returns-then-not-is_base-clause-stops : goal.returns-then-not-is_base-clause-stops
returns-then-not-is_base-clause-stops c = onto-orphan _ _ _ _ c.find.ensures _ _ (c.is_base.ensures.not_top (cc)) (c.is_base.ensures.absent (cc))

pub returns-then-number-parent-clause-fault : goal.returns-then-number-parent-clause-fault
returns-then-number-parent-clause-fault c = λ o table reach plus minus needs base drifts.
    let at = row-found _ _ c.args.paths.now.paths _ c.in-Some.number c.find.ensures c.in-Some.is in
    breach-low o table _ reach plus minus drifts c.args.node c.in-Some.number at.0 _ needs at.1.0 (inl (omega (arith, at.1.1))) (c.misplaced.ensures ∙ ap (misplaced c.args.node) (omega arith))

pub returns-then-number-gt-LAST-clause-fault : goal.returns-then-number-gt-LAST-clause-fault
returns-then-number-gt-LAST-clause-fault c = λ o table reach plus minus needs base drifts.
    let at = row-found _ _ c.args.paths.now.paths _ c.in-Some.number c.find.ensures c.in-Some.is in
    breach-low o table _ reach plus minus drifts c.args.node c.in-Some.number at.0 _ needs at.1.0 (inr (omega arith)) (c.misplaced-then-number-gt-LAST.ensures ∙ ap (misplaced c.args.node) (omega arith))

pub returns-in-Some-clause-there : goal.returns-in-Some-clause-there
returns-in-Some-clause-there c =
    let at = row-found _ _ c.args.paths.now.paths _ c.in-Some.number c.find.ensures c.in-Some.is in
    there-row c.args.paths.now.paths c.in-Some.number at.0 at.1.0

pub returns-in-Some-clause-drifts : goal.returns-in-Some-clause-drifts
returns-in-Some-clause-drifts c = drifts-itself 0 [] _

pub returns-then-not-is_base-clause-fault : goal.returns-then-not-is_base-clause-fault
returns-then-not-is_base-clause-fault c = λ o table reach plus minus needs base drifts.
    breach-orphan o table _ reach plus minus drifts c.args.node c.args.parent _ base (c.is_base.ensures.not_top (cc)) (c.is_base.ensures.absent (cc)) (c.misplaced-then-not-is_base.ensures ∙ ap (misplaced c.args.node) (omega arith))

pub returns-clause-drifts : goal.returns-clause-drifts
returns-clause-drifts c =
    drifts-entered _ _ c.args.paths.now.paths _ _ c.in_ok-enter.ensures.number (ap (λ t. t.paths) c.in_ok-enter.ensures.entered) (c.is_base.ensures.base (cc)) (omega (arith, c.in_ok-enter.ensures.number, c.has_room.ensures.room (cc)))

pub returns-clause-there : goal.returns-clause-there
returns-clause-there c = there-entered _ _ c.args.paths.now.paths _ _ c.in_ok-enter.ensures.number (ap (λ t. t.paths) c.in_ok-enter.ensures.entered)

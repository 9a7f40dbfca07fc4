use Rattle.std.proofs.Common.{◌≡◌, ◌+◌, ◌-◌, ◌≤◌, arith, length, ℕ, subst, List, take, drop}
use Rattle.sx_log.specs.Kept.{listed}
use Rattle.sx_outside.specs.Faults.{Rose}
use Rattle.sx_reader.specs.declared.cell.Cell.{Cell}
use Rattle.sx_reader.specs.Asked.{ExplainsEach, KeepEach, asked_from}
use Rattle.sx_reader.proofs.Checking.{each-sooner, err-again, explain-group, explain-later, group-long, keep-group, rose-sooner, there-in}
use Rattle.sx_reader.proofs.check.check_frames.Goals as goal

pub overflow_add-behind : goal.overflow_add-behind
overflow_add-behind g c =
    let rows = listed c.args.log.now.groups in
    let there = there-in c.as_slice-group-items.result.now rows c.loop-group.group-index c.group-item.result c.as_slice-group-items.ensures c.loop-group-test.true c.group-item.is in
    let long = group-long rows c.loop-group.group-index c.group-item.result there in
    omega (arith, long)

pub slice_bounds-check_group-end : goal.slice_bounds-check_group-end
slice_bounds-check_group-end g c =
    let rows = listed c.args.log.now.groups in
    let there = there-in c.as_slice-group-items.result.now rows c.loop-group.group-index c.group-item.result c.as_slice-group-items.ensures c.loop-group-test.true c.group-item.is in
    let long = group-long rows c.loop-group.group-index c.group-item.result there in
    omega (arith, long)

pub returns-in_err-check_group-clause-fault : goal.returns-in_err-check_group-clause-fault
returns-in_err-check_group-clause-fault g c =
    let rows = listed c.args.log.now.groups in
    let there = there-in c.as_slice-group-items.result.now rows c.loop-group.group-index c.group-item.result c.as_slice-group-items.ensures c.loop-group-test.true c.group-item.is in
    let long = group-long rows c.loop-group.group-index c.group-item.result there in
    let fits : c.loop-group.before + length c.group-item.result.table ≤ length c.args.cells.now = omega (arith, long, c.loop-group.invariant.fits) in
    let invariant = c.loop-group.invariant in
    let count : c.loop-group.before + c.len.result - c.loop-group.before ≡ length c.group-item.result.table = omega (arith, c.len.ensures) in
    let cells : ℕ → List (Cell _) = λ (n : ℕ). take n (drop c.loop-group.before c.args.cells.now) in
    let here = subst (λ (n : ℕ). ExplainsEach g.S.Spot (g.E.ReadEnd.tells c.loop-group.end) (Rose (g.E.ReadEnd.faults c.loop-group.end) (g.E.ReadEnd.faults c.check_group.new.end)) (asked_from c.group-item.result.root.node_root c.loop-group.before (cells n)) (cells n) c.in_err-check_group.field-0.0) count c.in_err-check_group.ensures.fault in
    err-again c.from_residual.result c.in_err-check_group.field-0.0 _ c.from_residual.ensures.1
    (invariant.fault (g.E.ReadEnd.faults c.check_group.new.end) c.in_err-check_group.field-0.0
    (explain-group g.S.Spot _ _ rows c.loop-group.group-index c.loop-group.before c.group-item.result c.args.cells.now c.in_err-check_group.field-0.0 there fits
    (each-sooner g.S.Spot _ _ _ _ _ _ c.in_err-check_group.field-0.0 invariant.telling (rose-sooner _ _ _ invariant.never_falls) here)))

pub loop-group-preserved : goal.loop-group-preserved
loop-group-preserved g c =
    let rows = listed c.args.log.now.groups in
    let there = there-in c.as_slice-group-items.result.now rows c.loop-group.group-index c.group-item.result c.as_slice-group-items.ensures c.loop-group-test.true c.group-item.is in
    let long = group-long rows c.loop-group.group-index c.group-item.result there in
    let fits : c.loop-group.before + length c.group-item.result.table ≤ length c.args.cells.now = omega (arith, long, c.loop-group.invariant.fits) in
    let count : c.loop-group.before + c.len.result - c.loop-group.before ≡ length c.group-item.result.table = omega (arith, c.len.ensures) in
    record {
      fits = omega (arith, long, c.loop-group.invariant.fits, c.len.ensures);
      telling = λ is. c.check_group.ensures.goes_on_telling (c.loop-group.invariant.telling is);
      never_falls = omega (arith, c.loop-group.invariant.never_falls, c.check_group.ensures.never_falls);
      kept = λ is rest. c.loop-group.invariant.kept is (keep-group g.S.Spot rows c.loop-group.group-index c.loop-group.before c.group-item.result c.args.cells.now there fits
          (subst (λ (n : ℕ). KeepEach g.S.Spot (asked_from c.group-item.result.root.node_root c.loop-group.before (take n (drop c.loop-group.before c.args.cells.now))) (take n (drop c.loop-group.before c.args.cells.now))) count
          (c.in_ok-check_group.ensures.kept (c.loop-group.invariant.telling is))) (rw (← c.len.ensures) rest));
      fault = λ n fault is. c.loop-group.invariant.fault n fault
          (explain-later g.S.Spot _ _ rows c.loop-group.group-index c.loop-group.before c.group-item.result c.args.cells.now fault there fits (rw (← c.len.ensures) is));
    }

use Rattle.std.proofs.Common.{◌≡◌, ◌+◌, ◌-◌, ◌∙◌, [], arith, refl, rules}
use Rattle.sx_view.specs.Rows.{row_of}
use Rattle.sx_edit.proofs.Going.{goes_itself, goes_then}
use Rattle.sx_edit.proofs.Climbing.{lifted-none, lifted-more}
use Rattle.sx_edit.proofs.Failing.{cannot-above, cannot-count}
use Rattle.sx_edit.proofs.Upward.{counted-pop, spent-count, upward-pop}
use Rattle.sx_edit.proofs.lift.lift.Goals as goal

pub loop-seen-init : goal.loop-seen-init
loop-seen-init g c = record {
  lifts = λ last is. is;
  cannot = λ is. is;
  counted = λ o reach all. all;
  same_gets = refl;
  goes_on = goes_itself g.N.Records.told g.N.Records.faults g.N.Records.damages g.N.RecordsMut.has_mark g.N.RecordsMut.marks c.args.nodes.now;
}

pub returns-in_default-fitting-clause-cannot : goal.returns-in_default-fitting-clause-cannot
returns-in_default-fitting-clause-cannot g c = λ _.
    c.loop-seen.invariant.cannot
    (cannot-count _ _ _ (row_of c.in-Some.seen.record) _ _ (upward-pop _ _ c.in-Some.seen c.in-Some.ensures.items) (λ enough fits. c.in_default-fitting.ensures.none (omega arith) (omega arith)))

pub returns-in_default-fitting-clause-fault : goal.returns-in_default-fitting-clause-fault
returns-in_default-fitting-clause-fault g c = λ o reach more all.
    spent-count o reach c.in-Some.seen _ _ _ _ (counted-pop o reach _ _ _ c.in-Some.seen c.in-Some.ensures.items (c.loop-seen.invariant.counted o reach all)).1 more (omega arith) c.in_default-fitting.ensures.spent c.misplaced.ensures

pub returns-in_default-fitting-clause-level : goal.returns-in_default-fitting-clause-level
returns-in_default-fitting-clause-level g c = λ plus minus. absurd (c.in_default-fitting.ensures.none (omega arith) (omega arith))

pub loop-seen-preserved : goal.loop-seen-preserved
loop-seen-preserved g c =
    let seen = c.in-Some.seen in
    let items = upward-pop _ _ seen c.in-Some.ensures.items in
    let descendants : c.in-Some-fitting.descendants ≡ seen.record.descendants + c.args.shift.plus - c.args.shift.minus = omega (arith, c.in-Some-fitting.ensures.some.0) in
    record {
      lifts = λ last rest. c.loop-seen.invariant.lifts last (lifted-more _ _ _ (row_of seen.record) _ _ _ _ _ _ _ last items refl (cc descendants) c.in_ok-write.ensures.ok rest);
      cannot = λ rest. c.loop-seen.invariant.cannot (cannot-above _ _ _ (row_of seen.record) _ _ items rest);
      counted = λ o reach all. (counted-pop o reach _ _ _ seen c.in-Some.ensures.items (c.loop-seen.invariant.counted o reach all)).0;
      same_gets = c.in_ok-write.ensures.same_gets ∙ c.loop-seen.invariant.same_gets;
      goes_on = goes_then g.N.Records.told g.N.Records.faults g.N.Records.damages g.N.RecordsMut.has_mark g.N.RecordsMut.marks _ _ _ c.loop-seen.invariant.goes_on c.in_ok-write.ensures.goes_on;
    }

pub returns-clause-done : goal.returns-clause-done
returns-clause-done g c =
    let none : c.loop-seen.left.items ≡ [] = search rules in
    c.loop-seen.invariant.lifts _ (rw none (lifted-none _ _ _ _))

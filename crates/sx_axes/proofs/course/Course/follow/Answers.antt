use Rattle.std.proofs.Common.{arith, rules, subst, []}
use Rattle.sx_axes.specs.Broken.{IsReady}
use Rattle.sx_axes.proofs.Passing.{ends-on, fault_after, more-on, more_damaged, passes-none, passes-on}
use Rattle.sx_axes.proofs.course.Course.follow.Goals as goal

pub loop-number-init : goal.loop-number-init
loop-number-init g c = record {
  same = search rules;
  keeps = search rules;
  never_falls = search rules;
  reads = search rules;
  less = search rules;
  axis = search rules;
  count = search rules;
  ready = c.requires.ready;
  ended = λ is. is;
  passes = passes-none _ _;
}

pub loop-number-preserved : goal.loop-number-preserved
loop-number-preserved g c = record {
  same = search rules;
  keeps = g.met.N.Records.keeps_then _ _ _ c.loop-number.invariant.keeps c.advance.ensures.keeps;
  never_falls = search rules;
  reads = search rules;
  less = omega (arith, c.loop-number.invariant.less, (rw c.in-Passed.is at c.in_ok-number.ensures.nearer));
  axis = search rules;
  count = search rules;
  ready = subst (λ x. IsReady x c.advance.new.self) c.loop-number.invariant.same c.in_ok-number.ensures.ready;
  ended = λ is. absurd (search rules);
  passes = passes-on _ _ _ _ c.loop-number.invariant.same c.loop-number.invariant.passes [] _ (rw c.in-Passed.is at c.in_ok-number.ensures.advances);
}

pub returns-in_err-number-clause-beyond : goal.returns-in_err-number-clause-beyond
returns-in_err-number-clause-beyond g c =
    more_damaged _ _ _ c.from_residual.ensures.1
    (λ damage. more-on _ _ _ _ c.loop-number.invariant.same c.loop-number.invariant.passes (c.in_err-number.ensures.beyond damage))

pub returns-in_err-number-clause-fault : goal.returns-in_err-number-clause-fault
returns-in_err-number-clause-fault g c =
    fault_after _ _ _ _ _ _ _ _ _ _ _ c.from_residual.ensures.1 (g.met.N.Records.keeps_damages _ _ c.loop-number.invariant.keeps) c.loop-number.invariant.same
    c.loop-number.invariant.count c.loop-number.invariant.never_falls c.in_err-number.ensures.fault

pub returns-in-Comes-clause-follows : goal.returns-in-Comes-clause-follows
returns-in-Comes-clause-follows g c =
    passes-on _ _ _ _ c.loop-number.invariant.same c.loop-number.invariant.passes _ _ (rw c.in-Comes.is at c.in_ok-number.ensures.advances)

pub returns-in-Ended-clause-follows : goal.returns-in-Ended-clause-follows
returns-in-Ended-clause-follows g c =
    ends-on _ _ _ _ c.loop-number.invariant.same c.loop-number.invariant.passes (rw c.in-Ended.is at c.in_ok-number.ensures.advances)

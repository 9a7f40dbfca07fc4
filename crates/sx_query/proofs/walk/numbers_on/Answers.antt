use Rattle.std.proofs.Common.{◌≡◌, ◌∙◌, subst, sym, arith, rules}
use Rattle.std.specs.Prelude.{IfErr}
use Rattle.sx_outside.specs.Faults.{Rose}
use Rattle.sx_axes.specs.Broken.{IsBroken}
use Rattle.sx_axes.specs.Gives.{Ends}
use Rattle.sx_axes.specs.Walk.{Starts}
use Rattle.sx_view.specs.Records.{Explains}
use Rattle.sx_query.proofs.Walking.{lists_all, passes_none, passes_step, step_fault, step_sound}
use Rattle.sx_query.proofs.walk.numbers_on.Goals as goal

pub loop-step-init : goal.loop-step-init
loop-step-init g c =
    let nodes : c.into_iter-step-iterator.result.records.now ≡ c.args.nodes.now = search rules in
    record {
      passes = passes_none _ _ _ c.new-numbers.ensures;
      count = search rules;
      lender = search rules;
      keeps = subst (g.N.Records.keeps c.args.nodes.now) (sym nodes) (g.met.N.Records.keeps_itself c.args.nodes.now);
      never_falls = search rules;
    }

pub loop-step-preserved : goal.loop-step-preserved
loop-step-preserved g c =
    let before = c.loop-step.invariant in
    let walks = c.in-Some.ensures.steps.1 in
    let told = g.met.N.Records.keeps_told _ _ before.keeps in
    record {
      passes = passes_step _ _ _ _ _ _ _ _ _ told c.in_ok-step.was c.in_ok-push.ensures.ok before.passes walks.gives;
      count = walks.count ∙ before.count;
      lender = c.in-Some.ensures.steps.0 ∙ before.lender;
      keeps = g.met.N.Records.keeps_then _ _ _ before.keeps walks.keeps;
      never_falls = omega (arith, before.never_falls, walks.never_falls);
    }

pub returns-in_err-step-clause-sound : goal.returns-in_err-step-clause-sound
returns-in_err-step-clause-sound g c =
    let before = c.loop-step.invariant in
    let told = g.N.Records.told c.args.nodes.now in
    let same : c.into_iter-step-iterator.result ≡ c.start-step-items.result = c.into_iter-step-iterator.ensures.into_iter_gives in
    let starts = subst (λ walk. Starts told c.args.axis c.args.node walk.course) (sym same) c.start-step-items.ensures.starts in
    let left : c.into_iter-step-iterator.result.course.left ≡ c.args.count = search rules in
    step_sound _ _ _ _ _ _ _ _ _ _ _ _ c.from_residual.ensures.1 c.in_err-step.was (g.met.N.Records.keeps_told _ _ before.keeps) left starts before.passes
    c.in-Some.ensures.steps.1.gives

pub returns-in_err-step-clause-fault : goal.returns-in_err-step-clause-fault
returns-in_err-step-clause-fault g c =
    let before = c.loop-step.invariant in
    let told = g.N.Records.told c.args.nodes.now in
    let rose = Rose (g.N.Records.faults c.args.nodes.now) (g.N.Records.faults c.next.new.self.records.now) in
    let fault : IfErr c.from_residual.result (Explains (g.N.Records.damages c.args.nodes.now) rose (IsBroken told c.args.count)) =
    step_fault _ _ _ _ _ _ _ _ _ _ _ _ c.from_residual.ensures.1 c.in_err-step.was (g.met.N.Records.keeps_damages _ _ before.keeps) (g.met.N.Records.keeps_told _ _ before.keeps) before.count before.never_falls
    c.in-Some.ensures.steps.1.fault in
    search (rules, fault)

pub returns-clause-lists : goal.returns-clause-lists
returns-clause-lists g c =
    let before = c.loop-step.invariant in
    let told = g.N.Records.told c.args.nodes.now in
    let same : c.into_iter-step-iterator.result ≡ c.start-step-items.result = c.into_iter-step-iterator.ensures.into_iter_gives in
    let starts = subst (λ walk. Starts told c.args.axis c.args.node walk.course) (sym same) c.start-step-items.ensures.starts in
    let ends = subst (λ x. Ends x c.loop-step.step-iterator.course) (g.met.N.Records.keeps_told _ _ before.keeps) c.in-None.ensures.steps.1.gives.0 in
    lists_all _ _ _ _ _ _ starts before.passes ends

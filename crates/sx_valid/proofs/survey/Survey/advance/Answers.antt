use Rattle.std.proofs.Common.{refl, subst, sym}
use Rattle.sx_valid.specs.Survey.{AreLinked, Outcome, Searches, SearchesFrom, overrun}
use Rattle.sx_view.proofs.Failing.{err-later}
use Rattle.sx_valid.specs.Valid.{IsBroken}
use Rattle.sx_valid.proofs.Failing.{broken_link_fault, damaged_on}
use Rattle.sx_valid.proofs.Searching.{link_fails, linked_split, no_visits, none_waits, nothing_left, popped}
use Rattle.sx_valid.proofs.survey.Survey.advance.Goals as goal

pub returns-in_default-clause-goes : goal.returns-in_default-clause-goes
returns-in_default-clause-goes g c =
    nothing_left _ _ _ c.args.self.now (none_waits _ _ _ c.in_default.ensures.cases.0 c.in_default.ensures.rest c.in_default.ensures.items) refl

pub returns-then-self-eq0-clause-goes : goal.returns-then-self-eq0-clause-goes
returns-then-self-eq0-clause-goes g c = λ _.
    popped _ _ _ (record c.args.self.now { pending = c.pop.new.self }) c.in-Some.field-0 _ c.in-Some.ensures.items refl refl refl (no_visits _ _ _ _ c.if-self-eq0.true)

pub returns-in_err-node-clause-goes : goal.returns-in_err-node-clause-goes
returns-in_err-node-clause-goes g c =
    link_fails _ _ _ _ _ _ (record c.args.self.now { pending = c.pop.new.self }) _ _ _ _ c.from_residual.ensures.1 (g.met.N.Records.untold _) c.in_err-node.ensures.fault
    (λ come. popped _ _ _ (record c.args.self.now { pending = c.pop.new.self }) c.in-Some.field-0 _ c.in-Some.ensures.items refl refl refl
    come)

pub returns-in_err-node-clause-fault : goal.returns-in_err-node-clause-fault
returns-in_err-node-clause-fault g c =
    let linked = (linked_split _ c.pop.new.self.items c.in-Some.field-0 (subst (AreLinked (g.N.Records.told c.args.records.now)) c.in-Some.ensures.items c.requires.linked)).1 in
    broken_link_fault _ _ _ _ _ _ _ _ linked c.from_residual.ensures.1 c.in_err-node.ensures.fault

pub enter-requires-clause-linked : goal.enter-requires-clause-linked
enter-requires-clause-linked g c =
    subst (λ x. AreLinked x c.pop.new.self.items) (sym c.read_linked.ensures.same)
    (linked_split _ c.pop.new.self.items c.in-Some.field-0 (subst (AreLinked (g.N.Records.told c.args.records.now)) c.in-Some.ensures.items c.requires.linked)).0

pub returns-in_err-enter-clause-goes : goal.returns-in_err-enter-clause-goes
returns-in_err-enter-clause-goes g c =
    damaged_on _ _ _ _ c.from_residual-in_err-enter.ensures.1
    (λ damaged. popped _ _ _ (record c.args.self.now { pending = c.pop.new.self }) c.in-Some.field-0 _ c.in-Some.ensures.items refl refl refl
    (subst (λ x. SearchesFrom x c.args.asked c.in-Some.field-0.to (record c.args.self.now { pending = c.pop.new.self }) overrun) c.read_linked.ensures.same (c.in_err-enter.ensures.goes damaged)))

pub returns-in_err-enter-clause-fault : goal.returns-in_err-enter-clause-fault
returns-in_err-enter-clause-fault g c =
    err-later _ (λ x. IsBroken x c.args.count) _ _ _ _ _ _ _ _ c.from_residual-in_err-enter.ensures.1 (g.met.N.Records.keeps_damages _ _ c.read_linked.ensures.keeps)
    c.read_linked.ensures.same c.read_linked.ensures.never_falls c.in_err-enter.ensures.fault

pub returns-clause-goes : goal.returns-clause-goes
returns-clause-goes g c = λ outcome come.
    popped _ _ _ (record c.args.self.now { pending = c.pop.new.self }) c.in-Some.field-0 outcome c.in-Some.ensures.items refl refl refl
    (subst (λ x. (all : Outcome) → Searches x c.args.asked c.enter.new.self all → SearchesFrom x c.args.asked c.in-Some.field-0.to (record c.args.self.now { pending = c.pop.new.self }) all)
    c.read_linked.ensures.same c.in_ok-enter.ensures.goes outcome come)

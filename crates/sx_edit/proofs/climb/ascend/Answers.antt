use Rattle.std.proofs.Common.{◌+◌, ◌-◌, ◌∙◌, [], ◌∷◌, ◌++◌, inr, subst, refl, arith}
use Rattle.sx_edit.specs.Damage.{to_parent}
use Rattle.sx_edit.specs.Links.{IsRecord, Walks, first_tops}
use Rattle.sx_edit.proofs.Visiting.{long-on, walks-endless, walks-on}
use Rattle.sx_edit.specs.Room.{CountsLevels}
use Rattle.sx_edit.proofs.Results.{err_again, pushed-length}
use Rattle.sx_edit.proofs.Going.{endless_explains, err-explains, goes_then, leads-parent, leads-reached, reached-one, reached-there}
use Rattle.sx_edit.proofs.Counting.{count-more, counts-absent, counts-all, counts-endless, counts-next}
use Rattle.sx_edit.proofs.Upward.{chain-end, chain-on}
use Rattle.sx_edit.proofs.climb.ascend.Goals as goal

pub read_linked-requires : goal.read_linked-requires
read_linked-requires g c = reached-one _ _ _ _ c.in-Some.is (reached-there _ _ _ _ c.loop-turn.invariant.same c.loop-turn.invariant.reached)

pub returns-in_default-clause-chain : goal.returns-in_default-clause-chain
returns-in_default-clause-chain g c = chain-end _ _ _ _ c.loop-turn.invariant.chains c.in_default.is

pub returns-in-None-clause-chain : goal.returns-in-None-clause-chain
returns-in-None-clause-chain g c = chain-end _ _ _ _ c.loop-turn.invariant.chains c.in-None.is

pub returns-in_default-clause-counted : goal.returns-in_default-clause-counted
returns-in_default-clause-counted g c = counts-all _ _ _ _ _ _ _ c.loop-turn.invariant.counts c.in_default.is

pub returns-in-None-clause-counted : goal.returns-in-None-clause-counted
returns-in-None-clause-counted g c = counts-all _ _ _ _ _ _ _ c.loop-turn.invariant.counts c.in-None.is

pub returns-in-Some-at-clause-cannot : goal.returns-in-Some-at-clause-cannot
returns-in-Some-at-clause-cannot g c = λ _. c.loop-turn.invariant.counts _ (counts-endless _ _ _ _ c.in-Some-at.is (omega arith))

pub returns-in-Some-at-clause-fault : goal.returns-in-Some-at-clause-fault
returns-in-Some-at-clause-fault g c =
    let met = c.loop-turn.invariant.met in
    endless_explains _ _ (g.N.Records.damages c.args.nodes.now) _ (inr (inr (walks-endless to_parent _ c.args.next c.args.node met.0 _ [] (subst (λ at. Walks to_parent (g.N.Records.told c.args.nodes.now) (first_tops c.args.node) met.0 (first_tops at)) c.in-Some-at.is met.1.0) (met.1.1 ∙ omega arith)))) c.endless.ensures

pub returns-in_err-record-clause-cannot : goal.returns-in_err-record-clause-cannot
returns-in_err-record-clause-cannot g c =
    err_again c.from_residual.result _ _ c.from_residual.ensures.1
    (λ is. c.loop-turn.invariant.counts _ (counts-absent _ _ _ _ c.in-Some.is (c.in_err-record.ensures.absent is)))

pub returns-in_err-record-clause-fault : goal.returns-in_err-record-clause-fault
returns-in_err-record-clause-fault g c =
    err-explains g.N.Records.told g.N.Records.faults g.N.Records.damages g.N.RecordsMut.has_mark g.N.RecordsMut.marks c.args.next _ c.loop-turn.nodes _ c.from_residual.result _ c.from_residual.ensures.1
    c.loop-turn.invariant.goes_on c.loop-turn.invariant.same (c.in_err-record.ensures.fault c.args.next)

pub loop-turn-preserved : goal.loop-turn-preserved
loop-turn-preserved g c =
    let told = g.N.Records.told in
    let inv = c.loop-turn.invariant in
    let record_is = c.in_ok-record.record in
    let there = subst (λ o. IsRecord o c.in-Some.number record_is) inv.same c.in_ok-record.ensures.found in
    record {
      chains = λ rest more. chain-on _ _ _ _ _ _ rest c.in-Some.is there c.in_ok-push_seen.ensures inv.chains more;
      counts = λ rest more. subst (CountsLevels c.args.node c.args.next (told c.args.nodes.now)) (count-more _ _ _ rest c.levels-count.ensures.is)
          (inv.counts _
          (counts-next _ _ _ _ record_is _ rest c.in-Some.is c.in_ok-record.ensures.found (omega arith)
          (subst (λ o. CountsLevels record_is.parent (c.args.next - (c.loop-turn._turn + 1)) o rest) c.in_ok-record.ensures.same more)));
      few = omega (arith, c.levels-count.ensures.few, inv.few);
      met = (
        inv.met.0 ++ record_is ∷ [],
        (
          walks-on to_parent _ _ inv.met.0 c.in-Some.number [] record_is (subst (λ at. Walks to_parent (g.N.Records.told c.args.nodes.now) (first_tops c.args.node) inv.met.0 (first_tops at)) c.in-Some.is inv.met.1.0) there,
          long-on inv.met.0 record_is _ inv.met.1.1,
        ),
      );
      reached = leads-reached (told c.args.nodes.now) c.in-Some.number record_is.parent (leads-parent (told c.args.nodes.now) c.in-Some.number record_is there record_is.parent refl);
      gets = omega (arith, inv.gets, c.in_ok-record.ensures.gets, pushed-length _ _ _ c.in_ok-push_seen.ensures);
      same = c.in_ok-record.ensures.same ∙ inv.same;
      goes_on = goes_then told g.N.Records.faults g.N.Records.damages g.N.RecordsMut.has_mark g.N.RecordsMut.marks _ _ _ inv.goes_on c.in_ok-record.ensures.goes_on;
    }

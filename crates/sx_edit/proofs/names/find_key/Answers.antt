use Rattle.std.proofs.Common.{◌+◌, ◌-◌, ◌∙◌, [], ◌∷◌, ◌++◌, inl, inr, refl, subst, arith}
use Rattle.sx_edit.specs.Damage.{to_right}
use Rattle.sx_edit.specs.Links.{IsRecord, Walks, first_tops}
use Rattle.sx_edit.proofs.Visiting.{long-on, walks-endless, walks-on}
use Rattle.sx_edit.specs.Gets.{GetsKeys}
use Rattle.sx_edit.specs.Names.{FindsKey}
use Rattle.sx_edit.proofs.Results.{err_again}
use Rattle.sx_edit.proofs.Going.{endless_explains, err-explains, goes_then, leads-one, leads-right, reached-parent}
use Rattle.sx_edit.proofs.Naming.{finds-none, finds-absent, finds-here, finds-next, finds-endless, keys-here, keys-next, keys-none}
use Rattle.sx_edit.proofs.names.find_key.Goals as goal

pub returns-in_default-clause-found : goal.returns-in_default-clause-found
returns-in_default-clause-found g c = c.loop-turn.invariant.finds _ (finds-none _ _ _ _ _ c.in_default.is)

pub returns-in-None-clause-found : goal.returns-in-None-clause-found
returns-in-None-clause-found g c = c.loop-turn.invariant.finds _ (finds-none _ _ _ _ _ c.in-None.is)

pub returns-in-Some-at-clause-cannot : goal.returns-in-Some-at-clause-cannot
returns-in-Some-at-clause-cannot g c = λ _. c.loop-turn.invariant.finds _ (finds-endless _ _ _ _ _ _ c.in-Some-at.is (omega arith))

pub returns-in_err-entry-clause-cannot : goal.returns-in_err-entry-clause-cannot
returns-in_err-entry-clause-cannot g c =
    err_again c.from_residual.result _ _ c.from_residual.ensures.1
    (λ is. c.loop-turn.invariant.finds _ (finds-absent _ _ _ _ _ _ c.in-Some.is (c.in_err-entry.ensures.absent is)))

pub returns-in_err-entry-clause-fault : goal.returns-in_err-entry-clause-fault
returns-in_err-entry-clause-fault g c =
    err-explains g.N.Records.told g.N.Records.faults g.N.Records.damages g.N.RecordsMut.has_mark g.N.RecordsMut.marks c.args.next _ c.loop-turn.nodes _ c.from_residual.result _ c.from_residual.ensures.1
    c.loop-turn.invariant.goes_on c.loop-turn.invariant.same (c.in_err-entry.ensures.fault c.args.next)

pub returns-then-is_named-clause-found : goal.returns-then-is_named-clause-found
returns-then-is_named-clause-found g c = c.loop-turn.invariant.finds _ (finds-here _ _ _ _ _ c.in_ok-entry.entry _ c.in-Some.is c.in_ok-entry.ensures.found (cc))

pub read_linked-requires : goal.read_linked-requires
read_linked-requires g c = reached-parent _ _ _ _ c.loop-turn.invariant.same (inl (leads-one _ _ _ _ c.in-Some.is c.loop-turn.invariant.lead))

pub returns-in-Some-at-clause-fault : goal.returns-in-Some-at-clause-fault
returns-in-Some-at-clause-fault g c =
    let met = c.loop-turn.invariant.met in
    endless_explains _ _ (g.N.Records.damages c.args.nodes.now) _ (inr (inl (walks-endless to_right _ c.args.next c.args.first met.0 _ [] (subst (λ at. Walks to_right (g.N.Records.told c.args.nodes.now) (first_tops c.args.first) met.0 (first_tops at)) c.in-Some-at.is met.1.0) (met.1.1 ∙ omega arith)))) c.endless.ensures

pub returns-in_default-clause-work : goal.returns-in_default-clause-work
returns-in_default-clause-work g c = c.loop-turn.invariant.work _ (keys-none _ _ _ _)

pub returns-in-None-clause-work : goal.returns-in-None-clause-work
returns-in-None-clause-work g c = c.loop-turn.invariant.work _ (keys-none _ _ _ _)

pub returns-then-is_named-clause-work : goal.returns-then-is_named-clause-work
returns-then-is_named-clause-work g c = c.loop-turn.invariant.work _ (keys-here _ _ _ _ _ _ c.in-Some.is c.in_ok-entry.ensures.gets)

pub loop-turn-preserved : goal.loop-turn-preserved
loop-turn-preserved g c =
    let told = g.N.Records.told in
    let met = c.loop-turn.invariant.met in
    let entry = c.in_ok-entry.entry in
    let there = subst (λ o. IsRecord o c.in-Some.number entry) c.loop-turn.invariant.same c.in_ok-entry.ensures.found in
    record {
      finds = λ answer rest. c.loop-turn.invariant.finds answer
          (finds-next _ _ _ _ _ _ c.in_ok-entry.entry _ answer c.in-Some.is c.in_ok-entry.ensures.found (cc) (omega arith)
          (subst (λ o. FindsKey c.args.except c.args.name.now c.in_ok-entry.entry.right (c.args.next - (c.loop-turn._turn + 1)) o answer) c.in_ok-entry.ensures.same rest));
      work = λ last rest. c.loop-turn.invariant.work last (keys-next _ _ _ _ c.in_ok-entry.entry _ _ _ last c.in-Some.is c.in_ok-entry.ensures.found (omega arith) c.in_ok-entry.ensures.gets
          (subst (λ o. GetsKeys c.in_ok-entry.entry.right (c.args.next - (c.loop-turn._turn + 1)) o (g.N.Records.gets c.read_linked.new.nodes) last) c.in_ok-entry.ensures.same rest));
      met = (
        met.0 ++ entry ∷ [],
        (
          walks-on to_right _ _ met.0 c.in-Some.number [] entry (subst (λ at. Walks to_right (g.N.Records.told c.args.nodes.now) (first_tops c.args.first) met.0 (first_tops at)) c.in-Some.is met.1.0) there,
          long-on met.0 entry _ met.1.1,
        ),
      );
      lead = leads-right (told c.args.nodes.now) c.in-Some.number c.in_ok-entry.entry (subst (λ o. IsRecord o c.in-Some.number c.in_ok-entry.entry) c.loop-turn.invariant.same c.in_ok-entry.ensures.found) c.in_ok-entry.entry.right refl;
      same = c.in_ok-entry.ensures.same ∙ c.loop-turn.invariant.same;
      goes_on = goes_then told g.N.Records.faults g.N.Records.damages g.N.RecordsMut.has_mark g.N.RecordsMut.marks _ _ _ c.loop-turn.invariant.goes_on c.in_ok-entry.ensures.goes_on;
    }

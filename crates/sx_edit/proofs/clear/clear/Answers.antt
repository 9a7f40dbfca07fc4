use Rattle.std.proofs.Common.{◌≡◌, ◌∙◌, [], ◌∷◌, ◌++◌, ap, arith, inl, refl, rules, subst, sym}
use Rattle.sx_edit.specs.Clear.{tops_of}
use Rattle.sx_edit.specs.Drift.{Drifts}
use Rattle.sx_edit.specs.Links.{IsRecord, Walks, first_tops, path_left, paths_left, preorder, with_top}
use Rattle.sx_edit.proofs.Results.{err_again, if_err-then, pushed-length}
use Rattle.sx_edit.proofs.Drifting.{drifts-itself, drifts-then}
use Rattle.sx_edit.proofs.Visiting.{comes-to, left-more, long-on, walks-endless, walks-on}
use Rattle.sx_edit.proofs.Going.{breach_explains, endless_explains, err-explains, goes_itself, goes_then, leads-first, leads-right, node-damage, nodes-explain, reached-parent}
use Rattle.sx_edit.proofs.Clearing.{discounted-cannot, discounted-none, discounted-step, discounted-stopped, walked-absent, walked-end, walked-on, walked-step, walked-stopped}
use Rattle.sx_edit.proofs.clear.clear.Goals as goal

pub read_linked-requires : goal.read_linked-requires
read_linked-requires g c = reached-parent _ _ _ _ c.loop-turn.invariant.same (inl (c.in-Some.ensures.lead _ c.loop-turn.invariant.lead).1)

pub returns-in_default-clause-walked : goal.returns-in_default-clause-walked
returns-in_default-clause-walked g c = walked-end _ _ _ _ _ _ _ c.loop-turn.invariant.walks c.in_default.ensures.none

pub returns-in-None-clause-walked : goal.returns-in-None-clause-walked
returns-in-None-clause-walked g c = walked-end _ _ _ _ _ _ _ c.loop-turn.invariant.walks c.in-None.ensures.none

pub returns-in_default-clause-discounted : goal.returns-in_default-clause-discounted
returns-in_default-clause-discounted g c = c.loop-turn.invariant.discounts _ (rw c.in_default.ensures.none (discounted-none _ _))

pub returns-in-None-clause-discounted : goal.returns-in-None-clause-discounted
returns-in-None-clause-discounted g c = c.loop-turn.invariant.discounts _ (rw c.in-None.ensures.none (discounted-none _ _))

pub returns-in_err-leave_path-clause-cannot : goal.returns-in_err-leave_path-clause-cannot
returns-in_err-leave_path-clause-cannot g c =
    err_again c.from_residual-in_err-leave_path.result _ _ c.from_residual-in_err-leave_path.ensures.1
    (λ is. c.loop-turn.invariant.discounts _ (rw c.in-Some.ensures.some (discounted-stopped _ _ _ _ c.in_ok-entry.entry _ _ c.in_ok-entry.ensures.found refl c.in_err-leave_path.ensures.cannot)))

pub returns-in_err-leave_path-clause-fault : goal.returns-in_err-leave_path-clause-fault
returns-in_err-leave_path-clause-fault g c =
    λ reach own next_is there first_is.
    let met = c.loop-turn.invariant.met in
    err_again c.from_residual-in_err-leave_path.result _ _ c.from_residual-in_err-leave_path.ensures.1 (breach_explains reach _ _ (g.N.Records.damages c.args.nodes.now) _ _
    (c.in_err-leave_path.ensures.fault (g.N.Records.told c.args.nodes.now) _ reach 0 met.0
    (subst (λ o. IsRecord o c.in-Some.link.to c.in_ok-entry.entry) c.loop-turn.invariant.same c.in_ok-entry.ensures.found)
    (comes-to _ reach.node own c.args.first met.0 c.in-Some.link.to _ _ there first_is met.1.0 c.in-Some.ensures.some) met.1.2))

pub returns-in_err-entry-clause-cannot : goal.returns-in_err-entry-clause-cannot
returns-in_err-entry-clause-cannot g c =
    err_again c.from_residual-in_err-entry.result _ _ c.from_residual-in_err-entry.ensures.1
    (λ is. c.loop-turn.invariant.discounts _ (rw c.in-Some.ensures.some (discounted-cannot _ _ _ (walked-absent _ _ _ _ (c.in_err-entry.ensures.absent is)))))

pub returns-in_err-entry-clause-fault : goal.returns-in_err-entry-clause-fault
returns-in_err-entry-clause-fault g c =
    λ reach own next_is there first_is.
    if_err-then c.from_residual-in_err-entry.result _ _ (λ fault. nodes-explain reach c.args.next _ _ (g.N.Records.damages c.args.nodes.now) _ fault next_is)
    (err-explains g.N.Records.told g.N.Records.faults g.N.Records.damages g.N.RecordsMut.has_mark g.N.RecordsMut.marks c.args.next _ c.loop-turn.nodes _ c.from_residual-in_err-entry.result _
    c.from_residual-in_err-entry.ensures.1 c.loop-turn.invariant.goes_on c.loop-turn.invariant.same (c.in_err-entry.ensures.fault c.args.next))

pub returns-in-Some-pop_link-clause-cannot : goal.returns-in-Some-pop_link-clause-cannot
returns-in-Some-pop_link-clause-cannot g c = λ _.
    c.loop-turn.invariant.discounts _ (discounted-cannot _ _ _ (walked-stopped _ _ _ _ _ c.in-Some-pop_link.ensures.some (omega arith)))

pub returns-in-Some-pop_link-clause-fault : goal.returns-in-Some-pop_link-clause-fault
returns-in-Some-pop_link-clause-fault g c = λ reach own next_is there first_is.
    let met = c.loop-turn.invariant.met in
    node-damage reach c.args.next _ _ (g.N.Records.damages c.args.nodes.now) _ next_is
    (endless_explains _ _ (g.N.Records.damages c.args.nodes.now) _ (inl (walks-endless preorder _ c.args.next c.args.first met.0 _ _ (subst (Walks preorder (g.N.Records.told c.args.nodes.now) (first_tops c.args.first) met.0) c.in-Some-pop_link.ensures.some met.1.0) (met.1.1 ∙ omega arith))) c.endless.ensures)

pub loop-turn-init : goal.loop-turn-init
loop-turn-init g c =
    let empty : c.new-left.result.items ≡ [] = search rules in
    record {
      walks = search rules;
      discounts = search rules;
      lead = search rules;
      met = ([], (sym (c.in_ok-push_link.ensures.tops ∙ ap (λ l. with_top c.args.first (tops_of l)) empty), refl, drifts-itself 0 [] _));
      gets = omega arith;
      same = refl;
      same_mark = refl;
      goes_on = goes_itself g.N.Records.told g.N.Records.faults g.N.Records.damages g.N.RecordsMut.has_mark g.N.RecordsMut.marks c.args.nodes.now;
    }

pub loop-turn-preserved : goal.loop-turn-preserved
loop-turn-preserved g c =
    let told = g.N.Records.told in
    let inv = c.loop-turn.invariant in
    let entry = c.in_ok-entry.entry in
    let there = subst (λ o. IsRecord o c.in-Some.link.to entry) inv.same c.in_ok-entry.ensures.found in
    let lead = (c.in-Some.ensures.lead _ inv.lead).0 in
    let tops = c.in_ok-push_link-3.ensures.tops ∙ ap (with_top entry.first) c.in_ok-push_link-2.ensures.tops in
    record {
      walks = λ rest more. walked-on _ _ _ _ _ _ rest c.in_ok-push_number.ensures
          (inv.walks _ (walked-step _ _ _ _ _ _ entry _ _ rest c.in-Some.ensures.some c.in_ok-entry.ensures.found (omega arith) tops c.in_ok-entry.ensures.same more));
      discounts = λ last rest. inv.discounts last
          (discounted-step _ _ _ _ _ _ entry _ _ _ _ last c.in-Some.ensures.some c.in_ok-entry.ensures.found (omega arith) tops c.in_ok-entry.ensures.same c.in_ok-leave_path.ensures.done rest);
      lead = c.in_ok-push_link-3.ensures.lead _ (leads-first (told c.args.nodes.now) c.in-Some.link.to entry there entry.first refl) (c.in_ok-push_link-2.ensures.lead _ (leads-right (told c.args.nodes.now) c.in-Some.link.to entry there entry.right refl) lead);
      met = (
        inv.met.0 ++ entry ∷ [],
        (
          subst (Walks preorder (told c.args.nodes.now) (first_tops c.args.first) (inv.met.0 ++ entry ∷ [])) (sym tops)
              (walks-on preorder _ _ inv.met.0 c.in-Some.link.to _ entry (subst (Walks preorder (g.N.Records.told c.args.nodes.now) (first_tops c.args.first) inv.met.0) c.in-Some.ensures.some inv.met.1.0) there),
          long-on inv.met.0 entry _ inv.met.1.1,
          subst (λ l. Drifts 0 l c.args.paths.now.paths c.leave_path.new.paths.paths) (sym (left-more inv.met.0 entry))
              (drifts-then 0 0 0 (paths_left inv.met.0) (path_left entry) (omega arith) _ _ _ inv.met.1.2 c.in_ok-leave_path.ensures.drifts),
        ),
      );
      gets = omega (arith, inv.gets, c.in_ok-entry.ensures.gets, pushed-length _ _ _ c.in_ok-push_number.ensures);
      same = c.in_ok-entry.ensures.same ∙ inv.same;
      same_mark = c.in_ok-leave_path.ensures.same_mark ∙ inv.same_mark;
      goes_on = goes_then told g.N.Records.faults g.N.Records.damages g.N.RecordsMut.has_mark g.N.RecordsMut.marks _ _ _ inv.goes_on c.in_ok-entry.ensures.goes_on;
    }

pub returns-in_default-clause-drifts : goal.returns-in_default-clause-drifts
returns-in_default-clause-drifts g c =
    let met = c.loop-turn.invariant.met in
    (met.0, (subst (Walks preorder (g.N.Records.told c.args.nodes.now) (first_tops c.args.first) met.0) c.in_default.ensures.none met.1.0, met.1.2))

pub returns-in-None-clause-drifts : goal.returns-in-None-clause-drifts
returns-in-None-clause-drifts g c =
    let met = c.loop-turn.invariant.met in
    (met.0, (subst (Walks preorder (g.N.Records.told c.args.nodes.now) (first_tops c.args.first) met.0) c.in-None.ensures.none met.1.0, met.1.2))

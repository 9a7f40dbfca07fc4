use Rattle.std.proofs.Common.{◌≡◌, [], ◌∷◌, ◌++◌, ◌∙◌, length, length-append, refl, ap, inl, rules, subst, sym, arith}
use Rattle.sx_model.specs.Edit.{rename}
use Rattle.sx_edit.specs.Damage.{reach_of}
use Rattle.sx_edit.specs.Drift.{Drifts}
use Rattle.sx_edit.specs.Links.{IsRecord, Walks, first_tops, path_left, paths_left, preorder, with_top}
use Rattle.sx_edit.specs.Repath.{AllLead, AllThere, goals_of, with_goal}
use Rattle.sx_edit.proofs.Clearing.{walked-end, walked-step}
use Rattle.sx_edit.proofs.Results.{err_again, if_err-then, pushed-length}
use Rattle.sx_edit.proofs.Going.{endless_explains, goes_itself, goes_then, leads-first, leads-right, node-damage, reached-parent}
use Rattle.sx_edit.proofs.Drifting.{all_there-on, drifts-itself, drifts-on, drifts-then, there-on}
use Rattle.sx_edit.proofs.Visiting.{comes-to, left-more, left-most, long-on, walks-endless, walks-on}
use Rattle.sx_edit.proofs.Answering.{err-explains_edit}
use Rattle.sx_edit.proofs.Stopping.{breach-edit_explains, fault-breach}
use Rattle.sx_edit.proofs.Repathing.{goal_tops, moved-on, start-moves, start-stops, start-walks, tops-goal, memory-stops_repathing, repathed-end, repathed-on, repathed-step, stops-step_on, turn-endless, turn-exchange, turn-fault, turn-memory, turn-under}
use Rattle.sx_edit.proofs.repath.repath.Goals as goal

pub returns-in_default-clause-done : goal.returns-in_default-clause-done
returns-in_default-clause-done g c = repathed-end _ _ _ _ _ _ _ c.loop-turn.invariant.moves c.in_default.ensures.none

pub returns-in-None-clause-done : goal.returns-in-None-clause-done
returns-in-None-clause-done g c = repathed-end _ _ _ _ _ _ _ c.loop-turn.invariant.moves c.in-None.ensures.none

pub read_linked-requires : goal.read_linked-requires
read_linked-requires g c = reached-parent _ _ _ _ c.loop-turn.invariant.same (inl (c.in-Some.ensures.lead _ c.loop-turn.invariant.lead).1)

pub returns-in_err-push_move-clause-stops : goal.returns-in_err-push_move-clause-stops
returns-in_err-push_move-clause-stops g c = err_again c.from_residual.result _ _ c.from_residual.ensures.1 (memory-stops_repathing _ _ _ _)

pub returns-in_err-push_move-2-clause-stops : goal.returns-in_err-push_move-2-clause-stops
returns-in_err-push_move-2-clause-stops g c = turn-memory _ _ _ _ _ _ _ c.loop-turn.invariant.stops c.from_residual-in_err-push_move-2.result c.from_residual-in_err-push_move-2.ensures.1

pub returns-in_err-push_move-3-clause-stops : goal.returns-in_err-push_move-3-clause-stops
returns-in_err-push_move-3-clause-stops g c = turn-memory _ _ _ _ _ _ _ c.loop-turn.invariant.stops c.from_residual-in_err-push_move-3.result c.from_residual-in_err-push_move-3.ensures.1

pub returns-in_err-record-clause-stops : goal.returns-in_err-record-clause-stops
returns-in_err-record-clause-stops g c =
    turn-fault _ _ _ _ _ _ _ c.loop-turn.invariant.stops _ _ c.from_residual-in_err-record.result _ c.in-Some.ensures.some c.from_residual-in_err-record.ensures.1 c.in_err-record.ensures.absent

pub returns-in_err-record-clause-fault : goal.returns-in_err-record-clause-fault
returns-in_err-record-clause-fault g c =
    λ table name own known first_is there drifts few. err-explains_edit g.N.Records.told g.N.Records.faults g.N.Records.damages g.N.RecordsMut.has_mark g.N.RecordsMut.marks (rename c.args.node name) c.args.next table _ c.loop-turn.nodes _ c.from_residual-in_err-record.result _
    c.from_residual-in_err-record.ensures.1 c.loop-turn.invariant.goes_on c.loop-turn.invariant.same (c.in_err-record.ensures.fault c.args.next)

pub returns-in_err-path-clause-stops : goal.returns-in_err-path-clause-stops
returns-in_err-path-clause-stops g c =
    turn-under _ _ _ _ _ _ _ c.loop-turn.invariant.stops _ _ _ c.in_ok-record.record c.from_residual-in_err-path.result _ c.in-Some.ensures.some c.from_residual-in_err-path.ensures.1 c.in_ok-record.ensures.found refl c.in_err-path.ensures.stops

pub returns-in_err-path-clause-fault : goal.returns-in_err-path-clause-fault
returns-in_err-path-clause-fault g c =
    λ table name own known first_is there drifts few.
    let met = c.loop-turn.invariant.met in
    err_again c.from_residual-in_err-path.result _ _ c.from_residual-in_err-path.ensures.1 (breach-edit_explains (rename c.args.node name) c.args.next _ table (g.N.Records.damages c.args.nodes.now) _ _
    (c.in_err-path.ensures.fault (g.N.Records.told c.args.nodes.now) table (reach_of (rename c.args.node name) c.args.next (g.N.Records.told c.args.nodes.now)) (length (paths_left met.0)) (paths_left met.0)
    (inl (c.in_ok-record.record, subst (λ o. IsRecord o c.in-Some.at.to c.in_ok-record.record) c.loop-turn.invariant.same c.in_ok-record.ensures.found))
    (c.in-Some.ensures.there _ (c.loop-turn.invariant.there there)).1
    (drifts-then 0 (length (paths_left met.0)) _ [] (paths_left met.0) (omega arith) _ _ _ drifts met.1.2)))

pub returns-in_err-change_path-clause-stops : goal.returns-in_err-change_path-clause-stops
returns-in_err-change_path-clause-stops g c =
    turn-exchange _ _ _ _ _ _ _ c.loop-turn.invariant.stops _ _ _ c.in_ok-record.record _ _ c.from_residual-in_err-change_path.result _ c.in-Some.ensures.some c.from_residual-in_err-change_path.ensures.1 c.in_ok-record.ensures.found refl
    c.in_ok-path.ensures.under c.in_err-change_path.ensures.cannot

pub returns-in_err-change_path-clause-fault : goal.returns-in_err-change_path-clause-fault
returns-in_err-change_path-clause-fault g c =
    λ table name own known first_is there drifts few.
    let met = c.loop-turn.invariant.met in
    let reach = reach_of (rename c.args.node name) c.args.next (g.N.Records.told c.args.nodes.now) in
    let long = left-most met.0 in
    let turns = met.1.1 in
    if_err-then c.from_residual-in_err-change_path.result _ _ (λ e breach. breach-edit_explains (rename c.args.node name) c.args.next _ table (g.N.Records.damages c.args.nodes.now) _ e breach)
    (fault-breach (g.N.Records.told c.args.nodes.now) table reach c.from_residual-in_err-change_path.result _ c.from_residual-in_err-change_path.ensures.1
    (c.in_err-change_path.ensures.fault _ table reach (length (paths_left met.0)) met.0 c.in_ok-record.record
    (subst (λ o. IsRecord o c.in-Some.at.to c.in_ok-record.record) c.loop-turn.invariant.same c.in_ok-record.ensures.found) refl refl
    (c.in_ok-path.ensures.there (c.in-Some.ensures.there _ (c.loop-turn.invariant.there there)).1)
    (comes-to _ c.args.node own c.args.first met.0 c.in-Some.at.to _ _ known first_is met.1.0 (ap goal_tops c.in-Some.ensures.some))
    (omega arith) (omega (arith, long, turns, few))
    (drifts-on (length (paths_left met.0)) 0 (length (paths_left met.0)) (paths_left met.0) _ _ _ (omega arith)
    (drifts-then 0 (length (paths_left met.0)) (length (paths_left met.0)) [] (paths_left met.0) (omega arith) _ _ _ drifts met.1.2) c.in_ok-path.ensures.drifts)))

pub returns-in_err-push_seen-clause-stops : goal.returns-in_err-push_seen-clause-stops
returns-in_err-push_seen-clause-stops g c = turn-memory _ _ _ _ _ _ _ c.loop-turn.invariant.stops c.from_residual-in_err-push_seen.result c.from_residual-in_err-push_seen.ensures.1

pub returns-in-Some-pop_move-clause-stops : goal.returns-in-Some-pop_move-clause-stops
returns-in-Some-pop_move-clause-stops g c = turn-endless _ _ _ _ _ _ _ c.loop-turn.invariant.stops _ _ _ c.in-Some-pop_move.ensures.some (omega arith)

pub returns-in-Some-pop_move-clause-fault : goal.returns-in-Some-pop_move-clause-fault
returns-in-Some-pop_move-clause-fault g c = λ table name own known first_is there drifts few.
    let met = c.loop-turn.invariant.met in
    node-damage _ c.args.next _ _ (g.N.Records.damages c.args.nodes.now) _ refl
    (endless_explains _ _ (g.N.Records.damages c.args.nodes.now) _ (inl (walks-endless preorder _ c.args.next c.args.first met.0 _ _ (subst (Walks preorder (g.N.Records.told c.args.nodes.now) (first_tops c.args.first) met.0) (ap goal_tops c.in-Some-pop_move.ensures.some) met.1.0) (met.1.1 ∙ omega arith))) c.endless.ensures)

pub loop-turn-init : goal.loop-turn-init
loop-turn-init g c =
    let goals = c.in_ok-push_move.ensures.goals in
    let empty : c.new-left.result.items ≡ [] = search rules in
    let none : c.new-moved.result.items ≡ [] = search rules in
    record {
      moves = λ last rest more. start-moves _ _ _ _ _ _ last _ _ _ rest goals empty none (omega arith) more;
      stops = λ e more. start-stops _ _ _ _ _ _ _ e _ _ goals empty (omega arith) more;
      walks = λ rest more. start-walks _ _ _ _ _ _ _ _ _ rest goals empty none (omega arith) more;
      lead = c.in_ok-push_move.ensures.lead _ c.requires (subst (AllLead (g.N.Records.told c.args.nodes.now)) (sym empty) tt);
      met = ([], (sym (ap goal_tops (goals ∙ ap (λ m. with_goal c.args.over.kind c.args.over.path c.args.first (goals_of m)) empty) ∙ tops-goal c.args.over.kind c.args.over.path c.args.first []), refl, drifts-itself 0 [] _));
      there = λ there. c.in_ok-push_move.ensures.there _ there (subst (AllThere c.args.paths.now.paths) (sym empty) tt);
      gets = omega arith;
      same = refl;
      same_mark = refl;
      goes_on = goes_itself g.N.Records.told g.N.Records.faults g.N.Records.damages g.N.RecordsMut.has_mark g.N.RecordsMut.marks c.args.nodes.now;
    }

pub returns-in_default-clause-walked : goal.returns-in_default-clause-walked
returns-in_default-clause-walked g c = walked-end _ _ _ _ _ _ _ c.loop-turn.invariant.walks (ap goal_tops c.in_default.ensures.none)

pub returns-in-None-clause-walked : goal.returns-in-None-clause-walked
returns-in-None-clause-walked g c = walked-end _ _ _ _ _ _ _ c.loop-turn.invariant.walks (ap goal_tops c.in-None.ensures.none)

pub loop-turn-preserved : goal.loop-turn-preserved
loop-turn-preserved g c =
    let told = g.N.Records.told in
    let inv = c.loop-turn.invariant in
    let entry = c.in_ok-record.record in
    let there = subst (λ o. IsRecord o c.in-Some.at.to entry) inv.same c.in_ok-record.ensures.found in
    let lead = (c.in-Some.ensures.lead _ inv.lead).0 in
    let goals = c.in_ok-push_move-3.ensures.goals ∙ ap (with_goal entry.kind c.in_ok-path.path entry.first) c.in_ok-push_move-2.ensures.goals in
    let changed = c.in_ok-change_path.ensures.drifts entry refl refl in
    let step = drifts-then 0 (length (path_left entry)) (length (path_left entry)) [] (path_left entry) (omega arith) _ _ _ c.in_ok-path.ensures.drifts changed in
    let met = inv.met in
    let tops = ap goal_tops goals ∙ tops-goal entry.kind c.in_ok-path.path entry.first _ ∙ ap (with_top entry.first) (tops-goal c.in-Some.at.over.kind c.in-Some.at.over.path entry.right _) in
    record {
      moves = λ last rest more. repathed-on _ _ _ last _ _ _ rest c.in_ok-push_seen.ensures
          (inv.moves last _
          (repathed-step _ _ _ _ _ _ entry _ _ _ _ _ _ _ last rest c.in-Some.ensures.some c.in_ok-record.ensures.found (omega arith) refl c.in_ok-path.ensures.under c.in_ok-change_path.ensures.done
          goals c.in_ok-record.ensures.same more));
      stops = λ e rest. inv.stops e
          (stops-step_on _ _ _ _ _ _ entry _ _ _ _ _ _ _ e c.in-Some.ensures.some c.in_ok-record.ensures.found (omega arith) c.in_ok-path.ensures.under c.in_ok-change_path.ensures.done
          goals c.in_ok-record.ensures.same rest);
      walks = λ rest more. moved-on _ _ _ _ _ _ rest c.in_ok-push_seen.ensures
          (inv.walks _ (walked-step _ _ _ _ _ _ entry _ _ rest (ap goal_tops c.in-Some.ensures.some) c.in_ok-record.ensures.found (omega arith)
          tops c.in_ok-record.ensures.same more));
      lead = c.in_ok-push_move-3.ensures.lead _ (leads-first (told c.args.nodes.now) c.in-Some.at.to entry there entry.first refl)
          (c.in_ok-push_move-2.ensures.lead _ (leads-right (told c.args.nodes.now) c.in-Some.at.to entry there entry.right refl) lead);
      met = (
        met.0 ++ entry ∷ [],
        (
          subst (Walks preorder (told c.args.nodes.now) (first_tops c.args.first) (met.0 ++ entry ∷ [])) (sym tops)
              (walks-on preorder _ _ met.0 c.in-Some.at.to _ entry (subst (Walks preorder (g.N.Records.told c.args.nodes.now) (first_tops c.args.first) met.0) (ap goal_tops c.in-Some.ensures.some) met.1.0) there),
          long-on met.0 entry _ met.1.1,
          subst (λ l. Drifts (length l) l c.args.paths.now.paths c.change_path.new.paths.paths) (sym (left-more met.0 entry))
              (drifts-then (length (paths_left met.0)) (length (path_left entry)) (length (paths_left met.0 ++ path_left entry)) (paths_left met.0) (path_left entry) (omega (arith, length-append (paths_left met.0) (path_left entry))) _ _ _ met.1.2 step),
        ),
      );
      there = λ start.
          let at = c.in-Some.ensures.there _ (inv.there start) in
          c.in_ok-push_move-3.ensures.there _ (there-on _ _ _ _ _ changed (c.in_ok-path.ensures.there at.1))
          (c.in_ok-push_move-2.ensures.there _ (there-on _ _ _ _ _ step at.1) (all_there-on _ _ _ _ _ step at.0));
      gets = omega (arith, inv.gets, c.in_ok-record.ensures.gets, pushed-length _ _ _ c.in_ok-push_seen.ensures);
      same = c.in_ok-record.ensures.same ∙ inv.same;
      same_mark = c.in_ok-change_path.ensures.same_mark ∙ c.in_ok-path.ensures.same_mark ∙ inv.same_mark;
      goes_on = goes_then told g.N.Records.faults g.N.Records.damages g.N.RecordsMut.has_mark g.N.RecordsMut.marks _ _ _ inv.goes_on c.in_ok-record.ensures.goes_on;
    }

use Rattle.std.proofs.Common.{◌∙◌, refl, sym, arith}
use Rattle.std.specs.Option.{option_copied}
use Rattle.sx_tree.specs.Value.{value_of}
use Rattle.sx_edit.specs.Fill.{enters}
use Rattle.sx_edit.specs.Pathways.{kept}
use Rattle.sx_edit.proofs.Results.{err_again}
use Rattle.sx_edit.proofs.Filling.{IsEntered, down-entering, filled, growing-stops, memory-stops_filling, mending-stops}
use Rattle.sx_edit.proofs.Answering.{breach-broken, broken-edit}
use Rattle.sx_edit.proofs.fill.fill.Goals as goal

pub overflow_add-tree : goal.overflow_add-tree
overflow_add-tree g c = omega (arith, c.requires.room, down-entering _ _ _ _ c.in_ok-top.top c.in_ok-top.ensures.top)

pub returns-in_err-top-clause-stops : goal.returns-in_err-top-clause-stops
returns-in_err-top-clause-stops g c =
    err_again c.from_residual.result _ _ c.from_residual.ensures.1
    (growing-stops _ _ _ _ (enters (option_copied c.args.name) (value_of c.args.value.now) c.args.path c.args.had) (kept (g.N.Records.told c.args.nodes.now) c.args.paths.now.paths) _ c.in_err-top.ensures.stops)

pub returns-in_err-top-clause-fault : goal.returns-in_err-top-clause-fault
returns-in_err-top-clause-fault g c = λ o table reach minus next_is more rim leaving known drifts.
    err_again c.from_residual.result _ _ c.from_residual.ensures.1 (breach-broken o table reach _ (c.in_err-top.ensures.fault o table reach minus next_is more known drifts))

pub returns-in_err-mend-clause-fault : goal.returns-in_err-mend-clause-fault
returns-in_err-mend-clause-fault g c = λ o table reach minus next_is more rim leaving known drifts.
    err_again c.from_residual-in_err-mend.result _ _ c.from_residual-in_err-mend.ensures.1
    (broken-edit o table reach _ (c.in_err-mend.ensures.fault o reach (down-entering _ _ _ _ c.in_ok-top.top c.in_ok-top.ensures.top ∙ sym more) leaving rim))

pub returns-in_err-add-clause-stops : goal.returns-in_err-add-clause-stops
returns-in_err-add-clause-stops g c = memory-stops_filling _ _ _ _ _ _ c.from_residual-in_err-add.result c.from_residual-in_err-add.ensures.1

pub returns-in_err-mend-clause-stops : goal.returns-in_err-mend-clause-stops
returns-in_err-mend-clause-stops g c =
    let grown : IsEntered _ c.args.gap (enters (option_copied c.args.name) (value_of c.args.value.now) c.args.path c.args.had) _ c.in_ok-top.top c.link.result (kept (g.N.Records.told c.args.nodes.now) c.args.paths.now.paths) (kept (g.N.Records.told c.enter.new.nodes) c.enter.new.paths.paths) _ = record {
      fits = c.requires.room;
      top_is = c.in_ok-top.ensures.top;
      grown = c.in_ok-top.ensures.grown;
      entry_is = c.link.ensures;
      put = c.in_ok-add.ensures.added;
      number = refl;
      nodes_are = refl;
      hash = refl;
    } in
    mending-stops _ _ _ _ _ _ (kept (g.N.Records.told c.enter.new.nodes) c.enter.new.paths.paths) c.from_residual-in_err-mend.result _ c.from_residual-in_err-mend.ensures.1
    (λ damaged. filled _ _ _ _ _ _ c.in_ok-top.top c.link.result _ _ _ _ grown (c.in_err-mend.ensures.cannot c.args.next damaged))

pub returns-clause-done : goal.returns-clause-done
returns-clause-done g c =
    filled _ _ _ _ (enters (option_copied c.args.name) (value_of c.args.value.now) c.args.path c.args.had) _ c.in_ok-top.top c.link.result _ (kept (g.N.Records.told c.enter.new.nodes) c.enter.new.paths.paths) _ _ (record {
      fits = c.requires.room;
      top_is = c.in_ok-top.ensures.top;
      grown = c.in_ok-top.ensures.grown;
      entry_is = c.link.ensures;
      put = c.in_ok-add.ensures.added;
      number = refl;
      nodes_are = refl;
      hash = refl;
    }) (c.in_ok-mend.ensures.done c.args.next)

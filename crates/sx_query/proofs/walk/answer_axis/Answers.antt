use Rattle.std.proofs.Common.{subst}
use Rattle.std.specs.Prelude.{option_map}
use Rattle.sx_view.specs.Rows.{row_of}
use Rattle.sx_axes.specs.Broken.{IsBroken}
use Rattle.sx_axes.proofs.Starting.{has_no_axis}
use Rattle.sx_cursor.specs.Told.{IsNoDocument, Tells}
use Rattle.sx_query.specs.Causes.{IsAbsent, Nothing}
use Rattle.sx_query.specs.OnAxis.{AreOnAxis}
use Rattle.sx_query.proofs.Faults.{later_fault}
use Rattle.sx_query.proofs.OfNodes.{gives_axis, gives_fault, got_sound, no_axis}
use Rattle.sx_query.proofs.walk.answer_axis.Goals as goal

pub returns-in_err-record-clause-gives : goal.returns-in_err-record-clause-gives
returns-in_err-record-clause-gives g c = λ names.
    gives_fault _ _ c.args.count names _ _ c.from_residual.ensures.1 (got_sound _ _ _ _ _ (g.met.N.Records.untold _) c.in_err-record.ensures.fault)

pub returns-in_default-clause-gives : goal.returns-in_default-clause-gives
returns-in_default-clause-gives g c =
    let absent = subst (λ found. Tells (g.N.Records.told c.args.nodes.now) c.args.node (option_map row_of found)) c.in_default.is c.in_ok-record.ensures.found in
    no_axis _ _ _ (has_no_axis _ _ _ absent) c.args.count

pub returns-in_err-numbers-clause-gives : goal.returns-in_err-numbers-clause-gives
returns-in_err-numbers-clause-gives g c = λ names.
    gives_fault _ _ c.args.count names _ _ c.from_residual-in_err-numbers.ensures.1
    (λ damage. subst (λ o. IsNoDocument o c.args.count) c.in_ok-record.ensures.same (c.in_err-numbers.ensures.sound damage))

pub returns-in_err-numbers-clause-fault : goal.returns-in_err-numbers-clause-fault
returns-in_err-numbers-clause-fault g c =
    later_fault _ (IsAbsent (g.N.Records.told c.args.nodes.now) c.args.node) Nothing _ _ _ _ _ _ _ (λ o. IsBroken o c.args.count) _ c.from_residual-in_err-numbers.ensures.1
    (g.met.N.Records.keeps_damages _ _ c.in_ok-record.ensures.keeps)
    c.in_ok-record.ensures.same c.in_ok-record.ensures.never_falls c.in_err-numbers.ensures.fault

pub returns-clause-gives : goal.returns-clause-gives
returns-clause-gives g c =
    let lists = subst (λ o. AreOnAxis o c.args.axis c.args.node c.in_ok-numbers.numbers) c.in_ok-record.ensures.same c.in_ok-numbers.ensures.lists in
    gives_axis _ _ _ _ lists c.args.count

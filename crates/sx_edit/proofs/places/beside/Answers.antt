use Rattle.std.proofs.Common.{◌∙◌, Some, ap, inl, inr, sym, refl, arith}
use Rattle.sx_edit.proofs.Answering.{err-explains_edit, untold-no_state}
use Rattle.sx_edit.proofs.Going.{goes_itself, leads-first, leads-one, leads-parent, leads-same, record-there}
use Rattle.sx_edit.proofs.Splicing.{moved-there, parented}
use Rattle.sx_edit.proofs.Placing.{reached-beside, beside-absent, beside-beyond, beside-place, beside-top, beside-value, fault-no_place}
use Rattle.sx_edit.proofs.places.beside.Goals as goal

pub returns-then-node-next-clause-none : goal.returns-then-node-next-clause-none
returns-then-node-next-clause-none g c = beside-beyond _ _ _ _ (omega arith)

pub returns-in_err-entry-clause-none : goal.returns-in_err-entry-clause-none
returns-in_err-entry-clause-none g c = fault-no_place _ _ _ _ c.from_residual.result c.from_residual.ensures.1 (λ damaged. untold-no_state _ _ (c.in_err-entry.ensures.untold damaged))

pub returns-in_err-entry-clause-fault : goal.returns-in_err-entry-clause-fault
returns-in_err-entry-clause-fault g c =
    λ edit table. err-explains_edit g.N.Records.told g.N.Records.faults g.N.Records.damages g.N.RecordsMut.has_mark g.N.RecordsMut.marks edit c.args.next table c.args.nodes.now c.args.nodes.now _ c.from_residual.result _ c.from_residual.ensures.1
    (goes_itself g.N.Records.told g.N.Records.faults g.N.Records.damages g.N.RecordsMut.has_mark g.N.RecordsMut.marks c.args.nodes.now) refl (c.in_err-entry.ensures.fault c.args.next)

pub returns-in_default-clause-none : goal.returns-in_default-clause-none
returns-in_default-clause-none g c = beside-absent _ _ _ _ _ c.in_ok-entry.ensures.found c.in_default.is

pub returns-in_default-parent-clause-none : goal.returns-in_default-parent-clause-none
returns-in_default-parent-clause-none g c = beside-top _ _ c.in-Some.entry _ (λ m e. sym (c.in_ok-entry.ensures.found m e) ∙ c.in-Some.is) _ c.in_default-parent.is

pub returns-in_err-above-clause-none : goal.returns-in_err-above-clause-none
returns-in_err-above-clause-none g c =
    fault-no_place _ _ _ _ c.from_residual-in_err-above.result c.from_residual-in_err-above.ensures.1
    (λ damaged. parented _ _ c.in-Some.entry _ _ (λ m e. sym (c.in_ok-entry.ensures.found m e) ∙ c.in-Some.is) c.in-Some-parent.is
    (moved-there _ _ _ _ c.in_ok-entry.ensures.same (c.in_err-above.ensures.absent damaged)))

pub returns-in_err-above-clause-fault : goal.returns-in_err-above-clause-fault
returns-in_err-above-clause-fault g c =
    λ edit table. err-explains_edit g.N.Records.told g.N.Records.faults g.N.Records.damages g.N.RecordsMut.has_mark g.N.RecordsMut.marks edit c.args.next table c.args.nodes.now _ _ c.from_residual-in_err-above.result _ c.from_residual-in_err-above.ensures.1
    c.in_ok-entry.ensures.goes_on c.in_ok-entry.ensures.same (c.in_err-above.ensures.fault c.args.next)

pub returns-then-is_key-clause-none : goal.returns-then-is_key-clause-none
returns-then-is_key-clause-none g c =
    beside-value _ _ c.in-Some.entry _ (λ m e. sym (c.in_ok-entry.ensures.found m e) ∙ c.in-Some.is) _ c.in_ok-above.above _ c.in-Some-parent.is
    (moved-there _ _ _ _ c.in_ok-entry.ensures.same c.in_ok-above.ensures.found) (cc)

pub read_linked-requires : goal.read_linked-requires
read_linked-requires g c = inl (leads-one _ _ _ _ c.in-Some-parent.is (leads-parent _ _ c.in-Some.entry (record-there _ _ _ c.in-Some.entry c.in_ok-entry.ensures.same (λ m e. sym (c.in_ok-entry.ensures.found m e) ∙ c.in-Some.is)) _ refl))

pub returns-clause-reached : goal.returns-clause-reached
returns-clause-reached g c = reached-beside _ _ _ c.in-Some.entry _ c.args.after c.gap_beside.ensures.near c.gap_beside.ensures.parent c.gap_beside.ensures.left c.gap_beside.ensures.right (λ m e. sym (c.in_ok-entry.ensures.found m e) ∙ c.in-Some.is) c.in-Some-parent.is

pub returns-clause-first : goal.returns-clause-first
returns-clause-first g c =
    leads-same _ _ _ _ (sym c.gap_beside.ensures.parent) (leads-first _ _ c.in_ok-above.above (moved-there _ _ _ _ c.in_ok-entry.ensures.same c.in_ok-above.ensures.found) _ refl)

pub returns-clause-place : goal.returns-clause-place
returns-clause-place g c =
    beside-place _ _ c.in-Some.entry _ (λ m e. sym (c.in_ok-entry.ensures.found m e) ∙ c.in-Some.is) _ _ c.in_ok-above.above _ c.in-Some-parent.is
    (moved-there _ _ _ _ c.in_ok-entry.ensures.same c.in_ok-above.ensures.found) (cc)
    (record { parent_is = c.gap_beside.ensures.parent; left = c.gap_beside.ensures.left; right = c.gap_beside.ensures.right; kind = refl; first = refl; path = refl })

pub returns-clause-path : goal.returns-clause-path
returns-clause-path g c = (c.in-Some-parent.parent, (c.in_ok-above.above, (moved-there _ _ _ _ c.in_ok-entry.ensures.same c.in_ok-above.ensures.found, refl, inr (c.in-Some.entry, ((λ m e. sym (c.in_ok-entry.ensures.found m e) ∙ c.in-Some.is), c.in-Some-parent.is)))))

pub returns-clause-near : goal.returns-clause-near
returns-clause-near g c = inr (c.in-Some.entry, ((λ m e. sym (c.in_ok-entry.ensures.found m e) ∙ c.in-Some.is), c.in-Some-parent.is ∙ ap (λ p. Some p) (sym c.gap_beside.ensures.parent)))

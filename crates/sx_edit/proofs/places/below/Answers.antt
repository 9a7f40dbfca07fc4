use Rattle.std.proofs.Common.{◌∙◌, inl, sym, refl, arith}
use Rattle.sx_edit.proofs.Answering.{err-explains_edit, untold-no_state}
use Rattle.sx_edit.proofs.Going.{goes_itself, leads-first, leads-same}
use Rattle.sx_edit.proofs.Placing.{reached-below, below-absent, below-beyond, below-place, below-wrong, fault-no_place}
use Rattle.sx_edit.proofs.places.below.Goals as goal

pub returns-then-node-next-clause-none : goal.returns-then-node-next-clause-none
returns-then-node-next-clause-none g c = below-beyond _ _ _ _ (omega arith)

pub returns-in_err-entry-clause-none : goal.returns-in_err-entry-clause-none
returns-in_err-entry-clause-none g c = fault-no_place _ _ _ _ c.from_residual.result c.from_residual.ensures.1 (λ damaged. untold-no_state _ _ (c.in_err-entry.ensures.untold damaged))

pub returns-in_err-entry-clause-fault : goal.returns-in_err-entry-clause-fault
returns-in_err-entry-clause-fault g c =
    λ edit table. err-explains_edit g.N.Records.told g.N.Records.faults g.N.Records.damages g.N.RecordsMut.has_mark g.N.RecordsMut.marks edit c.args.next table c.args.nodes.now c.args.nodes.now _ c.from_residual.result _ c.from_residual.ensures.1
    (goes_itself g.N.Records.told g.N.Records.faults g.N.Records.damages g.N.RecordsMut.has_mark g.N.RecordsMut.marks c.args.nodes.now) refl (c.in_err-entry.ensures.fault c.args.next)

pub returns-in_default-clause-none : goal.returns-in_default-clause-none
returns-in_default-clause-none g c = below-absent _ _ _ _ _ c.in_ok-entry.ensures.found c.in_default.is

pub returns-then-has_no_places-clause-none : goal.returns-then-has_no_places-clause-none
returns-then-has_no_places-clause-none g c = below-wrong _ _ c.in-Some.entry _ (λ m e. sym (c.in_ok-entry.ensures.found m e) ∙ c.in-Some.is) _ (cc)

pub returns-clause-reached : goal.returns-clause-reached
returns-clause-reached g c = reached-below _ _ c.in-Some.entry _ c.args.last c.gap_below.ensures.near c.gap_below.ensures.parent c.gap_below.ensures.left c.gap_below.ensures.right (λ m e. sym (c.in_ok-entry.ensures.found m e) ∙ c.in-Some.is)

pub returns-clause-first : goal.returns-clause-first
returns-clause-first g c = leads-same _ _ _ _ (sym c.gap_below.ensures.parent) (leads-first _ _ c.in-Some.entry (λ m e. sym (c.in_ok-entry.ensures.found m e) ∙ c.in-Some.is) _ refl)

pub returns-clause-place : goal.returns-clause-place
returns-clause-place g c =
    below-place _ _ c.in-Some.entry _ (λ m e. sym (c.in_ok-entry.ensures.found m e) ∙ c.in-Some.is) _ _ (cc)
    (record { parent = c.gap_below.ensures.parent; left = c.gap_below.ensures.left; right = c.gap_below.ensures.right; kind = refl; first = refl; path = refl })

pub returns-clause-path : goal.returns-clause-path
returns-clause-path g c = (c.args.node, (c.in-Some.entry, ((λ m e. sym (c.in_ok-entry.ensures.found m e) ∙ c.in-Some.is), refl, inl refl)))

pub returns-clause-near : goal.returns-clause-near
returns-clause-near g c = inl c.gap_below.ensures.parent

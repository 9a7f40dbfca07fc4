use Rattle.std.proofs.Common.{◌∙◌, None, arith, refl, subst, sym}
use Rattle.std.specs.Prelude.{reverse}
use Rattle.sx_model.specs.Edit.{set_scalar}
use Rattle.sx_edit.specs.Answers.{AnswersEach}
use Rattle.sx_edit.specs.Damage.{IsDamaged}
use Rattle.sx_edit.specs.Room.{CountsLevels}
use Rattle.sx_edit.specs.Seen.{IsChain}
use Rattle.sx_edit.proofs.Going.{goes_itself, leads-parent, leads-reached, record-there}
use Rattle.sx_edit.proofs.Answering.{err-answers, memory-answers, memory-explains_edit, err-explains_edit, untold-no_state, no-node}
use Rattle.sx_edit.proofs.Getting.{scalar-work}
use Rattle.sx_edit.proofs.SettingScalars.{climb-cannot, scalar-wrong, scalar-done, scalar-gets}
use Rattle.sx_edit.proofs.scalars.set_scalar.Goals as goal

pub returns-in_err-entry-clause-answers : goal.returns-in_err-entry-clause-answers
returns-in_err-entry-clause-answers g c = λ table.
    err-answers _ _ _ _ c.from_residual.result _ c.from_residual.ensures.1 (λ damaged. untold-no_state _ _ (c.in_err-entry.ensures.untold damaged))

pub returns-in_err-entry-clause-fault : goal.returns-in_err-entry-clause-fault
returns-in_err-entry-clause-fault g c =
    λ table. err-explains_edit g.N.Records.told g.N.Records.faults g.N.Records.damages g.N.RecordsMut.has_mark g.N.RecordsMut.marks (set_scalar c.args.node c.args.value.now) c.args.next table c.args.nodes.now c.args.nodes.now _ c.from_residual.result _ c.from_residual.ensures.1
    (goes_itself g.N.Records.told g.N.Records.faults g.N.Records.damages g.N.RecordsMut.has_mark g.N.RecordsMut.marks c.args.nodes.now) refl (c.in_err-entry.ensures.fault c.args.next)

pub returns-in_default-clause-answers : goal.returns-in_default-clause-answers
unfolding AnswersEach
returns-in_default-clause-answers g c = λ table state are of_state. no-node _ _ state _ _ _ c.in_ok-entry.ensures.found c.in_default.is are

pub returns-then-not-is_scalar-clause-answers : goal.returns-then-not-is_scalar-clause-answers
returns-then-not-is_scalar-clause-answers g c = λ table. scalar-wrong _ _ _ c.in-Some.entry _ _ (λ m e. sym (c.in_ok-entry.ensures.found m e) ∙ c.in-Some.is) (cc)

pub returns-in_err-label-clause-answers : goal.returns-in_err-label-clause-answers
returns-in_err-label-clause-answers g c = λ table. memory-answers _ _ _ _ c.from_residual-in_err-label.result c.from_residual-in_err-label.ensures.1

pub climb-requires-clause-reached : goal.climb-requires-clause-reached
climb-requires-clause-reached g c =
    leads-reached _ _ c.in-Some.entry.parent (leads-parent _ _ c.in-Some.entry (record-there _ _ _ c.in-Some.entry c.in_ok-entry.ensures.same (λ m e. sym (c.in_ok-entry.ensures.found m e) ∙ c.in-Some.is)) _ refl)

pub relabel-requires-clause-there : goal.relabel-requires-clause-there
relabel-requires-clause-there g c = record-there _ _ _ c.in-Some.entry (c.in_ok-ascent.ensures.same ∙ c.in_ok-entry.ensures.same) (λ m e. sym (c.in_ok-entry.ensures.found m e) ∙ c.in-Some.is)

pub returns-in_err-ascent-clause-answers : goal.returns-in_err-ascent-clause-answers
returns-in_err-ascent-clause-answers g c = λ table.
    err-answers _ _ _ _ c.from_residual-in_err-ascent.result _ c.from_residual-in_err-ascent.ensures.1
    (λ damaged. climb-cannot _ _ c.in-Some.entry _ (λ m e. sym (c.in_ok-entry.ensures.found m e) ∙ c.in-Some.is) (subst (λ o. CountsLevels c.in-Some.entry.parent c.args.next o None) c.in_ok-entry.ensures.same (c.in_err-ascent.ensures.cannot damaged)))

pub returns-in_err-ascent-clause-fault : goal.returns-in_err-ascent-clause-fault
returns-in_err-ascent-clause-fault g c =
    λ table. err-explains_edit g.N.Records.told g.N.Records.faults g.N.Records.damages g.N.RecordsMut.has_mark g.N.RecordsMut.marks (set_scalar c.args.node c.args.value.now) c.args.next table c.args.nodes.now _ _ c.from_residual-in_err-ascent.result _ c.from_residual-in_err-ascent.ensures.1
    c.in_ok-entry.ensures.goes_on c.in_ok-entry.ensures.same c.in_err-ascent.ensures.fault

pub returns-in_err-relabel-clause-answers : goal.returns-in_err-relabel-clause-answers
returns-in_err-relabel-clause-answers g c = λ table.
    err-answers _ _ _ _ c.from_residual-in_err-relabel.result _ c.from_residual-in_err-relabel.ensures.1 (λ damaged. absurd (subst IsDamaged c.in_err-relabel.ensures.memory damaged))

pub returns-in_err-relabel-clause-fault : goal.returns-in_err-relabel-clause-fault
returns-in_err-relabel-clause-fault g c = λ table. memory-explains_edit (set_scalar c.args.node c.args.value.now) c.args.next _ table (g.N.Records.damages c.args.nodes.now) _ c.from_residual-in_err-relabel.result _ c.from_residual-in_err-relabel.ensures.1 c.in_err-relabel.ensures.memory

pub returns-clause-answers : goal.returns-clause-answers
returns-clause-answers g c = λ table.
    scalar-done _ c.args.value.now _ c.in-Some.entry _ _ c.in_ok-ascent.ascent.seen.items _ _ _ table (λ m e. sym (c.in_ok-entry.ensures.found m e) ∙ c.in-Some.is) (cc) c.in_ok-label.ensures (c.in_ok-ascent.ensures.same ∙ c.in_ok-entry.ensures.same) (subst (λ o. IsChain o c.in-Some.entry.parent (reverse c.in_ok-ascent.ascent.seen.items)) c.in_ok-entry.ensures.same c.in_ok-ascent.ensures.chain) c.in_ok-relabel.ensures.done

pub returns-clause-gets : goal.returns-clause-gets
returns-clause-gets g c =
    scalar-gets _ c.args.value.now _ c.in-Some.entry c.in_ok-ascent.ascent.seen.items _ _ _ _ (λ m e. sym (c.in_ok-entry.ensures.found m e) ∙ c.in-Some.is) (subst (λ o. IsChain o c.in-Some.entry.parent (reverse c.in_ok-ascent.ascent.seen.items)) c.in_ok-entry.ensures.same c.in_ok-ascent.ensures.chain) c.in_ok-entry.ensures.gets (omega (arith, c.in_ok-ascent.ensures.gets, c.in_ok-relabel.ensures.same_gets))

pub returns-clause-work : goal.returns-clause-work
returns-clause-work g c =
    scalar-work _ _ c.in-Some.entry _ (λ m e. sym (c.in_ok-entry.ensures.found m e) ∙ c.in-Some.is) c.args.value.now c.in_ok-ascent.ascent.seen.items _ _ (subst (λ o. IsChain o c.in-Some.entry.parent (reverse c.in_ok-ascent.ascent.seen.items)) c.in_ok-entry.ensures.same c.in_ok-ascent.ensures.chain) (omega (arith, c.in_ok-entry.ensures.gets, c.in_ok-ascent.ensures.gets, c.in_ok-relabel.ensures.same_gets))

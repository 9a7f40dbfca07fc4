use Rattle.std.proofs.Common.{◌∙◌, [], arith, Some, None, inl, inr, refl, subst, sym}
use Rattle.std.specs.Prelude.{reverse}
use Rattle.sx_edit.specs.Answers.{AnswersEach}
use Rattle.sx_model.specs.Edit.{rename}
use Rattle.sx_edit.specs.Damage.{IsDamaged, reach_of}
use Rattle.sx_edit.specs.Links.{first_tops}
use Rattle.sx_edit.specs.Gets.{GetsKeys}
use Rattle.sx_edit.specs.Seen.{IsChain, entries_of}
use Rattle.sx_edit.specs.Told.{IsWalked, numbers_of}
use Rattle.sx_edit.proofs.Getting.{rename-gets}
use Rattle.sx_edit.proofs.Going.{goes_itself, goes_then, leads-first, leads-one, leads-parent, record-there}
use Rattle.sx_edit.proofs.Answering.{key-below, again-answers, again-explains_edit, broken-explains_edit, err-answers, err-explains_edit, memory-answers, memory-explains_edit, no-node, untold-no_state}
use Rattle.sx_edit.proofs.Results.{err_again}
use Rattle.sx_edit.proofs.Growing.{named-onto}
use Rattle.sx_edit.proofs.Drifting.{base-of, drifts-itself}
use Rattle.sx_edit.proofs.Stopping.{breach-edit_explains, named-stops}
use Rattle.sx_edit.proofs.SettingScalars.{climb-cannot, counts-there}
use Rattle.sx_edit.proofs.Repathing.{repathed-there, stops-there}
use Rattle.sx_edit.proofs.NewPaths.{name-stops, rename-done, repath-stops}
use Rattle.sx_edit.proofs.Splicing.{moved-there, parented}
use Rattle.sx_edit.proofs.NewNames.{rename-cannot_find, rename-free, rename-taken, rename-top, rename-wrong}
use Rattle.sx_edit.proofs.renaming.rename.Goals as goal

pub returns-in_err-entry-clause-answers : goal.returns-in_err-entry-clause-answers
returns-in_err-entry-clause-answers g c =
    err-answers _ _ _ _ c.from_residual.result _ c.from_residual.ensures.1 (λ damaged. untold-no_state _ _ (c.in_err-entry.ensures.untold damaged))

pub returns-in_err-entry-clause-fault : goal.returns-in_err-entry-clause-fault
returns-in_err-entry-clause-fault g c =
    err-explains_edit g.N.Records.told g.N.Records.faults g.N.Records.damages g.N.RecordsMut.has_mark g.N.RecordsMut.marks (rename c.args.node c.args.name.now) c.args.next c.args.paths.now.paths c.args.nodes.now c.args.nodes.now _ c.from_residual.result _ c.from_residual.ensures.1
    (goes_itself g.N.Records.told g.N.Records.faults g.N.Records.damages g.N.RecordsMut.has_mark g.N.RecordsMut.marks c.args.nodes.now) refl (c.in_err-entry.ensures.fault c.args.next)

pub returns-in_default-clause-answers : goal.returns-in_default-clause-answers
unfolding AnswersEach
returns-in_default-clause-answers g c = λ state are of_state. no-node _ _ state _ _ _ c.in_ok-entry.ensures.found c.in_default.is are

pub returns-then-not-is_key-clause-answers : goal.returns-then-not-is_key-clause-answers
returns-then-not-is_key-clause-answers g c = rename-wrong _ c.args.name.now _ c.in-Some.entry _ _ (λ m e. sym (c.in_ok-entry.ensures.found m e) ∙ c.in-Some.is) (cc)

pub returns-in_err-parent-clause-answers : goal.returns-in_err-parent-clause-answers
returns-in_err-parent-clause-answers g c =
    err-answers _ _ _ _ c.from_residual-in_err-parent.result _ c.from_residual-in_err-parent.ensures.1
    (λ damaged. rename-top _ c.args.name.now _ c.in-Some.entry _ (λ m e. sym (c.in_ok-entry.ensures.found m e) ∙ c.in-Some.is) (cc) c.in_err-parent.ensures.none)

pub returns-in_err-parent-clause-fault : goal.returns-in_err-parent-clause-fault
returns-in_err-parent-clause-fault g c =
    broken-explains_edit (rename c.args.node c.args.name.now) c.args.next _ c.args.paths.now.paths (g.N.Records.damages c.args.nodes.now) _ c.from_residual-in_err-parent.result _ c.from_residual-in_err-parent.ensures.1 (c.in_err-parent.ensures.fault _ c.args.next (λ m e. sym (c.in_ok-entry.ensures.found m e) ∙ c.in-Some.is) (key-below c.in-Some.entry.kind (cc)))

pub returns-in_err-above-clause-answers : goal.returns-in_err-above-clause-answers
returns-in_err-above-clause-answers g c =
    err-answers _ _ _ _ c.from_residual-in_err-above.result _ c.from_residual-in_err-above.ensures.1
    (λ damaged. parented _ _ c.in-Some.entry _ _ (λ m e. sym (c.in_ok-entry.ensures.found m e) ∙ c.in-Some.is) c.in_ok-parent.ensures.parent
    (moved-there _ _ _ _ c.in_ok-entry.ensures.same (c.in_err-above.ensures.absent damaged)))

pub returns-in_err-above-clause-fault : goal.returns-in_err-above-clause-fault
returns-in_err-above-clause-fault g c =
    err-explains_edit g.N.Records.told g.N.Records.faults g.N.Records.damages g.N.RecordsMut.has_mark g.N.RecordsMut.marks (rename c.args.node c.args.name.now) c.args.next c.args.paths.now.paths c.args.nodes.now _ _ c.from_residual-in_err-above.result _ c.from_residual-in_err-above.ensures.1
    c.in_ok-entry.ensures.goes_on c.in_ok-entry.ensures.same (c.in_err-above.ensures.fault c.args.next)

pub read_linked-requires : goal.read_linked-requires
read_linked-requires g c = inl (leads-one _ _ _ _ c.in_ok-parent.ensures.parent (leads-parent _ _ c.in-Some.entry (record-there _ _ _ c.in-Some.entry c.in_ok-entry.ensures.same (λ m e. sym (c.in_ok-entry.ensures.found m e) ∙ c.in-Some.is)) _ refl))

pub find_key-requires : goal.find_key-requires
find_key-requires g c = leads-first _ _ c.in_ok-above.above (record-there _ _ _ c.in_ok-above.above c.in_ok-above.ensures.same c.in_ok-above.ensures.found) _ refl

pub climb-requires-clause-reached : goal.climb-requires-clause-reached
climb-requires-clause-reached g c = inl (leads-one _ _ _ _ c.in_ok-parent.ensures.parent (leads-parent _ _ c.in-Some.entry (record-there _ _ _ c.in-Some.entry (c.in_ok-taken.ensures.same ∙ c.in_ok-above.ensures.same ∙ c.in_ok-entry.ensures.same) (λ m e. sym (c.in_ok-entry.ensures.found m e) ∙ c.in-Some.is)) _ refl))

pub repath-requires : goal.repath-requires
repath-requires g c = leads-first _ _ c.in-Some.entry (record-there _ _ _ c.in-Some.entry (c.in_ok-ascent.ensures.same ∙ c.in_ok-taken.ensures.same ∙ c.in_ok-above.ensures.same ∙ c.in_ok-entry.ensures.same) (λ m e. sym (c.in_ok-entry.ensures.found m e) ∙ c.in-Some.is)) _ refl

pub relabel-requires-clause-there : goal.relabel-requires-clause-there
relabel-requires-clause-there g c = record-there _ _ _ c.in-Some.entry (c.in_ok-moved.ensures.same ∙ c.in_ok-ascent.ensures.same ∙ c.in_ok-taken.ensures.same ∙ c.in_ok-above.ensures.same ∙ c.in_ok-entry.ensures.same) (λ m e. sym (c.in_ok-entry.ensures.found m e) ∙ c.in-Some.is)

pub returns-in_err-taken-clause-fault : goal.returns-in_err-taken-clause-fault
returns-in_err-taken-clause-fault g c =
    err-explains_edit g.N.Records.told g.N.Records.faults g.N.Records.damages g.N.RecordsMut.has_mark g.N.RecordsMut.marks (rename c.args.node c.args.name.now) c.args.next c.args.paths.now.paths c.args.nodes.now _ _ c.from_residual-in_err-taken.result _ c.from_residual-in_err-taken.ensures.1
    (goes_then g.N.Records.told g.N.Records.faults g.N.Records.damages g.N.RecordsMut.has_mark g.N.RecordsMut.marks _ _ _ c.in_ok-entry.ensures.goes_on c.in_ok-above.ensures.goes_on) (c.in_ok-above.ensures.same ∙ c.in_ok-entry.ensures.same) c.in_err-taken.ensures.fault

pub returns-in_err-ascent-clause-answers : goal.returns-in_err-ascent-clause-answers
returns-in_err-ascent-clause-answers g c =
    err-answers _ _ _ _ c.from_residual-in_err-ascent.result _ c.from_residual-in_err-ascent.ensures.1
    (λ damaged. climb-cannot _ _ c.in-Some.entry _ (λ m e. sym (c.in_ok-entry.ensures.found m e) ∙ c.in-Some.is) (counts-there _ _ _ _ _ None c.in_ok-parent.ensures.parent (c.in_ok-taken.ensures.same ∙ c.in_ok-above.ensures.same ∙ c.in_ok-entry.ensures.same) (c.in_err-ascent.ensures.cannot damaged)))

pub returns-in_err-ascent-clause-fault : goal.returns-in_err-ascent-clause-fault
returns-in_err-ascent-clause-fault g c =
    err-explains_edit g.N.Records.told g.N.Records.faults g.N.Records.damages g.N.RecordsMut.has_mark g.N.RecordsMut.marks (rename c.args.node c.args.name.now) c.args.next c.args.paths.now.paths c.args.nodes.now _ _ c.from_residual-in_err-ascent.result _ c.from_residual-in_err-ascent.ensures.1
    (goes_then g.N.Records.told g.N.Records.faults g.N.Records.damages g.N.RecordsMut.has_mark g.N.RecordsMut.marks _ _ _ (goes_then g.N.Records.told g.N.Records.faults g.N.Records.damages g.N.RecordsMut.has_mark g.N.RecordsMut.marks _ _ _ c.in_ok-entry.ensures.goes_on c.in_ok-above.ensures.goes_on) c.in_ok-taken.ensures.goes_on) (c.in_ok-taken.ensures.same ∙ c.in_ok-above.ensures.same ∙ c.in_ok-entry.ensures.same) c.in_err-ascent.ensures.fault

pub returns-in_err-taken-clause-answers : goal.returns-in_err-taken-clause-answers
returns-in_err-taken-clause-answers g c =
    err-answers _ _ _ _ c.from_residual-in_err-taken.result _ c.from_residual-in_err-taken.ensures.1
    (λ damaged. rename-cannot_find _ c.args.name.now _ c.in-Some.entry _ _ c.in_ok-above.above _ (λ m e. sym (c.in_ok-entry.ensures.found m e) ∙ c.in-Some.is) c.in_ok-parent.ensures.parent
    (moved-there _ _ _ _ c.in_ok-entry.ensures.same c.in_ok-above.ensures.found) (c.in_ok-above.ensures.same ∙ c.in_ok-entry.ensures.same) (c.in_err-taken.ensures.cannot damaged))

pub returns-in-Some-2-clause-answers : goal.returns-in-Some-2-clause-answers
returns-in-Some-2-clause-answers g c =
    rename-taken _ c.args.name.now _ c.in-Some.entry _ _ _ _ c.in_ok-above.above _ _ (λ m e. sym (c.in_ok-entry.ensures.found m e) ∙ c.in-Some.is) (cc) c.in_ok-parent.ensures.parent
    (moved-there _ _ _ _ c.in_ok-entry.ensures.same c.in_ok-above.ensures.found) (c.in_ok-above.ensures.same ∙ c.in_ok-entry.ensures.same)
    (rw c.in-Some-2.is at c.in_ok-taken.ensures.found)

pub returns-in_err-step-clause-answers : goal.returns-in_err-step-clause-answers
returns-in_err-step-clause-answers g c = memory-answers _ _ _ _ c.from_residual-in_err-step.result c.from_residual-in_err-step.ensures.1

pub returns-in_err-path-clause-answers : goal.returns-in_err-path-clause-answers
returns-in_err-path-clause-answers g c =
    again-answers _ _ _ _ c.from_residual-in_err-path.result _ c.from_residual-in_err-path.ensures.1
    (name-stops _ c.args.name.now _ c.in-Some.entry c.in_ok-above.above _ 0 _ _ _ [] (λ m e. sym (c.in_ok-entry.ensures.found m e) ∙ c.in-Some.is) (cc) c.in_ok-parent.ensures.parent
    (moved-there _ _ _ _ c.in_ok-entry.ensures.same c.in_ok-above.ensures.found) c.requires.had _ _ c.requires.few
    (rename-free _ c.args.name.now _ c.in-Some.entry _ _ c.in_ok-above.above _ (λ m e. sym (c.in_ok-entry.ensures.found m e) ∙ c.in-Some.is) (cc) c.in_ok-parent.ensures.parent
    (moved-there _ _ _ _ c.in_ok-entry.ensures.same c.in_ok-above.ensures.found) (c.in_ok-above.ensures.same ∙ c.in_ok-entry.ensures.same) (rw c.in_default-2.is at c.in_ok-taken.ensures.found))
    (named-stops _ _ _ _ _ _ c.in_ok-step.ensures c.in_err-path.ensures.stops))

pub returns-in_err-path-clause-fault : goal.returns-in_err-path-clause-fault
returns-in_err-path-clause-fault g c =
    err_again c.from_residual-in_err-path.result _ _ c.from_residual-in_err-path.ensures.1 (breach-edit_explains (rename c.args.node c.args.name.now) c.args.next _ c.args.paths.now.paths (g.N.Records.damages c.args.nodes.now) _ _
    (c.in_err-path.ensures.fault (g.N.Records.told c.args.nodes.now) c.args.paths.now.paths (reach_of (rename c.args.node c.args.name.now) c.args.next (g.N.Records.told c.args.nodes.now)) 0 [] (inl (c.in-Some.entry, (λ m e. sym (c.in_ok-entry.ensures.found m e) ∙ c.in-Some.is)))
    (base-of _ _ c.args.node c.in_ok-parent.parent c.in_ok-above.above _ _ (moved-there _ _ _ _ c.in_ok-entry.ensures.same c.in_ok-above.ensures.found) refl (inr (inl (c.in-Some.entry, ((λ m e. sym (c.in_ok-entry.ensures.found m e) ∙ c.in-Some.is), c.in_ok-parent.ensures.parent))))) (drifts-itself 0 [] _)))

pub returns-in_err-text-clause-answers : goal.returns-in_err-text-clause-answers
returns-in_err-text-clause-answers g c = memory-answers _ _ _ _ c.from_residual-in_err-text.result c.from_residual-in_err-text.ensures.1

pub returns-in_err-moved-clause-answers : goal.returns-in_err-moved-clause-answers
returns-in_err-moved-clause-answers g c =
    again-answers _ _ _ _ c.from_residual-in_err-moved.result _ c.from_residual-in_err-moved.ensures.1
    (repath-stops _ c.args.name.now _ c.in-Some.entry c.in_ok-above.above _ _ _ _ _ _ (λ m e. sym (c.in_ok-entry.ensures.found m e) ∙ c.in-Some.is) (cc) c.in_ok-parent.ensures.parent
    (moved-there _ _ _ _ c.in_ok-entry.ensures.same c.in_ok-above.ensures.found) c.requires.had (named-onto _ _ _ _ _ _ c.in_ok-step.ensures c.in_ok-path.ensures.onto) _ _ c.requires.few
    (rename-free _ c.args.name.now _ c.in-Some.entry _ _ c.in_ok-above.above _ (λ m e. sym (c.in_ok-entry.ensures.found m e) ∙ c.in-Some.is) (cc) c.in_ok-parent.ensures.parent
    (moved-there _ _ _ _ c.in_ok-entry.ensures.same c.in_ok-above.ensures.found) (c.in_ok-above.ensures.same ∙ c.in_ok-entry.ensures.same) (rw c.in_default-2.is at c.in_ok-taken.ensures.found)) (stops-there _ _ _ _ _ _ _ (c.in_ok-ascent.ensures.same ∙ c.in_ok-taken.ensures.same ∙ c.in_ok-above.ensures.same ∙ c.in_ok-entry.ensures.same) c.in_err-moved.ensures.stops))

pub returns-in_err-moved-clause-fault : goal.returns-in_err-moved-clause-fault
returns-in_err-moved-clause-fault g c =
    again-explains_edit g.N.Records.told g.N.Records.faults g.N.Records.damages g.N.RecordsMut.has_mark g.N.RecordsMut.marks (rename c.args.node c.args.name.now) c.args.next c.args.paths.now.paths c.args.nodes.now _ _ c.from_residual-in_err-moved.result _ c.from_residual-in_err-moved.ensures.1
    (goes_then g.N.Records.told g.N.Records.faults g.N.Records.damages g.N.RecordsMut.has_mark g.N.RecordsMut.marks _ _ _ (goes_then g.N.Records.told g.N.Records.faults g.N.Records.damages g.N.RecordsMut.has_mark g.N.RecordsMut.marks _ _ _ (goes_then g.N.Records.told g.N.Records.faults g.N.Records.damages g.N.RecordsMut.has_mark g.N.RecordsMut.marks _ _ _ c.in_ok-entry.ensures.goes_on c.in_ok-above.ensures.goes_on) c.in_ok-taken.ensures.goes_on) c.in_ok-ascent.ensures.goes_on) (c.in_ok-ascent.ensures.same ∙ c.in_ok-taken.ensures.same ∙ c.in_ok-above.ensures.same ∙ c.in_ok-entry.ensures.same)
    (c.in_err-moved.ensures.fault c.args.paths.now.paths c.args.name.now c.in-Some.entry
    (record-there _ _ _ c.in-Some.entry (c.in_ok-ascent.ensures.same ∙ c.in_ok-taken.ensures.same ∙ c.in_ok-above.ensures.same ∙ c.in_ok-entry.ensures.same) (λ m e. sym (c.in_ok-entry.ensures.found m e) ∙ c.in-Some.is)) refl c.in_ok-path.ensures.there c.in_ok-path.ensures.drifts c.requires.few)

pub returns-in_err-relabel-clause-answers : goal.returns-in_err-relabel-clause-answers
returns-in_err-relabel-clause-answers g c =
    err-answers _ _ _ _ c.from_residual-in_err-relabel.result _ c.from_residual-in_err-relabel.ensures.1 (λ damaged. absurd (subst IsDamaged c.in_err-relabel.ensures.memory damaged))

pub returns-in_err-relabel-clause-fault : goal.returns-in_err-relabel-clause-fault
returns-in_err-relabel-clause-fault g c = memory-explains_edit (rename c.args.node c.args.name.now) c.args.next _ c.args.paths.now.paths (g.N.Records.damages c.args.nodes.now) _ c.from_residual-in_err-relabel.result _ c.from_residual-in_err-relabel.ensures.1 c.in_err-relabel.ensures.memory

pub returns-in_err-write_all-clause-answers : goal.returns-in_err-write_all-clause-answers
returns-in_err-write_all-clause-answers g c = memory-answers _ _ _ _ c.from_residual-in_err-write_all.result c.from_residual-in_err-write_all.ensures.1

pub returns-clause-answers : goal.returns-clause-answers
returns-clause-answers g c =
    rename-done _ c.args.name.now _ c.in-Some.entry c.in_ok-above.above _ _ _ _ _ _ (λ m e. sym (c.in_ok-entry.ensures.found m e) ∙ c.in-Some.is) (cc) c.in_ok-parent.ensures.parent
    (moved-there _ _ _ _ c.in_ok-entry.ensures.same c.in_ok-above.ensures.found) c.requires.had (named-onto _ _ _ _ _ _ c.in_ok-step.ensures c.in_ok-path.ensures.onto)
    c.in_ok-text.text c.in_ok-ascent.ascent.seen.items c.in_ok-moved.moved.items _ _ _ (record {
      now_is = (c.in_ok-moved.ensures.same ∙ c.in_ok-ascent.ensures.same ∙ c.in_ok-taken.ensures.same ∙ c.in_ok-above.ensures.same ∙ c.in_ok-entry.ensures.same);
      chain = subst (λ o. IsChain o (Some c.in_ok-parent.parent) (reverse c.in_ok-ascent.ascent.seen.items)) (c.in_ok-taken.ensures.same ∙ c.in_ok-above.ensures.same ∙ c.in_ok-entry.ensures.same) c.in_ok-ascent.ensures.chain;
      label_is = c.in_ok-text.ensures;
      relabeled = c.in_ok-relabel.ensures.done;
      put = c.in_ok-write_all.ensures.ok;
    }) _ c.requires.few
    (rename-free _ c.args.name.now _ c.in-Some.entry _ _ c.in_ok-above.above _ (λ m e. sym (c.in_ok-entry.ensures.found m e) ∙ c.in-Some.is) (cc) c.in_ok-parent.ensures.parent
    (moved-there _ _ _ _ c.in_ok-entry.ensures.same c.in_ok-above.ensures.found) (c.in_ok-above.ensures.same ∙ c.in_ok-entry.ensures.same) (rw c.in_default-2.is at c.in_ok-taken.ensures.found)) (repathed-there _ _ _ _ _ _ _ (c.in_ok-ascent.ensures.same ∙ c.in_ok-taken.ensures.same ∙ c.in_ok-above.ensures.same ∙ c.in_ok-entry.ensures.same) c.in_ok-moved.ensures.done)

pub returns-clause-work : goal.returns-clause-work
returns-clause-work g c =
    rename-gets _ _ c.in-Some.entry c.in_ok-above.above _ (λ m e. sym (c.in_ok-entry.ensures.found m e) ∙ c.in-Some.is) c.args.name.now _ c.in_ok-ascent.ascent.seen.items c.in_ok-moved.moved.items _ _ _ _ c.in_ok-parent.ensures.parent
    (moved-there _ _ _ _ c.in_ok-entry.ensures.same c.in_ok-above.ensures.found) (subst (λ o. GetsKeys c.in_ok-above.above.first c.args.next o (g.N.Records.gets c.read_linked.new.nodes) (g.N.Records.gets c.find_key.new.nodes)) (c.in_ok-above.ensures.same ∙ c.in_ok-entry.ensures.same) c.in_ok-taken.ensures.work)
    (subst (λ o. IsChain o (Some c.in_ok-parent.parent) (reverse c.in_ok-ascent.ascent.seen.items)) (c.in_ok-taken.ensures.same ∙ c.in_ok-above.ensures.same ∙ c.in_ok-entry.ensures.same) c.in_ok-ascent.ensures.chain)
    (subst (λ o. IsWalked (first_tops c.in-Some.entry.first) c.args.next o (numbers_of (entries_of c.in_ok-moved.moved.items))) (c.in_ok-ascent.ensures.same ∙ c.in_ok-taken.ensures.same ∙ c.in_ok-above.ensures.same ∙ c.in_ok-entry.ensures.same) c.in_ok-moved.ensures.walked)
    (omega (arith, c.in_ok-entry.ensures.gets, c.in_ok-above.ensures.gets))
    (omega (arith, c.in_ok-ascent.ensures.gets, c.in_ok-moved.ensures.gets, c.in_ok-relabel.ensures.same_gets, c.in_ok-write_all.ensures.same_gets))

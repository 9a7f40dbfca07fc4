use Rattle.std.proofs.Common.{inl, inr, ◌∙◌, ◌+◌, Some, ap, arith, refl, subst, sym}
use Rattle.std.specs.Prelude.{option_map}
use Rattle.sx_tree.specs.Value.{value_of}
use Rattle.sx_model.specs.Edit.{replace}
use Rattle.sx_edit.specs.Answers.{AnswersEach}
use Rattle.sx_edit.specs.Damage.{reach_of}
use Rattle.sx_edit.specs.Room.{CountsLevels}
use Rattle.sx_edit.specs.Mend.{IsUprooted}
use Rattle.sx_edit.specs.Seen.{without}
use Rattle.sx_edit.proofs.Getting.{replace-gets}
use Rattle.sx_edit.proofs.Results.{err_again}
use Rattle.sx_edit.proofs.Going.{goes_itself, goes_then, record-there}
use Rattle.sx_edit.proofs.Answering.{value-below, again-answers, at-most_miscounted, broken-explains_edit, miscounted-explains_edit, broken_edit-explains, err-answers, err-answers_kept, both-explains_edit, err-explains_edit, memory-answers, no-node, refused-explains, untold-no_state}
use Rattle.sx_edit.proofs.Clearing.{taken-out}
use Rattle.sx_edit.proofs.Upward.{leaves-tree}
use Rattle.sx_edit.proofs.Replacing.{replace-done, replace-refused, replace-stops, replace-top, replace-wrong, replacing-after}
use Rattle.sx_edit.proofs.Splicing.{countable, cut-cannot, gap-cannot, rim-there}
use Rattle.sx_edit.proofs.replacement.replace.Goals as goal

pub returns-in_err-entry-clause-answers : goal.returns-in_err-entry-clause-answers
returns-in_err-entry-clause-answers g c =
    err-answers _ _ _ _ c.from_residual.result _ c.from_residual.ensures.1 (λ damaged. untold-no_state _ _ (c.in_err-entry.ensures.untold damaged))

pub returns-in_err-entry-clause-fault : goal.returns-in_err-entry-clause-fault
returns-in_err-entry-clause-fault g c =
    err-explains_edit g.N.Records.told g.N.Records.faults g.N.Records.damages g.N.RecordsMut.has_mark g.N.RecordsMut.marks (replace c.args.node (value_of c.args.value.now)) c.args.next c.args.paths.now.paths c.args.nodes.now c.args.nodes.now _ c.from_residual.result _ c.from_residual.ensures.1
    (goes_itself g.N.Records.told g.N.Records.faults g.N.Records.damages g.N.RecordsMut.has_mark g.N.RecordsMut.marks c.args.nodes.now) refl (c.in_err-entry.ensures.fault c.args.next)

pub returns-in_default-clause-answers : goal.returns-in_default-clause-answers
unfolding AnswersEach
returns-in_default-clause-answers g c = λ state are of_state. no-node _ _ state _ _ _ c.in_ok-entry.ensures.found c.in_default.is are

pub returns-then-not-is_value-clause-answers : goal.returns-then-not-is_value-clause-answers
returns-then-not-is_value-clause-answers g c = replace-wrong _ _ _ c.in-Some.entry _ _ (λ m e. sym (c.in_ok-entry.ensures.found m e) ∙ c.in-Some.is) (cc)

pub returns-in_err-parent-clause-answers : goal.returns-in_err-parent-clause-answers
returns-in_err-parent-clause-answers g c =
    err-answers _ _ _ _ c.from_residual-in_err-parent.result _ c.from_residual-in_err-parent.ensures.1
    (λ damaged. replace-top _ (value_of c.args.value.now) _ c.in-Some.entry _ (λ m e. sym (c.in_ok-entry.ensures.found m e) ∙ c.in-Some.is) (cc) c.in_err-parent.ensures.none)

pub returns-in_err-parent-clause-fault : goal.returns-in_err-parent-clause-fault
returns-in_err-parent-clause-fault g c =
    broken-explains_edit (replace c.args.node (value_of c.args.value.now)) c.args.next _ c.args.paths.now.paths (g.N.Records.damages c.args.nodes.now) _ c.from_residual-in_err-parent.result _ c.from_residual-in_err-parent.ensures.1 (c.in_err-parent.ensures.fault _ c.args.next (λ m e. sym (c.in_ok-entry.ensures.found m e) ∙ c.in-Some.is) (value-below c.in-Some.entry.kind (cc)))

pub survey-requires-clause-reached : goal.survey-requires-clause-reached
survey-requires-clause-reached g c = c.gap_of-gap.ensures.reached _ (record-there _ _ _ c.in-Some.entry c.in_ok-entry.ensures.same (λ m e. sym (c.in_ok-entry.ensures.found m e) ∙ c.in-Some.is)) c.in_ok-parent.ensures.parent

pub uproot-requires : goal.uproot-requires
uproot-requires g c = record-there _ _ _ c.in-Some.entry (c.in_ok-rim.ensures.same ∙ c.in_ok-entry.ensures.same) (λ m e. sym (c.in_ok-entry.ensures.found m e) ∙ c.in-Some.is)

pub returns-in_err-rim-clause-answers : goal.returns-in_err-rim-clause-answers
returns-in_err-rim-clause-answers g c =
    err-answers _ _ _ _ c.from_residual-in_err-rim.result _ c.from_residual-in_err-rim.ensures.1
    (λ damaged. gap-cannot _ _ _ c.in-Some.entry c.gap_of-gap.result _ _ (λ m e. sym (c.in_ok-entry.ensures.found m e) ∙ c.in-Some.is) c.in_ok-entry.ensures.same (record { up = c.in_ok-parent.ensures.parent; gap_parent = c.gap_of-gap.ensures.parent; gap_left = c.gap_of-gap.ensures.left; gap_right = c.gap_of-gap.ensures.right }) (c.in_err-rim.ensures.cannot damaged))

pub returns-in_err-rim-clause-fault : goal.returns-in_err-rim-clause-fault
returns-in_err-rim-clause-fault g c =
    err-explains_edit g.N.Records.told g.N.Records.faults g.N.Records.damages g.N.RecordsMut.has_mark g.N.RecordsMut.marks (replace c.args.node (value_of c.args.value.now)) c.args.next c.args.paths.now.paths c.args.nodes.now _ _ c.from_residual-in_err-rim.result _ c.from_residual-in_err-rim.ensures.1
    c.in_ok-entry.ensures.goes_on c.in_ok-entry.ensures.same c.in_err-rim.ensures.fault

pub returns-in_err-more-clause-answers : goal.returns-in_err-more-clause-answers
returns-in_err-more-clause-answers g c =
    replace-refused _ _ _ c.in-Some.entry _ _ _ _ _ _ _ _ c.from_residual-in_err-more.result c.from_residual-in_err-more.ensures.1 refl (λ m e. sym (c.in_ok-entry.ensures.found m e) ∙ c.in-Some.is) (cc) c.in_ok-parent.ensures.parent
    c.in_ok-entry.ensures.same (omega arith) (c.in_err-more.ensures.room _ _ (subst (λ k. CountsLevels (Some k) c.args.next (g.N.Records.told c.read.new.nodes) (Some c.in_ok-rim.rim.levels)) c.gap_of-gap.ensures.parent c.in_ok-rim.ensures.counted))

pub returns-in_err-more-clause-fault : goal.returns-in_err-more-clause-fault
returns-in_err-more-clause-fault g c = err_again c.from_residual-in_err-more.result _ _ c.from_residual-in_err-more.ensures.1 (refused-explains (replace c.args.node (value_of c.args.value.now)) c.args.next _ c.args.paths.now.paths (g.N.Records.damages c.args.nodes.now) _ _ c.in_err-more.ensures.fault)

pub returns-in_err-tree-clause-answers : goal.returns-in_err-tree-clause-answers
returns-in_err-tree-clause-answers g c =
    err-answers _ _ _ _ c.from_residual-in_err-tree.result _ c.from_residual-in_err-tree.ensures.1
    (λ damaged. countable _ _ c.in-Some.entry _ c.requires.few (λ m e. sym (c.in_ok-entry.ensures.found m e) ∙ c.in-Some.is) c.in_err-tree.ensures.many)

pub returns-in_err-tree-clause-fault : goal.returns-in_err-tree-clause-fault
returns-in_err-tree-clause-fault g c =
    miscounted-explains_edit (replace c.args.node (value_of c.args.value.now)) c.args.next _ c.args.paths.now.paths (g.N.Records.damages c.args.nodes.now) _ c.from_residual-in_err-tree.result _ c.from_residual-in_err-tree.ensures.1
    (at-most_miscounted _ (reach_of (replace c.args.node (value_of c.args.value.now)) c.args.next (g.N.Records.told c.args.nodes.now)) _ (c.in_err-tree.ensures.fault _ (reach_of (replace c.args.node (value_of c.args.value.now)) c.args.next (g.N.Records.told c.args.nodes.now)) refl (λ m e. sym (c.in_ok-entry.ensures.found m e) ∙ c.in-Some.is)))

pub returns-in_err-gone-clause-answers : goal.returns-in_err-gone-clause-answers
returns-in_err-gone-clause-answers g c =
    err-answers_kept _ _ _ _ c.from_residual-in_err-gone.result _ c.from_residual-in_err-gone.ensures.1
    (λ damaged. cut-cannot _ _ c.in-Some.entry _ _ _ (λ m e. sym (c.in_ok-entry.ensures.found m e) ∙ c.in-Some.is) (c.in_ok-rim.ensures.same ∙ c.in_ok-entry.ensures.same) (c.in_err-gone.ensures.cannot damaged))

pub returns-in_err-gone-clause-fault : goal.returns-in_err-gone-clause-fault
returns-in_err-gone-clause-fault g c =
    both-explains_edit g.N.Records.told g.N.Records.faults g.N.Records.damages g.N.RecordsMut.has_mark g.N.RecordsMut.marks (replace c.args.node (value_of c.args.value.now)) c.args.next c.args.paths.now.paths c.args.nodes.now _ _ c.from_residual-in_err-gone.result _ c.from_residual-in_err-gone.ensures.1
    (goes_then g.N.Records.told g.N.Records.faults g.N.Records.damages g.N.RecordsMut.has_mark g.N.RecordsMut.marks _ _ _ c.in_ok-entry.ensures.goes_on c.in_ok-rim.ensures.goes_on) (c.in_ok-rim.ensures.same ∙ c.in_ok-entry.ensures.same) (c.in_err-gone.ensures.fault (reach_of (replace c.args.node (value_of c.args.value.now)) c.args.next (g.N.Records.told c.args.nodes.now)) refl refl)

pub returns-in_err-erase_all-clause-answers : goal.returns-in_err-erase_all-clause-answers
returns-in_err-erase_all-clause-answers g c = memory-answers _ _ _ _ c.from_residual-in_err-erase_all.result c.from_residual-in_err-erase_all.ensures.1

pub returns-in_err-fill-clause-answers : goal.returns-in_err-fill-clause-answers
returns-in_err-fill-clause-answers g c =
    again-answers _ _ _ _ c.from_residual-in_err-fill.result _ c.from_residual-in_err-fill.ensures.1
    (replace-stops _ (value_of c.args.value.now) _ c.in-Some.entry _ _ _ _ _ _ _ c.in_ok-rim.rim c.in_ok-tree.tree (replacing-after _ _ _ _ _ _ _ _ _ _ _ _ c.in_ok-rim.rim c.in_ok-tree.tree (c.in_ok-rim.ensures.same ∙ c.in_ok-entry.ensures.same) (λ m e. sym (c.in_ok-entry.ensures.found m e) ∙ c.in-Some.is) (cc) (record { up = c.in_ok-parent.ensures.parent; gap_parent = c.gap_of-gap.ensures.parent; gap_left = c.gap_of-gap.ensures.left; gap_right = c.gap_of-gap.ensures.right; number = c.in_ok-tree.ensures.tree.0; nodes = c.in_ok-tree.ensures.tree.1; hash = c.in_ok-tree.ensures.tree.2; fits = c.requires.few }) (rim-there _ _ _ _ c.in_ok-entry.ensures.same c.in_ok-rim.ensures.rim) (taken-out _ _ _ _ _ _ c.in_ok-gone.ensures.uprooted (c.in_ok-erase_all.ensures.ok ∙ ap (option_map (without c.in_ok-gone.gone.items)) c.in_ok-gone.ensures.same)) c.in_ok-gone.ensures.left_out c.requires.had (omega (arith, c.in_ok-more.ensures.enough)))
    _ _ _ _ _ _ c.in_ok-entry.ensures.same refl (omega arith) (c.in_ok-more.ensures.room _ _ (subst (λ k. CountsLevels (Some k) c.args.next (g.N.Records.told c.read.new.nodes) (Some c.in_ok-rim.rim.levels)) c.gap_of-gap.ensures.parent c.in_ok-rim.ensures.counted)) c.in_err-fill.ensures.stops)

pub returns-in_err-fill-clause-fault : goal.returns-in_err-fill-clause-fault
returns-in_err-fill-clause-fault g c =
    err_again c.from_residual-in_err-fill.result _ _ c.from_residual-in_err-fill.ensures.1
    (broken_edit-explains (replace c.args.node (value_of c.args.value.now)) c.args.next (g.N.Records.told c.args.nodes.now) c.args.paths.now.paths (g.N.Records.damages c.args.nodes.now) _ _
    (c.in_err-fill.ensures.fault (g.N.Records.told c.args.nodes.now) c.args.paths.now.paths (reach_of (replace c.args.node (value_of c.args.value.now)) c.args.next (g.N.Records.told c.args.nodes.now)) _ refl refl
    (rim-there _ _ _ _ c.in_ok-entry.ensures.same c.in_ok-rim.ensures.rim)
    (leaves-tree (g.N.Records.told c.args.nodes.now) (reach_of (replace c.args.node (value_of c.args.value.now)) c.args.next (g.N.Records.told c.args.nodes.now)) c.in-Some.entry _ _ c.in_ok-tree.tree (λ m e. sym (c.in_ok-entry.ensures.found m e) ∙ c.in-Some.is) c.in_ok-parent.ensures.parent c.gap_of-gap.ensures.parent c.in_ok-tree.ensures.tree.1)
    (inr (c.in-Some.entry, ((λ m e. sym (c.in_ok-entry.ensures.found m e) ∙ c.in-Some.is), (cc), refl))) c.in_ok-gone.ensures.drifts.1.1))

pub returns-clause-answers : goal.returns-clause-answers
returns-clause-answers g c =
    replace-done _ (value_of c.args.value.now) _ c.in-Some.entry _ _ _ _ _ _ _ c.in_ok-rim.rim c.in_ok-tree.tree (replacing-after _ _ _ _ _ _ _ _ _ _ _ _ c.in_ok-rim.rim c.in_ok-tree.tree (c.in_ok-rim.ensures.same ∙ c.in_ok-entry.ensures.same) (λ m e. sym (c.in_ok-entry.ensures.found m e) ∙ c.in-Some.is) (cc) (record { up = c.in_ok-parent.ensures.parent; gap_parent = c.gap_of-gap.ensures.parent; gap_left = c.gap_of-gap.ensures.left; gap_right = c.gap_of-gap.ensures.right; number = c.in_ok-tree.ensures.tree.0; nodes = c.in_ok-tree.ensures.tree.1; hash = c.in_ok-tree.ensures.tree.2; fits = c.requires.few }) (rim-there _ _ _ _ c.in_ok-entry.ensures.same c.in_ok-rim.ensures.rim) (taken-out _ _ _ _ _ _ c.in_ok-gone.ensures.uprooted (c.in_ok-erase_all.ensures.ok ∙ ap (option_map (without c.in_ok-gone.gone.items)) c.in_ok-gone.ensures.same)) c.in_ok-gone.ensures.left_out c.requires.had (omega (arith, c.in_ok-more.ensures.enough)))
    _ _ _ _ _ _ c.in_ok-entry.ensures.same refl (omega arith) (omega (arith, c.in_ok-more.ensures.count)) (c.in_ok-more.ensures.room _ _ (subst (λ k. CountsLevels (Some k) c.args.next (g.N.Records.told c.read.new.nodes) (Some c.in_ok-rim.rim.levels)) c.gap_of-gap.ensures.parent c.in_ok-rim.ensures.counted)) c.in_ok-fill.ensures.done

pub returns-clause-work : goal.returns-clause-work
returns-clause-work g c =
    replace-gets _ _ c.in-Some.entry _ (λ m e. sym (c.in_ok-entry.ensures.found m e) ∙ c.in-Some.is) (value_of c.args.value.now) _ c.gap_of-gap.result c.in_ok-rim.rim c.in_ok-gone.gone.items _ _ (record { up = c.in_ok-parent.ensures.parent; gap_parent = c.gap_of-gap.ensures.parent; gap_left = c.gap_of-gap.ensures.left; gap_right = c.gap_of-gap.ensures.right }) (rim-there _ _ _ _ c.in_ok-entry.ensures.same c.in_ok-rim.ensures.rim)
    (subst (λ o. IsUprooted c.args.node c.in-Some.entry.first c.args.next o c.in_ok-gone.gone.items) (c.in_ok-rim.ensures.same ∙ c.in_ok-entry.ensures.same) c.in_ok-gone.ensures.uprooted)
    (omega (arith, c.in_ok-entry.ensures.gets, c.in_ok-rim.ensures.gets, c.in_ok-gone.ensures.gets, c.in_ok-erase_all.ensures.same_gets, c.in_ok-fill.ensures.same_gets))

use Rattle.std.proofs.Common.{◌∙◌, ap, arith, inl, refl, subst, sym}
use Rattle.std.specs.Prelude.{option_map}
use Rattle.sx_model.specs.Edit.{remove}
use Rattle.sx_edit.specs.Answers.{AnswersEach}
use Rattle.sx_edit.specs.Damage.{reach_of}
use Rattle.sx_edit.specs.Mend.{IsUprooted}
use Rattle.sx_edit.specs.Seen.{without}
use Rattle.sx_edit.proofs.Getting.{remove-gets}
use Rattle.sx_edit.proofs.Going.{goes_itself, goes_then, leads-one, leads-parent, record-there}
use Rattle.sx_edit.proofs.Answering.{at-most_miscounted, miscounted-explains_edit, err-answers, err-answers_kept, both-explains_edit, err-explains_edit, memory-answers, untold-no_state, no-node}
use Rattle.sx_edit.proofs.Clearing.{taken-out}
use Rattle.sx_edit.proofs.Upward.{leaves-tree}
use Rattle.sx_edit.proofs.Splicing.{countable, cut-cannot, gap-cannot, moved-there, parented, remove-cannot, remove-done, remove-top, remove-value, rim-there}
use Rattle.sx_edit.proofs.removal.remove.Goals as goal

pub returns-in_err-entry-clause-answers : goal.returns-in_err-entry-clause-answers
returns-in_err-entry-clause-answers g c =
    err-answers _ _ _ _ c.from_residual.result _ c.from_residual.ensures.1 (λ damaged. untold-no_state _ _ (c.in_err-entry.ensures.untold damaged))

pub returns-in_err-entry-clause-fault : goal.returns-in_err-entry-clause-fault
returns-in_err-entry-clause-fault g c =
    err-explains_edit g.N.Records.told g.N.Records.faults g.N.Records.damages g.N.RecordsMut.has_mark g.N.RecordsMut.marks (remove c.args.node) c.args.next c.args.paths.now.paths c.args.nodes.now c.args.nodes.now _ c.from_residual.result _ c.from_residual.ensures.1
    (goes_itself g.N.Records.told g.N.Records.faults g.N.Records.damages g.N.RecordsMut.has_mark g.N.RecordsMut.marks c.args.nodes.now) refl (c.in_err-entry.ensures.fault c.args.next)

pub returns-in_default-clause-answers : goal.returns-in_default-clause-answers
unfolding AnswersEach
returns-in_default-clause-answers g c = λ state are of_state. no-node _ _ state _ _ _ c.in_ok-entry.ensures.found c.in_default.is are

pub read_linked-requires : goal.read_linked-requires
read_linked-requires g c = inl (leads-one _ _ _ _ c.in-Some-parent.is (leads-parent _ _ c.in-Some.entry (record-there _ _ _ c.in-Some.entry c.in_ok-entry.ensures.same (λ m e. sym (c.in_ok-entry.ensures.found m e) ∙ c.in-Some.is)) _ refl))

pub returns-in_default-parent-clause-answers : goal.returns-in_default-parent-clause-answers
returns-in_default-parent-clause-answers g c = remove-top _ _ c.in-Some.entry _ _ (λ m e. sym (c.in_ok-entry.ensures.found m e) ∙ c.in-Some.is) c.in_default-parent.is

pub returns-in_err-above-clause-answers : goal.returns-in_err-above-clause-answers
returns-in_err-above-clause-answers g c =
    err-answers _ _ _ _ c.from_residual-in_err-above.result _ c.from_residual-in_err-above.ensures.1
    (λ damaged. parented _ _ c.in-Some.entry _ _ (λ m e. sym (c.in_ok-entry.ensures.found m e) ∙ c.in-Some.is) c.in-Some-parent.is
    (moved-there _ _ _ _ c.in_ok-entry.ensures.same (c.in_err-above.ensures.absent damaged)))

pub returns-in_err-above-clause-fault : goal.returns-in_err-above-clause-fault
returns-in_err-above-clause-fault g c =
    err-explains_edit g.N.Records.told g.N.Records.faults g.N.Records.damages g.N.RecordsMut.has_mark g.N.RecordsMut.marks (remove c.args.node) c.args.next c.args.paths.now.paths c.args.nodes.now _ _ c.from_residual-in_err-above.result _ c.from_residual-in_err-above.ensures.1
    c.in_ok-entry.ensures.goes_on c.in_ok-entry.ensures.same (c.in_err-above.ensures.fault c.args.next)

pub returns-then-is_key-clause-answers : goal.returns-then-is_key-clause-answers
returns-then-is_key-clause-answers g c =
    remove-value _ _ c.in-Some.entry _ _ c.in_ok-above.above _ (λ m e. sym (c.in_ok-entry.ensures.found m e) ∙ c.in-Some.is) c.in-Some-parent.is
    (moved-there _ _ _ _ c.in_ok-entry.ensures.same c.in_ok-above.ensures.found) (cc)

pub returns-in_err-tree-clause-answers : goal.returns-in_err-tree-clause-answers
returns-in_err-tree-clause-answers g c =
    err-answers _ _ _ _ c.from_residual-in_err-tree.result _ c.from_residual-in_err-tree.ensures.1
    (λ damaged. countable _ _ c.in-Some.entry _ c.requires (λ m e. sym (c.in_ok-entry.ensures.found m e) ∙ c.in-Some.is) c.in_err-tree.ensures.many)

pub returns-in_err-tree-clause-fault : goal.returns-in_err-tree-clause-fault
returns-in_err-tree-clause-fault g c =
    miscounted-explains_edit (remove c.args.node) c.args.next _ c.args.paths.now.paths (g.N.Records.damages c.args.nodes.now) _ c.from_residual-in_err-tree.result _ c.from_residual-in_err-tree.ensures.1
    (at-most_miscounted _ (reach_of (remove c.args.node) c.args.next (g.N.Records.told c.args.nodes.now)) _ (c.in_err-tree.ensures.fault _ (reach_of (remove c.args.node) c.args.next (g.N.Records.told c.args.nodes.now)) refl (λ m e. sym (c.in_ok-entry.ensures.found m e) ∙ c.in-Some.is)))

pub survey-requires-clause-reached : goal.survey-requires-clause-reached
survey-requires-clause-reached g c = c.gap_of-gap.ensures.reached _ (record-there _ _ _ c.in-Some.entry (c.in_ok-above.ensures.same ∙ c.in_ok-entry.ensures.same) (λ m e. sym (c.in_ok-entry.ensures.found m e) ∙ c.in-Some.is)) c.in-Some-parent.is

pub uproot-requires : goal.uproot-requires
uproot-requires g c = record-there _ _ _ c.in-Some.entry (c.in_ok-rim.ensures.same ∙ c.in_ok-above.ensures.same ∙ c.in_ok-entry.ensures.same) (λ m e. sym (c.in_ok-entry.ensures.found m e) ∙ c.in-Some.is)

pub returns-in_err-rim-clause-answers : goal.returns-in_err-rim-clause-answers
returns-in_err-rim-clause-answers g c =
    err-answers _ _ _ _ c.from_residual-in_err-rim.result _ c.from_residual-in_err-rim.ensures.1
    (λ damaged. gap-cannot _ _ _ c.in-Some.entry c.gap_of-gap.result _ _ (λ m e. sym (c.in_ok-entry.ensures.found m e) ∙ c.in-Some.is) (c.in_ok-above.ensures.same ∙ c.in_ok-entry.ensures.same) (record { up = c.in-Some-parent.is; gap_parent = c.gap_of-gap.ensures.parent; gap_left = c.gap_of-gap.ensures.left; gap_right = c.gap_of-gap.ensures.right }) (c.in_err-rim.ensures.cannot damaged))

pub returns-in_err-rim-clause-fault : goal.returns-in_err-rim-clause-fault
returns-in_err-rim-clause-fault g c =
    err-explains_edit g.N.Records.told g.N.Records.faults g.N.Records.damages g.N.RecordsMut.has_mark g.N.RecordsMut.marks (remove c.args.node) c.args.next c.args.paths.now.paths c.args.nodes.now _ _ c.from_residual-in_err-rim.result _ c.from_residual-in_err-rim.ensures.1
    (goes_then g.N.Records.told g.N.Records.faults g.N.Records.damages g.N.RecordsMut.has_mark g.N.RecordsMut.marks _ _ _ c.in_ok-entry.ensures.goes_on c.in_ok-above.ensures.goes_on) (c.in_ok-above.ensures.same ∙ c.in_ok-entry.ensures.same) c.in_err-rim.ensures.fault

pub returns-in_err-gone-clause-answers : goal.returns-in_err-gone-clause-answers
returns-in_err-gone-clause-answers g c =
    err-answers_kept _ _ _ _ c.from_residual-in_err-gone.result _ c.from_residual-in_err-gone.ensures.1
    (λ damaged. cut-cannot _ _ c.in-Some.entry _ _ _ (λ m e. sym (c.in_ok-entry.ensures.found m e) ∙ c.in-Some.is) (c.in_ok-rim.ensures.same ∙ c.in_ok-above.ensures.same ∙ c.in_ok-entry.ensures.same) (c.in_err-gone.ensures.cannot damaged))

pub returns-in_err-gone-clause-fault : goal.returns-in_err-gone-clause-fault
returns-in_err-gone-clause-fault g c =
    both-explains_edit g.N.Records.told g.N.Records.faults g.N.Records.damages g.N.RecordsMut.has_mark g.N.RecordsMut.marks (remove c.args.node) c.args.next c.args.paths.now.paths c.args.nodes.now _ _ c.from_residual-in_err-gone.result _ c.from_residual-in_err-gone.ensures.1
    (goes_then g.N.Records.told g.N.Records.faults g.N.Records.damages g.N.RecordsMut.has_mark g.N.RecordsMut.marks _ _ _ (goes_then g.N.Records.told g.N.Records.faults g.N.Records.damages g.N.RecordsMut.has_mark g.N.RecordsMut.marks _ _ _ c.in_ok-entry.ensures.goes_on c.in_ok-above.ensures.goes_on) c.in_ok-rim.ensures.goes_on) (c.in_ok-rim.ensures.same ∙ c.in_ok-above.ensures.same ∙ c.in_ok-entry.ensures.same) (c.in_err-gone.ensures.fault (reach_of (remove c.args.node) c.args.next (g.N.Records.told c.args.nodes.now)) refl refl)

pub returns-in_err-erase_all-clause-answers : goal.returns-in_err-erase_all-clause-answers
returns-in_err-erase_all-clause-answers g c = memory-answers _ _ _ _ c.from_residual-in_err-erase_all.result c.from_residual-in_err-erase_all.ensures.1

pub returns-in_err-mend-clause-answers : goal.returns-in_err-mend-clause-answers
returns-in_err-mend-clause-answers g c =
    err-answers _ _ _ _ c.from_residual-in_err-mend.result _ c.from_residual-in_err-mend.ensures.1
    (λ damaged. remove-cannot _ _ c.in-Some.entry _ _ _ _ _ c.in_ok-rim.rim c.in_ok-tree.tree (λ m e. sym (c.in_ok-entry.ensures.found m e) ∙ c.in-Some.is) (c.in_ok-rim.ensures.same ∙ c.in_ok-above.ensures.same ∙ c.in_ok-entry.ensures.same)
    (record { up = c.in-Some-parent.is; gap_parent = c.gap_of-gap.ensures.parent; gap_left = c.gap_of-gap.ensures.left; gap_right = c.gap_of-gap.ensures.right; number = c.in_ok-tree.ensures.tree.0; nodes = c.in_ok-tree.ensures.tree.1; hash = c.in_ok-tree.ensures.tree.2; fits = c.requires }) (rim-there _ _ _ _ (c.in_ok-above.ensures.same ∙ c.in_ok-entry.ensures.same) c.in_ok-rim.ensures.rim) (taken-out _ _ _ _ _ _ c.in_ok-gone.ensures.uprooted (c.in_ok-erase_all.ensures.ok ∙ ap (option_map (without c.in_ok-gone.gone.items)) c.in_ok-gone.ensures.same)) (c.in_err-mend.ensures.cannot c.args.next damaged))

pub returns-in_err-mend-clause-fault : goal.returns-in_err-mend-clause-fault
returns-in_err-mend-clause-fault g c =
    miscounted-explains_edit (remove c.args.node) c.args.next _ c.args.paths.now.paths (g.N.Records.damages c.args.nodes.now) _ c.from_residual-in_err-mend.result _ c.from_residual-in_err-mend.ensures.1
    (c.in_err-mend.ensures.fault (g.N.Records.told c.args.nodes.now) (reach_of (remove c.args.node) c.args.next (g.N.Records.told c.args.nodes.now)) refl
    (leaves-tree (g.N.Records.told c.args.nodes.now) (reach_of (remove c.args.node) c.args.next (g.N.Records.told c.args.nodes.now)) c.in-Some.entry _ _ c.in_ok-tree.tree (λ m e. sym (c.in_ok-entry.ensures.found m e) ∙ c.in-Some.is) c.in-Some-parent.is c.gap_of-gap.ensures.parent c.in_ok-tree.ensures.tree.1) (rim-there _ _ _ _ (c.in_ok-above.ensures.same ∙ c.in_ok-entry.ensures.same) c.in_ok-rim.ensures.rim))

pub returns-clause-answers : goal.returns-clause-answers
returns-clause-answers g c =
    remove-done _ _ c.in-Some.entry _ _ _ _ _ _ c.in_ok-above.above _ _ c.in_ok-rim.rim c.in_ok-tree.tree (λ m e. sym (c.in_ok-entry.ensures.found m e) ∙ c.in-Some.is) c.in-Some-parent.is
    (moved-there _ _ _ _ c.in_ok-entry.ensures.same c.in_ok-above.ensures.found) (cc) (c.in_ok-rim.ensures.same ∙ c.in_ok-above.ensures.same ∙ c.in_ok-entry.ensures.same)
    (record { up = c.in-Some-parent.is; gap_parent = c.gap_of-gap.ensures.parent; gap_left = c.gap_of-gap.ensures.left; gap_right = c.gap_of-gap.ensures.right; number = c.in_ok-tree.ensures.tree.0; nodes = c.in_ok-tree.ensures.tree.1; hash = c.in_ok-tree.ensures.tree.2; fits = c.requires }) (rim-there _ _ _ _ (c.in_ok-above.ensures.same ∙ c.in_ok-entry.ensures.same) c.in_ok-rim.ensures.rim) (taken-out _ _ _ _ _ _ c.in_ok-gone.ensures.uprooted (c.in_ok-erase_all.ensures.ok ∙ ap (option_map (without c.in_ok-gone.gone.items)) c.in_ok-gone.ensures.same)) c.in_ok-gone.ensures.left_out (c.in_ok-mend.ensures.done c.args.next)

pub returns-clause-work : goal.returns-clause-work
returns-clause-work g c =
    remove-gets _ _ c.in-Some.entry _ (λ m e. sym (c.in_ok-entry.ensures.found m e) ∙ c.in-Some.is) _ c.gap_of-gap.result c.in_ok-rim.rim c.in_ok-gone.gone.items _ _ (record { up = c.in-Some-parent.is; gap_parent = c.gap_of-gap.ensures.parent; gap_left = c.gap_of-gap.ensures.left; gap_right = c.gap_of-gap.ensures.right }) (rim-there _ _ _ _ (c.in_ok-above.ensures.same ∙ c.in_ok-entry.ensures.same) c.in_ok-rim.ensures.rim)
    (subst (λ o. IsUprooted c.args.node c.in-Some.entry.first c.args.next o c.in_ok-gone.gone.items) (c.in_ok-rim.ensures.same ∙ c.in_ok-above.ensures.same ∙ c.in_ok-entry.ensures.same) c.in_ok-gone.ensures.uprooted)
    (omega (arith, c.in_ok-entry.ensures.gets, c.in_ok-above.ensures.gets, c.in_ok-rim.ensures.gets, c.in_ok-gone.ensures.gets, c.in_ok-erase_all.ensures.same_gets, c.in_ok-mend.ensures.same_gets))

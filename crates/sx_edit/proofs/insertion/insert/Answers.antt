use Rattle.std.proofs.Common.{[], inl, inr, arith, refl, subst, sym, ◌∙◌}
use Rattle.std.specs.Option.{option_copied}
use Rattle.sx_tree.specs.Value.{value_of}
use Rattle.sx_edit.proofs.Going.{gap-there, goes_itself, goes_then, leads-there}
use Rattle.sx_edit.proofs.Answering.{again-answers, again-explains_edit, broken_edit-explains, err-answers, err-explains_edit, refused-explains}
use Rattle.sx_edit.proofs.Inserting.{checks-there, count-below, entering-room, insert-done, insert-no_room, insert-path_stops, insert-stops, insert-unchecked, insert-unnamed, insert-unplaced, inserting-after, named-below, place-cannot}
use Rattle.sx_model.specs.Edit.{insert}
use Rattle.sx_edit.specs.Damage.{IsNew, reach_of}
use Rattle.sx_edit.specs.Gets.{GetsChildren}
use Rattle.sx_edit.proofs.Getting.{insert-gets}
use Rattle.sx_edit.proofs.Results.{err_again}
use Rattle.sx_edit.proofs.Splicing.{rim-there}
use Rattle.sx_edit.proofs.Drifting.{base-of, drifts-itself}
use Rattle.sx_edit.proofs.Filling.{coming-entering, some-coming}
use Rattle.sx_edit.proofs.Stopping.{breach-edit_explains}
use Rattle.sx_edit.proofs.insertion.insert.Goals as goal

pub returns-in_err-target-clause-answers : goal.returns-in_err-target-clause-answers
returns-in_err-target-clause-answers g c = insert-unplaced _ _ _ _ _ _ _ _ c.from_residual.result c.from_residual.ensures.1 c.in_err-target.ensures.none

pub returns-in_err-target-clause-fault : goal.returns-in_err-target-clause-fault
returns-in_err-target-clause-fault g c =
    again-explains_edit g.N.Records.told g.N.Records.faults g.N.Records.damages g.N.RecordsMut.has_mark g.N.RecordsMut.marks (insert c.args.place (option_copied c.args.name) (value_of c.args.value.now)) c.args.next c.args.paths.now.paths c.args.nodes.now c.args.nodes.now _ c.from_residual.result _ c.from_residual.ensures.1
    (goes_itself g.N.Records.told g.N.Records.faults g.N.Records.damages g.N.RecordsMut.has_mark g.N.RecordsMut.marks c.args.nodes.now) refl (c.in_err-target.ensures.fault (insert c.args.place (option_copied c.args.name) (value_of c.args.value.now)) c.args.paths.now.paths)

pub returns-in_err-check_children-clause-answers : goal.returns-in_err-check_children-clause-answers
returns-in_err-check_children-clause-answers g c =
    insert-unchecked _ (option_copied c.args.name) (value_of c.args.value.now) _ c.in_ok-target.target _ c.in_ok-target.ensures.place _ _ _ _ c.from_residual-in_err-check_children.result c.from_residual-in_err-check_children.ensures.1 refl
    (checks-there _ _ _ _ _ _ c.in_ok-target.ensures.same c.in_err-check_children.ensures.checks)

pub returns-in_err-check_children-clause-fault : goal.returns-in_err-check_children-clause-fault
returns-in_err-check_children-clause-fault g c =
    again-explains_edit g.N.Records.told g.N.Records.faults g.N.Records.damages g.N.RecordsMut.has_mark g.N.RecordsMut.marks (insert c.args.place (option_copied c.args.name) (value_of c.args.value.now)) c.args.next c.args.paths.now.paths c.args.nodes.now _ _ c.from_residual-in_err-check_children.result _ c.from_residual-in_err-check_children.ensures.1
    c.in_ok-target.ensures.goes_on c.in_ok-target.ensures.same (c.in_err-check_children.ensures.fault (insert c.args.place (option_copied c.args.name) (value_of c.args.value.now)) c.args.paths.now.paths)

pub check_children-requires : goal.check_children-requires
check_children-requires g c = leads-there _ _ _ _ c.in_ok-target.ensures.same c.in_ok-target.ensures.first

pub survey-requires-clause-reached : goal.survey-requires-clause-reached
survey-requires-clause-reached g c = gap-there _ _ _ (c.in_ok-check_children.ensures.same ∙ c.in_ok-target.ensures.same) c.in_ok-target.ensures.reached

pub returns-in_err-rim-clause-answers : goal.returns-in_err-rim-clause-answers
returns-in_err-rim-clause-answers g c =
    err-answers _ _ _ _ c.from_residual-in_err-rim.result _ c.from_residual-in_err-rim.ensures.1
    (λ damaged. place-cannot _ (option_copied c.args.name) (value_of c.args.value.now) _ c.in_ok-target.target _ c.in_ok-target.ensures.place _ (c.in_ok-check_children.ensures.same ∙ c.in_ok-target.ensures.same) (c.in_err-rim.ensures.cannot damaged))

pub returns-in_err-rim-clause-fault : goal.returns-in_err-rim-clause-fault
returns-in_err-rim-clause-fault g c =
    err-explains_edit g.N.Records.told g.N.Records.faults g.N.Records.damages g.N.RecordsMut.has_mark g.N.RecordsMut.marks (insert c.args.place (option_copied c.args.name) (value_of c.args.value.now)) c.args.next c.args.paths.now.paths c.args.nodes.now _ _ c.from_residual-in_err-rim.result _ c.from_residual-in_err-rim.ensures.1
    (goes_then g.N.Records.told g.N.Records.faults g.N.Records.damages g.N.RecordsMut.has_mark g.N.RecordsMut.marks _ _ _ c.in_ok-target.ensures.goes_on c.in_ok-check_children.ensures.goes_on) (c.in_ok-check_children.ensures.same ∙ c.in_ok-target.ensures.same) c.in_err-rim.ensures.fault

pub returns-in_err-more-clause-answers : goal.returns-in_err-more-clause-answers
returns-in_err-more-clause-answers g c =
    insert-no_room _ (option_copied c.args.name) (value_of c.args.value.now) _ c.in_ok-target.target _ c.in_ok-target.ensures.place _ _ _ c.in_ok-check_children.field-0 _ _ _ c.from_residual-in_err-more.result c.from_residual-in_err-more.ensures.1 refl
    (checks-there _ _ _ _ _ _ c.in_ok-target.ensures.same c.in_ok-check_children.ensures.checks) (c.in_ok-check_children.ensures.same ∙ c.in_ok-target.ensures.same) (count-below _ _ _ _ c.is_object-in_object.ensures c.new_keys.ensures.is) (c.in_err-more.ensures.room _ _ c.in_ok-rim.ensures.counted)

pub returns-in_err-more-clause-fault : goal.returns-in_err-more-clause-fault
returns-in_err-more-clause-fault g c = err_again c.from_residual-in_err-more.result _ _ c.from_residual-in_err-more.ensures.1 (refused-explains (insert c.args.place (option_copied c.args.name) (value_of c.args.value.now)) c.args.next _ c.args.paths.now.paths (g.N.Records.damages c.args.nodes.now) _ _ c.in_err-more.ensures.fault)

pub returns-in-Some-clause-answers : goal.returns-in-Some-clause-answers
returns-in-Some-clause-answers g c =
    insert-unnamed _ (option_copied c.args.name) (value_of c.args.value.now) _ c.in_ok-target.target _ c.in_ok-target.ensures.place _ _ _ c.in_ok-check_children.field-0 _ c.in_ok-more.more _
    (checks-there _ _ _ _ _ _ c.in_ok-target.ensures.same c.in_ok-check_children.ensures.checks) (c.in_ok-check_children.ensures.same ∙ c.in_ok-target.ensures.same) (count-below _ _ _ _ c.is_object-in_object.ensures c.new_keys.ensures.is) (c.in_ok-more.ensures.room _ _ c.in_ok-rim.ensures.counted) (named-below _ _ _ _ _ c.is_object-in_object.ensures c.name_refusal.ensures c.in-Some.is)

pub fill-requires-clause-room : goal.fill-requires-clause-room
fill-requires-clause-room g c = entering-room c.is_object-in_object.result _ _ _ _ c.new_keys.ensures.is (sym c.name_refusal.ensures ∙ c.in_default.is) c.in_ok-more.ensures.enough

pub returns-in_err-path-clause-answers : goal.returns-in_err-path-clause-answers
returns-in_err-path-clause-answers g c =
    again-answers _ _ _ _ c.from_residual-in_err-path.result _ c.from_residual-in_err-path.ensures.1
    (insert-path_stops _ (option_copied c.args.name) (value_of c.args.value.now) _ c.in_ok-target.target _ c.in_ok-target.ensures.place _ _ _ _ c.in_ok-rim.rim (inserting-after _ (option_copied c.args.name) (value_of c.args.value.now) _ c.in_ok-target.target _ c.in_ok-target.ensures.place _ _ _ _ _ c.in_ok-rim.rim c.in_ok-check_children.field-0 c.in_ok-more.more
    (c.in_ok-rim.ensures.same ∙ c.in_ok-check_children.ensures.same ∙ c.in_ok-target.ensures.same) (rim-there _ _ _ _ (c.in_ok-check_children.ensures.same ∙ c.in_ok-target.ensures.same) c.in_ok-rim.ensures.rim)
    (checks-there _ _ _ _ _ _ c.in_ok-target.ensures.same c.in_ok-check_children.ensures.checks) (c.in_ok-check_children.ensures.same ∙ c.in_ok-target.ensures.same) (count-below _ _ _ _ c.is_object-in_object.ensures c.new_keys.ensures.is)
    (c.in_ok-more.ensures.room _ _ c.in_ok-rim.ensures.counted) (named-below _ _ _ _ _ c.is_object-in_object.ensures c.name_refusal.ensures c.in_default.is) c.requires.had
    (entering-room c.is_object-in_object.result _ _ _ _ c.new_keys.ensures.is (sym c.name_refusal.ensures ∙ c.in_default.is) c.in_ok-more.ensures.enough)) _ _ c.in_err-path.ensures.stops)

pub returns-in_err-path-clause-fault : goal.returns-in_err-path-clause-fault
returns-in_err-path-clause-fault g c =
    err_again c.from_residual-in_err-path.result _ _ c.from_residual-in_err-path.ensures.1 (breach-edit_explains (insert c.args.place (option_copied c.args.name) (value_of c.args.value.now)) c.args.next (g.N.Records.told c.args.nodes.now) c.args.paths.now.paths (g.N.Records.damages c.args.nodes.now) _ _
    (let some = some-coming c.args.place (option_copied c.args.name) (value_of c.args.value.now) in
    let reach = reach_of (insert c.args.place (option_copied c.args.name) (value_of c.args.value.now)) c.args.next (g.N.Records.told c.args.nodes.now) in
    let new : IsNew reach c.args.next = (omega arith, omega (arith, some)) in
    let at = c.in_ok-target.ensures.path in
    c.in_err-path.ensures.fault (g.N.Records.told c.args.nodes.now) c.args.paths.now.paths reach 0 [] (inr new) (base-of _ reach c.args.next at.0 at.1.0 _ _ at.1.1.0 at.1.1.1 (inr (inr (new, at.1.1.2)))) (drifts-itself 0 [] _)))

pub returns-in_err-fill-clause-answers : goal.returns-in_err-fill-clause-answers
returns-in_err-fill-clause-answers g c =
    again-answers _ _ _ _ c.from_residual-in_err-fill.result _ c.from_residual-in_err-fill.ensures.1
    (insert-stops _ (option_copied c.args.name) (value_of c.args.value.now) _ c.in_ok-target.target _ c.in_ok-target.ensures.place _ _ _ _ c.in_ok-rim.rim (inserting-after _ (option_copied c.args.name) (value_of c.args.value.now) _ c.in_ok-target.target _ c.in_ok-target.ensures.place _ _ _ _ _ c.in_ok-rim.rim c.in_ok-check_children.field-0 c.in_ok-more.more
    (c.in_ok-rim.ensures.same ∙ c.in_ok-check_children.ensures.same ∙ c.in_ok-target.ensures.same) (rim-there _ _ _ _ (c.in_ok-check_children.ensures.same ∙ c.in_ok-target.ensures.same) c.in_ok-rim.ensures.rim)
    (checks-there _ _ _ _ _ _ c.in_ok-target.ensures.same c.in_ok-check_children.ensures.checks) (c.in_ok-check_children.ensures.same ∙ c.in_ok-target.ensures.same) (count-below _ _ _ _ c.is_object-in_object.ensures c.new_keys.ensures.is)
    (c.in_ok-more.ensures.room _ _ c.in_ok-rim.ensures.counted) (named-below _ _ _ _ _ c.is_object-in_object.ensures c.name_refusal.ensures c.in_default.is) c.requires.had
    (entering-room c.is_object-in_object.result _ _ _ _ c.new_keys.ensures.is (sym c.name_refusal.ensures ∙ c.in_default.is) c.in_ok-more.ensures.enough)) _ _ _ _ c.in_ok-path.ensures.onto c.in_err-fill.ensures.stops)

pub returns-clause-answers : goal.returns-clause-answers
returns-clause-answers g c =
    insert-done _ (option_copied c.args.name) (value_of c.args.value.now) _ c.in_ok-target.target _ c.in_ok-target.ensures.place _ _ _ _ c.in_ok-rim.rim (inserting-after _ (option_copied c.args.name) (value_of c.args.value.now) _ c.in_ok-target.target _ c.in_ok-target.ensures.place _ _ _ _ _ c.in_ok-rim.rim c.in_ok-check_children.field-0 c.in_ok-more.more
    (c.in_ok-rim.ensures.same ∙ c.in_ok-check_children.ensures.same ∙ c.in_ok-target.ensures.same) (rim-there _ _ _ _ (c.in_ok-check_children.ensures.same ∙ c.in_ok-target.ensures.same) c.in_ok-rim.ensures.rim)
    (checks-there _ _ _ _ _ _ c.in_ok-target.ensures.same c.in_ok-check_children.ensures.checks) (c.in_ok-check_children.ensures.same ∙ c.in_ok-target.ensures.same) (count-below _ _ _ _ c.is_object-in_object.ensures c.new_keys.ensures.is)
    (c.in_ok-more.ensures.room _ _ c.in_ok-rim.ensures.counted) (named-below _ _ _ _ _ c.is_object-in_object.ensures c.name_refusal.ensures c.in_default.is) c.requires.had
    (entering-room c.is_object-in_object.result _ _ _ _ c.new_keys.ensures.is (sym c.name_refusal.ensures ∙ c.in_default.is) c.in_ok-more.ensures.enough)) _ c.in_ok-more.more _ _ c.in_ok-more.ensures.count c.in_ok-path.ensures.onto c.in_ok-fill.ensures.done

pub returns-in_err-fill-clause-fault : goal.returns-in_err-fill-clause-fault
returns-in_err-fill-clause-fault g c = err_again c.from_residual-in_err-fill.result _ _ c.from_residual-in_err-fill.ensures.1
    (broken_edit-explains (insert c.args.place (option_copied c.args.name) (value_of c.args.value.now)) c.args.next (g.N.Records.told c.args.nodes.now) c.args.paths.now.paths (g.N.Records.damages c.args.nodes.now) _ _
    (c.in_err-fill.ensures.fault _ c.args.paths.now.paths (reach_of (insert c.args.place (option_copied c.args.name) (value_of c.args.value.now)) c.args.next (g.N.Records.told c.args.nodes.now)) []
    refl (coming-entering c.args.place (option_copied c.args.name) (value_of c.args.value.now)) (rim-there _ _ _ _ (c.in_ok-check_children.ensures.same ∙ c.in_ok-target.ensures.same) c.in_ok-rim.ensures.rim)
    c.in_ok-target.ensures.near (inl c.in_ok-path.ensures.there) c.in_ok-path.ensures.drifts))

pub returns-clause-work : goal.returns-clause-work
returns-clause-work g c =
    insert-gets _ (option_copied c.args.name) (value_of c.args.value.now) _ c.in_ok-target.target _ c.in_ok-rim.rim _ _ _ _ c.in_ok-target.ensures.place (rim-there _ _ _ _ (c.in_ok-check_children.ensures.same ∙ c.in_ok-target.ensures.same) c.in_ok-rim.ensures.rim)
    (subst (λ o. GetsChildren c.args.next c.in_ok-target.target o (g.N.Records.gets c.target_of.new.nodes) (g.N.Records.gets c.check_children.new.nodes)) c.in_ok-target.ensures.same c.in_ok-check_children.ensures.work)
    c.in_ok-target.ensures.gets (omega (arith, c.in_ok-rim.ensures.gets, c.in_ok-fill.ensures.same_gets))

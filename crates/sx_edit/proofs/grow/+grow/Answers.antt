use Rattle.std.proofs.Common.{[], inl, inr, rules, arith, refl, suc, take, ◌+◌, ◌-◌, ◌∙◌}
use Rattle.sx_tree.specs.Value.{value_of, values_of, fields_of, nodes}
use Rattle.sx_tree.specs.declared.json.Json.{the_lemmas}
use Rattle.sx_edit.proofs.Drifting.{drifts-itself, drifts-on, drifts-within, there-on}
use Rattle.sx_edit.proofs.Going.{goes_itself, goes_then}
use Rattle.sx_edit.proofs.Growing.{array-grown, members-so_far, values-so_far, members-more, named-onto, nodes-top, object-grown, scalar-grown, size-numbered_fields, size-numbered_values, values-more, hung-as, hung-long, down-key, down-top, hung-right, items-room, items-turn, left_over, some-nodes, member-there, members-long, members-room, members-turn, none-hung}
use Rattle.sx_edit.proofs.Results.{err_again}
use Rattle.sx_edit.proofs.Stopping.{array-drifts, array-fits, array-stops, child-stops, fault-breach, items-among, memory-stops_growing, named-stops, names-among, object-drifts, object-fits, object-stops, onto-stops, uncounted-stops}
use Rattle.sx_edit.proofs.grow.+grow.Goals as goal

pub grow_items-overflow_add-number-in-loop-place : goal.grow_items-overflow_add-number-in-loop-place
grow_items-overflow_add-number-in-loop-place g t c =
    let room = items-room _ _ _ _ _ _ _ _ _ c.loop-place-test.true c.index-values-place.is c.requires.room c.loop-place.invariant.hung in
    omega (arith, room.room)

pub grow_items-grow-requires : goal.grow_items-grow-requires
grow_items-grow-requires g t c κs within =
    let room = (items-room _ _ _ _ _ _ _ _ _ c.loop-place-test.true c.index-values-place.is c.requires.room c.loop-place.invariant.hung).room in
    (search (rules, the_lemmas), (search rules, omega (arith, room, c.in_ok-on.ensures.fits)))

pub grow_items-hang-requires-clause-few : goal.grow_items-hang-requires-clause-few
grow_items-hang-requires-clause-few g t c = (items-room _ _ _ _ _ _ _ _ _ c.loop-place-test.true c.index-values-place.is c.requires.room c.loop-place.invariant.hung).few

pub grow_items-hang-requires-clause-room : goal.grow_items-hang-requires-clause-room
grow_items-hang-requires-clause-room g t c =
    let room = (items-room _ _ _ _ _ _ _ _ _ c.loop-place-test.true c.index-values-place.is c.requires.room c.loop-place.invariant.hung).room in
    omega (arith, room, down-top _ _ _ _ c.in_ok-top.ensures.top)

pub grow_items-hang-requires-clause-beyond : goal.grow_items-hang-requires-clause-beyond
grow_items-hang-requires-clause-beyond g t c = λ more.
    let room = (items-room _ _ _ _ _ _ _ _ _ c.loop-place-test.true c.index-values-place.is c.requires.room c.loop-place.invariant.hung).room in
    omega (arith, room, down-top _ _ _ _ c.in_ok-top.ensures.top, left_over _ _ more)

pub grow_items-loop-place-init : goal.grow_items-loop-place-init
grow_items-loop-place-init g t c =
    let made = c.no_children-children.ensures in
    record {
      hung = none-hung _ _ _ _ _ made.first made.last made.count made.nodes made.hash;
      drifts = drifts-itself _ [] _;
      same_mark = refl;
      same_gets = refl;
      goes_on = goes_itself g.N.Records.told g.N.Records.faults g.N.Records.damages g.N.RecordsMut.has_mark g.N.RecordsMut.marks _;
    }

pub grow_items-loop-place-preserved : goal.grow_items-loop-place-preserved
grow_items-loop-place-preserved g t c =
    let then_on = goes_then g.N.Records.told g.N.Records.faults g.N.Records.damages g.N.RecordsMut.has_mark g.N.RecordsMut.marks in
    let xs = c.args.values.now in
    let here = c.loop-place-test.true in
    let grown = c.in_ok-top.ensures in
    let done = c.in_ok-children.ensures in
    record {
      hung = hung-as _ _ _ _ _ _ _ _ _ _ _ _ done.children (items-turn _ _ _ _ xs _ _ _ _ _ _ _ _ _ _ here c.index-values-place.is (hung-right _ _ _ _ _ _ _ _ _ here c.loop-place.invariant.hung)
          c.in_ok-on.ensures.onto grown.top grown.grown done.children done.added);
      drifts = drifts-on c.loop-place.children.nodes (nodes (value_of c.index-values-place.result)) c.in_ok-children.children.nodes [] _ _ _ (omega (arith, done.children.nodes, down-top _ _ _ _ grown.top)) c.loop-place.invariant.drifts
          (drifts-on 0 (nodes (value_of c.index-values-place.result)) (nodes (value_of c.index-values-place.result)) [] _ _ _ (omega arith) c.in_ok-on.ensures.drifts grown.drifts);
      same_mark = grown.same_mark ∙ c.in_ok-on.ensures.same_mark ∙ c.loop-place.invariant.same_mark;
      same_gets = done.same_gets ∙ grown.same_gets ∙ c.loop-place.invariant.same_gets;
      goes_on = then_on _ _ _ (then_on _ _ _ c.loop-place.invariant.goes_on grown.goes_on) done.goes_on;
    }

pub grow_members-loop-place-init : goal.grow_members-loop-place-init
grow_members-loop-place-init g t c =
    let made = c.no_children-children.ensures in
    record {
      hung = none-hung _ _ _ _ _ made.first made.last made.count made.nodes made.hash;
      drifts = drifts-itself _ [] _;
      same_mark = refl;
      same_gets = refl;
      goes_on = goes_itself g.N.Records.told g.N.Records.faults g.N.Records.damages g.N.RecordsMut.has_mark g.N.RecordsMut.marks _;
    }

pub grow_members-overflow_add-number-in-loop-place : goal.grow_members-overflow_add-number-in-loop-place
grow_members-overflow_add-number-in-loop-place g t c =
    let room = members-room _ _ _ _ _ _ _ _ _ (member-there _ _ _ _ _ _ c.names-names.ensures.same c.values-values.ensures.same c.loop-place-test.true c.index-names-place.is c.index-values-place.is) c.requires.room c.loop-place.invariant.hung in
    omega (arith, room.room)

pub grow_members-overflow_add-number-in-loop-place-2 : goal.grow_members-overflow_add-number-in-loop-place-2
grow_members-overflow_add-number-in-loop-place-2 g t c =
    let room = members-room _ _ _ _ _ _ _ _ _ (member-there _ _ _ _ _ _ c.names-names.ensures.same c.values-values.ensures.same c.loop-place-test.true c.index-names-place.is c.index-values-place.is) c.requires.room c.loop-place.invariant.hung in
    omega (arith, room.room)

pub grow_members-grow-requires : goal.grow_members-grow-requires
grow_members-grow-requires g t c κs within =
    let room = members-room _ _ _ _ _ _ _ _ _ (member-there _ _ _ _ _ _ c.names-names.ensures.same c.values-values.ensures.same c.loop-place-test.true c.index-names-place.is c.index-values-place.is) c.requires.room c.loop-place.invariant.hung in
    (search (rules, the_lemmas), (search rules, omega (arith, room.room, c.in_ok-on.ensures.fits)))

pub grow_members-key_over-requires : goal.grow_members-key_over-requires
grow_members-key_over-requires g t c =
    let room = members-room _ _ _ _ _ _ _ _ _ (member-there _ _ _ _ _ _ c.names-names.ensures.same c.values-values.ensures.same c.loop-place-test.true c.index-names-place.is c.index-values-place.is) c.requires.room c.loop-place.invariant.hung in
    omega (arith, room.room, down-top _ _ _ _ c.in_ok-top.ensures.top)

pub grow_members-hang-requires-clause-few : goal.grow_members-hang-requires-clause-few
grow_members-hang-requires-clause-few g t c =
    let room = members-room _ _ _ _ _ _ _ _ _ (member-there _ _ _ _ _ _ c.names-names.ensures.same c.values-values.ensures.same c.loop-place-test.true c.index-names-place.is c.index-values-place.is) c.requires.room c.loop-place.invariant.hung in
    room.few

pub grow_members-hang-requires-clause-room : goal.grow_members-hang-requires-clause-room
grow_members-hang-requires-clause-room g t c =
    let room = members-room _ _ _ _ _ _ _ _ _ (member-there _ _ _ _ _ _ c.names-names.ensures.same c.values-values.ensures.same c.loop-place-test.true c.index-names-place.is c.index-values-place.is) c.requires.room c.loop-place.invariant.hung in
    omega (arith, room.room, down-key _ _ _ _ _ _ c.in_ok-key.key (omega arith) c.in_ok-key.ensures.key c.in_ok-top.ensures.top)

pub grow_members-hang-requires-clause-beyond : goal.grow_members-hang-requires-clause-beyond
grow_members-hang-requires-clause-beyond g t c = λ more.
    let room = members-room _ _ _ _ _ _ _ _ _ (member-there _ _ _ _ _ _ c.names-names.ensures.same c.values-values.ensures.same c.loop-place-test.true c.index-names-place.is c.index-values-place.is) c.requires.room c.loop-place.invariant.hung in
    omega (arith, room.room, down-key _ _ _ _ _ _ c.in_ok-key.key (omega arith) c.in_ok-key.ensures.key c.in_ok-top.ensures.top, left_over _ _ more, members-long _ _ c.values-values.ensures.same)

pub grow_members-loop-place-preserved : goal.grow_members-loop-place-preserved
grow_members-loop-place-preserved g t c =
    let then_on = goes_then g.N.Records.told g.N.Records.faults g.N.Records.damages g.N.RecordsMut.has_mark g.N.RecordsMut.marks in
    let there = member-there _ _ _ _ _ _ c.names-names.ensures.same c.values-values.ensures.same c.loop-place-test.true c.index-names-place.is c.index-values-place.is in
    let grown = c.in_ok-top.ensures in
    let over = c.in_ok-key.ensures in
    let done = c.in_ok-children.ensures in
    record {
      hung = hung-as _ _ _ _ _ _ _ _ _ _ _ _ done.children (hung-long _ _ _ _ _ _ _ _ _ _ (members-long _ _ c.values-values.ensures.same)
          (members-turn _ _ _ _ _ _ _ _ _ _ c.in_ok-key.key _ _ _ _ _ _ _ there (hung-right _ _ _ _ _ _ _ _ _ there.here c.loop-place.invariant.hung)
          (omega arith) (named-onto _ _ _ _ _ _ c.in_ok-step.ensures c.in_ok-on.ensures.onto) grown.top grown.grown over.added over.key done.children done.added));
      drifts = drifts-on c.loop-place.children.nodes (nodes (value_of c.index-values-place.result)) c.in_ok-children.children.nodes [] _ _ _ (omega (arith, done.children.nodes, down-key _ _ _ _ _ _ c.in_ok-key.key (omega arith) over.key grown.top)) c.loop-place.invariant.drifts
          (drifts-on 0 (nodes (value_of c.index-values-place.result)) (nodes (value_of c.index-values-place.result)) [] _ _ _ (omega arith) c.in_ok-on.ensures.drifts grown.drifts);
      same_mark = grown.same_mark ∙ c.in_ok-on.ensures.same_mark ∙ c.loop-place.invariant.same_mark;
      same_gets = done.same_gets ∙ over.same_gets ∙ grown.same_gets ∙ c.loop-place.invariant.same_gets;
      goes_on = then_on _ _ _ (then_on _ _ _ (then_on _ _ _ c.loop-place.invariant.goes_on grown.goes_on) over.goes_on) done.goes_on;
    }

-- ---- what stops it

pub grow-returns-in_err-count_in-clause-stops : goal.grow-returns-in_err-count_in-clause-stops
grow-returns-in_err-count_in-clause-stops g t c =
    uncounted-stops _ _ _ _ _ _ c.from_residual.result _ (omega (arith, nodes-top (value_of c.args.value.now) 0)) c.from_residual.ensures.1 c.in_err-count_in.ensures.cannot

pub grow-returns-in_err-count_in-clause-fault : goal.grow-returns-in_err-count_in-clause-fault
grow-returns-in_err-count_in-clause-fault g t c = λ o table reach plus minus low high known drifts.
    let some = some-nodes (value_of c.args.value.now) in
    let room = c.requires.room in
    fault-breach o table reach c.from_residual.result _ c.from_residual.ensures.1
    (c.in_err-count_in.ensures.fault o table reach plus minus (c.args.number - reach.next) known (inl ((omega (arith, low), omega (arith, high, some)), omega (arith, low))) (omega (arith, low)) (omega (arith, room, some)) drifts)

pub grow-returns-in_err-label-in-Scalar-clause-stops : goal.grow-returns-in_err-label-in-Scalar-clause-stops
grow-returns-in_err-label-in-Scalar-clause-stops g t c = memory-stops_growing _ _ _ _ _ c.from_residual-in_err-label-in-Scalar.result c.from_residual-in_err-label-in-Scalar.ensures.1

pub grow-returns-in_err-text-in-Array-clause-stops : goal.grow-returns-in_err-text-in-Array-clause-stops
grow-returns-in_err-text-in-Array-clause-stops g t c = memory-stops_growing _ _ _ _ _ c.from_residual-in_err-text-in-Array.result c.from_residual-in_err-text-in-Array.ensures.1

pub grow-returns-in_err-text-in-Object-clause-stops : goal.grow-returns-in_err-text-in-Object-clause-stops
grow-returns-in_err-text-in-Object-clause-stops g t c = memory-stops_growing _ _ _ _ _ c.from_residual-in_err-text-in-Object.result c.from_residual-in_err-text-in-Object.ensures.1

pub grow-returns-in_err-below-in-Array-clause-fault : goal.grow-returns-in_err-below-in-Array-clause-fault
grow-returns-in_err-below-in-Array-clause-fault g t c =
    λ o table reach plus minus low high known drifts.
    err_again c.from_residual-in_err-below-in-Array.result _ _ c.from_residual-in_err-below-in-Array.ensures.1
    (c.in_err-below-in-Array.ensures.fault o table reach (plus + 1) minus (omega (arith, low)) (array-fits c.args.number _ (value_of c.args.value.now) _ high (rw c.in-Array.is (search (rules, the_lemmas)))) c.in_ok-count_in.ensures.there
    (drifts-on plus 1 (plus + 1) minus _ _ _ (omega arith) drifts c.in_ok-count_in.ensures.drifts))

pub grow-returns-in_err-below-in-Object-clause-fault : goal.grow-returns-in_err-below-in-Object-clause-fault
grow-returns-in_err-below-in-Object-clause-fault g t c =
    λ o table reach plus minus low high known drifts.
    err_again c.from_residual-in_err-below-in-Object.result _ _ c.from_residual-in_err-below-in-Object.ensures.1
    (c.in_err-below-in-Object.ensures.fault o table reach (plus + 1) minus (omega (arith, low)) (object-fits c.args.number _ (value_of c.args.value.now) _ high (rw c.in-Object.is (search (rules, the_lemmas)))) c.in_ok-count_in.ensures.there
    (drifts-on plus 1 (plus + 1) minus _ _ _ (omega arith) drifts c.in_ok-count_in.ensures.drifts))

pub grow-returns-in_err-below-in-Array-clause-stops : goal.grow-returns-in_err-below-in-Array-clause-stops
grow-returns-in_err-below-in-Array-clause-stops g t c =
    err_again c.from_residual-in_err-below-in-Array.result _ _ c.from_residual-in_err-below-in-Array.ensures.1
    (array-stops _ _ _ _ _ _ _ _ (rw c.in-Array.is (search (rules, the_lemmas))) c.in_ok-count_in.ensures.done c.in_err-below-in-Array.ensures.stops)

pub grow-returns-in_err-below-in-Object-clause-stops : goal.grow-returns-in_err-below-in-Object-clause-stops
grow-returns-in_err-below-in-Object-clause-stops g t c =
    err_again c.from_residual-in_err-below-in-Object.result _ _ c.from_residual-in_err-below-in-Object.ensures.1
    (object-stops _ _ _ _ _ _ _ _ (rw c.in-Object.is (search (rules, the_lemmas))) c.in_ok-count_in.ensures.done c.in_err-below-in-Object.ensures.stops)

pub grow-returns-in_ok-label-in-Scalar-clause-grown : goal.grow-returns-in_ok-label-in-Scalar-clause-grown
grow-returns-in_ok-label-in-Scalar-clause-grown g t c = rw c.in-Scalar.is (scalar-grown _ _ _ _ _ _ c.in_ok-count_in.ensures.done)

pub grow-returns-in_ok-text-in-Array-clause-grown : goal.grow-returns-in_ok-text-in-Array-clause-grown
grow-returns-in_ok-text-in-Array-clause-grown g t c =
    array-grown _ _ _ _ _ _ _ _ (rw c.in-Array.is (search (rules, the_lemmas))) c.in_ok-count_in.ensures.done c.in_ok-below-in-Array.ensures.grown

pub grow-returns-in_ok-text-in-Object-clause-grown : goal.grow-returns-in_ok-text-in-Object-clause-grown
grow-returns-in_ok-text-in-Object-clause-grown g t c =
    object-grown _ _ _ _ _ _ _ _ (rw c.in-Object.is (search (rules, the_lemmas))) c.in_ok-count_in.ensures.done c.in_ok-below-in-Object.ensures.grown

pub grow_items-returns-in_err-on-clause-stops : goal.grow_items-returns-in_err-on-clause-stops
grow_items-returns-in_err-on-clause-stops g t c =
    let hung = c.loop-place.invariant.hung in
    err_again c.from_residual.result _ _ c.from_residual.ensures.1
    (onto-stops _ _ _ _ _ _ _ _ _ hung (value_of c.index-values-place.result) _ _ _ _ (items-among _ _ _ _ _ _ _ _ _ c.loop-place-test.true c.index-values-place.is hung) c.in_err-on.ensures.stops)

pub grow_items-returns-in_err-on-clause-fault : goal.grow_items-returns-in_err-on-clause-fault
grow_items-returns-in_err-on-clause-fault g t c = λ o table reach plus minus low high there drifts.
    let many = values-more c.args.values.now c.loop-place.place c.index-values-place.result c.loop-place-test.true c.index-values-place.is in
    let so_far = c.loop-place.invariant.hung.kept_is.nodes ∙ size-numbered_values (values_of (take c.loop-place.place c.args.values.now)) (suc c.args.parent) in
    let some = some-nodes (value_of c.index-values-place.result) in
    err_again c.from_residual.result _ _ c.from_residual.ensures.1
    (c.in_err-on.ensures.fault o table reach (plus + c.loop-place.children.nodes) minus (inr (omega (arith, low), omega (arith, high, many, so_far, some))) (inr (inl (there-on _ [] _ _ _ c.loop-place.invariant.drifts there)))
    (drifts-on plus c.loop-place.children.nodes (plus + c.loop-place.children.nodes) minus _ _ _ (omega arith) drifts c.loop-place.invariant.drifts))

pub grow_items-returns-in_err-top-clause-stops : goal.grow_items-returns-in_err-top-clause-stops
grow_items-returns-in_err-top-clause-stops g t c =
    let hung = c.loop-place.invariant.hung in
    let many = values-more c.args.values.now c.loop-place.place c.index-values-place.result c.loop-place-test.true c.index-values-place.is in
    err_again c.from_residual-in_err-top.result _ _ c.from_residual-in_err-top.ensures.1
    (child-stops _ _ _ _ _ _ _ _ _ hung (value_of c.index-values-place.result) _ _ _ _ _ _ (items-among _ _ _ _ _ _ _ _ _ c.loop-place-test.true c.index-values-place.is hung)
    (omega (arith, many, size-numbered_values (values_of (take c.loop-place.place c.args.values.now)) (suc c.args.parent))) c.in_ok-on.ensures.onto c.in_err-top.ensures.stops)

pub grow_items-returns-in_err-top-clause-fault : goal.grow_items-returns-in_err-top-clause-fault
grow_items-returns-in_err-top-clause-fault g t c = λ o table reach plus minus low high there drifts.
    let many = values-more c.args.values.now c.loop-place.place c.index-values-place.result c.loop-place-test.true c.index-values-place.is in
    let so_far = c.loop-place.invariant.hung.kept_is.nodes ∙ size-numbered_values (values_of (take c.loop-place.place c.args.values.now)) (suc c.args.parent) in
    err_again c.from_residual-in_err-top.result _ _ c.from_residual-in_err-top.ensures.1
    (c.in_err-top.ensures.fault o table reach (plus + c.loop-place.children.nodes) minus (omega (arith, low)) (omega (arith, high, many, so_far)) (inl c.in_ok-on.ensures.there)
    (drifts-on (plus + c.loop-place.children.nodes) 0 (plus + c.loop-place.children.nodes) minus _ _ _ (omega arith)
    (drifts-on plus c.loop-place.children.nodes (plus + c.loop-place.children.nodes) minus _ _ _ (omega arith) drifts c.loop-place.invariant.drifts) c.in_ok-on.ensures.drifts))

pub grow_items-returns-in_err-children-clause-stops : goal.grow_items-returns-in_err-children-clause-stops
grow_items-returns-in_err-children-clause-stops g t c = memory-stops_growing _ _ _ _ _ c.from_residual-in_err-children.result c.from_residual-in_err-children.ensures.1

pub grow_members-returns-in_err-step-clause-stops : goal.grow_members-returns-in_err-step-clause-stops
grow_members-returns-in_err-step-clause-stops g t c = memory-stops_growing _ _ _ _ _ c.from_residual.result c.from_residual.ensures.1

pub grow_members-returns-in_err-on-clause-stops : goal.grow_members-returns-in_err-on-clause-stops
grow_members-returns-in_err-on-clause-stops g t c =
    let hung = c.loop-place.invariant.hung in
    let there = member-there _ _ _ _ _ _ c.names-names.ensures.same c.values-values.ensures.same c.loop-place-test.true c.index-names-place.is c.index-values-place.is in
    err_again c.from_residual-in_err-on.result _ _ c.from_residual-in_err-on.ensures.1
    (onto-stops _ _ _ _ _ _ _ _ _ hung (value_of c.index-values-place.result) _ _ _ _ (names-among _ _ _ _ _ _ _ (suc (c.args.parent + 1 + c.loop-place.children.nodes)) _ _ there refl hung)
    (named-stops _ _ _ _ _ _ c.in_ok-step.ensures c.in_err-on.ensures.stops))

pub grow_members-returns-in_err-on-clause-fault : goal.grow_members-returns-in_err-on-clause-fault
grow_members-returns-in_err-on-clause-fault g t c = λ o table reach plus minus low high there drifts.
    let there_is = member-there _ _ _ _ _ _ c.names-names.ensures.same c.values-values.ensures.same c.loop-place-test.true c.index-names-place.is c.index-values-place.is in
    let many = members-more _ _ _ there_is in
    let so_far = c.loop-place.invariant.hung.kept_is.nodes ∙ size-numbered_fields (fields_of (take c.loop-place.place c.args.members.now)) (suc c.args.parent) in
    err_again c.from_residual-in_err-on.result _ _ c.from_residual-in_err-on.ensures.1
    (c.in_err-on.ensures.fault o table reach (plus + c.loop-place.children.nodes) minus (inr (omega (arith, low), omega (arith, high, many, so_far))) (inr (inl (there-on _ [] _ _ _ c.loop-place.invariant.drifts there)))
    (drifts-on plus c.loop-place.children.nodes (plus + c.loop-place.children.nodes) minus _ _ _ (omega arith) drifts c.loop-place.invariant.drifts))

pub grow_members-returns-in_err-top-clause-stops : goal.grow_members-returns-in_err-top-clause-stops
grow_members-returns-in_err-top-clause-stops g t c =
    let hung = c.loop-place.invariant.hung in
    let there = member-there _ _ _ _ _ _ c.names-names.ensures.same c.values-values.ensures.same c.loop-place-test.true c.index-names-place.is c.index-values-place.is in
    err_again c.from_residual-in_err-top.result _ _ c.from_residual-in_err-top.ensures.1
    (child-stops _ _ _ _ _ _ _ _ _ hung (value_of c.index-values-place.result) _ _ _ _ _ _ (names-among _ _ _ _ _ _ _ _ _ _ there (omega arith) hung)
    (omega (arith, members-more _ _ _ there, size-numbered_fields (fields_of (take c.loop-place.place c.args.members.now)) (suc c.args.parent)))
    (named-onto _ _ _ _ _ _ c.in_ok-step.ensures c.in_ok-on.ensures.onto) c.in_err-top.ensures.stops)

pub grow_members-returns-in_err-top-clause-fault : goal.grow_members-returns-in_err-top-clause-fault
grow_members-returns-in_err-top-clause-fault g t c = λ o table reach plus minus low high there drifts.
    let there_is = member-there _ _ _ _ _ _ c.names-names.ensures.same c.values-values.ensures.same c.loop-place-test.true c.index-names-place.is c.index-values-place.is in
    let many = members-more _ _ _ there_is in
    let so_far = c.loop-place.invariant.hung.kept_is.nodes ∙ size-numbered_fields (fields_of (take c.loop-place.place c.args.members.now)) (suc c.args.parent) in
    err_again c.from_residual-in_err-top.result _ _ c.from_residual-in_err-top.ensures.1
    (c.in_err-top.ensures.fault o table reach (plus + c.loop-place.children.nodes) minus (omega (arith, low)) (omega (arith, high, many, so_far)) (inl c.in_ok-on.ensures.there)
    (drifts-on (plus + c.loop-place.children.nodes) 0 (plus + c.loop-place.children.nodes) minus _ _ _ (omega arith)
    (drifts-on plus c.loop-place.children.nodes (plus + c.loop-place.children.nodes) minus _ _ _ (omega arith) drifts c.loop-place.invariant.drifts) c.in_ok-on.ensures.drifts))

pub grow_members-returns-in_err-key-clause-stops : goal.grow_members-returns-in_err-key-clause-stops
grow_members-returns-in_err-key-clause-stops g t c = memory-stops_growing _ _ _ _ _ c.from_residual-in_err-key.result c.from_residual-in_err-key.ensures.1

pub grow_members-returns-in_err-children-clause-stops : goal.grow_members-returns-in_err-children-clause-stops
grow_members-returns-in_err-children-clause-stops g t c = memory-stops_growing _ _ _ _ _ c.from_residual-in_err-children.result c.from_residual-in_err-children.ensures.1

-- ---- how far the table is

pub grow-returns-in_ok-label-in-Scalar-clause-drifts : goal.grow-returns-in_ok-label-in-Scalar-clause-drifts
grow-returns-in_ok-label-in-Scalar-clause-drifts g t c = drifts-within 1 _ [] _ _ (some-nodes (value_of c.args.value.now)) c.in_ok-count_in.ensures.drifts

pub grow-returns-in_ok-text-in-Array-clause-drifts : goal.grow-returns-in_ok-text-in-Array-clause-drifts
grow-returns-in_ok-text-in-Array-clause-drifts g t c =
    array-drifts (value_of c.args.value.now) _ _ _ _ c.in_ok-count_in.ensures.drifts c.in_ok-below-in-Array.ensures.drifts (rw c.in-Array.is (search (rules, the_lemmas)))

pub grow-returns-in_ok-text-in-Object-clause-drifts : goal.grow-returns-in_ok-text-in-Object-clause-drifts
grow-returns-in_ok-text-in-Object-clause-drifts g t c =
    object-drifts (value_of c.args.value.now) _ _ _ _ c.in_ok-count_in.ensures.drifts c.in_ok-below-in-Object.ensures.drifts (rw c.in-Object.is (search (rules, the_lemmas)))

pub grow_items-returns-clause-drifts : goal.grow_items-returns-clause-drifts
grow_items-returns-clause-drifts g t c =
    let so_far = c.loop-place.invariant.hung.kept_is.nodes ∙ size-numbered_values (values_of (take c.loop-place.place c.args.values.now)) (suc c.args.parent) in
    drifts-within c.loop-place.children.nodes _ [] _ _ (omega (arith, so_far, values-so_far c.args.values.now c.loop-place.place)) c.loop-place.invariant.drifts

pub grow_members-returns-clause-drifts : goal.grow_members-returns-clause-drifts
grow_members-returns-clause-drifts g t c =
    let so_far = c.loop-place.invariant.hung.kept_is.nodes ∙ size-numbered_fields (fields_of (take c.loop-place.place c.args.members.now)) (suc c.args.parent) in
    drifts-within c.loop-place.children.nodes _ [] _ _ (omega (arith, so_far, members-so_far c.args.members.now c.loop-place.place)) c.loop-place.invariant.drifts

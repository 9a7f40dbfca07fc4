use Rattle.std.proofs.Common.{◌≡◌, ◌-◌, ◌∷◌, ◌++◌, ◌∙◌, List, ℕ, [], ap, arith, inl, inr, length, refl, suc, sym, subst}
use Rattle.std.proofs.lemmas.List.{map-append}
use Rattle.std.proofs.lemmas.Result.{err_from_is_err_and}
use Rattle.sx_tree.specs.declared.json.Json.{Json}
use Rattle.sx_tree.specs.Names.{names_of}
use Rattle.sx_tree.specs.Value.{value_of, values_from, fields_from}
use Rattle.sx_model.specs.Grammar.{ElementsAt, MembersAt, NameThen}
use Rattle.sx_model.specs.Faults.{MembersFault, ScalarFault, ValueFault}
use Rattle.sx_model.proofs.FirstBytes.{Led-from}
use Rattle.sx_model.proofs.Tokens.{Member}
use Rattle.sx_model.specs.StringFaults.{QuoteFault}
use Rattle.sx_tree.specs.declared.json_fault.JsonFault.TheVariants.{DuplicateName}
use Rattle.sx_json.specs.Nested.{ArrayFault, IsName, IsTaken, BehindNameFault, ObjectFault}
use Rattle.sx_json.proofs.Nested as nested
use Rattle.sx_json.proofs.Nested.{closes, pushed, seen}
use Rattle.sx_json.proofs.Places.{led_skips, name_led, next_led}
use Rattle.sx_json.proofs.Results.{unless_map}
use Rattle.sx_json.proofs.StringTexts.{utf8_behind}
use Rattle.sx_json.proofs.reader.+read.Goals as goal

-- ---- arrays

pub array_at-returns-in-Some-clause-ok : goal.array_at-returns-in-Some-clause-ok
array_at-returns-in-Some-clause-ok t c =
    let rest = c.skip_blanks-rest in
    rw c.new-items.ensures (closes 93 c.args.bytes.now rest.result.now c.in-Some.after.now rest.ensures.skips c.in-Some.ensures)

pub array_at-returns-in-Some-clause-goes_on : goal.array_at-returns-in-Some-clause-goes_on
array_at-returns-in-Some-clause-goes_on t c =
    let g = c.skip_blanks-rest.ensures.goes_on c.requires.utf8 in
    (utf8_behind 93 c.skip_blanks-rest.result.now c.in-Some.after.now (omega arith) c.in-Some.ensures g.0, omega (arith, g.1, ap length c.in-Some.ensures))

pub array_at-loop-items-init : goal.array_at-loop-items-init
array_at-loop-items-init t c =
    let bytes = c.args.bytes.now in
    let rest = c.skip_blanks-rest in
    let g = rest.ensures.goes_on c.requires.utf8 in
    record {
      leads = λ v vs after left h more. rw c.new-items.ensures (nested.first_element v (values_from vs) c.args.room bytes rest.result.now after left rest.ensures.skips h more);
      faults = λ count f h. (count, (rest.result.now, rest.ensures.skips, rest.ensures.solid, (c.in_default.ensures, h)));
      utf8 = g.0;
      no_longer = g.1;
    }

pub array_at-returns-in_err-value-clause-fault : goal.array_at-returns-in_err-value-clause-fault
array_at-returns-in_err-value-clause-fault t c =
    let p = err_from_is_err_and c.from_residual.result c.from_residual.ensures.1 in
    rw (p.1, p.2)
    (unless_map (ValueFault c.args.end c.args.room c.loop-items.rest.now) (ArrayFault c.args.end c.args.room c.args.bytes.now) _ (λ h. c.loop-items.invariant.faults 0 _ h) c.in_err-value.ensures.fault)

pub array_at-returns-in_err-next-clause-fault : goal.array_at-returns-in_err-next-clause-fault
array_at-returns-in_err-next-clause-fault t c =
    let p = err_from_is_err_and c.from_residual-in_err-next.result c.from_residual-in_err-next.ensures.1 in
    let value = c.in_ok-value in
    rw (p.1, p.2)
    (inr (c.loop-items.invariant.faults 1 _ (nested.fault_behind_element c.args.end c.args.room (value_of value.value) c.loop-items.rest.now value.after.now _ value.ensures.ok c.in_err-next.ensures.fault)))

pub array_at-loop-items-preserved : goal.array_at-loop-items-preserved
array_at-loop-items-preserved t c =
    let i = c.loop-items in
    let value = c.in_ok-value in
    let v = value_of value.value in
    let room = c.args.room in
    let after = value.after.now in
    let next = c.in-More.next.now in
    let step = rw c.in-More.is at c.in_ok-next.ensures.ok in
    record {
      leads = λ w ws behind left h more.
          rw c.in_ok-push.ensures.ok
          (subst (λ l. ElementsAt (values_from l) room c.args.bytes.now left) (sym (pushed value_of i.items value.value (w ∷ ws)))
          (i.invariant.leads v (w ∷ ws) after left value.ensures.ok.0 (nested.next_element w (values_from ws) room after next behind left step.0 h more)));
      faults = λ count f h. i.invariant.faults (suc count) f (nested.fault_further c.args.end room count v i.rest.now after next f value.ensures.ok step.0 h);
      utf8 = step.1;
      no_longer = omega (arith, step.2, value.ensures.goes_on.1, i.invariant.no_longer);
    }

pub array_at-returns-in-Closed-clause-ok : goal.array_at-returns-in-Closed-clause-ok
array_at-returns-in-Closed-clause-ok t c =
    let i = c.loop-items in
    let value = c.in_ok-value in
    let after = value.after.now in
    let left = c.in-Closed.left.now in
    let step = rw c.in-Closed.is at c.in_ok-next.ensures.ok in
    rw c.in_ok-push.ensures.ok
    (subst (λ l. ElementsAt (values_from l) c.args.room c.args.bytes.now left) (sym (map-append value_of i.items (value.value ∷ [])))
    (i.invariant.leads (value_of value.value) [] after left value.ensures.ok.0 (next_led (λ b. b ≡ 93 ∷ left) after step.0)))

-- ---- objects

pub object_at-returns-in-Some-clause-ok : goal.object_at-returns-in-Some-clause-ok
object_at-returns-in-Some-clause-ok t c =
    let rest = c.skip_blanks-rest in
    rw c.new-members.ensures (closes 125 c.args.bytes.now rest.result.now c.in-Some.after.now rest.ensures.skips c.in-Some.ensures)

pub object_at-returns-in-Some-clause-goes_on : goal.object_at-returns-in-Some-clause-goes_on
object_at-returns-in-Some-clause-goes_on t c =
    let g = c.skip_blanks-rest.ensures.goes_on c.requires.utf8 in
    (utf8_behind 125 c.skip_blanks-rest.result.now c.in-Some.after.now (omega arith) c.in-Some.ensures g.0, omega (arith, g.1, ap length c.in-Some.ensures))

pub object_at-loop-members-init : goal.object_at-loop-members-init
object_at-loop-members-init t c =
    let room = c.args.room in
    let rest = c.skip_blanks-rest in
    let g = rest.ensures.goes_on c.requires.utf8 in
    record {
      leads = λ name v ms left n.
          let P = NameThen name (Member v (fields_from ms) room left) in
          rw c.new-members.ensures (led_skips P c.args.bytes.now rest.result.now rest.ensures.skips (Led-from P rest.result.now n));
      faults = λ count f h.
          let none = subst (λ (m : List (List ℕ × Json)). MembersFault c.args.end room (ValueFault c.args.end room) count (names_of m) rest.result.now f) c.new-members.ensures h in
          (count, (rest.result.now, rest.ensures.skips, rest.ensures.solid, (c.in_default.ensures, none)));
      utf8 = g.0;
      no_longer = g.1;
    }

pub object_at-returns-in_err-name-clause-fault : goal.object_at-returns-in_err-name-clause-fault
object_at-returns-in_err-name-clause-fault t c =
    let p = err_from_is_err_and c.from_residual.result c.from_residual.ensures.1 in
    rw (p.1, p.2)
    (unless_map (QuoteFault c.args.end c.loop-members.rest.now) (ObjectFault c.args.end c.args.room c.args.bytes.now) _ (λ h. c.loop-members.invariant.faults 0 _ (inl (inl h))) c.in_err-name.ensures.fault)

pub object_at-returns-in-Err-clause-fault : goal.object_at-returns-in-Err-clause-fault
object_at-returns-in-Err-clause-fault t c =
    let i = c.loop-members in
    let name = c.in_ok-name in
    let names = names_of i.members in
    unless_map (MembersFault c.args.end c.args.room (ValueFault c.args.end c.args.room) 0 names i.rest.now) (ObjectFault c.args.end c.args.room c.args.bytes.now) c.member_fault.result (λ h. i.invariant.faults 0 c.member_fault.result h)
    (nested.fault_in_member c.args.end c.args.room names name.name c.place-at.result i.rest.now name.colon.now c.in-Err.found c.member_fault.result name.ensures.ok c.place-at.ensures c.in-Err.ensures.fault c.member_fault.ensures)

pub object_at-returns-in_err-add_member-clause-fault : goal.object_at-returns-in_err-add_member-clause-fault
object_at-returns-in_err-add_member-clause-fault t c =
    let p = err_from_is_err_and c.from_residual-in_err-add_member.result c.from_residual-in_err-add_member.ensures.1 in
    let i = c.loop-members in
    let name = c.in_ok-name in
    rw (p.1, p.2)
    (unless_map (IsTaken (names_of i.members) name.name c.place-at.result) (ObjectFault c.args.end c.args.room c.args.bytes.now) _
    (λ h. i.invariant.faults 0 _ (inl (inr (name.name, name.ensures.ok.0, name.colon.now, name.ensures.ok.1, name.ensures.ok.2, inl (h.0, h.1 ∙ ap DuplicateName c.place-at.ensures))))) c.in_err-add_member.ensures.fault)

pub object_at-returns-in_err-next-clause-fault : goal.object_at-returns-in_err-next-clause-fault
object_at-returns-in_err-next-clause-fault t c =
    let p = err_from_is_err_and c.from_residual-in_err-next.result c.from_residual-in_err-next.ensures.1 in
    let i = c.loop-members in
    let name = c.in_ok-name in
    let read = c.in-Ok.read in
    let value = c.in-Ok.ensures.ok in
    let names = names_of i.members in
    let is : IsName names name.name i.rest.now value.0 = (name.ensures.ok.0, name.colon.now, name.ensures.ok.1, name.ensures.ok.2, c.in_ok-add_member.ensures.new_name, value.1) in
    rw (p.1, p.2) (inr (i.invariant.faults 1 _ (nested.fault_behind_member c.args.end c.args.room names name.name (value_of read.0) i.rest.now value.0 read.1.now _ is value.2 c.in_err-next.ensures.fault)))

pub object_at-loop-members-preserved : goal.object_at-loop-members-preserved
object_at-loop-members-preserved t c =
    let i = c.loop-members in
    let name = c.in_ok-name in
    let x = c.in-Ok.read.0 in
    let after = c.in-Ok.read.1.now in
    let value = c.in-Ok.ensures.ok in
    let v = value_of x in
    let room = c.args.room in
    let names = names_of i.members in
    let next = c.in-More.next.now in
    let step = rw c.in-More.is at c.in_ok-next.ensures.ok in
    let is : IsName names name.name i.rest.now value.0 = (name.ensures.ok.0, name.colon.now, name.ensures.ok.1, name.ensures.ok.2, c.in_ok-add_member.ensures.new_name, value.1) in
    let longer : names_of c.add_member.new.members ≡ names ++ name.name ∷ []
    = ap (λ (m : List (List ℕ × Json)). names_of m) c.in_ok-add_member.ensures.ok ∙ map-append (λ m. m.0) i.members ((name.name, x) ∷ []) in
    record {
      leads = λ y w ms left n.
          let more = nested.next_member y (Member w (fields_from ms) room left) after next step.0 n in
          rw c.in_ok-add_member.ensures.ok
          (subst (λ l. MembersAt (fields_from l) room c.args.bytes.now left) (sym (pushed seen i.members (name.name, x) ((y, w) ∷ ms)))
          (i.invariant.leads name.name v ((y, w) ∷ ms) left (name_led names name.name (Member v (fields_from ((y, w) ∷ ms)) room left) i.rest.now value.0 is (after, value.2.0, more))));
      faults = λ count f h.
          i.invariant.faults (suc count) f
          (nested.fault_further_member c.args.end room count names name.name v i.rest.now value.0 after next f is value.2 step.0 (subst (λ ns. MembersFault c.args.end room (ValueFault c.args.end room) count ns next f) longer h));
      utf8 = step.1;
      no_longer = omega (arith, step.2, c.in-Ok.ensures.goes_on.1, name.ensures.goes_on.1, i.invariant.no_longer);
    }

pub object_at-returns-in-Closed-clause-ok : goal.object_at-returns-in-Closed-clause-ok
object_at-returns-in-Closed-clause-ok t c =
    let i = c.loop-members in
    let name = c.in_ok-name in
    let read = c.in-Ok.read in
    let value = c.in-Ok.ensures.ok in
    let v = value_of read.0 in
    let names = names_of i.members in
    let left = c.in-Closed.left.now in
    let step = rw c.in-Closed.is at c.in_ok-next.ensures.ok in
    let is : IsName names name.name i.rest.now value.0 = (name.ensures.ok.0, name.colon.now, name.ensures.ok.1, name.ensures.ok.2, c.in_ok-add_member.ensures.new_name, value.1) in
    rw c.in_ok-add_member.ensures.ok
    (subst (λ l. MembersAt (fields_from l) c.args.room c.args.bytes.now left) (sym (map-append seen i.members ((name.name, read.0) ∷ [])))
    (i.invariant.leads name.name v [] left (name_led names name.name (Member v (fields_from []) c.args.room left) i.rest.now value.0 is (read.1.now, value.2.0, next_led (λ b. b ≡ 125 ∷ left) read.1.now step.0))))

-- ---- the value of a member

pub member_at-returns-in_err-inside-clause-fault : goal.member_at-returns-in_err-inside-clause-fault
member_at-returns-in_err-inside-clause-fault t c =
    let p = err_from_is_err_and c.from_residual.result c.from_residual.ensures.1 in rw (p.1, p.2) (inr (inl c.in_err-inside.ensures.fault))

pub member_at-returns-in_err-value-clause-fault : goal.member_at-returns-in_err-value-clause-fault
member_at-returns-in_err-value-clause-fault t c =
    let p = err_from_is_err_and c.from_residual-in_err-value.result c.from_residual-in_err-value.ensures.1 in
    let inside = c.in_ok-inside in
    rw (p.1, p.2)
    (unless_map (ValueFault c.args.end c.args.room inside.inside.now) (BehindNameFault c.args.end c.args.room c.args.bytes.now) _ (λ h. inr (inside.inside.now, inside.ensures.ok, h)) c.in_err-value.ensures.fault)

-- ---- values

pub value_at-returns-then-room-eq0-clause-fault : goal.value_at-returns-then-room-eq0-clause-fault
value_at-returns-then-room-eq0-clause-fault t c =
    rw c.place.ensures (inr (nested.fault_deep c.args.end c.args.room c.args.bytes.now c.in-Some.inside.now _ (omega arith) (inl c.in-Some.ensures) refl))

pub value_at-array_at-requires : goal.value_at-array_at-requires
value_at-array_at-requires t c = (omega (arith, c.decreases), utf8_behind 91 c.args.bytes.now c.in-Some.inside.now (omega arith) c.in-Some.ensures c.requires.utf8)

pub value_at-returns-in_err-items-clause-fault : goal.value_at-returns-in_err-items-clause-fault
value_at-returns-in_err-items-clause-fault t c =
    let p = err_from_is_err_and c.from_residual.result c.from_residual.ensures.1 in
    rw (p.1, p.2)
    (unless_map (ArrayFault c.args.end (c.args.room - 1) c.in-Some.inside.now) (ValueFault c.args.end c.args.room c.args.bytes.now) _
    (λ h. nested.fault_array c.args.end c.args.room (c.args.room - 1) c.args.bytes.now c.in-Some.inside.now _ (omega arith) c.in-Some.ensures h) c.in_err-items.ensures.fault)

pub value_at-returns-then-room-eq0-2-clause-fault : goal.value_at-returns-then-room-eq0-2-clause-fault
value_at-returns-then-room-eq0-2-clause-fault t c =
    rw c.place.ensures (inr (nested.fault_deep c.args.end c.args.room c.args.bytes.now c.in-Some-behind.inside.now _ (omega arith) (inr c.in-Some-behind.ensures) refl))

pub value_at-object_at-requires : goal.value_at-object_at-requires
value_at-object_at-requires t c = (omega (arith, c.decreases), utf8_behind 123 c.args.bytes.now c.in-Some-behind.inside.now (omega arith) c.in-Some-behind.ensures c.requires.utf8)

pub value_at-returns-in_err-members-clause-fault : goal.value_at-returns-in_err-members-clause-fault
value_at-returns-in_err-members-clause-fault t c =
    let p = err_from_is_err_and c.from_residual-in_err-members.result c.from_residual-in_err-members.ensures.1 in
    rw (p.1, p.2)
    (unless_map (ObjectFault c.args.end (c.args.room - 1) c.in-Some-behind.inside.now) (ValueFault c.args.end c.args.room c.args.bytes.now) _
    (λ h. nested.fault_object c.args.end c.args.room (c.args.room - 1) c.args.bytes.now c.in-Some-behind.inside.now _ (omega arith) c.in-Some-behind.ensures h) c.in_err-members.ensures.fault)

pub value_at-returns-in-Some-behind-clause-ok : goal.value_at-returns-in-Some-behind-clause-ok
value_at-returns-in-Some-behind-clause-ok t c =
    let members = c.in_ok-members in
    rw c.object_of.ensures.same
    (nested.whole_object members.members c.args.room (c.args.room - 1) c.args.bytes.now c.in-Some-behind.inside.now members.left.now (omega arith) c.in-Some-behind.ensures c.object_of.ensures.distinct members.ensures.ok)

pub value_at-returns-in_err-scalar-clause-fault : goal.value_at-returns-in_err-scalar-clause-fault
value_at-returns-in_err-scalar-clause-fault t c =
    let p = err_from_is_err_and c.from_residual-in_err-scalar.result c.from_residual-in_err-scalar.ensures.1 in
    rw (p.1, p.2)
    (unless_map (ScalarFault c.args.end c.args.bytes.now) (ValueFault c.args.end c.args.room c.args.bytes.now) _ (λ h. nested.fault_scalar c.args.end c.args.room c.args.bytes.now _ h) c.in_err-scalar.ensures.fault)

pub value_at-returns-clause-ok : goal.value_at-returns-clause-ok
value_at-returns-clause-ok t c =
    let scalar = c.in_ok-scalar in nested.whole_scalar scalar.scalar c.args.room c.args.bytes.now scalar.left.now (scalar.ensures.whole c.args.room)

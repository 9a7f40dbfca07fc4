use Rattle.std.proofs.Common.{◌≤◌, ◌++◌, ◌∷◌, ◌+◌, ◌*◌, List, ℕ, length, map, IsUtf8}
use Rattle.sx_tree.specs.Names.{names_of}
use Rattle.sx_tree.specs.Value.{Value, value_of, values_from, fields_from}
use Rattle.sx_model.specs.Grammar.{ElementsAt, MembersAt, MoreElementsAt, NameThen, ValueAt}
use Rattle.sx_model.specs.Faults.{ElementsFault, MembersFault, ValueFault}
use Rattle.sx_model.proofs.Tokens.{Member}
use Rattle.sx_tree.specs.declared.json_fault.JsonFault.{JsonFault}
use Rattle.sx_json.specs.Nested.{ArrayFault, ObjectFault}
use Rattle.sx_json.proofs.Nested.{seen}
use Rattle.sx_json.proofs.reader.+read.Given as goal

abbrev pub decreases-value_at : goal.decreases-value_at
decreases-value_at l = 3 * l.room

abbrev pub decreases-array_at : goal.decreases-array_at
decreases-array_at l = 3 * l.room + 1

abbrev pub decreases-object_at : goal.decreases-object_at
decreases-object_at l = 3 * l.room + 2

abbrev pub decreases-member_at : goal.decreases-member_at
decreases-member_at l = 3 * l.room + 1

-- What stands behind these elements, and what is wrong there, stands in the array.
abbrev pub invariant-array_at-loop-items : goal.invariant-array_at-loop-items
invariant-array_at-loop-items l = record {
  leads : (v : Value) (vs : List Value) (after left : List ℕ) → ValueAt v l.room l.rest after → MoreElementsAt (values_from vs) l.room after left → ElementsAt (values_from (map value_of l.items ++ v ∷ vs)) l.room l.bytes left;
  faults : (count : ℕ) (f : JsonFault) → ElementsFault l.end l.room (ValueFault l.end l.room) count l.rest f → ArrayFault l.end l.room l.bytes f;
  utf8 : IsUtf8 l.rest;
  no_longer : length l.rest ≤ length l.bytes;
}

abbrev pub decreases-array_at-loop-items : goal.decreases-array_at-loop-items
decreases-array_at-loop-items l = length l.rest

-- The same behind these members, in the object.
abbrev pub invariant-object_at-loop-members : goal.invariant-object_at-loop-members
invariant-object_at-loop-members l = record {
  leads : (name : List ℕ) (v : Value) (ms : List (List ℕ × Value)) (left : List ℕ) → NameThen name (Member v (fields_from ms) l.room left) l.rest → MembersAt (fields_from (map seen l.members ++ (name, v) ∷ ms)) l.room l.bytes left;
  faults : (count : ℕ) (f : JsonFault) → MembersFault l.end l.room (ValueFault l.end l.room) count (names_of l.members) l.rest f → ObjectFault l.end l.room l.bytes f;
  utf8 : IsUtf8 l.rest;
  no_longer : length l.rest ≤ length l.bytes;
}

abbrev pub decreases-object_at-loop-members : goal.decreases-object_at-loop-members
decreases-object_at-loop-members l = length l.rest

-- Each refusal of an edit, with its numbers.
use Rattle.std.proofs.Common.{◌≡◌, [], ◌∷◌, Some, None, Err, codes, refl}
use Rattle.std.specs.Prelude.{IsOk}
use Rattle.sx_tree.specs.declared.json.Scalar.TheVariants as scalars
use Rattle.sx_tree.specs.declared.record.Kind.TheVariants.{Document, Number, Key}
use Rattle.sx_tree.specs.declared.edit.EditRefusal.TheVariants.{NoNode, WrongKind, NameTaken, DocumentFull, TooDeep, NumbersSpent, NameMissing, NameUnasked}
use Rattle.sx_tree.specs.declared.edit.Place.TheVariants.{First, Last, Before}
use Rattle.sx_tree.specs.Value.{array, no_values, depth}
use Rattle.sx_model.specs.State.{State}
use Rattle.sx_model.specs.Edit.{Edit, load, insert, set_scalar, replace, rename, remove, apply, edited, told_of}
use Rattle.sx_model.specs.Tree.{nesting}
use Rattle.sx_model.proofs.Examples.{number, one_member, arrays, state_after}

-- ---- over {"a":1}: the Object is 1, the Key 2 and its value 3

abbrev member : State
member = state_after (load one_member ∷ [])

name_taken : apply (insert (Last 1) (Some (codes "a")) (number (codes "2"))) member ≡ Err (NameTaken 2)
name_taken = refl

beside_the_document : apply (insert (Before 0) None (number (codes "1"))) member ≡ Err (WrongKind 0 Document)
beside_the_document = refl

document_full : apply (insert (Last 0) None (number (codes "5"))) member ≡ Err (DocumentFull 0)
document_full = refl

name_missing : apply (insert (Last 1) None (number (codes "5"))) member ≡ Err NameMissing
name_missing = refl

beside_a_keys_value : apply (insert (Before 3) None (number (codes "5"))) member ≡ Err (WrongKind 3 Number)
beside_a_keys_value = refl

no_node : apply (remove 9) member ≡ Err (NoNode 9)
no_node = refl

-- the next accepted insert takes the number 4
accepted : IsOk (apply (insert (Last 1) (Some (codes "b")) (number (codes "2"))) member) × (member.next ≡ 4)
accepted = (refl, refl)

below_a_key : apply (insert (First 2) None (number (codes "5"))) member ≡ Err (WrongKind 2 Key)
below_a_key = refl

below_a_scalar : apply (insert (First 3) None (number (codes "5"))) member ≡ Err (WrongKind 3 Number)
below_a_scalar = refl

key_is_no_scalar : apply (set_scalar 2 scalars.Null) member ≡ Err (WrongKind 2 Key)
key_is_no_scalar = refl

key_is_not_replaced : apply (replace 2 one_member) member ≡ Err (WrongKind 2 Key)
key_is_not_replaced = refl

value_has_no_name : apply (rename 3 (codes "b")) member ≡ Err (WrongKind 3 Number)
value_has_no_name = refl

keys_value_stays : apply (remove 3) member ≡ Err (WrongKind 3 Number)
keys_value_stays = refl

document_stays : apply (remove 0) member ≡ Err (WrongKind 0 Document)
document_stays = refl

-- a Key may have its own name again, and no other Key's
own_name : IsOk (apply (rename 2 (codes "a")) member)
own_name = refl

others_name : apply (rename 4 (codes "a")) (state_after (load one_member ∷ insert (Last 1) (Some (codes "b")) (number (codes "2")) ∷ [])) ≡ Err (NameTaken 2)
others_name = refl

-- ---- names, depths and numbers

name_unasked : apply (insert (Last 1) (Some (codes "x")) (number (codes "1"))) (state_after (load (array no_values) ∷ [])) ≡ Err NameUnasked
name_unasked = refl

depth_256 : depth (arrays 255) ≡ 256
depth_256 = refl

depth_257 : depth (arrays 256) ≡ 257
depth_257 = refl

nested_256 : nesting (state_after (load (arrays 255) ∷ [])).trees ≡ 256
nested_256 = refl

nested_257 : apply (load (arrays 256)) (state_after []) ≡ Err (TooDeep 257)
nested_257 = refl

-- below the innermost of 256 arrays, which is node 256
too_deep : apply (insert (Last 256) None (array no_values)) (state_after (load (arrays 255) ∷ [])) ≡ Err (TooDeep 257)
too_deep = refl

-- the numbers of nodes are below 2^30
abbrev late : State
late = record (state_after (load (array no_values) ∷ [])) { next = 1_073_741_823 }

abbrev inserting : Edit
inserting = insert (Last 1) None (number (codes "1"))

last_number : told_of inserting late (edited inserting late) ≡ record { first = Some 1_073_741_823; next = 1_073_741_824 }
last_number = refl

numbers_spent : apply inserting (edited inserting late) ≡ Err (NumbersSpent 1_073_741_824)
numbers_spent = refl

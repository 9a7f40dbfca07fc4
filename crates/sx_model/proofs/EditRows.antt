-- Small documents, edit by edit: their texts, records and paths.
use Rattle.std.proofs.Common.{◌≡◌, ℕ, ◌+◌, ◌*◌, List, [], ◌∷◌, Some, None, codes, refl}
use Rattle.sx_tree.specs.declared.json.Scalar.TheVariants as scalars
use Rattle.sx_tree.specs.declared.record.Kind.{Kind}
use Rattle.sx_tree.specs.declared.record.Kind.TheVariants.{Document, Array, Number}
use Rattle.sx_tree.specs.declared.record.Step.TheVariants.{Top, Item, Name}
use Rattle.sx_tree.specs.declared.edit.Place.TheVariants.{First, Last, Before, After}
use Rattle.sx_model.specs.State.{State, empty_document}
use Rattle.sx_model.specs.Edit.{Edit, load, insert, set_scalar, replace, rename, remove, told_of}
use Rattle.sx_model.specs.Records.{node, entry, rows, at_top}
use Rattle.sx_model.specs.Paths.{number_of}
use Rattle.sx_model.specs.TreeText.{document_text, text_at}
use Rattle.sx_model.proofs.Examples.{number, one_two_three, one_member, state_after}

-- one number for the hash of each kind and label
abbrev one : Kind → List ℕ → ℕ
one kind label = 1

abbrev set : ℕ → List ℕ → Edit
set k literal = set_scalar k (scalars.Number literal)

-- ---- [1,2,3]

abbrev three : State
three = state_after (load one_two_three ∷ [])

three_text : document_text three.trees ≡ codes "[1,2,3]"
three_text = refl

three_told : told_of (load one_two_three) empty_document three ≡ record { first = Some 1; next = 5 }
three_told = refl

three_paths : three.paths ≡ (Top ∷ []) ∷ (Item ∷ Top ∷ []) ∷ []
three_paths = refl

three_entry_1 : entry three 1 ≡ Some (record { parent = 0; step = Top; count = 1 })
three_entry_1 = refl

three_entry_2 : entry three 2 ≡ Some (record { parent = 1; step = Item; count = 3 })
three_entry_2 = refl

three_entries : (entry three 0 ≡ None) × (entry three 3 ≡ None)
three_entries = (refl, refl)

three_rows : rows one (number_of three.paths) at_top three.trees
    ≡ (0, record { kind = Document; label = []; parent = None; left = None; right = None; first = Some 1; last = Some 1; children = 1; descendants = 4; hash = 1 + 257 * (1 + 257 * 3); path = 0 })
    ∷ (1, record { kind = Array; label = []; parent = Some 0; left = None; right = None; first = Some 2; last = Some 4; children = 3; descendants = 3; hash = 1 + 257 * 3; path = 1 })
    ∷ (2, record { kind = Number; label = 49 ∷ []; parent = Some 1; left = None; right = Some 3; first = None; last = None; children = 0; descendants = 0; hash = 1; path = 2 })
    ∷ (3, record { kind = Number; label = 50 ∷ []; parent = Some 1; left = Some 2; right = Some 4; first = None; last = None; children = 0; descendants = 0; hash = 1; path = 2 })
    ∷ (4, record { kind = Number; label = 51 ∷ []; parent = Some 1; left = Some 3; right = None; first = None; last = None; children = 0; descendants = 0; hash = 1; path = 2 })
    ∷ []
three_rows = refl

no_node_5 : node three 5 ≡ None
no_node_5 = refl

-- ---- scalars set, one commit after the other

set_once : document_text (state_after (load one_two_three ∷ set 3 (codes "9") ∷ [])).trees ≡ codes "[1,9,3]"
set_once = refl

set_twice : document_text (state_after (load one_two_three ∷ set 3 (codes "9") ∷ set 2 (codes "8") ∷ [])).trees ≡ codes "[8,9,3]"
set_twice = refl

set_again : document_text (state_after (load one_two_three ∷ set 3 (codes "9") ∷ set 2 (codes "8") ∷ set 3 (codes "7") ∷ [])).trees ≡ codes "[8,7,3]"
set_again = refl

-- ---- removed and put in

abbrev removed : State
removed = state_after (load one_two_three ∷ remove 4 ∷ set 2 (codes "8") ∷ set 2 (codes "9") ∷ [])

removed_text : document_text removed.trees ≡ codes "[9,2]"
removed_text = refl

removed_node : (text_at 4 removed.trees ≡ None) × (removed.next ≡ 5)
removed_node = (refl, refl)

inserted : document_text (state_after (load one_two_three ∷ insert (First 1) None (number (codes "0")) ∷ insert (Last 1) None (number (codes "4"))
    ∷ insert (Before 3) None (number (codes "5")) ∷ insert (After 3) None (number (codes "6")) ∷ [])).trees ≡ codes "[0,1,5,2,6,3,4]"
inserted = refl

replaced : document_text (state_after (load one_two_three ∷ replace 3 one_member ∷ rename 6 (codes "b") ∷ [])).trees ≡ codes "[1,{\"b\":1},3]"
replaced = refl

loaded_twice : told_of (load one_member) three (state_after (load one_two_three ∷ load one_member ∷ [])) ≡ record { first = Some 5; next = 8 }
loaded_twice = refl

-- ---- a path stays where no value stands on it any more, and is used again

abbrev gone : State
gone = state_after (load one_member ∷ remove 2 ∷ [])

gone_entry : entry gone 2 ≡ Some (record { parent = 1; step = Name (codes "a"); count = 0 })
gone_entry = refl

abbrev again : State
again = state_after (load one_member ∷ remove 2 ∷ insert (Last 1) (Some (codes "a")) (number (codes "5")) ∷ [])

again_entry : entry again 2 ≡ Some (record { parent = 1; step = Name (codes "a"); count = 1 })
again_entry = refl

again_numbers : (again.next ≡ 6) × (text_at 4 again.trees ≡ Some (codes "\"a\":5"))
again_numbers = (refl, refl)

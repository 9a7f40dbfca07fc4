-- The slots of the fragments of small documents, commit by commit.
use Rattle.std.proofs.Common.{◌≡◌, ℕ, List, [], ◌∷◌, codes, refl}
use Rattle.std.specs.Prelude.{pos, filter, map}
use Rattle.sha2.specs.Sha256.{sha256, digest_bytes, hash_after, compress, rounds, schedule, first_words}
use Rattle.sx_tree.specs.declared.edit.Place.TheVariants.{Last}
use Rattle.sx_tree.specs.declared.json.Scalar.TheVariants as scalars
use Rattle.std.specs.Prelude.{None}
use Rattle.sx_model.specs.Commit.{Commit}
use Rattle.sx_model.specs.Edit.{Edit, insert, load, remove, set_scalar}
use Rattle.sx_model.proofs.Examples.{number, one_two_three}
use Rattle.sx_shows.specs.Fragments.{Fragment, is_record, is_tombstone, slots}
use Rattle.sx_shows.specs.Leaves.{node_fragments, path_fragments}

abbrev set : ℕ → List ℕ → Edit
set k literal = set_scalar k (scalars.Number literal)

abbrev pub commit : List Edit → Commit
commit edits = record { time = pos 1000; edits = edits }

-- the slots with records, and those with tombstones
abbrev Shape : Type 0
Shape = List ℕ × List ℕ

abbrev shape : {Row : Type 0} → Fragment Row → Shape
shape f = (filter (λ s. is_record (f s)) slots, filter (λ s. is_tombstone (f s)) slots)

abbrev all_five : Shape
all_five = (0 ∷ 1 ∷ 2 ∷ 3 ∷ 4 ∷ [], [])

-- ---- [1,2,3], and then one scalar a commit

abbrev pub sets : List Commit
sets = commit (load one_two_three ∷ []) ∷ commit (set 3 (codes "9") ∷ []) ∷ commit (set 2 (codes "8") ∷ []) ∷ commit (set 3 (codes "7") ∷ []) ∷ []

none_at_first : map shape (node_fragments sets 2 0 0) ≡ []
none_at_first = refl

window_of_two_at_2 : map shape (node_fragments sets 2 0 2) ≡ (0 ∷ 1 ∷ 3 ∷ [], []) ∷ all_five ∷ []
unfolding sha256 digest_bytes hash_after compress rounds schedule first_words
window_of_two_at_2 = refl

-- node 4 leaves the window and is carried, once
window_of_two_at_3 : map shape (node_fragments sets 2 0 3) ≡ (0 ∷ 1 ∷ 2 ∷ 4 ∷ [], []) ∷ (0 ∷ 1 ∷ 3 ∷ [], []) ∷ []
unfolding sha256 digest_bytes hash_after compress rounds schedule first_words
window_of_two_at_3 = refl

window_of_two_at_4 : map shape (node_fragments sets 2 0 4) ≡ (0 ∷ 1 ∷ 3 ∷ [], []) ∷ (0 ∷ 1 ∷ 2 ∷ 4 ∷ [], []) ∷ []
unfolding sha256 digest_bytes hash_after compress rounds schedule first_words
window_of_two_at_4 = refl

-- paths that are as they were have no new fragment
paths_at_4 : map shape (path_fragments sets 2 0 4) ≡ (1 ∷ 2 ∷ [], []) ∷ []
paths_at_4 = refl

window_of_one_at_4 : map shape (node_fragments sets 1 0 4) ≡ all_five ∷ []
unfolding sha256 digest_bytes hash_after compress rounds schedule first_words
window_of_one_at_4 = refl

window_of_three_at_4 : map shape (node_fragments sets 3 0 4) ≡ (0 ∷ 1 ∷ 3 ∷ 4 ∷ [], []) ∷ (0 ∷ 1 ∷ 2 ∷ [], []) ∷ (0 ∷ 1 ∷ 3 ∷ [], []) ∷ []
unfolding sha256 digest_bytes hash_after compress rounds schedule first_words
window_of_three_at_4 = refl

-- ---- a node that goes

abbrev removes : List Commit
removes = commit (load one_two_three ∷ []) ∷ commit (remove 4 ∷ []) ∷ commit (set 2 (codes "8") ∷ []) ∷ commit (set 2 (codes "9") ∷ []) ∷ []

tombstone_at_2 : map shape (node_fragments removes 2 0 2) ≡ (0 ∷ 1 ∷ 3 ∷ [], 4 ∷ []) ∷ all_five ∷ []
unfolding sha256 digest_bytes hash_after compress rounds schedule first_words
tombstone_at_2 = refl

-- a tombstone is not carried
tombstone_at_4 : map shape (node_fragments removes 2 0 4) ≡ (0 ∷ 1 ∷ 2 ∷ 3 ∷ [], []) ∷ (0 ∷ 1 ∷ 2 ∷ [], []) ∷ []
unfolding sha256 digest_bytes hash_after compress rounds schedule first_words
tombstone_at_4 = refl

-- the path of the elements has another count
removed_paths : map shape (path_fragments removes 2 0 4) ≡ (2 ∷ [], []) ∷ (1 ∷ 2 ∷ [], []) ∷ []
removed_paths = refl

-- ---- edits that undo each other

abbrev pub undone : List Commit
undone = commit (load one_two_three ∷ []) ∷ commit [] ∷ commit (insert (Last 1) None (number (codes "4")) ∷ remove 5 ∷ []) ∷ []

nothing_new : map shape (node_fragments undone 2 0 3) ≡ all_five ∷ []
unfolding sha256 digest_bytes hash_after compress rounds schedule first_words
nothing_new = refl

nothing_new_paths : map shape (path_fragments undone 2 0 3) ≡ (1 ∷ 2 ∷ [], []) ∷ []
nothing_new_paths = refl

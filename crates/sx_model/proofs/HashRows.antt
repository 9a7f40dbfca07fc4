-- Hashes of small documents, by computing. The numbers were computed by another program.
use Rattle.std.proofs.Common.{◌≡◌, [], ◌∷◌, refl}
use Rattle.sha2.specs.Sha256.{sha256, digest_bytes, hash_after, compress, rounds, schedule, first_words}
use Rattle.sx_model.specs.Edit.{load}
use Rattle.sx_model.specs.Hash.{local_hash, hash_of, hashes}
use Rattle.sx_model.specs.Tree.{document_node, no_trees}
use Rattle.sx_model.proofs.Examples.{one_two_three, state_after}

-- the empty document
empty : hash_of local_hash document_node no_trees ≡ 0x6e340b9cffb37a989ca544e6bb780a2c
unfolding sha256 digest_bytes hash_after compress rounds schedule first_words
empty = refl

-- the document of [1,2,3]
three : hashes local_hash (state_after (load one_two_three ∷ [])).trees ≡ 0xb157f32f7947dacc9eb9420bfd649ed5
unfolding sha256 digest_bytes hash_after compress rounds schedule first_words
three = refl

-- The hash of a node with all below it.
use Rattle.std.specs.Prelude.{ℕ, ◌+◌, ◌*◌, ◌%◌, ◌^◌, List, ◌∷◌, take}
use Rattle.std.specs.Int.{w128, from_be_bytes}
use Rattle.sha2.specs.Sha256.{sha256}
use Rattle.sx_tree.specs.declared.record.Kind.{Kind}
use Rattle.sx_tree.specs.Record.{kind_byte}
use Rattle.sx_model.specs.Tree.{Node, Forest, no_trees, tree_then}

-- of a kind and a label: the first 16 bytes of SHA-256 (FIPS 180-4) over the kind's byte and the label, the highest byte first
abbrev pub local_hash : Kind → List ℕ → ℕ
local_hash kind label = from_be_bytes w128 (take 16 (sha256 (kind_byte kind ∷ label)))

-- over what the hash of a kind and a label is
module _ (local : Kind → List ℕ → ℕ) where
  -- the sum of the hashes of trees side by side
  abbrev pub hashes : Forest → ℕ
  hashes no_trees = 0
  hashes (tree_then n below rest) = (local n.kind n.label + 257 * hashes below) % 2 ^ 128 + hashes rest

  -- the hash of a node with these trees below it
  abbrev pub hash_of : Node → Forest → ℕ
  hash_of n below = (local n.kind n.label + 257 * hashes below) % 2 ^ 128

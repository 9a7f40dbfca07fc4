-- The tree that a value becomes.
use Rattle.std.specs.Prelude.{ℕ, suc, ◌+◌, false, true, [], ◌∷◌}
use Rattle.sx_tree.specs.declared.json.Scalar.{Scalar}
use Rattle.sx_tree.specs.declared.json.Scalar.TheVariants as scalar_kinds
use Rattle.sx_tree.specs.declared.record.Kind.TheVariants.{Object, Array, Key, Str, Number, Bool, Null}
use Rattle.sx_tree.specs.Value.{Value, scalar, array, object, Values, no_values, value_then, Fields, no_fields, field_then, nodes}
use Rattle.sx_model.specs.Tree.{Node, Forest, no_trees, tree_then}

-- the node of a scalar
abbrev pub scalar_node : ℕ → Scalar → Node
scalar_node n (scalar_kinds.Str content) = record { number = n; kind = Str; label = content }
scalar_node n (scalar_kinds.Number literal) = record { number = n; kind = Number; label = literal }
scalar_node n (scalar_kinds.Bool false) = record { number = n; kind = Bool; label = 0 ∷ [] }
scalar_node n (scalar_kinds.Bool true) = record { number = n; kind = Bool; label = 1 ∷ [] }
scalar_node n scalar_kinds.Null = record { number = n; kind = Null; label = [] }

-- The tree of the value, with numbers from n on in preorder, and these trees to its right. A member becomes a Key with one
-- child. The next number is n and the number of the value's nodes.
abbrev mutual
  pub numbered : Value → ℕ → Forest → Forest
  numbered (scalar s) n rest = tree_then (scalar_node n s) no_trees rest
  numbered (array vs) n rest = tree_then (record { number = n; kind = Array; label = [] }) (numbered_values vs (suc n)) rest
  numbered (object fs) n rest = tree_then (record { number = n; kind = Object; label = [] }) (numbered_fields fs (suc n)) rest

  pub numbered_values : Values → ℕ → Forest
  numbered_values no_values n = no_trees
  numbered_values (value_then v vs) n = numbered v n (numbered_values vs (n + nodes v))

  pub numbered_fields : Fields → ℕ → Forest
  numbered_fields no_fields n = no_trees
  numbered_fields (field_then name v fs) n =
      tree_then (record { number = n; kind = Key; label = name }) (numbered v (suc n) no_trees) (numbered_fields fs (suc n + nodes v))

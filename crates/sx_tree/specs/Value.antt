-- What a `Json` is: a tree of scalars, of lists of values, and of lists of values under names.
use Rattle.std.specs.Prelude.{ℕ, suc, ◌+◌, max, List, [], ◌∷◌, map}
use Rattle.sx_tree.specs.declared.json.Scalar.{Scalar}
use Rattle.sx_tree.specs.declared.json.Json.{Json, fold-Json}
use Rattle.sx_tree.specs.declared.json.Json.TheOpen.{Json-F}

mutual
  pub data Value : Type 0 where
    scalar : Scalar → Value
    array : Values → Value
    object : Fields → Value

  pub data Values : Type 0 where
    no_values : Values
    value_then : Value → Values → Values

  pub data Fields : Type 0 where
    no_fields : Fields
    field_then : List ℕ → Value → Fields → Fields

abbrev pub values_from : List Value → Values
values_from [] = no_values
values_from (v ∷ vs) = value_then v (values_from vs)

abbrev pub fields_from : List (List ℕ × Value) → Fields
fields_from [] = no_fields
fields_from (m ∷ ms) = field_then m.0 m.1 (fields_from ms)

-- one level, with each value inside already seen as its tree
abbrev pub value_step : Json-F Value → Value
value_step (Json-F.Scalar s) = scalar s
value_step (Json-F.Array items) = array (values_from items)
value_step (Json-F.Object members) = object (fields_from members)

abbrev pub value_of : Json → Value
value_of = fold-Json Value value_step

abbrev pub values_of : List Json → Values
values_of items = values_from (map value_of items)

abbrev pub fields_of : List (List ℕ × Json) → Fields
fields_of members = fields_from (map (λ member. (member.0, value_of member.1)) members)

-- how many arrays and objects stand around the scalar with most of them
abbrev mutual
  pub depth : Value → ℕ
  depth (scalar s) = 0
  depth (array vs) = suc (depth_of_values vs)
  depth (object fs) = suc (depth_of_fields fs)

  pub depth_of_values : Values → ℕ
  depth_of_values no_values = 0
  depth_of_values (value_then v vs) = max (depth v) (depth_of_values vs)

  pub depth_of_fields : Fields → ℕ
  depth_of_fields no_fields = 0
  depth_of_fields (field_then name v fs) = max (depth v) (depth_of_fields fs)

-- how many nodes the value becomes: each value is one, and so is each name
abbrev mutual
  pub nodes : Value → ℕ
  nodes (scalar s) = 1
  nodes (array vs) = suc (nodes_of_values vs)
  nodes (object fs) = suc (nodes_of_fields fs)

  pub nodes_of_values : Values → ℕ
  nodes_of_values no_values = 0
  nodes_of_values (value_then v vs) = nodes v + nodes_of_values vs

  pub nodes_of_fields : Fields → ℕ
  nodes_of_fields no_fields = 0
  nodes_of_fields (field_then name v fs) = suc (nodes v) + nodes_of_fields fs

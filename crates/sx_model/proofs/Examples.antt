-- Values and states that the rows speak of.
use Rattle.std.proofs.Common.{ℕ, zero, suc, List, [], ◌∷◌, codes}
use Rattle.sx_tree.specs.declared.json.Scalar.TheVariants as scalars
use Rattle.sx_tree.specs.Value.{Value, scalar, array, object, Values, no_values, value_then, no_fields, field_then}
use Rattle.sx_model.specs.State.{State, empty_document}
use Rattle.sx_model.specs.Edit.{Edit, after}

abbrev pub number : List ℕ → Value
number literal = scalar (scalars.Number literal)

abbrev pub string : List ℕ → Value
string content = scalar (scalars.Str content)

abbrev pub null : Value
null = scalar scalars.Null

abbrev pub values : List Value → Values
values [] = no_values
values (v ∷ vs) = value_then v (values vs)

-- [1,2,3]
abbrev pub one_two_three : Value
one_two_three = array (values (number (codes "1") ∷ number (codes "2") ∷ number (codes "3") ∷ []))

-- {"a":1}
abbrev pub one_member : Value
one_member = object (field_then (codes "a") (number (codes "1")) no_fields)

-- so many arrays, one in the other
abbrev pub arrays : ℕ → Value
arrays zero = array no_values
arrays (suc n) = array (value_then (arrays n) no_values)

-- {"orders":[{"id":17,"state":"open","lines":[{"sku":"A-1","qty":2}]}]}
abbrev pub order_line : Value
order_line = object (field_then (codes "sku") (string (codes "A-1")) (field_then (codes "qty") (number (codes "2")) no_fields))

abbrev pub order : Value
order = object (
    field_then (codes "id") (number (codes "17"))
    (field_then (codes "state") (string (codes "open"))
    (field_then (codes "lines") (array (value_then order_line no_values)) no_fields))
    )

abbrev pub orders : Value
orders = object (field_then (codes "orders") (array (value_then order no_values)) no_fields)

-- the state that these edits leave of the empty document
abbrev pub state_after : List Edit → State
state_after edits = after edits empty_document

use Rattle.std.proofs.Common.{◌≡◌, ◌∙◌, List, ap, sym, rules}
use Rattle.sx_script.specs.Edits.{set_text}
use Rattle.sx_script.proofs.edits.set_to.Goals as goal
use Rattle.sx_tree.proofs.ValueTrees.{value_of-Object}
use Rattle.sx_tree.specs.declared.json.Json as json
use Rattle.sx_tree.specs.declared.json.Json.{Json, the_lemmas}
use Rattle.sx_tree.specs.declared.json.Scalar.{Scalar}
use Rattle.sx_tree.specs.Value.{Value, scalar, array, value_of, values_of}

value_of-Scalar : (s : Scalar) → value_of (json.Scalar s) ≡ scalar s
value_of-Scalar s = search (rules, the_lemmas)

value_of-Array : (items : List Json) → value_of (json.Array items) ≡ array (values_of items)
value_of-Array items = search (rules, the_lemmas)

pub returns-in-Scalar : goal.returns-in-Scalar
returns-in-Scalar c = sym (ap (λ (v : Value). set_text c.args.node v) (ap (λ (j : Json). value_of j) c.in-Scalar.is ∙ value_of-Scalar c.in-Scalar.value))

pub returns-in-Array : goal.returns-in-Array
returns-in-Array c = sym (ap (λ (v : Value). set_text c.args.node v) (ap (λ (j : Json). value_of j) c.in-Array.is ∙ value_of-Array c.in-Array._items))

pub returns-in-Object : goal.returns-in-Object
returns-in-Object c = sym (ap (λ (v : Value). set_text c.args.node v) (ap (λ (j : Json). value_of j) c.in-Object.is ∙ value_of-Object c.in-Object._members))

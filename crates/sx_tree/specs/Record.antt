-- What holds of the records of nodes.
use Rattle.std.specs.Prelude.{ℕ, ◌≡◌, ◌<◌, ◌⊎◌, List, [], ◌∷◌, Option}
use Rattle.std.specs.Option.{ForSome}
use Rattle.sx_tree.specs.Number.{IsLiteral}
use Rattle.sx_tree.specs.declared.record.Kind.{Kind}
use Rattle.sx_tree.specs.declared.record.Kind.TheVariants.{Document, Object, Array, Key, Str, Number, Bool, Null}

-- the number of a node, where there is one
abbrev pub IsLink : Option ℕ → Type 0
IsLink link = ForSome link (λ node. node < 1_073_741_824)

-- The label is of the node's kind. That it is a text is known of it.
abbrev pub IsLabel : Kind → List ℕ → Type 0
IsLabel Document label = label ≡ []
IsLabel Object label = label ≡ []
IsLabel Array label = label ≡ []
IsLabel Key label = Unit {0}
IsLabel Str label = Unit {0}
IsLabel Number label = IsLiteral label
IsLabel Bool label = (label ≡ 0 ∷ []) ⊎ (label ≡ 1 ∷ [])
IsLabel Null label = label ≡ []

-- the byte that stands for a kind
abbrev pub kind_byte : Kind → ℕ
kind_byte Document = 0
kind_byte Object = 1
kind_byte Array = 2
kind_byte Key = 3
kind_byte Str = 4
kind_byte Number = 5
kind_byte Bool = 6
kind_byte Null = 7

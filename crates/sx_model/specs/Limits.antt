-- The limits of a value, but for how deep it nests: texts of at most 1,048,576 bytes in UTF-8, numbers of at
-- most 64 bytes, and no name twice in an object.
use Rattle.sx_tree.specs.declared.json.Scalar.{Scalar}
use Rattle.sx_tree.specs.declared.json.Scalar.TheVariants.{Str, Number, Bool, Null}
use Rattle.sx_tree.specs.Names.{AreDistinct}
use Rattle.sx_tree.specs.Number.{IsLiteral}
use Rattle.sx_tree.specs.Text.{IsText}
use Rattle.sx_tree.specs.Value.{Value, scalar, array, object, Values, no_values, value_then, Fields, no_fields, field_then}
use Rattle.sx_model.specs.Grammar.{names_in}

abbrev pub ScalarKeepsLimits : Scalar → Type 0
ScalarKeepsLimits (Str content) = IsText content
ScalarKeepsLimits (Number literal) = IsLiteral literal
ScalarKeepsLimits (Bool truth) = Unit {0}
ScalarKeepsLimits Null = Unit {0}

abbrev mutual
  pub KeepsLimits : Value → Type 0
  KeepsLimits (scalar s) = ScalarKeepsLimits s
  KeepsLimits (array vs) = ElementsKeepLimits vs
  KeepsLimits (object fs) = AreDistinct (names_in fs) × MembersKeepLimits fs

  pub ElementsKeepLimits : Values → Type 0
  ElementsKeepLimits no_values = Unit {0}
  ElementsKeepLimits (value_then v vs) = KeepsLimits v × ElementsKeepLimits vs

  pub MembersKeepLimits : Fields → Type 0
  MembersKeepLimits no_fields = Unit {0}
  MembersKeepLimits (field_then name v fs) = IsText name × KeepsLimits v × MembersKeepLimits fs

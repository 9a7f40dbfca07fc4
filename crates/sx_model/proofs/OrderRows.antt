-- A document of orders through three commits: what is selected in it, its axes, and a member that goes.
use Rattle.std.proofs.Common.{◌≡◌, [], ◌∷◌, Some, None, codes, refl}
use Rattle.sx_tree.specs.declared.json.Scalar.TheVariants as scalars
use Rattle.sx_tree.specs.declared.query.Axis.TheVariants.{Child, Descendant, Ancestor, Following, Preceding, FollowingSibling, PrecedingSibling}
use Rattle.sx_tree.specs.declared.record.Step.TheVariants as step
use Rattle.sx_tree.specs.declared.steps.PathStep.TheVariants.{Name, Item, Anywhere}
use Rattle.sx_model.specs.State.{State}
use Rattle.sx_model.specs.Edit.{load, set_scalar, remove}
use Rattle.sx_model.specs.Axes.{axis}
use Rattle.sx_model.specs.Records.{entry}
use Rattle.sx_model.specs.Selection.{selected}
use Rattle.sx_model.specs.TreeText.{text_at}
use Rattle.sx_model.proofs.Examples.{orders, state_after}

abbrev first : State
first = state_after (load orders ∷ [])

abbrev second : State
second = state_after (load orders ∷ set_scalar 8 (scalars.Str (codes "paid")) ∷ [])

abbrev third : State
third = state_after (load orders ∷ set_scalar 8 (scalars.Str (codes "paid")) ∷ remove 7 ∷ [])

-- ---- selections and paths at the second revision

states : selected (Anywhere (codes "state") ∷ []) second.trees ≡ 8 ∷ []
states = refl

quantities : selected (Name (codes "orders") ∷ Item ∷ Name (codes "lines") ∷ Item ∷ Name (codes "qty") ∷ []) second.trees ≡ 15 ∷ []
quantities = refl

whole : selected [] second.trees ≡ 1 ∷ []
whole = refl

nothing : selected (Anywhere (codes "state") ∷ []) (state_after []).trees ≡ []
nothing = refl

path_5 : entry second 5 ≡ Some (record { parent = 3; step = step.Name (codes "state"); count = 1 })
path_5 = refl

text_4 : text_at 4 second.trees ≡ Some (codes "{\"id\":17,\"state\":\"paid\",\"lines\":[{\"sku\":\"A-1\",\"qty\":2}]}")
text_4 = refl

-- ---- the removed member

gone : (text_at 8 third.trees ≡ None) × (text_at 4 third.trees ≡ Some (codes "{\"id\":17,\"lines\":[{\"sku\":\"A-1\",\"qty\":2}]}"))
gone = (refl, refl)

-- ---- axes at the first revision

ancestors : axis Ancestor 8 first.trees ≡ Some (7 ∷ 4 ∷ 3 ∷ 2 ∷ 1 ∷ 0 ∷ [])
ancestors = refl

following : axis Following 8 first.trees ≡ Some (9 ∷ 10 ∷ 11 ∷ 12 ∷ 13 ∷ 14 ∷ 15 ∷ [])
following = refl

preceding : axis Preceding 8 first.trees ≡ Some (6 ∷ 5 ∷ [])
preceding = refl

following_siblings : axis FollowingSibling 5 first.trees ≡ Some (7 ∷ 9 ∷ [])
following_siblings = refl

preceding_siblings : axis PrecedingSibling 9 first.trees ≡ Some (7 ∷ 5 ∷ [])
preceding_siblings = refl

descendants : axis Descendant 9 first.trees ≡ Some (10 ∷ 11 ∷ 12 ∷ 13 ∷ 14 ∷ 15 ∷ [])
descendants = refl

children : axis Child 4 first.trees ≡ Some (5 ∷ 7 ∷ 9 ∷ [])
children = refl

no_node : axis Child 16 first.trees ≡ None
no_node = refl

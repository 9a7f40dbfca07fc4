-- The texts of some paths.
use Rattle.std.proofs.Common.{◌≡◌, [], ◌∷◌, refl}
use Rattle.std.specs.Prelude.{codes}
use Rattle.sx_tree.specs.declared.record.Step.TheVariants.{Top, Item, Name}
use Rattle.sx_model.specs.WrittenPath.{path_text_of}

top_path : path_text_of (Top ∷ []) ≡ codes "."
top_path = refl

items : path_text_of (Item ∷ Top ∷ []) ≡ codes "[]"
items = refl

states : path_text_of (Name (codes "state") ∷ Item ∷ Name (codes "orders") ∷ Top ∷ []) ≡ codes "/\"orders\"[]/\"state\""
states = refl

-- Bodies, computed.
use Rattle.std.proofs.Common.{◌≡◌, [], ◌∷◌, refl}
use Rattle.sx_tree.specs.declared.record.Step.TheVariants.{Top, Item}
use Rattle.sx_record.specs.Spelling.{path_bytes}
use Rattle.sx_whole.specs.Body.{body_bytes}

no_node : body_bytes [] [] ≡ 0 ∷ 0 ∷ 0 ∷ 0 ∷ 0 ∷ 0 ∷ 0 ∷ 0 ∷ []
unfolding body_bytes
no_node = refl

-- the top path with one value, and that of its elements with two
two_paths : body_bytes [] (record { parent = 0; step = Top; count = 1 } ∷ record { parent = 1; step = Item; count = 2 } ∷ [])
    ≡ 0 ∷ 0 ∷ 0 ∷ 0 ∷ 0 ∷ 0 ∷ 0 ∷ 2 ∷ 0 ∷ 0 ∷ 0 ∷ 0 ∷ 0 ∷ 0 ∷ 0 ∷ 0 ∷ 1 ∷ 0 ∷ 0 ∷ 0 ∷ 0 ∷ 0 ∷ 0 ∷ 0 ∷ 1 ∷ 1 ∷ 0 ∷ 0 ∷ 0 ∷ 2 ∷ 0 ∷ 0 ∷ 0 ∷ 0 ∷ []
unfolding body_bytes path_bytes
two_paths = refl

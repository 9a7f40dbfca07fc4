use Rattle.std.proofs.Common.{◌≡◌, ◌+◌, ◌++◌, ◌∷◌, [], ◌∙◌, ap, refl, sym, take}
use Rattle.std.proofs.lemmas.Option.{slice_get_read}
use Rattle.std.proofs.lemmas.List.{take_more}
use Rattle.sx_tree.proofs.NameLists.{comes_behind, entered_new}
use Rattle.sx_tree.proofs.names.index_of.Goals as goal

pub loop-place-preserved : goal.loop-place-preserved
loop-place-preserved c =
    let names = c.args.names.now in
    let place = c.loop-place.place in
    let name = c.index-names-place.result in
    let there = slice_get_read _ _ _ _ refl c.loop-place-test.true c.index-names-place.is in
    let new = comes_behind names place name c.requires there in
    let entered = entered_new (take place names) name c.in_ok-enter.field-0 new c.in_ok-enter.ensures.found c.in_ok-enter.ensures.entered in
    let longer : take (place + 1) names ≡ take place names ++ name ∷ [] =
    take_more names place name c.loop-place-test.true ∙ ap (λ n. take place names ++ n ∷ []) (sym c.index-names-place.is) in
    rw longer entered

use Rattle.std.proofs.Common.{◌≡◌, refl, rules}
use Rattle.std.proofs.lemmas.Option.{slice_get_read}
use Rattle.sx_tree.proofs.names.place_of.Goals as goal

pub returns-then-eq-clause-found : goal.returns-then-eq-clause-found
returns-then-eq-clause-found c =
    let same : c.index-names-place.result ≡ c.args.name.now = search rules in
    rw (← same) (slice_get_read _ _ _ _ refl c.loop-place-test.true c.index-names-place.is)

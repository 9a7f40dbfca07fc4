use Rattle.std.proofs.Common.{arith, drop, take, length, subst, MatchOption, ◌≡◌, ◌≢◌, List, ℕ}
use Rattle.std.proofs.lemmas.List.{take_all, length-drop}
use Rattle.sx_layout.specs.Birth.{magic, part_bytes}
use Rattle.sx_log.specs.Finding.{fields_in}
use Rattle.sx_log.proofs.Finding.{front_told, fields_told}
use Rattle.sx_log.proofs.reading.read_front.Goals as goal

pub returns-clause-front : goal.returns-clause-front
returns-clause-front g c =
    let room : List ℕ = c.read_at.new.room in
    let size : length room ≡ 173 = omega (arith, c.read_at.auto.room) in
    let part : take 172 (drop 1 room) ≡ drop 1 room = take_all 172 (drop 1 room) (omega (arith, length-drop 1 room, size)) in
    front_told (g.V.Volume.bytes c.args.volume.now) (g.V.Volume.size c.args.volume.now) room c.given_fields-given.result (g.met.V.Volume.told_size c.args.volume.now) c.requires size c.in_ok-read_at.ensures.filled
    (subst (λ (p : List ℕ). MatchOption c.given_fields-given.result (take 8 p ≢ magic) (λ f. p ≡ part_bytes (fields_in f))) part
    (fields_told (take 172 (drop 1 room)) c.given_fields-given.result c.given_fields-given.ensures.some c.given_fields-given.ensures.none))

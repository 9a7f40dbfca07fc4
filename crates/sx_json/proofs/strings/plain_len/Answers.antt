use Rattle.std.proofs.Common.{◌≡◌, ◌+◌, subst, take, arith}
use Rattle.sx_json.specs.Piece.{ArePlain}
use Rattle.sx_json.proofs.PlainLanes.{plain_behind}
use Rattle.sx_json.proofs.strings.plain_len.Goals as goal

pub returns-then-plain-lt-LANES-clause-plain : goal.returns-then-plain-lt-LANES-clause-plain
returns-then-plain-lt-LANES-clause-plain c = plain_behind c.args.bytes.now c.loop-place.place c.plain_lanes-plain.result c.loop-place.invariant.1 c.plain_lanes-plain.ensures.plain

pub loop-place-preserved : goal.loop-place-preserved
loop-place-preserved c =
    let place = c.loop-place.place in
    let plain = c.plain_lanes-plain in
    let whole : plain.result ≡ 16 = omega (arith, plain.ensures.within, c.if-plain-lt-LANES.false) in
    (omega (arith, c.loop-place.invariant.0, c.loop-place-test.true), subst (λ n. ArePlain (take (place + n) c.args.bytes.now)) whole (plain_behind c.args.bytes.now place plain.result c.loop-place.invariant.1 plain.ensures.plain))

pub returns-clause-plain : goal.returns-clause-plain
returns-clause-plain c = plain_behind c.args.bytes.now c.loop-place.place c.few_plain.result c.loop-place.invariant.1 c.few_plain.ensures.plain

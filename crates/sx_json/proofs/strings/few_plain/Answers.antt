use Rattle.std.proofs.Common.{◌≡◌, true, rules}
use Rattle.sx_json.proofs.Runs.{plain_more}
use Rattle.sx_json.proofs.strings.few_plain.Goals as goal

pub loop-place-preserved : goal.loop-place-preserved
loop-place-preserved c =
    let yes : c.is_plain.result ≡ true = search rules in
    plain_more c.args.bytes.now c.loop-place.place c.loop-place-test.true c.loop-place.invariant (c.is_plain.ensures.0 yes)

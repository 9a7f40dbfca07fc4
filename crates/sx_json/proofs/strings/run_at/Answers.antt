use Rattle.std.proofs.Common.{◌<◌, ◌+◌, ap, arith, inr, length, refl, take}
use Rattle.sx_json.proofs.Runs.{run_fault}
use Rattle.sx_json.proofs.strings.run_at.Goals as goal

pub returns-then-run-len-clause-fault : goal.returns-then-run-len-clause-fault
returns-then-run-len-clause-fault c = λ end.
    let old = c.args.content.now in
    let run = take c.plain_len.result c.args.bytes.now in
    let long : 1_048_576 < length old + length run = omega (arith, c.len.ensures, c.if-run-len.true, ap length c.split_at.ensures.front, c.requires) in
    inr (run_fault end c.args.start (length old) c.plain_len.result c.args.bytes.now _ c.plain_len.ensures.plain c.requires long refl)

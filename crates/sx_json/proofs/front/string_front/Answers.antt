use Rattle.std.proofs.Common.{arith, inr, length}
use Rattle.sx_model.specs.StringFaults.{QuoteFault, QuotedFault}
use Rattle.sx_json.proofs.Results.{unless_map}
use Rattle.sx_json.proofs.StringTexts.{quoted_fault, utf8_behind}
use Rattle.sx_json.proofs.front.string_front.Goals as goal

pub returns-in-Err-clause-fault : goal.returns-in-Err-clause-fault
returns-in-Err-clause-fault c = λ t.
    let text = c.args.text.now in
    let inside = c.in-Some.inside.now in
    let within = utf8_behind 34 text inside (omega arith) c.in-Some.ensures t in
    unless_map (QuotedFault (length text) text) (QuoteFault (length text) text) c.in-Err.fault inr (quoted_fault (length text) text inside c.in-Err.fault c.in-Some.ensures (c.in-Err.ensures.fault within))

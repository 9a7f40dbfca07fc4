use Rattle.std.proofs.Common.{ap, arith, inr, length}
use Rattle.std.proofs.lemmas.Result.{err_from_is_err_and}
use Rattle.sx_model.specs.StringFaults.{QuotedFault, QuoteFault}
use Rattle.sx_json.proofs.Results.{unless_map}
use Rattle.sx_json.proofs.StringTexts.{quoted_fault, utf8_behind}
use Rattle.sx_json.proofs.reader.name_at.Goals as goal

pub returns-in_err-name-clause-fault : goal.returns-in_err-name-clause-fault
returns-in_err-name-clause-fault c =
    let bytes = c.args.bytes.now in
    let inside = c.in-Some.inside.now in
    let p = err_from_is_err_and c.from_residual.result c.from_residual.ensures.1 in
    rw (p.1, p.2)
    (unless_map (QuotedFault c.args.end bytes) (QuoteFault c.args.end bytes) _ inr
    (quoted_fault c.args.end bytes inside _ c.in-Some.ensures (c.in_err-name.ensures.fault (utf8_behind 34 bytes inside (omega arith) c.in-Some.ensures c.requires.utf8))))

pub returns-clause-goes_on : goal.returns-clause-goes_on
returns-clause-goes_on c =
    let name = c.in_ok-name.ensures in
    (name.utf8 (utf8_behind 34 c.args.bytes.now c.in-Some.inside.now (omega arith) c.in-Some.ensures c.requires.utf8), omega (arith, name.shorter, ap length c.in-Some.ensures))

pub string_at-requires : goal.string_at-requires
string_at-requires c = λ _. utf8_behind 34 c.args.bytes.now c.in-Some.inside.now (omega arith) c.in-Some.ensures c.requires.utf8

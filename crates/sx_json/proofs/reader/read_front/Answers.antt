use Rattle.std.proofs.Common.{inr, refl}
use Rattle.sx_tree.specs.Value.{value_of}
use Rattle.sx_model.specs.Grammar.{ValueAt}
use Rattle.sx_model.proofs.FirstBytes.{Led-from}
use Rattle.sx_json.proofs.Nested.{blanks_alone}
use Rattle.sx_json.proofs.Places.{led_skips}
use Rattle.sx_json.proofs.reader.read_front.Goals as goal

pub returns-in-None-clause-ok : goal.returns-in-None-clause-ok
returns-in-None-clause-ok c =
    let bytes = c.skip_blanks-bytes in
    let rest = c.skip_blanks-rest in
    let whole = c.in_ok-value.ensures.ok in
    let v = value_of c.in_ok-value.value in
    let after = c.in_ok-value.after.now in
    (c.requires.utf8, after, led_skips (λ b. ValueAt v 256 b after) c.args.text.now bytes.result.now bytes.ensures.skips (Led-from (λ b. ValueAt v 256 b after) bytes.result.now whole.0), blanks_alone after rest.result.now rest.ensures.skips c.in-None.ensures.cases)

pub returns-in-Some-clause-fault : goal.returns-in-Some-clause-fault
returns-in-Some-clause-fault c =
    let bytes = c.skip_blanks-bytes in
    let rest = c.skip_blanks-rest in
    rw c.unexpected.ensures
    (inr (bytes.result.now, bytes.ensures.skips, bytes.ensures.solid, inr (value_of c.in_ok-value.value, c.in_ok-value.after.now, c.in_ok-value.ensures.ok, (rest.result.now, rest.ensures.skips, rest.ensures.solid, (_, _, c.in-Some.ensures.cases.0, refl)))))

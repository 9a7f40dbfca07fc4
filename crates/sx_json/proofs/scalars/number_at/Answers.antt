use Rattle.std.proofs.Common.{◌≡◌, ◌∙◌, ap, arith, inl, inr, sym, take, true, rules}
use Rattle.std.proofs.lemmas.List.{length-take, take-append-drop}
use Rattle.sx_tree.specs.Number.{IsNumber}
use Rattle.sx_model.specs.StringFaults.{unexpected}
use Rattle.sx_tree.specs.declared.json_fault.JsonFault.TheVariants.{NumberTooLong}
use Rattle.sx_json.proofs.FaultScalars.{longest_of_all, number_long, number_ends, number_goes, number_is_whole, number_of_all}
use Rattle.sx_json.proofs.scalars.number_at.Goals as goal

pub returns-then-front-gt-LITERAL_BYTES-clause-fault : goal.returns-then-front-gt-LITERAL_BYTES-clause-fault
returns-then-front-gt-LITERAL_BYTES-clause-fault c =
    let l = number_long c.args.bytes.now c.min-most.result c.number_front-front.result.len c.min-most.ensures c.number_front-front.ensures.longest c.if-front-gt-LITERAL_BYTES.true in
    inr (inl (l.0, l.1, ap NumberTooLong c.place.ensures))

pub returns-then-not-front-clause-fault : goal.returns-then-not-front-clause-fault
returns-then-not-front-clause-fault c =
    let front = c.number_front-front in
    let len = front.result.len in
    let none : IsNumber (take len c.args.bytes.now) → ⊥
    = λ n.
    let yes : front.result.is_number ≡ true = front.ensures.number.1 (number_is_whole c.args.bytes.now c.min-most.result len front.ensures.longest n) in
    search (rules, c.if-not-front.true, yes) in
    inr
    (inr (len, c.if-front-gt-LITERAL_BYTES.false, longest_of_all c.args.bytes.now c.min-most.result len c.min-most.ensures front.ensures.longest c.if-front-gt-LITERAL_BYTES.false, none, c.unexpected.ensures ∙ ap (unexpected c.args.end) c.split_at.ensures.back))

pub returns-clause-goes_on : goal.returns-clause-goes_on
returns-clause-goes_on c =
    let front = c.number_front-front in
    let whole : front.result.is_number ≡ true = search rules in
    let number = number_of_all c.args.bytes.now c.min-most.result front.result.len front.ensures.longest (front.ensures.number.0 whole) in
    rw c.split_at.ensures.back (number_goes c.args.bytes.now front.result.len number c.requires.utf8)

pub returns-clause-whole : goal.returns-clause-whole
returns-clause-whole c = λ room.
    let front = c.number_front-front in
    let len = front.result.len in
    let whole : front.result.is_number ≡ true = search rules in
    let number = number_of_all c.args.bytes.now c.min-most.result len front.ensures.longest (front.ensures.number.0 whole) in
    let literal : c.in_ok-literal.literal ≡ take len c.args.bytes.now = c.in_ok-literal.ensures ∙ c.split_at.ensures.front in
    let longest = longest_of_all c.args.bytes.now c.min-most.result len c.min-most.ensures front.ensures.longest c.if-front-gt-LITERAL_BYTES.false in
    rw (literal, c.split_at.ensures.back)
    (((number, omega (arith, c.if-front-gt-LITERAL_BYTES.false, length-take len c.args.bytes.now)), sym (take-append-drop len c.args.bytes.now)), number_ends c.args.bytes.now len longest)

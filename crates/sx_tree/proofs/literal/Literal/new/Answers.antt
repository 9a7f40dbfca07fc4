use Rattle.std.proofs.Common.{◌≡◌, inl, inr, true, rules}
use Rattle.sx_tree.proofs.NumberFronts.{not_number, number_at_end}
use Rattle.sx_tree.proofs.literal.Literal.new.Goals as goal
use Rattle.sx_tree.proofs.literal.Literal.new.Goals.{then-front-bytes-via-then-front-bytes, then-front-bytes-via-else-front-bytes+then-not-front}

pub returns-then-front-bytes-clause-fault : goal.returns-then-front-bytes-clause-fault
returns-then-front-bytes-clause-fault c =
    let longest = c.number_front-front.ensures.longest in
    elim c.then-front-bytes.branch [
      | then-front-bytes-via-then-front-bytes w ↦ (c.if-bytes-gt-LITERAL_BYTES.false, not_number _ _ longest (inl w.if-front-bytes.true), longest)
      | then-front-bytes-via-else-front-bytes+then-not-front w ↦
          (c.if-bytes-gt-LITERAL_BYTES.false, not_number _ _ longest (inr (λ n. search (rules, w.if-not-front.true, c.number_front-front.ensures.number.1 n))), longest)
    ]

pub invariant_of-result : goal.invariant_of-result
invariant_of-result c =
    let same : c.in-Ok.bytes ≡ c.args.bytes.now = search rules in
    let true_end : c.number_front-front.result.is_number ≡ true = search rules in
    rw same (∣ number_at_end _ _ c.if-front-bytes.false (c.number_front-front.ensures.number.0 true_end) ∣₁, c.if-bytes-gt-LITERAL_BYTES.false)

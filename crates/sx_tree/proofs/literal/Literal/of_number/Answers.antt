use Rattle.sx_tree.proofs.literal.Literal.of_number.Goals as goal

pub invariant_of-result : goal.invariant_of-result
invariant_of-result c = rw c.in_ok-bytes.ensures (∣ c.requires.number ∣₁, c.requires.short)

use Rattle.sx_tree.proofs.text.Text.of_utf8.Goals as goal

pub invariant_of-result : goal.invariant_of-result
invariant_of-result c = rw c.in_ok-bytes.ensures (∣ c.requires.utf8 ∣₁, c.requires.short)

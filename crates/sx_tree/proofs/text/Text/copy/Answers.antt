use Rattle.std.proofs.Common.{◌≡◌, ◌∙◌}
use Rattle.sx_tree.proofs.text.Text.copy.Goals as goal

pub invariant_of-result : goal.invariant_of-result
invariant_of-result c =
    let same : c.in_ok-bytes.bytes ≡ c.self.inside.bytes = c.in_ok-bytes.ensures ∙ c.as_slice.ensures in
    rw same c.self.invariant

use Rattle.std.proofs.Common.{◌∙◌, ◌≤◌, List, ℕ, length, drop, ap, subst, sym}
use Rattle.sx_script.proofs.Pieces.{slice_range-skip}
use Rattle.sx_script.proofs.chunk.Chunk.skip.Goals as goal

pub returns : goal.returns
returns c =
    slice_range-skip c.self.inside.bytes.items c.self.inside.at c.self.inside.filled c.args.count
    (subst (λ (rest : List ℕ). c.args.count ≤ length rest) (sym c.self.view_is) c.requires)
    ∙ ap (λ (rest : List ℕ). drop c.args.count rest) c.self.view_is

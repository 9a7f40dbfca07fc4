use Rattle.std.proofs.Common.{arith, ◌≡◌, drop, ap, sym, length-drop, drop-drop}
use Rattle.std.proofs.Math.ListN.{drop_of_length-le}
use Rattle.std.proofs.lemmas.Grind.{common_steps}
use Rattle.sx_outside.proofs.Fronts.{Takes-front}
use Rattle.sx_outside.proofs.mem_source.MemSourceSource.next.Goals as goal

pub returns-clause-taken : goal.returns-clause-taken
returns-clause-taken c =
    let left : c.args.self.now.left ≡ drop c.self.inside.at c.self.inside.bytes.items = ap (λ s. s.left) (sym c.self.view_is) in
    rw left (Takes-front _ _ _ c.move_front-count.result (grind (arith, common_steps)) (sym (drop-drop c.move_front-count.result c.self.inside.at c.self.inside.bytes.items)) (λ none. drop_of_length-le _ {i = c.self.inside.at} (grind (arith, common_steps, length-drop))))

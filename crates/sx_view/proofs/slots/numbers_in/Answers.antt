use Rattle.std.proofs.Common.{◌≡◌, ◌++◌, [], ◌∙◌, ap, map, sym, append-nil}
use Rattle.sx_view.proofs.Numbering.{entries-held, filled}
use Rattle.sx_view.proofs.slots.numbers_in.Goals as goal

pub returns : goal.returns
returns g c =
    let left : c.loop-number.number-iterator ≡ [] = c.in-None.ensures.steps.0 in
    sym (append-nil c.loop-number.numbers) ∙ ap (λ l. c.loop-number.numbers ++ map (λ e. e.0) (filled l)) (sym left) ∙ c.loop-number.invariant
    ∙ ap (map (λ e. e.0)) (sym (entries-held c.args.slots.now.entries c.iter-number-items.ensures.ordered))

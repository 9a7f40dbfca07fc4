use Rattle.std.proofs.Common.{◌≡◌, ◌-◌, List, ℕ, take, drop, length, length-drop, take_all, subst, sym, arith}
use Rattle.sx_model.specs.PathText.{QuotedAt}
use Rattle.sx_script.proofs.Quoted.{quoted_front}
use Rattle.sx_script.proofs.edits.name.Goals as goal

pub returns-in-Ok-clause-quoted : goal.returns-in-Ok-clause-quoted
returns-in-Ok-clause-quoted c =
    let bytes = c.args.bytes.now in
    let used = c.in-Ok.used in
    let all : take (length bytes - used) (drop used bytes) ≡ drop used bytes = take_all (length bytes - used) (drop used bytes) (omega (arith, length-drop used bytes)) in
    subst (λ (left : List ℕ). QuotedAt bytes c.in-Ok.name left) (sym all) (quoted_front bytes c.in-Ok.name used c.in-Ok.ensures.spelled)

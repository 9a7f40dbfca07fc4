use Rattle.std.proofs.Common.{◌≡◌, ◌-◌, List, ℕ, take, drop, length, length-drop, take_all, subst, sym, arith, rules}
use Rattle.sx_tree.specs.declared.json_fault.JsonFault.TheVariants.{OutOfMemory}
use Rattle.sx_model.specs.PathText.{QuotedAt}
use Rattle.sx_select.proofs.Names.{quoted_front, no_quoted, unless_memory}
use Rattle.sx_select.proofs.path.quoted_at.Goals as goal

pub returns-in-Ok-clause-found : goal.returns-in-Ok-clause-found
returns-in-Ok-clause-found c =
    let bytes = c.args.bytes.now in
    let used = c.in-Ok.used in
    let all : take (length bytes - used) (drop used bytes) ≡ drop used bytes = take_all (length bytes - used) (drop used bytes) (omega (arith, length-drop used bytes)) in
    subst (λ (left : List ℕ). QuotedAt bytes c.in-Ok.name left) (sym all) (quoted_front bytes c.in-Ok.name used c.in-Ok.ensures.spelled)

pub returns-in-Err : goal.returns-in-Err
returns-in-Err c =
    let other : c.in-Err.field-0 ≡ OutOfMemory → ⊥ = search rules in
    record { found = tt; none = λ name left at. no_quoted c.args.bytes.now name left (unless_memory _ c.in-Err.field-0 other c.in-Err.ensures.refused) at }

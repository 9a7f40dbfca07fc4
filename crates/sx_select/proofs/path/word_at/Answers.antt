use Rattle.std.proofs.Common.{◌≡◌, ℕ, List, subst, rules}
use Rattle.sx_tree.specs.declared.text.TextFault.TheVariants.{OutOfMemory}
use Rattle.sx_tree.specs.TextFault.{ExplainsText}
use Rattle.sx_select.proofs.Names.{no_word}
use Rattle.sx_select.proofs.path.word_at.Goals as goal

pub returns-in-Err : goal.returns-in-Err
returns-in-Err c =
    let other : c.in-Err.field-0 ≡ OutOfMemory → ⊥ = search rules in
    let fault = subst (λ (bytes : List ℕ). ExplainsText bytes c.in-Err.field-0) c.split_at.ensures.front c.in-Err.ensures.fault in
    record { found = tt; none = λ name left at. no_word c.args.bytes.now name left c.word_len.result c.in-Err.field-0 c.word_len.ensures.word c.word_len.ensures.whole fault other at }

-- What is said, as a text that was made for it.
use Rattle.std.proofs.Common.{◌≡◌, ◌∙◌, ℕ, List, ◌++◌, ap, sym, Result, OnOk}
use Rattle.std.proofs.lemmas.Result.{on_ok_weaker}
use Rattle.sx_run.specs.Reply.{said_bytes}
use Rattle.sx_run.specs.declared.reply.Said.{Said}

pub said_by : {T E : Type 0} (r : Result T E) (old new text : List ℕ) (said given : Said) → OnOk r (new ≡ old ++ text) → text ≡ said_bytes given → said ≡ given
    → OnOk r (new ≡ old ++ said_bytes said)
said_by r old new text said given written is same =
    on_ok_weaker r (λ grown. grown ∙ ap (λ (bytes : List ℕ). old ++ bytes) (is ∙ ap said_bytes (sym same))) written

use Rattle.std.proofs.Common.{◌∙◌, ℕ, List, Option, Bor, IfNone, sym}
use Rattle.std.proofs.lemmas.Bool.{false≢true}
use Rattle.std.proofs.lemmas.Result.{IfOk-weaker}
use Rattle.sx_model.specs.PathText.{NameAt, QuotedAt}
use Rattle.sx_select.proofs.Names.{if_none, no_word_there}
use Rattle.sx_select.proofs.path.name_at.Goals as goal

pub returns-else-begins_word-clause-none : goal.returns-else-begins_word-clause-none
returns-else-begins_word-clause-none c =
    let bytes = c.args.bytes.now in
    IfOk-weaker c.quoted_at.result
    (λ (found : Option (List ℕ × Bor (List ℕ))). IfNone found ((name : List ℕ) (left : List ℕ) → QuotedAt bytes name left → ⊥))
    (λ (found : Option (List ℕ × Bor (List ℕ))). IfNone found ((name : List ℕ) (left : List ℕ) → NameAt bytes name left → ⊥))
    (λ found none. if_none found _ _ (λ never. λ name left at. no_word_there bytes name left (λ begins. false≢true (sym c.if-begins_word.false ∙ c.begins_word.ensures.1 begins)) (never name left) at) none)
    c.quoted_at.ensures.none

use Rattle.std.proofs.Common.{ℕ}
use Rattle.sx_run.specs.Spelling.{IsNumbered, SpellsNumbered}
use Rattle.sx_script.proofs.Found.{none_weaker}
use Rattle.sx_script.proofs.OneFront.{numbered_word}
use Rattle.sx_script.proofs.words.numbered.Goals as goal

pub returns-in-Some-clause-none : goal.returns-in-Some-clause-none
returns-in-Some-clause-none c =
    none_weaker c.number.result ((n : ℕ) → IsNumbered c.in-Some.digits.now n → ⊥) ((n : ℕ) → SpellsNumbered c.args.text.now c.args.word.now n → ⊥)
    (λ none n spells. none n (numbered_word c.args.text.now c.args.word.now c.in-Some.digits.now n c.in-Some.ensures.found spells)) c.number.ensures.none

use Rattle.std.proofs.Common.{ℕ, List}
use Rattle.sx_run.specs.Spelling.{HeadsNumbered}
use Rattle.sx_script.specs.Words.{BeginsNumbered}
use Rattle.sx_script.proofs.Found.{none_weaker}
use Rattle.sx_script.proofs.OneFront.{numbered_behind}
use Rattle.sx_script.proofs.words.numbered_front.Goals as goal

pub returns-in-Some-clause-none : goal.returns-in-Some-clause-none
returns-in-Some-clause-none c =
    none_weaker c.number_front.result ((n : ℕ) (left : List ℕ) → BeginsNumbered c.in-Some.rest.now n left → ⊥)
    ((n : ℕ) (left : List ℕ) → HeadsNumbered c.args.text.now c.args.word.now n left → ⊥)
    (λ none n left heads. none n left (numbered_behind c.args.text.now c.args.word.now c.in-Some.rest.now n left c.in-Some.ensures.found heads)) c.number_front.ensures.none

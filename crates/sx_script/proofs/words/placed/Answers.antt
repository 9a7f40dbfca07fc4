use Rattle.std.proofs.Common.{ℕ, List}
use Rattle.sx_run.specs.Spelling.{HeadsPlace}
use Rattle.sx_script.specs.Words.{BeginsPlace}
use Rattle.sx_script.proofs.Found.{none_weaker}
use Rattle.sx_script.proofs.OneFront.{place_behind}
use Rattle.sx_script.proofs.words.placed.Goals as goal
use Rattle.sx_tree.specs.declared.edit.Place.{Place}

pub returns-in-Some-clause-none : goal.returns-in-Some-clause-none
returns-in-Some-clause-none c =
    none_weaker c.place_front.result ((p : Place) (left : List ℕ) → BeginsPlace c.in-Some.rest.now p left → ⊥)
    ((p : Place) (left : List ℕ) → HeadsPlace c.args.text.now c.args.word.now p left → ⊥)
    (λ none p left heads. none p left (place_behind c.args.text.now c.args.word.now c.in-Some.rest.now p left c.in-Some.ensures.found heads)) c.place_front.ensures.none

use Rattle.std.proofs.Common.{List, ℕ, [], ◌∷◌, None, Some, Bor}
use Rattle.std.proofs.lemmas.Bool.Decides.{Decides-eqb}
use Rattle.std.proofs.lemmas.Slice.Eq.{strip_prefix_is}
use Rattle.sx_script.proofs.Found.{behind_found}
use Rattle.sx_script.proofs.words.behind.Goals as goal

pub returns-in_default-clause-none : goal.returns-in_default-clause-none
returns-in_default-clause-none c = λ rest heads. strip_prefix_is Decides-eqb c.args.text.now c.args.word.now None c.in_default.ensures.cases (32 ∷ rest) heads

pub returns-clause-found : goal.returns-clause-found
returns-clause-found c =
    behind_found (λ (b : Bor (List ℕ)). b.now) c.args.text.now c.args.word.now c.in-Some.rest.now c.strip_prefix-2.result
    (strip_prefix_is Decides-eqb c.args.text.now c.args.word.now (Some c.in-Some.rest) c.in-Some.ensures.cases)
    (strip_prefix_is Decides-eqb c.in-Some.rest.now (32 ∷ []) c.strip_prefix-2.result c.strip_prefix-2.ensures.cases)

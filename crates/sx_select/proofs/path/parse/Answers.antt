use Rattle.std.proofs.Common.{◌<◌, ◌∷◌, [], List, Option, IfNone, length, rules}
use Rattle.std.proofs.lemmas.List.{nil_from_length}
use Rattle.std.proofs.lemmas.Result.{IfOk-weaker}
use Rattle.sx_tree.specs.declared.query.PathExpr.{PathExpr}
use Rattle.sx_tree.specs.declared.steps.PathStep.{PathStep}
use Rattle.sx_model.specs.PathText.{SpellsPath, SpellsSteps}
use Rattle.sx_select.proofs.Names.{if_none}
use Rattle.sx_select.proofs.Steps.{stripped, unstripped, none_behind_dot, none_without_dot, none_of_nothing}
use Rattle.sx_select.proofs.path.parse.Goals as goal

pub returns-in-Some-clause-none : goal.returns-in-Some-clause-none
returns-in-Some-clause-none c =
    let text = c.args.text.now in
    let rest = c.in-Some.rest.now in
    let cases = c.in-Some.ensures.cases in
    IfOk-weaker c.steps_of.result
    (λ (found : Option PathExpr). IfNone found ((steps : List PathStep) → length steps < 257 → SpellsSteps rest steps → ⊥))
    (λ (found : Option PathExpr). IfNone found ((steps : List PathStep) → SpellsPath text steps → ⊥))
    (λ found none. if_none found _ _ (none_behind_dot text rest (stripped text (46 ∷ []) rest cases.0 cases.1)) none)
    c.steps_of.ensures.none

pub returns-then-is_empty-clause-none : goal.returns-then-is_empty-clause-none
returns-then-is_empty-clause-none c =
    let text = c.args.text.now in
    none_without_dot text (λ rest is. unstripped text (46 ∷ []) rest c.in_default.ensures.cases is) (none_of_nothing text (nil_from_length text (search rules)))

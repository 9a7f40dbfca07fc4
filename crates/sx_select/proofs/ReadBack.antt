-- The text of a path asks for its steps.
use Rattle.std.proofs.Common.{ℕ, ◌≤◌, List, [], ◌∷◌, ◌++◌, length, flat_map, inl, inr, refl, sym, ap, subst, arith}
use Rattle.std.proofs.lemmas.List.{append_assoc, append-nil}
use Rattle.sx_tree.specs.declared.record.Step.{Step}
use Rattle.sx_tree.specs.declared.record.Step.TheVariants.{Top, Item, Name}
use Rattle.sx_tree.specs.declared.steps.PathStep.{PathStep}
use Rattle.sx_model.specs.Canonical.{escaped, string_text}
use Rattle.sx_model.specs.PathText.{QuotedAt, SpellsPath, SpellsSteps}
use Rattle.sx_model.specs.WrittenPath.{asked_by, or_dot, path_text_of, step_text, steps_asked, steps_text}
use Rattle.sx_tree.specs.Text.{IsText}
use Rattle.sx_model.proofs.WrittenStrings.{content_spelled}
use Rattle.sx_select.specs.ReadBack.{HasText, HaveTexts}

quoted : (name tail : List ℕ) → IsText name → QuotedAt (string_text name ++ tail) name tail
quoted name tail text = (flat_map escaped name ++ 34 ∷ tail, ap (λ (l : List ℕ). 34 ∷ l) (append_assoc (flat_map escaped name) (34 ∷ []) tail), (content_spelled name tail, text))

one-step : (step : Step) (tail : List ℕ) (more : List PathStep) → HasText step → SpellsSteps tail more → SpellsSteps (step_text step ++ tail) (asked_by step ++ more)
one-step Top tail more text is = is
one-step Item tail more text is = (tail, refl, is)
one-step (Name name) tail more text is = (tail, (string_text name ++ tail, refl, inr (quoted name tail text)), is)

all-steps : (path : List Step) (tail : List ℕ) (more : List PathStep) → HaveTexts path → SpellsSteps tail more → SpellsSteps (steps_text path ++ tail) (steps_asked path ++ more)
all-steps [] tail more texts is = is
all-steps (step ∷ path) tail more texts is =
    subst (λ (l : List ℕ). SpellsSteps l ((steps_asked path ++ asked_by step) ++ more)) (sym (append_assoc (steps_text path) (step_text step) tail))
    (subst (SpellsSteps (steps_text path ++ (step_text step ++ tail))) (sym (append_assoc (steps_asked path) (asked_by step) more))
    (all-steps path (step_text step ++ tail) (asked_by step ++ more) texts.1 (one-step step tail more texts.0 is)))

pub read-back : (path : List Step) → HaveTexts path → length (steps_asked path) ≤ 256 → SpellsPath (path_text_of path) (steps_asked path)
read-back path texts few =
    by (steps_text path) (steps_asked path) few
    (subst (λ (l : List ℕ). SpellsSteps l (steps_asked path)) (append-nil (steps_text path))
    (subst (SpellsSteps (steps_text path ++ [])) (append-nil (steps_asked path)) (all-steps path [] [] texts refl)))
  where
    by : (text : List ℕ) (steps : List PathStep) → length steps ≤ 256 → SpellsSteps text steps → SpellsPath (or_dot text) steps
    by [] steps few is = inl (few, ([], refl, is))
    by (byte ∷ bytes) [] few is = cc is
    by (byte ∷ bytes) (step ∷ steps) few is = inr (omega arith, few, is)

-- Refusals, one after the other.
use Rattle.std.proofs.Common.{◌≡◌, List, ◌∷◌, Option, Some, None, Result, Ok, Err, refl, ap, subst}
use Rattle.std.specs.Option.{option_or}
use Rattle.sx_tree.specs.declared.edit.EditRefusal.{EditRefusal}
use Rattle.sx_model.specs.Edit.{Edit, apply, unless}
use Rattle.sx_model.specs.State.{State}
use Rattle.sx_edit.specs.declared.fault.EditFault.{EditFault}
use Rattle.sx_edit.specs.declared.fault.EditFault.TheVariants.{Refused, Failed, Damaged, OutOfMemory}
use Rattle.sx_edit.specs.Answers.{Answers}
use Rattle.sx_edit.specs.Pathways.{Kept}
use Rattle.sx_edit.specs.Room.{Passes}

-- neither of the two stands
pub neither : (a b : Option EditRefusal) → option_or a b ≡ None → (a ≡ None) × (b ≡ None)
neither None b is = (refl, is)
neither (Some a) b is = absurd cc

-- the first of the two that stands
pub either : (a b : Option EditRefusal) (refusals : List (Option EditRefusal)) (new : State) (refusal : EditRefusal) → option_or a b ≡ Some refusal → unless (a ∷ b ∷ refusals) new ≡ Err refusal
either None b refusals new refusal is = ap (λ (o : Option EditRefusal). unless (o ∷ refusals) new) is
either (Some a) b refusals new refusal is = let same : a ≡ refusal = cc in ap (λ r. Err r) same

-- neither of them stands, so the others decide
pub past : (a b : Option EditRefusal) (refusals : List (Option EditRefusal)) (new : State) → option_or a b ≡ None → unless (a ∷ b ∷ refusals) new ≡ unless refusals new
past a b refusals new is = let none = neither a b is in (λ i. unless (none.0 i ∷ none.1 i ∷ refusals) new)

-- what a step answers for a refusal is what the edit answers, where the edit is refused by it
pub passes-answers : {T : Type 0} (edit : Edit) (state : State) (after : Kept) (refusal : Option EditRefusal) (step : Result T EditFault) (e : EditFault) → step ≡ Err e
    → Passes refusal step → ((told : EditRefusal) → refusal ≡ Some told → apply edit state ≡ Err told) → Answers edit state after (Err e)
passes-answers edit state after refusal (Ok x) e is passes refused = absurd cc
passes-answers edit state after refusal (Err (Refused told)) e is passes refused = subst (λ x. Answers edit state after (Err x)) (let same : Refused told ≡ e = cc in same) (refused told passes)
passes-answers edit state after refusal (Err Failed) e is passes refused = subst (λ x. Answers edit state after (Err x)) (let same : Failed ≡ e = cc in same) tt
passes-answers edit state after refusal (Err (Damaged damage)) e is passes refused = absurd passes
passes-answers edit state after refusal (Err OutOfMemory) e is passes refused = subst (λ x. Answers edit state after (Err x)) (let same : OutOfMemory ≡ e = cc in same) tt

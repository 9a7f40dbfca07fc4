-- What was found, or that nothing was.
use Rattle.std.proofs.Common.{◌≡◌, ◌≢◌, ◌∙◌, List, ℕ, ◌∷◌, ◌++◌, Option, None, Some, Result, Ok, Err, IfOk, IfNone, IfSome, MatchOption, ap, refl, subst}
use Rattle.sx_run.specs.Spelling.{Heads}

pub none_weaker : {X E : Type 0} (r : Result (Option X) E) (P Q : Type 0) → (P → Q) → IfOk r (λ found. IfNone found P) → IfOk r (λ found. IfNone found Q)
none_weaker (Ok None) P Q step is = step is
none_weaker (Ok (Some x)) P Q step is = tt
none_weaker (Err e) P Q step is = tt

-- the word, and then a space or none
pub behind_found : {B : Type 0} (now : B → List ℕ) (text word rest : List ℕ) (r : Option B) → text ≡ word ++ rest
    → MatchOption r ((left : List ℕ) → rest ≢ 32 ∷ left) (λ x. rest ≡ 32 ∷ now x) → IfSome r (λ x. Heads text word (now x))
behind_found now text word rest None is found = tt
behind_found now text word rest (Some x) is found = is ∙ ap (λ (r : List ℕ). word ++ r) found

-- what holds where nothing was found
pub at_none : {A : Type 0} (found : Option A) (P : Type 0) → ((x : A) → found ≡ Some x → ⊥) → IfNone found P → P
at_none None P never holds = holds
at_none (Some x) P never holds = absurd (never x refl)

pub none_told : {A : Type 0} (found : Option A) (P : Type 0) → found ≡ None → IfNone found P → P
none_told {A = A} found P is holds = subst (λ (o : Option A). IfNone o P) is holds

pub some_told : {A : Type 0} (found : Option A) (P : A → Type 0) (x : A) → found ≡ Some x → IfSome found P → P x
some_told {A = A} found P x is holds = subst (λ (o : Option A). IfSome o P) is holds

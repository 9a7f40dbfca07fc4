-- Steps at the front of bytes.
use Rattle.std.proofs.Common.{◌≡◌, ◌<◌, ◌≤◌, ℕ, List, [], ◌∷◌, ◌++◌, take, drop, length, refl, sym, ap, subst, ◌∙◌, arith, take-append-drop, true, false, inl, inr, append_assoc, append-nil, length-append}
use Rattle.std.specs.Prelude.{bytes_eq, slice_index}
use Rattle.std.proofs.lemmas.Bool.{false≢true}
use Rattle.std.proofs.lemmas.Slice.Eq.{bytes_eq-Decides}
use Rattle.sx_tree.specs.declared.steps.PathStep.{PathStep}
use Rattle.sx_tree.specs.declared.steps.PathStep.TheVariants.{Name, Item, Anywhere}
use Rattle.sx_model.specs.PathText.{NameAt, StepAt, SpellsSteps, SpellsPath}
use Rattle.sx_select.proofs.Names.{no_name, name_same, name_shorter}

pub stripped : (bytes prefix rest : List ℕ) → bytes_eq (take (length prefix) bytes) prefix ≡ true → rest ≡ drop (length prefix) bytes → bytes ≡ prefix ++ rest
stripped bytes prefix rest same is =
    sym (take-append-drop (length prefix) bytes) ∙ ap (λ (l : List ℕ). l ++ drop (length prefix) bytes) ((bytes_eq-Decides (take (length prefix) bytes) prefix).0 same)
    ∙ ap (λ (l : List ℕ). prefix ++ l) (sym is)

taken : (prefix rest : List ℕ) → take (length prefix) (prefix ++ rest) ≡ prefix
taken [] rest = refl
taken (x ∷ prefix) rest = ap (λ (l : List ℕ). x ∷ l) (taken prefix rest)

pub unstripped : (bytes prefix rest : List ℕ) → bytes_eq (take (length prefix) bytes) prefix ≡ false → bytes ≡ prefix ++ rest → ⊥
unstripped bytes prefix rest apart is =
    false≢true (sym apart ∙ (bytes_eq-Decides (take (length prefix) bytes) prefix).1 (ap (take (length prefix)) is ∙ taken prefix rest))

-- behind two slashes there is no name
pub no_step_behind_two : (bytes rest : List ℕ) → bytes ≡ 47 ∷ 47 ∷ rest → ((name : List ℕ) (left : List ℕ) → NameAt rest name left → ⊥) → (step : PathStep) (left : List ℕ) → StepAt bytes step left → ⊥
no_step_behind_two bytes rest is never (Name name) left at =
    let same : 47 ∷ rest ≡ at.0 = cc (sym is ∙ at.1) in no_name rest name left (subst (λ (l : List ℕ). NameAt l name left) (sym same) at.2)
no_step_behind_two bytes rest is never Item left at = let first = ap (λ (l : List ℕ). slice_index l 0) (sym is ∙ at) in absurd (omega (arith, first))
no_step_behind_two bytes rest is never (Anywhere name) left at =
    let same : rest ≡ at.0 = cc (sym is ∙ at.1) in never name left (subst (λ (l : List ℕ). NameAt l name left) (sym same) at.2)

-- behind one slash there is no name, and no second slash
pub no_step_behind_one : (bytes rest : List ℕ) → bytes ≡ 47 ∷ rest → ((more : List ℕ) → bytes ≡ 47 ∷ 47 ∷ more → ⊥) → ((name : List ℕ) (left : List ℕ) → NameAt rest name left → ⊥)
    → (step : PathStep) (left : List ℕ) → StepAt bytes step left → ⊥
no_step_behind_one bytes rest is one never (Name name) left at =
    let same : rest ≡ at.0 = cc (sym is ∙ at.1) in never name left (subst (λ (l : List ℕ). NameAt l name left) (sym same) at.2)
no_step_behind_one bytes rest is one never Item left at = let first = ap (λ (l : List ℕ). slice_index l 0) (sym is ∙ at) in absurd (omega (arith, first))
no_step_behind_one bytes rest is one never (Anywhere name) left at = one at.0 at.1

-- neither brackets nor a slash
pub no_step : (bytes : List ℕ) → ((more : List ℕ) → bytes ≡ 91 ∷ 93 ∷ more → ⊥) → ((more : List ℕ) → bytes ≡ 47 ∷ more → ⊥) → (step : PathStep) (left : List ℕ) → StepAt bytes step left → ⊥
no_step bytes no_item no_slash (Name name) left at = no_slash at.0 at.1
no_step bytes no_item no_slash Item left at = no_item left at
no_step bytes no_item no_slash (Anywhere name) left at = no_slash (47 ∷ at.0) at.1

-- ---- one step at most

pub step_shorter : (bytes : List ℕ) (step : PathStep) (left : List ℕ) → StepAt bytes step left → length left < length bytes
step_shorter bytes (Name name) left at = let less = name_shorter at.0 name left at.2 in omega (arith, less, ap (λ (l : List ℕ). length l) at.1)
step_shorter bytes Item left at = omega (arith, ap (λ (l : List ℕ). length l) at)
step_shorter bytes (Anywhere name) left at = let less = name_shorter at.0 name left at.2 in omega (arith, less, ap (λ (l : List ℕ). length l) at.1)

slash_and_bracket : (bytes a b : List ℕ) → bytes ≡ 47 ∷ a → bytes ≡ 91 ∷ b → ⊥
slash_and_bracket bytes a b one other = let first = ap (λ (l : List ℕ). slice_index l 0) (sym one ∙ other) in omega (arith, first)

one_and_two : (bytes a b name left : List ℕ) → bytes ≡ 47 ∷ a → bytes ≡ 47 ∷ 47 ∷ b → NameAt a name left → ⊥
one_and_two bytes a b name left one two at = let same : a ≡ 47 ∷ b = cc (sym one ∙ two) in no_name b name left (subst (λ (l : List ℕ). NameAt l name left) same at)

pub step_same : (bytes : List ℕ) (s t : PathStep) (x y : List ℕ) → StepAt bytes s x → StepAt bytes t y → (s ≡ t) × (x ≡ y)
step_same bytes (Name a) (Name b) x y one other =
    let rest : one.0 ≡ other.0 = cc (sym one.1 ∙ other.1) in
    let same = name_same one.0 a b x y one.2 (subst (λ (l : List ℕ). NameAt l b y) (sym rest) other.2) in
    (ap (λ (n : List ℕ). Name n) same.0, same.1)
step_same bytes (Name a) Item x y one other = absurd (slash_and_bracket bytes one.0 (93 ∷ y) one.1 other)
step_same bytes (Name a) (Anywhere b) x y one other = absurd (one_and_two bytes one.0 other.0 a x one.1 other.1 one.2)
step_same bytes Item (Name b) x y one other = absurd (slash_and_bracket bytes other.0 (93 ∷ x) other.1 one)
step_same bytes Item Item x y one other = (refl, cc (sym one ∙ other))
step_same bytes Item (Anywhere b) x y one other = absurd (slash_and_bracket bytes (47 ∷ other.0) (93 ∷ x) other.1 one)
step_same bytes (Anywhere a) (Name b) x y one other = absurd (one_and_two bytes other.0 one.0 b y other.1 one.1 other.2)
step_same bytes (Anywhere a) Item x y one other = absurd (slash_and_bracket bytes (47 ∷ one.0) (93 ∷ y) one.1 other)
step_same bytes (Anywhere a) (Anywhere b) x y one other =
    let rest : one.0 ≡ other.0 = cc (sym one.1 ∙ other.1) in
    let same = name_same one.0 a b x y one.2 (subst (λ (l : List ℕ). NameAt l b y) (sym rest) other.2) in
    (ap (λ (n : List ℕ). Anywhere n) same.0, same.1)

-- ---- the steps so far

-- What spells the rest spells the text behind the steps so far, and nothing else does.
pub record IsFront (text rest : List ℕ) (steps : List PathStep) : Type 0 where
  pub few : length steps ≤ 256
  pub spelled : (more : List PathStep) → SpellsSteps rest more → SpellsSteps text (steps ++ more)
  pub only : (all : List PathStep) → SpellsSteps text all → (more : List PathStep) × (all ≡ steps ++ more) × SpellsSteps rest more

pub no_steps_yet : (text : List ℕ) → IsFront text text []
no_steps_yet text = record { few = omega arith; spelled = λ more is. is; only = λ all is. (all, refl, is) }

-- one step more
pub one_more : (text rest left : List ℕ) (steps : List PathStep) (step : PathStep) → length steps < 256 → IsFront text rest steps → StepAt rest step left → IsFront text left (steps ++ step ∷ [])
one_more text rest left steps step room front at = record {
  few = omega (arith, room, length-append steps (step ∷ []));
  spelled = λ more is. subst (SpellsSteps text) (sym (append_assoc steps (step ∷ []) more)) (front.spelled (step ∷ more) (left, at, is));
  only = λ all is. let before = front.only all is in goes_on all before.0 before.1 before.2;
}
  where
    goes_on : (all more : List PathStep) → all ≡ steps ++ more → SpellsSteps rest more → (tail : List PathStep) × (all ≡ (steps ++ step ∷ []) ++ tail) × SpellsSteps left tail
    goes_on all [] same is = let less = step_shorter rest step left at in absurd (omega (arith, less, ap (λ (l : List ℕ). length l) is))
    goes_on all (first ∷ tail) same is =
        let one = step_same rest first step is.0 left is.1 at in (
          tail,
          same ∙ ap (λ (s : PathStep). steps ++ s ∷ tail) one.0 ∙ sym (append_assoc steps (step ∷ []) tail),
          subst (λ (l : List ℕ). SpellsSteps l tail) one.1 is.2,
        )

-- too many steps, or none where there must be one
pub no_more_room : (text rest : List ℕ) (steps : List PathStep) → length steps ≡ 256 → (rest ≡ [] → ⊥) → IsFront text rest steps → (all : List PathStep) → length all < 257 → SpellsSteps text all → ⊥
no_more_room text rest steps full some front all few is = let before = front.only all is in by before.0 before.1 before.2
  where
    by : (more : List PathStep) → all ≡ steps ++ more → SpellsSteps rest more → ⊥
    by [] same is = some is
    by (step ∷ more) same is = omega (arith, full, few, ap (λ (l : List PathStep). length l) same, length-append steps (step ∷ more))

pub no_step_there : (text rest : List ℕ) (steps : List PathStep) → (rest ≡ [] → ⊥) → ((step : PathStep) (left : List ℕ) → StepAt rest step left → ⊥) → IsFront text rest steps
    → (all : List PathStep) → SpellsSteps text all → ⊥
no_step_there text rest steps some never front all is = let before = front.only all is in by before.0 before.2
  where
    by : (more : List PathStep) → SpellsSteps rest more → ⊥
    by [] is = some is
    by (step ∷ more) is = never step is.0 is.1

-- nothing is left
pub all_steps : (text rest : List ℕ) (steps : List PathStep) → rest ≡ [] → IsFront text rest steps → (length steps < 257) × SpellsSteps text steps
all_steps text rest steps none front = (omega (arith, front.few), subst (SpellsSteps text) (append-nil steps) (front.spelled [] none))

-- ---- a path

-- a step begins with no dot
dot_no_step : (text rest : List ℕ) (step : PathStep) (left : List ℕ) → text ≡ 46 ∷ rest → StepAt text step left → ⊥
dot_no_step text rest (Name name) left is at = let first = ap (λ (l : List ℕ). slice_index l 0) (sym is ∙ at.1) in omega (arith, first)
dot_no_step text rest Item left is at = let first = ap (λ (l : List ℕ). slice_index l 0) (sym is ∙ at) in omega (arith, first)
dot_no_step text rest (Anywhere name) left is at = let first = ap (λ (l : List ℕ). slice_index l 0) (sym is ∙ at.1) in omega (arith, first)

pub none_behind_dot : (text rest : List ℕ) → text ≡ 46 ∷ rest → ((steps : List PathStep) → length steps < 257 → SpellsSteps rest steps → ⊥) → (steps : List PathStep) → SpellsPath text steps → ⊥
none_behind_dot text rest is never steps (inl dotted) =
    let same : dotted.1.0 ≡ rest = cc (sym dotted.1.1 ∙ is) in
    let few = dotted.0 in
    never steps (omega (arith, few)) (subst (λ (l : List ℕ). SpellsSteps l steps) same dotted.1.2)
none_behind_dot text rest is never [] (inr bare) = let some = bare.0 in omega (arith, some)
none_behind_dot text rest is never (step ∷ steps) (inr bare) = dot_no_step text rest step bare.2.0 is bare.2.1

pub none_without_dot : (text : List ℕ) → ((rest : List ℕ) → text ≡ 46 ∷ rest → ⊥) → ((steps : List PathStep) → 1 ≤ length steps → length steps < 257 → SpellsSteps text steps → ⊥)
    → (steps : List PathStep) → SpellsPath text steps → ⊥
none_without_dot text no_dot never steps (inl dotted) = no_dot dotted.1.0 dotted.1.1
none_without_dot text no_dot never steps (inr bare) = let few = bare.1 in never steps bare.0 (omega (arith, few)) bare.2

pub none_of_nothing : (text : List ℕ) → text ≡ [] → (steps : List PathStep) → 1 ≤ length steps → length steps < 257 → SpellsSteps text steps → ⊥
none_of_nothing text is [] some few spells = omega (arith, some)
none_of_nothing text is (step ∷ steps) some few spells = let less = step_shorter text step spells.0 spells.1 in omega (arith, less, ap (λ (l : List ℕ). length l) is)

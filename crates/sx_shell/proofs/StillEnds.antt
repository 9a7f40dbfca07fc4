-- How a command ends whose line was made, or not.
use Rattle.std.proofs.Common.{◌≡◌, ◌≢◌, ◌∙◌, ◌⊎◌, inl, inr, ℕ, ◌≤◌, List, Option, Some, IfSome, Result, Ok, Err, refl, ap, sym, subst}
use Rattle.std.specs.Prelude.{IfErr, IfOk, OnErr}
use Rattle.std.specs.Global.{Vec}
use Rattle.sx_shell.specs.Still.{IsChecked, IsShown, IsUndamaged, IsUnwritten, Writes}
use Rattle.sx_shell.specs.declared.status.Status.{Status}
use Rattle.sx_shell.specs.declared.status.Status.TheVariants.{Done, Usage, ReadFault, WriteFault, VolumeFault, Damaged, NotOurs, Unborn, Born, Missing, OutOfMemory}

pub at_told : {A : Type 0} (P : A → Type 0) (o : Option A) (x : A) → o ≡ Some x → IfSome o P → P x
at_told P o x is p = subst (λ o. IfSome o P) is p

pub of_ok : {A E : Type 0} (P : A → Type 0) (result : Result A E) (x : A) → result ≡ Ok x → IfOk result P → P x
of_ok P result x is p = subst (λ r. IfOk r P) is p

pub of_err : {A E : Type 0} (P : E → Type 0) (result : Result A E) (e : E) → result ≡ Err e → IfErr result P → P e
of_err P result e is p = subst (λ r. IfErr r P) is p

-- the call wrote its line, or a front of it
abbrev pub IsWritten : Status → Type 0
IsWritten status = (status ≡ Done) ⊎ (status ≡ WriteFault)

-- what holds of an end with a line, and of the end in place of a line, holds of the end
pub end-is : {A : Type 0} (P : Status → Type 0) (answer : Result A Status) (status : Status) → IfOk answer (λ _. IsWritten status) → IfErr answer (λ s. status ≡ s)
    → ((line : A) (s : Status) → answer ≡ Ok line → IsWritten s → P s) → ((fault : Status) → answer ≡ Err fault → P fault) → P status
end-is P (Ok line) status done err when_ok when_err = when_ok line status refl done
end-is P (Err fault) status done err when_ok when_err = subst P (sym err) (when_err fault refl)

-- with a line
pub written-is : (P : Status → Type 0) (status : Status) → IsWritten status → P Done → P WriteFault → P status
written-is P status (inl is) done fault = subst P (sym is) done
written-is P status (inr is) done fault = subst P (sym is) fault

pub written-undamaged : (status : Status) → IsWritten status → IsUndamaged status
written-undamaged status is = written-is IsUndamaged status is (λ damage same. absurd cc) (λ damage same. absurd cc)

pub written-shown : (count r : ℕ) (status : Status) → IsWritten status → r ≤ count → IsShown count r status
written-shown count r status is there = written-is (IsShown count r) status is there there

pub written-checked : (status : Status) → IsWritten status → IsChecked status
written-checked status is = written-is IsChecked status is tt tt

-- no call ends otherwise
pub shown-ends : (count r : ℕ) (status : Status) → IsShown count r status → (status ≢ Usage) × (status ≢ ReadFault) × (status ≢ Born)
shown-ends count r status is = (λ same. subst (IsShown count r) same is, λ same. subst (IsShown count r) same is, λ same. subst (IsShown count r) same is)

pub checked-ends : (status : Status) → IsChecked status → (status ≢ Usage) × (status ≢ ReadFault) × (status ≢ Born)
checked-ends status is = (λ same. subst IsChecked same is, λ same. subst IsChecked same is, λ same. subst IsChecked same is)

-- ---- what is written

-- where no line is written, nothing is
nothing-written : (line : List ℕ) (status : Status) (before : List ℕ) → IsUnwritten status → Writes line status before before
nothing-written line Done before un = absurd (un.0 refl)
nothing-written line WriteFault before un = absurd (un.1 refl)
nothing-written line Usage before un = refl
nothing-written line ReadFault before un = refl
nothing-written line VolumeFault before un = refl
nothing-written line (Damaged damage) before un = refl
nothing-written line (NotOurs first) before un = refl
nothing-written line Unborn before un = refl
nothing-written line Born before un = refl
nothing-written line (Missing asked seen) before un = refl
nothing-written line OutOfMemory before un = refl

-- a sink that was told gained what such an end writes
abbrev pub Gained : List ℕ → Status → List ℕ → Option (List ℕ) → Type 0
Gained line status before new = (after : List ℕ) × (new ≡ Some after) × Writes line status before after

pub written-nothing : (line : List ℕ) (status : Status) (before : List ℕ) (old new : Option (List ℕ)) → IsUnwritten status → old ≡ Some before → new ≡ old → Gained line status before new
written-nothing line status before old new un is same = (before, same ∙ is, nothing-written line status before un)

-- what was written where a line was made, or not
pub written-line : {W : Type 0} (written : W → Option (List ℕ)) (old new : W) (line : List ℕ) (answer : Result (Vec ℕ) Status) (status : Status) (before : List ℕ)
    → IfOk answer (λ v. IfSome (written old) (λ bytes. Gained v.items status bytes (written new))) → IfErr answer (λ s. status ≡ s) → OnErr answer (new ≡ old)
    → IfOk answer (λ v. v.items ≡ line) → IfErr answer IsUnwritten → written old ≡ Some before → Gained line status before (written new)
written-line written old new line (Ok v) status before gained err same is un told =
    subst (λ (bytes : List ℕ). Gained bytes status before (written new)) is (at_told (λ (bytes : List ℕ). Gained v.items status bytes (written new)) (written old) before told gained)
written-line written old new line (Err fault) status before gained err same is un told =
    subst (λ (s : Status). Gained line s before (written new)) (sym err) (written-nothing line fault before (written old) (written new) un told (ap written same))

-- Where no call fails, a command over a volume that stands ends as it is due.
use Rattle.std.proofs.Common.{◌≡◌, ◌∙◌, ◌⊎◌, inl, inr, ℕ, ◌<◌, ◌≤◌, nat_le, Bool, cond, List, length, Option, None, Some, refl, ap, sym, subst, arith}
use Rattle.std.proofs.lemmas.Bool.Decides.{leb_tells}
use Rattle.sx_layout.specs.Birth.{Birth, IsUnborn}
use Rattle.sx_layout.specs.Born as born
use Rattle.sx_model.specs.Commit.{Commit}
use Rattle.sx_shell.proofs.StillReadings.{stands-born}
use Rattle.sx_shell.specs.Still.{IsChecked, IsMade, IsOther, IsShown, IsUndamaged, TellsNoLog, due_status}
use Rattle.sx_shell.specs.declared.command.Wanted.{Wanted}
use Rattle.sx_shell.specs.declared.command.Wanted.TheVariants.{Create, Show, Check}
use Rattle.sx_shell.specs.declared.status.Status.{Status}
use Rattle.sx_shell.specs.declared.status.Status.TheVariants.{Done, Usage, ReadFault, WriteFault, VolumeFault, Damaged, NotOurs, Unborn, Born, Missing, OutOfMemory}
use Rattle.sx_whole.specs.Stands.{Stands}

-- the command ended so, or memory ran out
abbrev pub IsDue : Status → Status → Type 0
IsDue status due = (status ≡ due) ⊎ (status ≡ OutOfMemory)

due-or-memory : (status due : Status) → (status ≡ VolumeFault → ⊥) → (status ≡ due) ⊎ IsOther status → IsDue status due
due-or-memory status due whole (inl is) = inl is
due-or-memory status due whole (inr (inl failed)) = absurd (whole failed)
due-or-memory status due whole (inr (inr memory)) = inr memory

pub due-create : (asked : Wanted) (file from to : List ℕ) (window : ℕ) (image : List ℕ) (birth : Option Birth) (commits : List Commit) (status : Status)
    → asked ≡ Create file window from to → Stands image birth commits → IsMade image status → (status ≡ VolumeFault → ⊥) → IsDue status (due_status asked birth commits)
due-create asked file from to window image None commits status is stands made whole =
    subst (λ (w : Wanted). IsDue status (due_status w None commits)) (sym is) (due-or-memory status Done whole (made.unborn stands.0))
due-create asked file from to window image (Some birth) commits status is stands made whole =
    subst (λ (w : Wanted). IsDue status (due_status w (Some birth) commits)) (sym is) (due-or-memory status Born whole (made.born (stands-born image birth commits stands)))

there : (r count : ℕ) (done missing : Status) → r ≤ count → cond (nat_le r count) done missing ≡ done
there r count done missing le = elim (leb_tells r count) [ inl is ↦ ap (λ (t : Bool). cond t done missing) is.0 | inr not ↦ absurd (omega (arith, not.1, le)) ]

absent : (r count : ℕ) (done missing : Status) → count < r → cond (nat_le r count) done missing ≡ missing
absent r count done missing lt = elim (leb_tells r count) [ inl is ↦ absurd (omega (arith, is.1, lt)) | inr not ↦ ap (λ (t : Bool). cond t done missing) not.0 ]

due-shown : (count r : ℕ) (status : Status) → IsShown count r status → IsUndamaged status → (status ≡ VolumeFault → ⊥) → (status ≡ WriteFault → ⊥)
    → IsDue status (cond (nat_le r count) Done (Missing r count))
due-shown count r Done is un whole taken = inl (sym (there r count Done (Missing r count) is))
due-shown count r WriteFault is un whole taken = absurd (taken refl)
due-shown count r (Damaged damage) is un whole taken = absurd (un damage refl)
due-shown count r (Missing asked seen) is un whole taken =
    inl (ap (λ (k : ℕ). Missing k seen) is.1 ∙ ap (λ (k : ℕ). Missing r k) is.2 ∙ sym (absent r count Done (Missing r count) is.0))
due-shown count r VolumeFault is un whole taken = absurd (whole refl)
due-shown count r OutOfMemory is un whole taken = inr refl
due-shown count r Usage is un whole taken = absurd is
due-shown count r ReadFault is un whole taken = absurd is
due-shown count r (NotOurs first) is un whole taken = absurd is
due-shown count r Unborn is un whole taken = absurd is
due-shown count r Born is un whole taken = absurd is

pub due-show : (asked : Wanted) (file : List ℕ) (r : ℕ) (image : List ℕ) (birth : Option Birth) (commits : List Commit) (status : Status) → asked ≡ Show file r → Stands image birth commits
    → (IsUnborn image → TellsNoLog born.Unborn status) → ((b : Birth) → Stands image (Some b) commits → IsShown (length commits) r status × IsUndamaged status)
    → (status ≡ VolumeFault → ⊥) → (status ≡ WriteFault → ⊥) → IsDue status (due_status asked birth commits)
due-show asked file r image None commits status is stands none some whole taken =
    subst (λ (w : Wanted). IsDue status (due_status w None commits)) (sym is) (due-or-memory status Unborn whole (none stands.0))
due-show asked file r image (Some birth) commits status is stands none some whole taken =
    let shown = some birth stands in
    subst (λ (w : Wanted). IsDue status (due_status w (Some birth) commits)) (sym is) (due-shown (length commits) r status shown.0 shown.1 whole taken)

due-checked : (status : Status) → IsChecked status → IsUndamaged status → (status ≡ VolumeFault → ⊥) → (status ≡ WriteFault → ⊥) → IsDue status Done
due-checked Done is un whole taken = inl refl
due-checked WriteFault is un whole taken = absurd (taken refl)
due-checked (Damaged damage) is un whole taken = absurd (un damage refl)
due-checked VolumeFault is un whole taken = absurd (whole refl)
due-checked OutOfMemory is un whole taken = inr refl
due-checked Usage is un whole taken = absurd is
due-checked ReadFault is un whole taken = absurd is
due-checked (NotOurs first) is un whole taken = absurd is
due-checked Unborn is un whole taken = absurd is
due-checked Born is un whole taken = absurd is
due-checked (Missing asked seen) is un whole taken = absurd is

pub due-check : (asked : Wanted) (file image : List ℕ) (birth : Option Birth) (commits : List Commit) (status : Status) → asked ≡ Check file → Stands image birth commits
    → (IsUnborn image → TellsNoLog born.Unborn status) → ((b : Birth) → Stands image (Some b) commits → IsChecked status × IsUndamaged status)
    → (status ≡ VolumeFault → ⊥) → (status ≡ WriteFault → ⊥) → IsDue status (due_status asked birth commits)
due-check asked file image None commits status is stands none some whole taken =
    subst (λ (w : Wanted). IsDue status (due_status w None commits)) (sym is) (due-or-memory status Unborn whole (none stands.0))
due-check asked file image (Some birth) commits status is stands none some whole taken =
    let checked = some birth stands in
    subst (λ (w : Wanted). IsDue status (due_status w (Some birth) commits)) (sym is) (due-checked status checked.0 checked.1 whole taken)

-- Faults of the readings below, as those of a question.
use Rattle.std.proofs.Common.{◌≡◌, ◌≤◌, ℕ, sym, subst}
use Rattle.std.specs.Prelude.{◌⊎◌, Result, Ok, Err, IfErr, IsErrAnd}
use Rattle.sx_outside.specs.Faults.{Rose}
use Rattle.sx_bytes.specs.declared.damage.Damage.{Damage}
use Rattle.sx_view.specs.QueryFault.{query_fault}
use Rattle.sx_view.specs.Records as views
use Rattle.sx_view.specs.declared.fault.Fault.{Fault}
use Rattle.sx_view.specs.declared.fault.Fault.TheVariants.{Failed, Damaged, OutOfMemory}
use Rattle.sx_view.specs.declared.fault.QueryFault.{QueryFault}
use Rattle.sx_view.proofs.Failing.{later}
use Rattle.sx_query.specs.Causes.{Explains}

-- a fault after other readings, which left what is told as it was, as that of a question
pub later_fault : {T A : Type 0} (r : Result A QueryFault) (no_node no_path : ℕ → Type 0) (told mid : T) (below now : Damage → Type 0) (a b c : ℕ) (broken : T → Damage → Type 0) (fault : Fault)
    → IsErrAnd r (λ e. e ≡ query_fault fault) → ((d : Damage) → now d → below d) → mid ≡ told → a ≤ b → views.Explains now (Rose b c) (broken mid) fault
    → IfErr r (Explains no_node no_path (Rose a c) (λ damage. below damage ⊎ broken told damage))
later_fault (Ok x) no_node no_path told mid below now a b c broken fault is damages same less why = absurd is
later_fault (Err e) no_node no_path told mid below now a b c broken fault is damages same less why =
    subst (Explains no_node no_path (Rose a c) (λ damage. below damage ⊎ broken told damage)) (sym is)
    (by fault (later broken below now told mid a b c fault damages same less why))
  where
    by : (fault : Fault) → views.Explains below (Rose a c) (broken told) fault
        → Explains no_node no_path (Rose a c) (λ damage. below damage ⊎ broken told damage) (query_fault fault)
    by Failed why = why
    by (Damaged damage) why = why
    by OutOfMemory why = why

-- A fault that comes after other calls, as one of all of them.
use Rattle.std.proofs.Common.{◌≡◌, ◌≤◌, ℕ, Option, sym, subst, arith, inl, inr}
use Rattle.std.specs.Prelude.{◌⊎◌, Result, Ok, Err, IfErr, IsErrAnd}
use Rattle.sx_bytes.specs.declared.damage.Damage.{Damage}
use Rattle.sx_outside.specs.Faults.{Rose}
use Rattle.sx_view.specs.declared.fault.Fault.{Fault}
use Rattle.sx_view.specs.declared.fault.Fault.TheVariants.{Failed, Damaged, OutOfMemory}
use Rattle.sx_view.specs.Records.{Explains, ExplainsFault, IsDamaged}

-- wider causes explain what narrower ones do
pub wider : (below mid broken wrong : Damage → Type 0) (a b c : ℕ) (fault : Fault) → ((d : Damage) → mid d → below d) → ((d : Damage) → wrong d → broken d) → a ≤ b
    → Explains mid (Rose b c) wrong fault → Explains below (Rose a c) broken fault
wider below mid broken wrong a b c Failed damages rules less why = omega (arith, less, why)
wider below mid broken wrong a b c (Damaged d) damages rules less (inl is) = inl (damages d is)
wider below mid broken wrong a b c (Damaged d) damages rules less (inr is) = inr (rules d is)
wider below mid broken wrong a b c OutOfMemory damages rules less why = why

-- the calls before left what is told as it was
pub later : {T : Type 0} (broken : T → Damage → Type 0) (below mid : Damage → Type 0) (told now : T) (a b c : ℕ) (fault : Fault)
    → ((d : Damage) → mid d → below d) → now ≡ told → a ≤ b → Explains mid (Rose b c) (broken now) fault → Explains below (Rose a c) (broken told) fault
later broken below mid told now a b c fault damages same less why =
    wider below mid (broken told) (broken now) a b c fault damages (λ d is. subst (λ x. broken x d) same is) less why

pub err-later : {A T : Type 0} (r : Result A Fault) (broken : T → Damage → Type 0) (below mid : Damage → Type 0) (told now : T) (a b c : ℕ) (fault : Fault)
    → IsErrAnd r (λ e. e ≡ fault) → ((d : Damage) → mid d → below d) → now ≡ told → a ≤ b → Explains mid (Rose b c) (broken now) fault → IfErr r (Explains below (Rose a c) (broken told))
err-later (Ok x) broken below mid told now a b c fault is damages same less why = absurd is
err-later (Err e) broken below mid told now a b c fault is damages same less why =
    subst (Explains below (Rose a c) (broken told)) (sym is) (later broken below mid told now a b c fault damages same less why)

pub rest-later : {A T : Type 0} (r : Result A Fault) (broken : T → Damage → Type 0) (below mid : Damage → Type 0) (told now : T) (a b c : ℕ)
    → ((d : Damage) → mid d → below d) → now ≡ told → a ≤ b → IfErr r (Explains mid (Rose b c) (broken now)) → IfErr r (Explains below (Rose a c) (broken told))
rest-later (Ok x) broken below mid told now a b c damages same less why = why
rest-later (Err e) broken below mid told now a b c damages same less why = later broken below mid told now a b c e damages same less why

-- a narrower rule that is broken
pub wider-rules : (below wrong broken : Damage → Type 0) (rose : Type 0) (fault : Fault) → ((d : Damage) → wrong d → broken d) → Explains below rose wrong fault → Explains below rose broken fault
wider-rules below wrong broken rose Failed rules why = why
wider-rules below wrong broken rose (Damaged d) rules (inl is) = inl is
wider-rules below wrong broken rose (Damaged d) rules (inr is) = inr (rules d is)
wider-rules below wrong broken rose OutOfMemory rules why = why

pub err-wider : {A : Type 0} (r : Result A Fault) (below broken wrong : Damage → Type 0) (rose : Type 0) (fault : Fault) → IsErrAnd r (λ e. e ≡ fault) → ((d : Damage) → wrong d → broken d)
    → Explains below rose wrong fault → IfErr r (Explains below rose broken)
err-wider (Ok x) below broken wrong rose fault is rules why = absurd is
err-wider (Err e) below broken wrong rose fault is rules why = subst (Explains below rose broken) (sym is) (wider-rules below wrong broken rose fault rules why)

-- one get alone
pub got : (below broken : Damage → Type 0) (rose : Type 0) (fault : Fault) → ExplainsFault below rose fault → Explains below rose broken fault
got below broken rose Failed why = why
got below broken rose (Damaged d) why = inl why
got below broken rose OutOfMemory why = why

-- what damage means, of a fault that is handed on
pub err-damaged : {A : Type 0} (r : Result A Fault) (P : Type 0) (fault : Fault) → IsErrAnd r (λ e. e ≡ fault) → (IsDamaged fault → P) → IfErr r (λ e. IsDamaged e → P)
err-damaged (Ok x) P fault is come = absurd is
err-damaged (Err e) P fault is come = λ damaged. come (subst IsDamaged is damaged)

-- damage is told neither by the object below nor by a rule
pub undamaged : (below broken : Damage → Type 0) (rose P : Type 0) (fault : Fault) → ((d : Damage) → below d → P) → ((d : Damage) → broken d → P)
    → Explains below rose broken fault → IsDamaged fault → P
undamaged below broken rose P Failed damages rules why is = absurd is
undamaged below broken rose P (Damaged d) damages rules (inl told) is = damages d told
undamaged below broken rose P (Damaged d) damages rules (inr wrong) is = rules d wrong
undamaged below broken rose P OutOfMemory damages rules why is = absurd is

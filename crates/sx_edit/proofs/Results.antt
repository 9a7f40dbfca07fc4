-- What an error that goes on keeps.
use Rattle.std.proofs.Common.{◌≡◌, ◌+◌, ◌++◌, ◌∷◌, [], List, length, length-append, ap, arith, sym, subst}
use Rattle.std.specs.Prelude.{Result, Ok, Err, IfErr, IfOk, IsErrAnd, OnOk}

pub err_again : {T E : Type 0} (r : Result T E) (y : E) (P : E → Type 0) → IsErrAnd r (λ e. e ≡ y) → P y → IfErr r P
err_again (Ok x) y P is holds = absurd is
err_again (Err e) y P is holds = subst P (sym is) holds

pub on_ok-then : {T E : Type 0} (r : Result T E) (P Q : Type 0) → (P → Q) → OnOk r P → OnOk r Q
on_ok-then (Ok x) P Q f p = f p
on_ok-then (Err e) P Q f p = p

pub if_err-then : {T E : Type 0} (r : Result T E) (P Q : E → Type 0) → ((e : E) → P e → Q e) → IfErr r P → IfErr r Q
if_err-then (Ok x) P Q f p = p
if_err-then (Err e) P Q f p = f e p

pub if_ok-then : {T E : Type 0} (r : Result T E) (P Q : T → Type 0) → ((x : T) → P x → Q x) → IfOk r P → IfOk r Q
if_ok-then (Ok x) P Q f p = f x p
if_ok-then (Err e) P Q f p = p

-- a list with one more
pub pushed-length : {T : Type 0} (old new : List T) (x : T) → new ≡ old ++ x ∷ [] → length new ≡ length old + 1
pushed-length old new x is = omega (arith, ap length is, length-append old (x ∷ []))

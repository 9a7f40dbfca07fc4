-- What a walk lists in all.
use Rattle.std.proofs.Common.{◌≡◌, ◌∙◌, ◌≤◌, ◌++◌, ℕ, List, [], ◌∷◌, Option, None, Some, refl, sym, ap, subst, arith, append_assoc, append-nil}
use Rattle.std.specs.Prelude.{Result, Ok, Err, IfErr, IsErrAnd}
use Rattle.sx_outside.specs.Faults.{Rose}
use Rattle.sx_bytes.specs.declared.damage.Damage.{Damage}
use Rattle.sx_tree.specs.declared.query.Axis.{Axis}
use Rattle.sx_tree.specs.declared.record.NodeRecord.{NodeRecord}
use Rattle.sx_view.specs.Records.{Explains, IsDamaged, RecordMap}
use Rattle.sx_view.specs.declared.fault.Fault.{Fault}
use Rattle.sx_cursor.specs.Told.{IsNoDocument}
use Rattle.sx_axes.specs.Broken.{IsBroken}
use Rattle.sx_axes.specs.Gives.{Ends, Gives, IfFault, Passes, TakesMore}
use Rattle.sx_axes.specs.Walk.{Starts}
use Rattle.sx_axes.specs.declared.course.Course.{Course}
use Rattle.sx_query.specs.OnAxis.{AreOnAxis}
use Rattle.sx_view.proofs.Failing.{err-later}

pub passes_none : (o : Option (RecordMap NodeRecord)) (course : Course) (none : List ℕ) → none ≡ [] → Passes o course none course
unfolding Passes
passes_none o course none is = λ m told listed visits left. (listed, (visits, (ap (λ l. l ++ listed) (sym is), left, refl)))

passes_then : (o : Option (RecordMap NodeRecord)) (a b c : Course) (first second all : List ℕ) → all ≡ first ++ second → Passes o a first b → Passes o b second c → Passes o a all c
unfolding Passes
passes_then o a b c first second all are one two = λ m told listed visits left.
    let x = one m told listed visits left in
    let y = two m told x.0 x.1.0 x.1.1.1 in
    let whole : listed ≡ all ++ y.0 = x.1.1.0 ∙ ap (λ l. first ++ l) y.1.1.0 ∙ sym (append_assoc first second y.0) ∙ ap (λ l. l ++ y.0) (sym are) in
    (y.0, (y.1.0, (whole, y.1.1.1, omega (arith, x.1.1.2, y.1.1.2))))

-- one number more
pub passes_step : (o mid : Option (RecordMap NodeRecord)) (start old new : Course) (found all : List ℕ) (k : ℕ) (step : Result ℕ Fault) → mid ≡ o → step ≡ Ok k → all ≡ found ++ k ∷ []
    → Passes o start found old → Gives mid old (Some step) new → Passes o start all new
passes_step o mid start old new found all k (Err fault) same is are passes gives = absurd cc
passes_step o mid start old new found all k (Ok n) same is are passes gives =
    let here : Passes o old (n ∷ []) new = subst (λ x. Passes x old (n ∷ []) new) same gives in
    passes_then o start old new found (n ∷ []) all (are ∙ ap (λ (x : Result ℕ Fault). found ++ listed_in x) (sym is)) passes here
  where
    listed_in : Result ℕ Fault → List ℕ
    listed_in (Ok n) = n ∷ []
    listed_in (Err fault) = []

-- the numbers of a walk that has come to its end are all
pub lists_all : (o : Option (RecordMap NodeRecord)) (a : Axis) (k : ℕ) (start end : Course) (found : List ℕ) → Starts o a k start → Passes o start found end → Ends o end → AreOnAxis o a k found
unfolding Starts Passes Ends AreOnAxis
lists_all None a k start end found starts passes ends = λ local number trees shows. absurd shows.holds
lists_all (Some m) a k start end found starts passes ends = λ local number trees shows.
    let has = starts m refl local number trees shows in
    let rest = passes m refl has.listed _ has.left in
    let none : rest.0 ≡ [] = ends m refl rest.0 rest.1.0 rest.1.1.1 in
    has.listed_are ∙ ap Some (rest.1.1.0 ∙ ap (λ l. found ++ l) none ∙ append-nil found)

-- a walk that takes more visits than there are nodes is none through a document
takes_more : (o : Option (RecordMap NodeRecord)) (a : Axis) (k count : ℕ) (start at : Course) (found : List ℕ) → start.left ≡ count → Starts o a k start → Passes o start found at
    → TakesMore o at → IsNoDocument o count
unfolding Starts Passes TakesMore IsNoDocument
takes_more None a k count start at found is starts passes more = λ local number trees shows few. absurd shows.holds
takes_more (Some m) a k count start at found is starts passes more = λ local number trees shows few.
    let has = starts m refl local number trees shows in
    let rest = passes m refl has.listed _ has.left in
    let late = more m refl rest.0 rest.1.0 rest.1.1.1 in
    omega (arith, is, has.few, rest.1.1.2, late, few)

pub step_sound : {A : Type 0} (r : Result A Fault) (o mid : Option (RecordMap NodeRecord)) (a : Axis) (k count : ℕ) (start old new : Course) (found : List ℕ) (step : Result ℕ Fault) (fault : Fault)
    → IsErrAnd r (λ e. e ≡ fault) → step ≡ Err fault → mid ≡ o → start.left ≡ count → Starts o a k start → Passes o start found old → Gives mid old (Some step) new
    → IfErr r (λ e. IsDamaged e → IsNoDocument o count)
step_sound (Ok x) o mid a k count start old new found step fault is_e is same left starts passes gives = absurd is_e
step_sound (Err e) o mid a k count start old new found (Ok n) fault is_e is same left starts passes gives = absurd cc
step_sound (Err e) o mid a k count start old new found (Err other) fault is_e is same left starts passes gives = λ damage.
    takes_more o a k count start old found left starts passes
    (subst (λ x. TakesMore x old) same (gives.0 (subst IsDamaged (is_e ∙ sym (ap (λ (x : Result ℕ Fault). error_in x other) is)) damage)))
  where
    error_in : Result ℕ Fault → Fault → Fault
    error_in (Ok n) other = other
    error_in (Err e) other = e

pub step_fault : {A : Type 0} (r : Result A Fault) (o mid : Option (RecordMap NodeRecord)) (below now : Damage → Type 0) (a b c count from : ℕ) (step : Result ℕ Fault) (fault : Fault)
    → IsErrAnd r (λ e. e ≡ fault) → step ≡ Err fault → ((d : Damage) → now d → below d) → mid ≡ o → from ≡ count → a ≤ b → IfFault (Explains now (Rose b c) (IsBroken mid from)) (Some step)
    → IfErr r (Explains below (Rose a c) (IsBroken o count))
step_fault r o mid below now a b c count from step fault is_e is damages same all less why =
    let here : Explains now (Rose b c) (IsBroken mid from) fault = subst (λ x. IfFault (Explains now (Rose b c) (IsBroken mid from)) (Some x)) is why in
    err-later r (λ x. IsBroken x count) below now o mid a b c fault is_e damages same less (subst (λ (n : ℕ). Explains now (Rose b c) (IsBroken mid n) fault) all here)

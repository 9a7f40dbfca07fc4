-- The table of a list of paths: the number of each, a new path, and another count.
use Rattle.std.proofs.Common.{◌≡◌, ℕ, suc, ◌+◌, ◌-◌, ◌≤◌, Bool, true, false, cond, eqb, ◌&&◌, ◌||◌, List, [], ◌∷◌, ◌++◌, map, length, Option, Some, None, refl, sym, ap, ◌∙◌, subst, arith}
use Rattle.std.specs.Prelude.{if◌then◌else◌, slice_get, unwrap_or}
use Rattle.std.specs.List.{AllByRecursion, position_from}
use Rattle.std.proofs.lemmas.Bool.{eqb-true, eq-eqb}
use Rattle.std.proofs.lemmas.List.{map_push, append_assoc, append-nil}
use Rattle.std.proofs.lemmas.List.Folds.{list_any-append}
use lib.Pointwise.{pointwise_decides}
use Rattle.sx_tree.specs.declared.record.Step.{Step}
use Rattle.sx_tree.specs.declared.record.Step.TheVariants.{Top}
use Rattle.sx_model.specs.Paths.{number_of, same_path, same_step, with_paths}
use Rattle.sx_paths.specs.Table.{goes_on, number_in, recount, row_at}
use Rattle.sx_paths.specs.Listed.{AreListed, Extend, GoesOnFrom, IsBase, counted, has_path, row_by, rows_of_paths}
use Rattle.sx_paths.proofs.WordLemmas.{same_step-equal, same_step-same}

-- ---- paths that are the same

pub same_path-same : (a b : List Step) → same_path a b ≡ true → a ≡ b
same_path-same a b = (pointwise_decides (λ x y. (same_step-same x y, same_step-equal x y)) a b).0

pub same_path-equal : (a b : List Step) → a ≡ b → same_path a b ≡ true
same_path-equal a b = (pointwise_decides (λ x y. (same_step-same x y, same_step-equal x y)) a b).1

-- a test that holds where another does, and only there
agree : (s t : Bool) → (s ≡ true → t ≡ true) → (t ≡ true → s ≡ true) → s ≡ t
agree true true f g = refl
agree true false f g = sym (f refl)
agree false true f g = g refl
agree false false f g = refl

both-true : (s t : Bool) → s ≡ true → t ≡ true → (s && t) ≡ true
both-true s t e f = rw (e, f) refl

left-true : (s t : Bool) → (s && t) ≡ true → s ≡ true
left-true true t e = refl
left-true false t e = absurd cc

right-true : (s t : Bool) → (s && t) ≡ true → t ≡ true
right-true true t e = e
right-true false t e = absurd cc

not-none : (o : Option ℕ) (n : ℕ) → None ≡ Some n → ⊥
not-none o n e = cc

-- ---- numbers

low : (t : List Step → Bool) (i k : ℕ) (listed : List (List Step)) → position_from t i listed ≡ Some k → i ≤ k
low t i k [] e = absurd cc
low t i k (p ∷ ps) e = by (t p) e (low t (i + 1) k ps)
  where
    by : (b : Bool) → cond b (Some i) (position_from t (i + 1) ps) ≡ Some k → (position_from t (i + 1) ps ≡ Some k → i + 1 ≤ k) → i ≤ k
    by true e f = let is : i ≡ k = cc in omega (arith, is)
    by false e f = omega (arith, f e)

-- a path that is listed has a number
pub placed : (path : List Step) (i : ℕ) (listed : List (List Step)) → has_path listed path ≡ true
    → position_from (same_path path) i listed ≡ Some (unwrap_or (position_from (same_path path) i listed) 0)
placed path i [] e = absurd cc
placed path i (p ∷ ps) e = by (same_path path p) e (placed path (i + 1) ps)
  where
    by : (b : Bool) → (b || has_path ps path) ≡ true
        → (has_path ps path ≡ true → position_from (same_path path) (i + 1) ps ≡ Some (unwrap_or (position_from (same_path path) (i + 1) ps) 0))
        → cond b (Some i) (position_from (same_path path) (i + 1) ps) ≡ Some (unwrap_or (cond b (Some i) (position_from (same_path path) (i + 1) ps)) 0)
    by true e f = refl
    by false e f = f e

-- and one that is not has none
pub unplaced : (path : List Step) (i : ℕ) (listed : List (List Step)) → has_path listed path ≡ false → position_from (same_path path) i listed ≡ None
unplaced path i [] e = refl
unplaced path i (p ∷ ps) e = by (same_path path p) e (unplaced path (i + 1) ps)
  where
    by : (b : Bool) → (b || has_path ps path) ≡ false → (has_path ps path ≡ false → position_from (same_path path) (i + 1) ps ≡ None)
        → cond b (Some i) (position_from (same_path path) (i + 1) ps) ≡ None
    by true e f = absurd cc
    by false e f = f e

-- two paths with one place are the same
same-place : (a b : List Step) (i k : ℕ) (listed : List (List Step)) → position_from (same_path a) i listed ≡ Some k → position_from (same_path b) i listed ≡ Some k → a ≡ b
same-place a b i k [] e f = absurd cc
same-place a b i k (p ∷ ps) e f =
    by (same_path a p) (same_path b p) refl refl e f (low (same_path a) (i + 1) k ps) (low (same_path b) (i + 1) k ps) (same-place a b (i + 1) k ps)
  where
    by : (s t : Bool) → same_path a p ≡ s → same_path b p ≡ t → cond s (Some i) (position_from (same_path a) (i + 1) ps) ≡ Some k
        → cond t (Some i) (position_from (same_path b) (i + 1) ps) ≡ Some k
        → (position_from (same_path a) (i + 1) ps ≡ Some k → i + 1 ≤ k) → (position_from (same_path b) (i + 1) ps ≡ Some k → i + 1 ≤ k)
        → (position_from (same_path a) (i + 1) ps ≡ Some k → position_from (same_path b) (i + 1) ps ≡ Some k → a ≡ b) → a ≡ b
    by true true g h e f l m r = same_path-same a p g ∙ sym (same_path-same b p h)
    by true false g h e f l m r = let is : i ≡ k = cc in absurd (omega (arith, is, m f))
    by false true g h e f l m r = let is : i ≡ k = cc in absurd (omega (arith, is, l e))
    by false false g h e f l m r = r e f

-- the number of a path that is listed is above 0
pub number-some : (listed : List (List Step)) (path : List Step) → has_path listed path ≡ true
    → (position_from (same_path path) 1 listed ≡ Some (number_of listed path)) × (1 ≤ number_of listed path)
number-some listed path e = let at = placed path 1 listed e in (at, low (same_path path) 1 (number_of listed path) listed at)

pub number-none : (listed : List (List Step)) (path : List Step) → has_path listed path ≡ false → number_of listed path ≡ 0
number-none listed path e = ap (λ o. unwrap_or o 0) (unplaced path 1 listed e)

-- ---- lists

has-append : (listed more : List (List Step)) (path : List Step) → has_path (listed ++ more) path ≡ (has_path listed path || has_path more path)
has-append listed more path = list_any-append (same_path path) listed more

pub has-more : (listed more : List (List Step)) (path : List Step) → has_path listed path ≡ true → has_path (listed ++ more) path ≡ true
has-more listed more path e = has-append listed more path ∙ rw e refl

pub has-last : (listed : List (List Step)) (path : List Step) → has_path (listed ++ path ∷ []) path ≡ true
has-last listed path = has-append listed (path ∷ []) path ∙ by (has_path listed path) (same_path path path) (same_path-equal path path refl)
  where
    by : (s t : Bool) → t ≡ true → (s || (t || false)) ≡ true
    by true t e = refl
    by false t e = rw e refl

IsBase-more : (listed more : List (List Step)) (path : List Step) → IsBase listed path → IsBase (listed ++ more) path
IsBase-more listed more [] is = tt
IsBase-more listed more (s ∷ ss) is = has-more listed more (s ∷ ss) is

pub GoesOnFrom-more : (listed more : List (List Step)) (path : List Step) → GoesOnFrom listed path → GoesOnFrom (listed ++ more) path
GoesOnFrom-more listed more [] is = is
GoesOnFrom-more listed more (s ∷ ss) is = IsBase-more listed more ss is

-- each path goes on from a listed one
pub all-go-on : (listed paths : List (List Step)) → Extend listed paths → AllByRecursion (GoesOnFrom (listed ++ paths)) paths
all-go-on listed [] is = tt
all-go-on listed (p ∷ ps) is = (
  GoesOnFrom-more listed (p ∷ ps) p is.1,
  subst (λ l. AllByRecursion (GoesOnFrom l) ps) (append_assoc listed (p ∷ []) ps) (all-go-on (listed ++ p ∷ []) ps is.2),
)

no-empty : (listed paths : List (List Step)) → AllByRecursion (GoesOnFrom listed) paths → has_path paths [] ≡ false
no-empty listed [] is = refl
no-empty listed ([] ∷ ps) is = absurd is.0
no-empty listed ((s ∷ ss) ∷ ps) is = no-empty listed ps is.1

pub empty-unlisted : (listed : List (List Step)) → AreListed listed → has_path listed [] ≡ false
empty-unlisted listed is = no-empty listed listed (all-go-on [] listed is)

-- two paths from which others may go on have one number exactly where they are the same
number-same : (listed : List (List Step)) (a b : List Step) → AreListed listed → IsBase listed a → IsBase listed b
    → eqb (number_of listed a) (number_of listed b) ≡ same_path b a
number-same listed a b all base other =
    agree (eqb (number_of listed a) (number_of listed b)) (same_path b a)
    (λ e. same_path-equal b a (sym (apart a b base other (eqb-true (number_of listed a) (number_of listed b) e))))
    (λ e. eq-eqb (number_of listed a) (number_of listed b) (ap (number_of listed) (sym (same_path-same b a e))))
  where
    none : number_of listed [] ≡ 0
    none = number-none listed [] (empty-unlisted listed all)

    apart : (a b : List Step) → IsBase listed a → IsBase listed b → number_of listed a ≡ number_of listed b → a ≡ b
    apart [] [] base other e = refl
    apart [] (t ∷ ts) base other e = absurd (omega (arith, none, e, (number-some listed (t ∷ ts) other).1))
    apart (s ∷ ss) [] base other e = absurd (omega (arith, none, e, (number-some listed (s ∷ ss) base).1))
    apart (s ∷ ss) (t ∷ ts) base other e =
        same-place (s ∷ ss) (t ∷ ts) 1 (number_of listed (s ∷ ss)) listed (number-some listed (s ∷ ss) base).0 ((number-some listed (t ∷ ts) other).0 ∙ ap Some (sym e))

-- ---- the number of a path in the table

position-map : {A B : Type 0} (P : A → Type 0) (f : A → B) (t : B → Bool) (u : A → Bool) → ((x : A) → P x → t (f x) ≡ u x)
    → (i : ℕ) (xs : List A) → AllByRecursion P xs → position_from t i (map f xs) ≡ position_from u i xs
position-map P f t u same i [] all = refl
position-map P f t u same i (x ∷ xs) all =
    ap (λ b. cond b (Some i) (position_from t (i + 1) (map f xs))) (same x all.0) ∙ ap (cond (u x) (Some i)) (position-map P f t u same (i + 1) xs all.1)

step-same : (a b : Step) → same_step a b ≡ same_step b a
step-same a b =
    agree (same_step a b) (same_step b a) (λ e. same_step-equal b a (sym (same_step-same a b e))) (λ e. same_step-equal a b (sym (same_step-same b a e)))

and-turned : (s t : Bool) → (s && t) ≡ (t && s)
and-turned true true = refl
and-turned true false = refl
and-turned false true = refl
and-turned false false = refl

-- The table finds the path that goes on from a listed one by a step.
pub number-found : (count : List Step → ℕ) (listed : List (List Step)) (steps : List Step) (step : Step) → AreListed listed → IsBase listed steps
    → number_in (rows_of_paths count listed) (number_of listed steps) step ≡ position_from (same_path (step ∷ steps)) 1 listed
number-found count listed steps step all base =
    position-map (GoesOnFrom listed) (row_by (number_of listed) count) (goes_on (number_of listed steps) step) (same_path (step ∷ steps)) here 1 listed (all-go-on [] listed all)
  where
    here : (path : List Step) → GoesOnFrom listed path → goes_on (number_of listed steps) step (row_by (number_of listed) count path) ≡ same_path (step ∷ steps) path
    here [] on = absurd on
    here (s ∷ ss) on =
        ap (λ b. b && same_step s step) (number-same listed ss steps all on base) ∙ ap (λ b. same_path steps ss && b) (step-same s step)
        ∙ and-turned (same_path steps ss) (same_step step s)

-- ---- a new path

number-behind : (path : List Step) (i : ℕ) (listed more : List (List Step)) → has_path listed path ≡ true
    → position_from (same_path path) i (listed ++ more) ≡ position_from (same_path path) i listed
number-behind path i [] more e = absurd cc
number-behind path i (p ∷ ps) more e = by (same_path path p) e (number-behind path (i + 1) ps more)
  where
    by : (b : Bool) → (b || has_path ps path) ≡ true
        → (has_path ps path ≡ true → position_from (same_path path) (i + 1) (ps ++ more) ≡ position_from (same_path path) (i + 1) ps)
        → cond b (Some i) (position_from (same_path path) (i + 1) (ps ++ more)) ≡ cond b (Some i) (position_from (same_path path) (i + 1) ps)
    by true e f = refl
    by false e f = f e

-- a listed path keeps its number where others come behind
pub number-kept : (listed more : List (List Step)) (path : List Step) → has_path listed path ≡ true → number_of (listed ++ more) path ≡ number_of listed path
number-kept listed more path e = ap (λ o. unwrap_or o 0) (number-behind path 1 listed more e)

-- a new path gets the next number
pub number-new : (listed : List (List Step)) (path : List Step) → has_path listed path ≡ false → number_of (listed ++ path ∷ []) path ≡ length listed + 1
number-new listed path e = ap (λ o. unwrap_or o 0) (at 1 listed e) ∙ omega arith
  where
    at : (i : ℕ) (ps : List (List Step)) → has_path ps path ≡ false → position_from (same_path path) i (ps ++ path ∷ []) ≡ Some (i + length ps)
    at i [] e = rw (same_path-equal path path refl) (ap Some (omega arith))
    at i (p ∷ ps) e = by (same_path path p) e (λ f. at (i + 1) ps f ∙ ap Some (omega arith))
      where
        by : (b : Bool) → (b || has_path ps path) ≡ false
            → (has_path ps path ≡ false → position_from (same_path path) (i + 1) (ps ++ path ∷ []) ≡ Some (i + suc (length ps)))
            → cond b (Some i) (position_from (same_path path) (i + 1) (ps ++ path ∷ [])) ≡ Some (i + suc (length ps))
        by true e f = absurd cc
        by false e f = f e

pub Extend-push : (listed paths : List (List Step)) (path : List Step) → Extend listed paths → has_path (listed ++ paths) path ≡ false → GoesOnFrom (listed ++ paths) path
    → Extend listed (paths ++ path ∷ [])
Extend-push listed [] path is new on = (
  subst (λ l. has_path l path ≡ false) (append-nil listed) new,
  subst (λ l. GoesOnFrom l path) (append-nil listed) on,
  tt,
)
Extend-push listed (p ∷ ps) path is new on = (
  is.0,
  is.1,
  Extend-push (listed ++ p ∷ []) ps path is.2 (subst (λ l. has_path l path ≡ false) (sym (append_assoc listed (p ∷ []) ps)) new)
      (subst (λ l. GoesOnFrom l path) (sym (append_assoc listed (p ∷ []) ps)) on),
)

pub AreListed-push : (listed : List (List Step)) (path : List Step) → AreListed listed → has_path listed path ≡ false → GoesOnFrom listed path → AreListed (listed ++ path ∷ [])
AreListed-push listed path = Extend-push [] listed path

map-same : {A B : Type 0} (P : A → Type 0) (f g : A → B) → ((x : A) → P x → f x ≡ g x) → (xs : List A) → AllByRecursion P xs → map f xs ≡ map g xs
map-same P f g same [] all = refl
map-same P f g same (x ∷ xs) all = λ i. same x all.0 i ∷ map-same P f g same xs all.1 i

-- The table with the new path, on which no value stands.
pub rows-entered : (count : List Step → ℕ) (listed : List (List Step)) (step : Step) (steps : List Step) → AreListed listed → IsBase listed steps
    → has_path listed (step ∷ steps) ≡ false → count (step ∷ steps) ≡ 0
    → rows_of_paths count listed ++ record { parent = number_of listed steps; step = step; count = 0 } ∷ [] ≡ rows_of_paths count (listed ++ (step ∷ steps) ∷ [])
rows-entered count listed step steps all base new none =
    sym (map_push (row_by (number_of longer) count) listed (step ∷ steps)
    ∙ (λ i. map-same (GoesOnFrom listed) (row_by (number_of longer) count) (row_by (number_of listed) count) here listed (all-go-on [] listed all) i
    ++ record { parent = kept steps base i; step = step; count = none i } ∷ []))
  where
    longer : List (List Step)
    longer = listed ++ (step ∷ steps) ∷ []

    empty : number_of longer [] ≡ number_of listed []
    empty =
        number-none longer [] (empty-unlisted longer (AreListed-push listed (step ∷ steps) all new base)) ∙ sym (number-none listed [] (empty-unlisted listed all))

    kept : (path : List Step) → IsBase listed path → number_of longer path ≡ number_of listed path
    kept [] is = empty
    kept (s ∷ ss) is = number-kept listed ((step ∷ steps) ∷ []) (s ∷ ss) is

    here : (path : List Step) → GoesOnFrom listed path → row_by (number_of longer) count path ≡ row_by (number_of listed) count path
    here [] on = absurd on
    here (s ∷ ss) on = λ i. record { parent = kept ss on i; step = s; count = count (s ∷ ss) }

-- ---- another count

-- the row with another count is the row by the other counts
row-counted : (number count other : List Step → ℕ) (path : List Step) → row_by number other path ≡ record (row_by number count path) { count = other path }
row-counted number count other [] = refl
row-counted number count other (s ∷ ss) = refl

row-same : (number count other : List Step → ℕ) (path : List Step) → other path ≡ count path → row_by number other path ≡ row_by number count path
row-same number count other [] e = λ i. record { parent = 0; step = Top; count = e i }
row-same number count other (s ∷ ss) e = λ i. record { parent = number ss; step = s; count = e i }

row-count : (number count : List Step → ℕ) (path : List Step) → (row_by number count path).count ≡ count path
row-count number count [] = refl
row-count number count (s ∷ ss) = refl

-- a path that is listed is none of the new ones
not-new : (listed : List (List Step)) (path new : List Step) → has_path listed path ≡ true → has_path listed new ≡ false → same_path path new ≡ false
not-new listed path new e f = by (same_path path new) refl
  where
    by : (b : Bool) → same_path path new ≡ b → b ≡ false
    by true g = sym (subst (λ q. has_path listed q ≡ true) (same_path-same path new g) e) ∙ f
    by false g = refl

module _ (number count : List Step → ℕ) (change : ℕ → ℕ) (path : List Step) where
  other-row : (q : List Step) → same_path path q ≡ false → row_by number (counted change path count) q ≡ row_by number count q
  other-row q e = row-same number count (counted change path count) q (ap (λ b. cond b (change (count q)) (count q)) e)

  untouched : (listed paths : List (List Step)) → Extend listed paths → has_path listed path ≡ true
      → map (row_by number (counted change path count)) paths ≡ map (row_by number count) paths
  untouched listed [] is e = refl
  untouched listed (p ∷ ps) is e =
      λ i. other-row p (not-new listed path p e is.0) i ∷ untouched (listed ++ p ∷ []) ps is.2 (has-more listed (p ∷ []) path e) i

  own-row : (q : List Step) → same_path path q ≡ true → record (row_by number count q) { count = change (row_by number count q).count } ≡ row_by number (counted change path count) q
  own-row q e =
      (λ i. record (row_by number count q) { count = change (row-count number count q i) })
      ∙ (λ i. record (row_by number count q) { count = cond (sym e i) (change (count q)) (count q) })
      ∙ sym (row-counted number count (counted change path count) q)

  recounted : (i k : ℕ) (listed paths : List (List Step)) → Extend listed paths → position_from (same_path path) i paths ≡ Some k
      → recount change (k - i) (map (row_by number count) paths) ≡ map (row_by number (counted change path count)) paths
  recounted i k listed [] is e = absurd cc
  recounted i k listed (p ∷ ps) is e =
      by (same_path path p) refl e (low (same_path path) (i + 1) k ps) (λ f. recounted (i + 1) k (listed ++ p ∷ []) ps is.2 f)
    where
      by : (b : Bool) → same_path path p ≡ b → cond b (Some i) (position_from (same_path path) (i + 1) ps) ≡ Some k
          → (position_from (same_path path) (i + 1) ps ≡ Some k → i + 1 ≤ k)
          → (position_from (same_path path) (i + 1) ps ≡ Some k
          → recount change (k - (i + 1)) (map (row_by number count) ps) ≡ map (row_by number (counted change path count)) ps)
          → recount change (k - i) (row_by number count p ∷ map (row_by number count) ps) ≡ row_by number (counted change path count) p ∷ map (row_by number (counted change path count)) ps
      by true g e l r =
          let is_i : i ≡ k = cc in
          let here : k - i ≡ 0 = omega (arith, is_i) in
          let there : has_path (listed ++ p ∷ []) path ≡ true =
          subst (λ q. has_path (listed ++ q ∷ []) path ≡ true) (same_path-same path p g) (has-last listed path) in
          rw here (λ j. own-row p g j ∷ sym (untouched (listed ++ p ∷ []) ps is.2 there) j)
      by false g e l r =
          let later : k - i ≡ suc (k - (i + 1)) = omega (arith, l e) in
          rw later (λ j. sym (other-row p g) j ∷ r e j)

-- The table with another count on a listed path.
pub rows-counted : (count : List Step → ℕ) (change : ℕ → ℕ) (listed : List (List Step)) (path : List Step) → AreListed listed → has_path listed path ≡ true
    → recount change (number_of listed path - 1) (rows_of_paths count listed) ≡ rows_of_paths (counted change path count) listed
rows-counted count change listed path all e =
    recounted (number_of listed) count change path 1 (number_of listed path) [] listed all (number-some listed path e).0

-- The row of a listed path stands at its number.
pub row-listed : (count : List Step → ℕ) (listed : List (List Step)) (path : List Step) → has_path listed path ≡ true
    → row_at (rows_of_paths count listed) (number_of listed path) ≡ Some (row_by (number_of listed) count path)
row-listed count listed path e =
    let some = number-some listed path e in
    let place : number_of listed path ≡ suc (number_of listed path - 1) = omega (arith, some.1) in
    rw place (at 1 (number_of listed path) listed some.0)
  where
    at : (i k : ℕ) (ps : List (List Step)) → position_from (same_path path) i ps ≡ Some k
        → slice_get (map (row_by (number_of listed) count) ps) (k - i) ≡ Some (row_by (number_of listed) count path)
    at i k [] e = absurd cc
    at i k (p ∷ ps) e = by (same_path path p) refl e (low (same_path path) (i + 1) k ps) (at (i + 1) k ps)
      where
        by : (b : Bool) → same_path path p ≡ b → cond b (Some i) (position_from (same_path path) (i + 1) ps) ≡ Some k
            → (position_from (same_path path) (i + 1) ps ≡ Some k → i + 1 ≤ k)
            → (position_from (same_path path) (i + 1) ps ≡ Some k
            → slice_get (map (row_by (number_of listed) count) ps) (k - (i + 1)) ≡ Some (row_by (number_of listed) count path))
            → slice_get (row_by (number_of listed) count p ∷ map (row_by (number_of listed) count) ps) (k - i) ≡ Some (row_by (number_of listed) count path)
        by true g e l r =
            let is_i : i ≡ k = cc in
            let here : k - i ≡ 0 = omega (arith, is_i) in
            rw here (ap (λ q. Some (row_by (number_of listed) count q)) (sym (same_path-same path p g)))
        by false g e l r =
            let later : k - i ≡ suc (k - (i + 1)) = omega (arith, l e) in
            rw later (r e)

-- ---- lists with more paths

-- each path goes on from one that is listed by then
pub Follow-add : (listed : List (List Step)) (path : List Step) → AreListed listed → GoesOnFrom listed path
    → AreListed (if has_path listed path then listed else listed ++ path ∷ [])
Follow-add listed path all on = by (has_path listed path) refl
  where
    by : (b : Bool) → has_path listed path ≡ b → AreListed (if b then listed else listed ++ path ∷ [])
    by true e = all
    by false e = AreListed-push listed path all e on

pub with_paths-append : (listed xs ys : List (List Step)) → with_paths listed (xs ++ ys) ≡ with_paths (with_paths listed xs) ys
with_paths-append listed [] ys = refl
with_paths-append listed (x ∷ xs) ys = with_paths-append (if has_path listed x then listed else listed ++ x ∷ []) xs ys

-- the paths that were listed stay, in their places
pub with_paths-behind : (listed paths : List (List Step)) → (more : List (List Step)) × (with_paths listed paths ≡ listed ++ more)
with_paths-behind listed [] = ([], sym (append-nil listed))
with_paths-behind listed (p ∷ ps) = by (has_path listed p) (with_paths-behind listed ps) (with_paths-behind (listed ++ p ∷ []) ps)
  where
    by : (b : Bool) → ((more : List (List Step)) × (with_paths listed ps ≡ listed ++ more))
        → ((more : List (List Step)) × (with_paths (listed ++ p ∷ []) ps ≡ (listed ++ p ∷ []) ++ more))
        → (more : List (List Step)) × (with_paths (if b then listed else listed ++ p ∷ []) ps ≡ listed ++ more)
    by true same longer = same
    by false same longer = (p ∷ longer.0, longer.1 ∙ append_assoc listed (p ∷ []) longer.0)

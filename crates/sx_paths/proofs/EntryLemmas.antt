-- What changes of entries do to the paths that they show, and to the index.
use Rattle.std.proofs.Common.{◌≡◌, ℕ, zero, suc, ◌+◌, ◌≤◌, ◌<◌, Bool, true, false, cond, eqb, ◌&&◌, List, [], ◌∷◌, ◌++◌, map, take, drop, length, get_or, append-nil, ◌-◌, Option, Some, None, refl, sym, ap, ◌∙◌, subst, arith, set}
use Rattle.std.specs.Prelude.{slice_get, IsSomeAnd}
use Rattle.std.specs.Option.{option_or, option_map}
use Rattle.std.specs.List.{position_from}
use lib.ListN.{length-set}
use Rattle.std.proofs.lemmas.List.{map_push, length-append}
use Rattle.std.proofs.lemmas.Option.{slice_get_read}
use Rattle.std.proofs.lemmas.Bool.{eqb-true, eq-eqb, ne_eqb}
use Rattle.sx_tree.specs.declared.record.PathRecord.{PathRecord}
use Rattle.sx_tree.specs.declared.record.Step.{Step}
use Rattle.sx_model.specs.Paths.{same_step}
use Rattle.sx_model.specs.Records.{PathRow}
use Rattle.sx_paths.specs.declared.entry.Entry.{Entry}
use Rattle.sx_paths.specs.declared.index.Index.{Index}
use Rattle.sx_paths.specs.Table.{goes_on, number_in, recount, row_at, row_of}
use Rattle.sx_paths.specs.Entries.{AreStamped, IsIndexOf, IsTable, table_of, left_at, noted_at, row_before, rows_of, stamps_of, is_number}
use Rattle.sx_paths.specs.Words.{IsIndex, number_by}
use Rattle.sx_paths.proofs.WordLemmas.{same_step-refl, same_step-same}

-- ---- one entry was changed

module _ {A B : Type 0} (f g : A → B) where
  -- the first so many elements are read by one function, the others by another
  abbrev pub mixed : ℕ → List A → List B
  mixed zero xs = map g xs
  mixed (suc k) [] = []
  mixed (suc k) (x ∷ xs) = f x ∷ mixed k xs

  pub mixed-all : (xs : List A) → mixed (length xs) xs ≡ map f xs
  mixed-all [] = refl
  mixed-all (x ∷ xs) = ap (λ ys. f x ∷ ys) (mixed-all xs)

  pub mixed-set : (xs : List A) (k : ℕ) (old new : A) → slice_get xs k ≡ Some old → f new ≡ g old → mixed (suc k) (set xs k new) ≡ mixed k xs
  mixed-set [] k old new e same = absurd cc
  mixed-set (x ∷ xs) zero old new e same = let is : x ≡ old = cc in ap (λ y. y ∷ map g xs) (same ∙ ap g (sym is))
  mixed-set (x ∷ xs) (suc k) old new e same = ap (λ ys. f x ∷ ys) (mixed-set xs k old new e same)

pub map-set : {A B : Type 0} (f : A → B) (xs : List A) (k : ℕ) (old new : A) → slice_get xs k ≡ Some old → f new ≡ f old → map f (set xs k new) ≡ map f xs
map-set f [] k old new e same = absurd cc
map-set f (x ∷ xs) zero old new e same = let is : x ≡ old = cc in ap (λ y. y ∷ map f xs) (same ∙ ap f (sym is))
map-set f (x ∷ xs) (suc k) old new e same = ap (λ ys. f x ∷ ys) (map-set f xs k old new e same)

pub map-take-set : {A B : Type 0} (f : A → B) (n : ℕ) (xs : List A) (k : ℕ) (old new : A) → slice_get xs k ≡ Some old → f new ≡ f old → map f (take n (set xs k new)) ≡ map f (take n xs)
map-take-set f zero xs k old new e same = refl
map-take-set f (suc n) [] k old new e same = absurd cc
map-take-set f (suc n) (x ∷ xs) zero old new e same = let is : x ≡ old = cc in ap (λ y. y ∷ map f (take n xs)) (same ∙ ap f (sym is))
map-take-set f (suc n) (x ∷ xs) (suc k) old new e same = ap (λ ys. f x ∷ ys) (map-take-set f n xs k old new e same)

pub rows-set : (change : ℕ → ℕ) (es : List Entry) (k : ℕ) (old new : Entry) → slice_get es k ≡ Some old
    → row_of new.path ≡ record (row_of old.path) { count = change old.path.count } → rows_of (set es k new) ≡ recount change k (rows_of es)
rows-set change [] k old new e same = absurd cc
rows-set change (x ∷ es) zero old new e same =
    let is : x ≡ old = cc in
    ap (λ y. y ∷ rows_of es) (same ∙ ap (λ (o : Entry). record (row_of o.path) { count = change o.path.count }) (sym is))
rows-set change (x ∷ es) (suc k) old new e same = ap (λ ys. row_of x.path ∷ ys) (rows-set change es k old new e same)

pub AreStamped-set : (stamp : ℕ) (es : List Entry) (k : ℕ) (new : Entry) → new.stamp ≤ stamp → AreStamped stamp es → AreStamped stamp (set es k new)
AreStamped-set stamp [] k new small all = all
AreStamped-set stamp (x ∷ es) zero new small all = (small, all.1)
AreStamped-set stamp (x ∷ es) (suc k) new small all = (all.0, AreStamped-set stamp es k new small all.1)

pub AreStamped-push : (stamp : ℕ) (es : List Entry) (new : Entry) → new.stamp ≤ stamp → AreStamped stamp es → AreStamped stamp (es ++ new ∷ [])
AreStamped-push stamp [] new small all = (small, tt)
AreStamped-push stamp (x ∷ es) new small all = (all.0, AreStamped-push stamp es new small all.1)

pub AreStamped-more : (early late : ℕ) (es : List Entry) → early ≤ late → AreStamped early es → AreStamped late es
AreStamped-more early late [] less all = tt
AreStamped-more early late (x ∷ es) less all = (omega (arith, less, all.0), AreStamped-more early late es less all.1)

pub AreStamped-take : (stamp n : ℕ) (es : List Entry) → AreStamped stamp es → AreStamped stamp (take n es)
AreStamped-take stamp zero es all = tt
AreStamped-take stamp (suc n) [] all = tt
AreStamped-take stamp (suc n) (x ∷ es) all = (all.0, AreStamped-take stamp n es all.1)

-- stamps that are the same, or none
pub AreStamped-same : (stamp : ℕ) (es fs : List Entry) → stamps_of fs ≡ stamps_of es → AreStamped stamp es → AreStamped stamp fs
AreStamped-same stamp [] [] e all = tt
AreStamped-same stamp [] (f ∷ fs) e all = absurd cc
AreStamped-same stamp (x ∷ es) [] e all = tt
AreStamped-same stamp (x ∷ es) (f ∷ fs) e all =
    let heads : f.stamp ≡ x.stamp = cc in
    let tails : stamps_of fs ≡ stamps_of es = cc in
    (omega (arith, all.0), AreStamped-same stamp es fs tails all.1)

pub AreStamped-none : (es fs : List Entry) → stamps_of fs ≡ map (λ e. 0) es → AreStamped 0 fs
AreStamped-none es [] e = tt
AreStamped-none [] (f ∷ fs) e = absurd cc
AreStamped-none (x ∷ es) (f ∷ fs) e =
    let heads : f.stamp ≡ 0 = cc in
    let tails : stamps_of fs ≡ map (λ e. 0) es = cc in
    (omega arith, AreStamped-none es fs tails)

-- ---- the numbers of paths

pub number-recount : (change : ℕ → ℕ) (parent : ℕ) (step : Step) (i k : ℕ) (rows : List PathRow) → position_from (goes_on parent step) i (recount change k rows) ≡ position_from (goes_on parent step) i rows
number-recount change parent step i k [] = refl
number-recount change parent step i zero (row ∷ rows) = refl
number-recount change parent step i (suc k) (row ∷ rows) = ap (cond (goes_on parent step row) (Some i)) (number-recount change parent step (i + 1) k rows)

number_push_at : (b : Bool) (i : ℕ) (o : Option ℕ) (last : Option ℕ) → cond b (Some i) (option_or o last) ≡ option_or (cond b (Some i) o) last
number_push_at true i o last = refl
number_push_at false i o last = refl

pub number-push : (t : PathRow → Bool) (i : ℕ) (rows : List PathRow) (row : PathRow) → position_from t i (rows ++ row ∷ []) ≡ option_or (position_from t i rows) (cond (t row) (Some (i + length rows)) None)
number-push t i [] row = ap (λ n. cond (t row) (Some n) None) (omega arith)
number-push t i (x ∷ rows) row =
    let more : i + 1 + length rows ≡ i + suc (length rows) = omega arith in
    ap (cond (t x) (Some i)) (number-push t (i + 1) rows row ∙ ap (λ n. option_or (position_from t (i + 1) rows) (cond (t row) (Some n) None)) more)
    ∙ number_push_at (t x) i (position_from t (i + 1) rows) (cond (t row) (Some (i + suc (length rows))) None)

number_below_at : (b : Bool) (i k n : ℕ) (o : Option ℕ) → cond b (Some i) o ≡ Some k → (o ≡ Some k → k < i + 1 + n) → k < i + suc n
number_below_at true i k n o e f = let is : i ≡ k = cc in omega arith
number_below_at false i k n o e f = let less = f e in omega (arith, less)

pub number-below : (t : PathRow → Bool) (i k : ℕ) (rows : List PathRow) → position_from t i rows ≡ Some k → k < i + length rows
number-below t i k [] e = absurd cc
number-below t i k (x ∷ rows) e = number_below_at (t x) i k (length rows) (position_from t (i + 1) rows) e (number-below t (i + 1) k rows)

pub length-rows : (es : List Entry) → length (rows_of es) ≡ length es
length-rows [] = refl
length-rows (e ∷ es) = ap suc (length-rows es)

length-front : {A : Type 0} (n : ℕ) (xs : List A) → length (take n xs) ≤ length xs
length-front zero xs = omega arith
length-front (suc n) [] = omega arith
length-front (suc n) (x ∷ xs) = omega (arith, length-front n xs)

-- ---- the index and the last path

module _ (old new : Index) (path : PathRecord) (rows : List PathRow) where
  last : ℕ → Step → Option ℕ
  last p s = cond (goes_on p s (row_of path)) (Some (length rows + 1)) None

  pushed : (p : ℕ) (s : Step) → number_in (rows ++ row_of path ∷ []) p s ≡ option_or (number_in rows p s) (last p s)
  unfolding last
  pushed p s =
      let n : 1 + length rows ≡ length rows + 1 = omega arith in
      number-push (goes_on p s) 1 rows (row_of path) ∙ ap (λ n. option_or (number_in rows p s) (cond (goes_on p s (row_of path)) (Some n) None)) n

  pub IsIndexOf-noted : IsIndexOf old rows → IsIndex new → ((p : ℕ) (s : Step) → number_by new p s ≡ noted_at path (length rows + 1) (number_by old) p s)
      → IsIndexOf new (rows ++ row_of path ∷ [])
  unfolding last
  IsIndexOf-noted is index noted = record {
    index = index;
    numbers = λ p s. noted p s ∙ ap (λ o. option_or o (last p s)) (is.numbers p s) ∙ sym (pushed p s);
  }

  -- the parent and the step of the path
  own : (p : ℕ) (s : Step) → goes_on p s (row_of path) ≡ true → (path.parent ≡ p) × (path.step ≡ s)
  own p s e = both (eqb path.parent p) (same_step path.step s) refl refl e
    where
      both : (a b : Bool) → eqb path.parent p ≡ a → same_step path.step s ≡ b → (a && b) ≡ true → (path.parent ≡ p) × (path.step ≡ s)
      both true true f g h = (eqb-true path.parent p f, same_step-same path.step s g)
      both true false f g h = absurd cc
      both false b f g h = absurd cc

  own_goes : goes_on path.parent path.step (row_of path) ≡ true
  own_goes = rw (eq-eqb path.parent path.parent refl, same_step-refl path.step) refl

  not_last : (n : ℕ) → n < 1 + length rows → is_number (length rows + 1) (Some n) ≡ false
  not_last n less = ne_eqb n (length rows + 1) (λ e. omega (arith, less, e))

  is_last : is_number (length rows + 1) (Some (length rows + 1)) ≡ true
  is_last = eq-eqb (length rows + 1) (length rows + 1) refl

  or_none : (o : Option ℕ) → option_or o None ≡ o
  or_none None = refl
  or_none (Some n) = refl

  -- by what the path's number among the others is, and whether the path goes on so
  left_by : (p : ℕ) (s : Step) (found : Option ℕ) (goes : Bool) → number_in rows path.parent path.step ≡ found → goes_on p s (row_of path) ≡ goes
      → cond (is_number (length rows + 1) (option_or found (Some (length rows + 1)))) (cond goes None (option_or (number_in rows p s) (cond goes (Some (length rows + 1)) None)))
      (option_or (number_in rows p s) (cond goes (Some (length rows + 1)) None)) ≡ number_in rows p s
  left_by p s (Some n) true e f =
      let is = own p s f in
      let here : number_in rows p s ≡ Some n = subst (λ q. number_in rows q s ≡ Some n) is.0 (subst (λ t. number_in rows path.parent t ≡ Some n) is.1 e) in
      rw (not_last n (number-below (goes_on path.parent path.step) 1 n rows e), here) refl
  left_by p s (Some n) false e f = rw (not_last n (number-below (goes_on path.parent path.step) 1 n rows e)) (or_none (number_in rows p s))
  left_by p s None true e f =
      let is = own p s f in
      let here : number_in rows p s ≡ None = subst (λ q. number_in rows q s ≡ None) is.0 (subst (λ t. number_in rows path.parent t ≡ None) is.1 e) in
      rw (is_last, here) refl
  left_by p s None false e f = rw is_last (or_none (number_in rows p s))

  pub IsIndexOf-left : IsIndexOf old (rows ++ row_of path ∷ []) → IsIndex new → ((p : ℕ) (s : Step) → number_by new p s ≡ left_at path (length rows + 1) (number_by old) p s)
      → IsIndexOf new rows
  unfolding last
  IsIndexOf-left is index left = record {
    index = index;
    numbers = λ p s.
        let at_own : number_by old path.parent path.step ≡ option_or (number_in rows path.parent path.step) (Some (length rows + 1)) =
        is.numbers path.parent path.step ∙ pushed path.parent path.step
        ∙ ap (λ (b : Bool). option_or (number_in rows path.parent path.step) (cond b (Some (length rows + 1)) None)) own_goes in
        left p s ∙ rw (at_own, is.numbers p s, pushed p s) (left_by p s (number_in rows path.parent path.step) (goes_on p s (row_of path)) refl refl);
  }

-- ---- the table

pub IsTable-recount : (stamp : ℕ) (mark : Option ℕ) (es : List Entry) (index : Index) (k : ℕ) (old new : Entry) (change : ℕ → ℕ) → IsTable stamp mark es index
    → slice_get es k ≡ Some old → row_of new.path ≡ record (row_of old.path) { count = change old.path.count } → new.stamp ≡ stamp → IsTable stamp mark (set es k new) index
IsTable-recount stamp mark es index k old new change is at row now = record {
  indexed = record {
    index = is.indexed.index;
    numbers = λ p s.
        is.indexed.numbers p s ∙ sym (number-recount change p s 1 k (rows_of es)) ∙ ap (λ rows. number_in rows p s) (sym (rows-set change es k old new at row));
  };
  stamped = AreStamped-set stamp es k new (omega (arith, now)) is.stamped;
  within = rw (length-set es k new) is.within;
  few = rw (length-set es k new) is.few;
}

pub table-recount : (stamp : ℕ) (mark : Option ℕ) (es : List Entry) (k : ℕ) (old new : Entry) (change : ℕ → ℕ)
    → slice_get es k ≡ Some old → row_of new.path ≡ record (row_of old.path) { count = change old.path.count } → row_before stamp new ≡ row_before stamp old
    → table_of stamp mark (set es k new) ≡ record (table_of stamp mark es) { paths = recount change k (rows_of es) }
table-recount stamp mark es k old new change at row before =
    let paths = rows-set change es k old new at row in
    let marked : option_map (λ count. map (row_before stamp) (take count (set es k new))) mark ≡ option_map (λ count. map (row_before stamp) (take count es)) mark =
    ap (λ (f : ℕ → List PathRow). option_map f mark) (λ i count. map-take-set (row_before stamp) count es k old new at before i) in
    λ i. record { paths = paths i; marked = marked i }

-- the entry of a number that has a path
there_at : (es : List Entry) (k : ℕ) (P : PathRow → Type 0) → IsSomeAnd (slice_get (rows_of es) k) P → (k < length es) × ((x : Entry) → x ≡ get_or es k x → P (row_of x.path))
there_at [] k P h = absurd h
there_at (e ∷ es) zero P h = (omega arith, λ x is. subst (λ (y : Entry). P (row_of y.path)) (sym is) h)
there_at (e ∷ es) (suc k) P h = let rest = there_at es k P h in (omega (arith, rest.0), rest.1)

pub there : (es : List Entry) (p : ℕ) (P : PathRow → Type 0) → IsSomeAnd (row_at (rows_of es) p) P
    → (p - 1 < length es) × ((x : Entry) → x ≡ get_or es (p - 1) x → (slice_get es (p - 1) ≡ Some x) × P (row_of x.path))
there es zero P h = absurd h
there es (suc k) P h =
    let e : suc k - 1 ≡ k = omega arith in
    let at = there_at es k P h in
    rw e (at.0, λ x is. (slice_get_read es (length es) k x refl at.0 is, at.1 x is))

pub number-before : (stamp parent : ℕ) (step : Step) (i : ℕ) (es : List Entry) → position_from (goes_on parent step) i (map (row_before stamp) es) ≡ position_from (goes_on parent step) i (rows_of es)
number-before stamp parent step i [] = refl
number-before stamp parent step i (e ∷ es) = ap (cond (goes_on parent step (row_of e.path)) (Some i)) (number-before stamp parent step (i + 1) es)

-- a list that was borrowed whole, put back
pub whole : {A : Type 0} (n : ℕ) (xs ys : List A) → n ≡ length ys → length xs ≡ length ys → take n (xs ++ drop (length xs) ys) ≡ xs
whole n xs ys e f = rw (f, drop_all ys, append-nil xs, e, ← f) (take_all xs)
  where
    drop_all : {A : Type 0} (zs : List A) → drop (length zs) zs ≡ []
    drop_all [] = refl
    drop_all (z ∷ zs) = drop_all zs

    take_all : {A : Type 0} (zs : List A) → take (length zs) zs ≡ zs
    take_all [] = refl
    take_all (z ∷ zs) = ap (λ ws. z ∷ ws) (take_all zs)

pub same_length : {A B C : Type 0} (f : A → C) (g : B → C) (xs : List A) (ys : List B) → map f xs ≡ map g ys → length xs ≡ length ys
same_length f g [] [] e = refl
same_length f g [] (y ∷ ys) e = absurd cc
same_length f g (x ∷ xs) [] e = absurd cc
same_length f g (x ∷ xs) (y ∷ ys) e = let tails : map f xs ≡ map g ys = cc in ap suc (same_length f g xs ys tails)

-- what was noted at earlier marks is nothing to this one
pub before-fresh : (stamp : ℕ) (es : List Entry) → 1 ≤ stamp → AreStamped (stamp - 1) es → map (row_before stamp) es ≡ rows_of es
before-fresh stamp [] some all = refl
before-fresh stamp (e ∷ es) some all =
    let other : eqb e.stamp stamp ≡ false = ne_eqb e.stamp stamp (λ is. omega (arith, is, all.0)) in
    let first : row_before stamp e ≡ row_of e.path = ap (λ (b : Bool). record (row_of e.path) { count = cond b e.before e.path.count }) other in
    λ i. first i ∷ before-fresh stamp es some all.1 i

pub front-push : {A : Type 0} (n : ℕ) (xs : List A) (x : A) → n ≤ length xs → take n (xs ++ x ∷ []) ≡ take n xs
front-push zero xs x within = refl
front-push (suc n) [] x within = absurd (omega (arith, within))
front-push (suc n) (y ∷ xs) x within = ap (λ ys. y ∷ ys) (front-push n xs x (omega (arith, within)))

-- the last entry was taken away
pub cut_once : (all left : List Entry) (entry : Entry) (old new : Index) → all ≡ left ++ entry ∷ [] → IsIndexOf old (rows_of all) → IsIndex new
    → ((p : ℕ) (s : Step) → number_by new p s ≡ left_at entry.path (length left + 1) (number_by old) p s) → IsIndexOf new (rows_of left)
cut_once all left entry old new is indexed index numbers =
    let rows : rows_of all ≡ rows_of left ++ row_of entry.path ∷ [] = ap rows_of is ∙ map_push (λ (e : Entry). row_of e.path) left entry in
    let many : length (rows_of left) ≡ length left = length-rows left in
    IsIndexOf-left old new entry.path (rows_of left) (subst (IsIndexOf old) rows indexed) index
    (λ p s. numbers p s ∙ ap (λ (n : ℕ). left_at entry.path (n + 1) (number_by old) p s) (sym many))

pub IsTable-push : (stamp : ℕ) (mark : Option ℕ) (es : List Entry) (old new : Index) (entry : Entry) (path : PathRecord) → IsTable stamp mark es old → IsIndex new
    → ((p : ℕ) (s : Step) → number_by new p s ≡ noted_at path (length es + 1) (number_by old) p s)
    → row_of entry.path ≡ row_of path → entry.stamp ≡ stamp → length es + 1 < 4_294_967_296 → IsTable stamp mark (es ++ entry ∷ []) new
IsTable-push stamp mark es old new entry path is index numbers row now few =
    let many : length (rows_of es) ≡ length es = length-rows es in
    let rows : rows_of (es ++ entry ∷ []) ≡ rows_of es ++ row_of path ∷ [] = map_push (λ (e : Entry). row_of e.path) es entry ∙ ap (λ r. rows_of es ++ r ∷ []) row in
    let longer : length (es ++ entry ∷ []) ≡ length es + 1 = length-append es (entry ∷ []) in
    record {
      indexed = subst (IsIndexOf new) (sym rows) (IsIndexOf-noted old new path (rows_of es) is.indexed index
          (λ p s. numbers p s ∙ ap (λ (n : ℕ). noted_at path (n + 1) (number_by old) p s) (sym many)));
      stamped = AreStamped-push stamp es entry (omega (arith, now)) is.stamped;
      within = λ count e. omega (arith, longer, is.within count e);
      few = omega (arith, longer, few);
    }

pub IsTable-marked : (stamp : ℕ) (es fs : List Entry) (old : Option ℕ) (before count : ℕ) (index : Index) → IsTable before old es index → rows_of fs ≡ rows_of es → 1 ≤ stamp
    → AreStamped (stamp - 1) fs → count ≡ length es → IsTable stamp (Some count) fs index
IsTable-marked stamp es fs old before count index is rows some fresh count_is =
    let many = same_length (λ (e : Entry). row_of e.path) (λ (e : Entry). row_of e.path) fs es rows in
    record {
      indexed = subst (IsIndexOf index) (sym rows) is.indexed;
      stamped = AreStamped-more (stamp - 1) stamp fs (omega arith) fresh;
      within = λ n e. let same : count ≡ n = cc in omega (arith, many, count_is, same);
      few = omega (arith, many, is.few);
    }

pub IsTable-undone : (stamp count : ℕ) (es left fs : List Entry) (old new : Index) (mark : Option ℕ) → IsTable stamp mark es old → left ≡ take count es
    → IsIndexOf new (rows_of left) → rows_of fs ≡ map (row_before stamp) left → stamps_of fs ≡ stamps_of left → IsTable stamp None fs new
IsTable-undone stamp count es left fs old new mark is left_is indexed rows stamps =
    let many = same_length (λ (e : Entry). row_of e.path) (row_before stamp) fs left rows in
    let less : length left ≤ length es = rw left_is (length-front count es) in
    record {
      indexed = record {
        index = indexed.index;
        numbers = λ p s. indexed.numbers p s ∙ sym (number-before stamp p s 1 left) ∙ ap (λ r. number_in r p s) (sym rows);
      };
      stamped = AreStamped-same stamp left fs stamps (subst (AreStamped stamp) (sym left_is) (AreStamped-take stamp count es is.stamped));
      within = λ n e. absurd cc;
      few = omega (arith, many, less, is.few);
    }

take_whole : {A : Type 0} (n : ℕ) (xs : List A) → n ≡ length xs → take n xs ≡ xs
take_whole zero [] e = refl
take_whole (suc n) [] e = refl
take_whole zero (x ∷ xs) e = absurd (omega (arith, e))
take_whole (suc n) (x ∷ xs) e = ap (λ ys. x ∷ ys) (take_whole n xs (omega (arith, e)))

pub table-marked : (stamp count : ℕ) (es fs : List Entry) → rows_of fs ≡ rows_of es → 1 ≤ stamp → AreStamped (stamp - 1) fs → count ≡ length es
    → table_of stamp (Some count) fs ≡ record { paths = rows_of es; marked = Some (rows_of es) }
table-marked stamp count es fs rows some fresh count_is =
    let many = same_length (λ (e : Entry). row_of e.path) (λ (e : Entry). row_of e.path) fs es rows in
    let marked : map (row_before stamp) (take count fs) ≡ rows_of es =
    ap (map (row_before stamp)) (take_whole count fs (omega (arith, many, count_is))) ∙ before-fresh stamp fs some fresh ∙ rows in
    λ i. record { paths = rows i; marked = Some (marked i) }

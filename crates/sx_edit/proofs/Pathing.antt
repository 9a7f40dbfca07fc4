-- The table as an edit changes it: a path that comes, a value that is counted or no longer is.
use Rattle.std.proofs.Common.{◌≡◌, ℕ, suc, ◌+◌, ◌-◌, ◌≤◌, ◌<◌, Bool, true, false, cond, List, [], ◌∷◌, ◌++◌, length, Option, Some, None, refl, sym, ap, ◌∙◌, subst, arith}
use Rattle.std.specs.Prelude.{◌^◌, Result, Ok, Err, IfErr, IsErrAnd, count_by, option_map, unwrap_or}
use Rattle.std.specs.List.{position_from}
use Rattle.std.proofs.lemmas.Grind.{common_steps}
use Rattle.std.proofs.lemmas.List.{length-append, length-map}
use Rattle.sx_tree.specs.declared.edit.EditRefusal.TheVariants.{PathsSpent}
use Rattle.sx_tree.specs.declared.record.Kind.{Kind}
use Rattle.sx_tree.specs.declared.record.PathRecord.{PathRecord}
use Rattle.sx_tree.specs.declared.record.Step.{Step}
use Rattle.sx_model.specs.Edit.{path_limit}
use Rattle.sx_model.specs.Paths.{number_of, same_path, with_paths}
use Rattle.sx_model.specs.Records.{PathRow}
use Rattle.sx_model.specs.Tree.{is_value}
use Rattle.sx_paths.specs.Table.{number_in, recount, row_at, row_of}
use Rattle.sx_paths.specs.Listed.{IsBase, counted, has_path, row_by, rows_of_paths}
use Rattle.sx_paths.proofs.Listing.{AreListed-push, has-last, has-more, number-found, number-kept, number-new, number-none, placed, row-listed, rows-counted, rows-entered, same_path-equal, same_path-same, unplaced, with_paths-behind, empty-unlisted}
use Rattle.sx_paths.proofs.StateLemmas.{found-at, parent-before}
use Rattle.sx_edit.specs.declared.fault.EditFault.{EditFault}
use Rattle.sx_edit.specs.declared.fault.EditFault.TheVariants.{OutOfMemory, Refused}
use Rattle.sx_edit.specs.Pathways.{CannotCountIn, HasAll, IsCountedIn, IsCountedOut, IsNodeOut, IsOnto, IsPathAt, IsStart, Lists, Numbers, Stops, StopsOnto, more_on, own_of}

-- ---- counts

abbrev count_one : Bool → ℕ
count_one b = cond b 1 0

pub count-cons : {X : Type 0} (p : X → Bool) (x : X) (xs : List X) → count_by p (x ∷ xs) ≡ cond (p x) 1 0 + count_by p xs
count-cons p x xs = grind (arith, common_steps)

pub count-append : {X : Type 0} (p : X → Bool) (xs ys : List X) → count_by p (xs ++ ys) ≡ count_by p xs + count_by p ys
count-append p [] ys = omega arith
count-append p (x ∷ xs) ys = omega (arith, count-cons p x xs, count-cons p x (xs ++ ys), count-append p xs ys)

pub more-none : (count : List Step → ℕ) → more_on [] count ≡ count
more-none count = λ i path. (let e : count path + 0 ≡ count path = omega arith in e) i

pub more-append : (xs ys : List (List Step)) (count : List Step → ℕ) → more_on (xs ++ ys) count ≡ more_on ys (more_on xs count)
more-append xs ys count = λ i path. (let e : count path + count_by (same_path path) (xs ++ ys) ≡ count path + count_by (same_path path) xs + count_by (same_path path) ys = omega (arith, count-append (same_path path) xs ys) in e) i

pub more-swap : (xs ys : List (List Step)) (count : List Step → ℕ) → more_on xs (more_on ys count) ≡ more_on ys (more_on xs count)
more-swap xs ys count = λ i path. (let e : count path + count_by (same_path path) ys + count_by (same_path path) xs ≡ count path + count_by (same_path path) xs + count_by (same_path path) ys = omega arith in e) i

pub lists-as : (table : List PathRow) (listed : List (List Step)) (count other : List Step → ℕ) → count ≡ other → Lists table listed count → Lists table listed other
lists-as table listed count other is = subst (Lists table listed) is

-- ---- lists of paths

pub has-with : (listed paths : List (List Step)) (path : List Step) → has_path listed path ≡ true → has_path (with_paths listed paths) path ≡ true
has-with listed paths path is = let more = with_paths-behind listed paths in subst (λ l. has_path l path ≡ true) (sym more.1) (has-more listed more.0 path is)

pub number-with : (listed paths : List (List Step)) (path : List Step) → has_path listed path ≡ true → number_of (with_paths listed paths) path ≡ number_of listed path
number-with listed paths path is = let more = with_paths-behind listed paths in subst (λ l. number_of l path ≡ number_of listed path) (sym more.1) (number-kept listed more.0 path is)

pub path-with : (listed paths : List (List Step)) (steps : List Step) (path : ℕ) → IsPathAt listed steps path → IsPathAt (with_paths listed paths) steps path
path-with listed paths steps path at = record { there = has-with listed paths steps at.there; is = at.is ∙ sym (number-with listed paths steps at.there) }

pub path-by : (number : List Step → ℕ) (listed : List (List Step)) (steps : List Step) (path : ℕ) → Numbers number listed → has_path listed steps ≡ true → path ≡ number steps → IsPathAt listed steps path
path-by number listed steps path numbers there is = record { there = there; is = is ∙ numbers.listed_are steps there }

pub start-at : (listed : List (List Step)) (steps : List Step) (path : ℕ) → IsPathAt listed steps path → IsStart listed steps path
start-at listed [] path at = record { base = tt; is = at.is }
start-at listed (step ∷ steps) path at = record { base = at.there; is = at.is }

pub numbers-back : (number : List Step → ℕ) (listed paths : List (List Step)) → Numbers number (with_paths listed paths) → Numbers number listed
numbers-back number listed paths numbers = record {
  listed_are = λ path there. numbers.listed_are path (has-with listed paths path there) ∙ number-with listed paths path there;
  top_is = numbers.top_is;
}

pub lists-here : (table : List PathRow) (listed other : List (List Step)) (count more : List Step → ℕ) → listed ≡ other → count ≡ more → Lists table listed count → Lists table other more
lists-here table listed other count more same is lists = lists-as table other count more is (subst (λ l. Lists table l count) same lists)

pub with-one : (listed : List (List Step)) (path : List Step) → has_path listed path ≡ true → with_paths listed (path ∷ []) ≡ listed
with-one listed path is = ap (λ b. cond b listed (listed ++ path ∷ [])) is

pub with-new : (listed : List (List Step)) (path : List Step) → has_path listed path ≡ false → with_paths listed (path ∷ []) ≡ listed ++ path ∷ []
with-new listed path is = ap (λ b. cond b listed (listed ++ path ∷ [])) is

pub with-all : (listed paths : List (List Step)) → HasAll listed paths → with_paths listed paths ≡ listed
with-all listed [] is = refl
with-all listed (path ∷ paths) is = ap (λ l. with_paths l paths) (with-one listed path is.0) ∙ with-all listed paths is.1

pub all-with : (listed more paths : List (List Step)) → HasAll listed paths → HasAll (with_paths listed more) paths
all-with listed more [] is = tt
all-with listed more (path ∷ paths) is = (has-with listed more path is.0, all-with listed more paths is.1)

pub all-both : (listed xs ys : List (List Step)) → HasAll listed xs → HasAll listed ys → HasAll listed (xs ++ ys)
all-both listed [] ys one other = other
all-both listed (x ∷ xs) ys one other = (one.0, all-both listed xs ys one.1 other)

pub all-front : (listed xs ys : List (List Step)) → HasAll listed (xs ++ ys) → HasAll listed xs
all-front listed [] ys is = tt
all-front listed (x ∷ xs) ys is = (is.0, all-front listed xs ys is.1)

pub all-back : (listed xs ys : List (List Step)) → HasAll listed (xs ++ ys) → HasAll listed ys
all-back listed [] ys is = is
all-back listed (x ∷ xs) ys is = all-back listed xs ys is.1

-- each path that comes is listed then
pub all-come : (listed paths : List (List Step)) → HasAll (with_paths listed paths) paths
all-come listed [] = tt
all-come listed (path ∷ paths) =
    (has-with (with_paths listed (path ∷ [])) paths path (here (has_path listed path) refl), all-come (with_paths listed (path ∷ [])) paths)
  where
    here : (b : Bool) → has_path listed path ≡ b → has_path (with_paths listed (path ∷ [])) path ≡ true
    here true is = subst (λ l. has_path l path ≡ true) (sym (with-one listed path is)) is
    here false is = subst (λ l. has_path l path ≡ true) (sym (with-new listed path is)) (has-last listed path)

pub with-twice : (listed : List (List Step)) (path : List Step) (paths : List (List Step)) → with_paths (with_paths listed (path ∷ [])) (path ∷ paths) ≡ with_paths listed (path ∷ paths)
with-twice listed path paths = ap (λ l. with_paths l paths) (with-one (with_paths listed (path ∷ [])) path (all-come listed (path ∷ [])).0)

-- the numbers of a list's paths are those of the list
pub own-numbers : (table : List PathRow) (listed : List (List Step)) (count : List Step → ℕ) → Lists table listed count → Numbers (number_of listed) listed
own-numbers table listed count lists = record { listed_are = λ path there. refl; top_is = number-none listed [] (empty-unlisted listed lists.are) }

pub listed-base : (listed : List (List Step)) (path : List Step) → has_path listed path ≡ true → IsBase listed path
listed-base listed [] there = tt
listed-base listed (step ∷ steps) there = there

pub length-table : (table : List PathRow) (listed : List (List Step)) (count : List Step → ℕ) → Lists table listed count → length table ≡ length listed
length-table table listed count lists = ap length lists.rows_are ∙ length-map listed (row_by (number_of listed) count)

within : (path : List Step) (i k : ℕ) (listed : List (List Step)) → position_from (same_path path) i listed ≡ Some k → k < i + length listed
within path i k [] is = absurd cc
within path i k (p ∷ ps) is = by (same_path path p) is (within path (i + 1) k ps)
  where
    by : (b : Bool) → cond b (Some i) (position_from (same_path path) (i + 1) ps) ≡ Some k → (position_from (same_path path) (i + 1) ps ≡ Some k → k < i + 1 + length ps) → k < i + suc (length ps)
    by true e f = let same : i ≡ k = cc in omega (arith, same)
    by false e f = omega (arith, f e)

-- ---- a path that comes

-- the path that was looked for is there, or not
sought-there : (listed : List (List Step)) (path : List Step) (number : ℕ) → position_from (same_path path) 1 listed ≡ Some number → has_path listed path ≡ true
sought-there listed path number is = by (has_path listed path) refl
  where
    by : (b : Bool) → has_path listed path ≡ b → b ≡ true
    by true e = refl
    by false e = let none = unplaced path 1 listed e in absurd cc

sought-absent : (listed : List (List Step)) (path : List Step) → position_from (same_path path) 1 listed ≡ None → has_path listed path ≡ false
sought-absent listed path is = by (has_path listed path) refl
  where
    by : (b : Bool) → has_path listed path ≡ b → b ≡ false
    by true e = let some = placed path 1 listed e in absurd cc
    by false e = refl

unlisted : (listed more : List (List Step)) (path : List Step) → has_path (listed ++ more) path ≡ false → has_path listed path ≡ false
unlisted listed more path is = by (has_path listed path) refl
  where
    by : (b : Bool) → has_path listed path ≡ b → b ≡ false
    by true e = sym (has-more listed more path e) ∙ is
    by false e = refl

module _ (parent : ℕ) (step : Step) (old : List PathRow) (found : Option ℕ) (found_is : found ≡ number_in old parent step) where
  looked : (listed : List (List Step)) (count : List Step → ℕ) (steps : List Step) → Lists old listed count → IsStart listed steps parent
      → position_from (same_path (step ∷ steps)) 1 listed ≡ found
  looked listed count steps lists start =
      sym (number-found count listed steps step lists.are start.base) ∙ (λ i. number_in (sym lists.rows_are i) (sym start.is i) step) ∙ sym found_is

  pub onto-found : (number : ℕ) → found ≡ Some number → IsOnto parent step number old old
  unfolding IsOnto
  onto-found number some listed count steps lists start =
      let at = looked listed count steps lists start ∙ some in
      let there = sought-there listed (step ∷ steps) number at in
      let same = sym (with-one listed (step ∷ steps) there) in
      let number_is : number ≡ number_of listed (step ∷ steps) = sym (ap (λ o. unwrap_or o 0) at) in
      (subst (λ l. Lists old l count) same lists, subst (λ l. IsPathAt l (step ∷ steps) number) same (record { there = there; is = number_is }))

  pub onto-large : (number had : ℕ) (fault : EditFault) → found ≡ Some number → path_limit < number → StopsOnto parent step had old fault
  unfolding StopsOnto
  onto-large number had fault some large listed count steps lists start =
      absurd (omega (arith, large, lists.few, within (step ∷ steps) 1 number listed (looked listed count steps lists start ∙ some)))

  pub onto-low : (number had : ℕ) (fault : EditFault) → found ≡ Some number → number ≤ parent → StopsOnto parent step had old fault
  unfolding StopsOnto
  onto-low number had fault some low listed count steps lists start =
      let at = found-at (step ∷ steps) 1 number listed (looked listed count steps lists start ∙ some) in
      absurd (omega (arith, low, start.is, at.0, parent-before listed (number - 1) step steps lists.are at.2))

  pub onto-orphan : (had : ℕ) (fault : EditFault) → (parent ≡ 0 → ⊥) → row_at old parent ≡ None → StopsOnto parent step had old fault
  unfolding StopsOnto
  onto-orphan had fault above none listed count [] lists start = absurd (above (start.is ∙ (own-numbers old listed count lists).top_is))
  onto-orphan had fault above none listed count (last ∷ steps) lists start =
      let there = (λ i. row_at (lists.rows_are i) (start.is i)) ∙ row-listed count listed (last ∷ steps) start.base in
      absurd (let e : None ≡ Some (row_by (number_of listed) count (last ∷ steps)) = sym none ∙ there in cc)

  pub onto-full : (had : ℕ) → found ≡ None → path_limit ≤ length old → StopsOnto parent step had old (Refused (PathsSpent had))
  unfolding StopsOnto
  onto-full had none many listed count steps lists start =
      let absent = sought-absent listed (step ∷ steps) (looked listed count steps lists start ∙ none) in
      (refl, omega (arith, many, ap length (with-new listed (step ∷ steps) absent), length-append listed ((step ∷ steps) ∷ []), length-table old listed count lists))

  pub onto-new : (number : ℕ) (new : List PathRow) → found ≡ None → length old + 1 ≤ path_limit → number ≡ length old + 1
      → new ≡ old ++ record { parent = parent; step = step; count = 0 } ∷ [] → IsOnto parent step number old new
  unfolding IsOnto
  onto-new number new none room number_is new_is listed count steps lists start =
      let path : List Step = step ∷ steps in
      let absent = sought-absent listed path (looked listed count steps lists start ∙ none) in
      let same = sym (with-new listed path absent) in
      let long = length-table old listed count lists in
      let rows_are = new_is ∙ (λ i. lists.rows_are i ++ record { parent = start.is i; step = step; count = 0 } ∷ [])
      ∙ rows-entered count listed step steps lists.are start.base absent (lists.elsewhere path absent) in (
        subst (λ l. Lists new l count) same (record {
          are = AreListed-push listed path lists.are absent start.base;
          few = omega (arith, room, long, length-append listed (path ∷ []));
          elsewhere = λ other none. lists.elsewhere other (unlisted listed (path ∷ []) other none);
          rows_are = rows_are;
        }),
        subst (λ l. IsPathAt l path number) same (record {
          there = has-last listed path;
          is = number_is ∙ ap (λ z. z + 1) long ∙ sym (number-new listed path absent);
        }),
      )

pub memory-stops : {A : Type 0} (parent : ℕ) (step : Step) (had : ℕ) (old : List PathRow) (r : Result A EditFault) → IsErrAnd r (λ e. e ≡ OutOfMemory) → IfErr r (StopsOnto parent step had old)
unfolding StopsOnto
memory-stops parent step had old (Ok x) is = absurd is
memory-stops parent step had old (Err e) is = λ listed count steps lists start. subst (Stops had listed ((step ∷ steps) ∷ [])) (sym is) tt

-- the row that was read of the table
pub row-none : (table : List PathRow) (path : ℕ) (there : Option PathRecord) → option_map row_of there ≡ row_at table path → there ≡ None → row_at table path ≡ None
row-none table path there is none = sym is ∙ ap (option_map row_of) none

pub row-some : (table : List PathRow) (path : ℕ) (there : Option PathRecord) (r : PathRecord) → option_map row_of there ≡ row_at table path → there ≡ Some r → row_at table path ≡ Some (row_of r)
row-some table path there r is some = sym is ∙ ap (option_map row_of) some

-- ---- a value that is counted

same-turned : (a b : List Step) → same_path a b ≡ same_path b a
same-turned a b = by (same_path a b) (same_path b a) refl refl
  where
    by : (s t : Bool) → same_path a b ≡ s → same_path b a ≡ t → s ≡ t
    by true true e f = refl
    by true false e f = sym (same_path-equal b a (sym (same_path-same a b e))) ∙ f
    by false true e f = sym e ∙ same_path-equal a b (sym (same_path-same b a f))
    by false false e f = refl

one-more : (s : Bool) (n : ℕ) → cond s (n + 1) n ≡ n + (cond s 1 0 + 0)
one-more true n = omega arith
one-more false n = omega arith

one-less : (s : Bool) (n : ℕ) → cond s (n + (cond s 1 0 + 0) - 1) (n + (cond s 1 0 + 0)) ≡ n
one-less true n = omega arith
one-less false n = omega arith

counted-more : (steps : List Step) (count : List Step → ℕ) → counted (λ n. n + 1) steps count ≡ more_on (steps ∷ []) count
counted-more steps count = λ i q. (ap (λ s. cond s (count q + 1) (count q)) (same-turned steps q) ∙ one-more (same_path q steps) (count q) ∙ ap (λ z. count q + z) (sym (count-cons (same_path q) steps []))) i

counted-less : (steps : List Step) (count : List Step → ℕ) → counted (λ n. n - 1) steps (more_on (steps ∷ []) count) ≡ count
counted-less steps count = λ i q. (ap (λ z. cond (same_path steps q) (count q + z - 1) (count q + z)) (count-cons (same_path q) steps []) ∙ ap (λ s. cond s (count q + (cond (same_path q steps) 1 0 + 0) - 1) (count q + (cond (same_path q steps) 1 0 + 0))) (same-turned steps q) ∙ one-less (same_path q steps) (count q)) i

own-count : (number count : List Step → ℕ) (steps : List Step) → (row_by number count steps).count ≡ count steps
own-count number count [] = refl
own-count number count (step ∷ steps) = refl

-- the row of a listed path
pub path-row : (table : List PathRow) (listed : List (List Step)) (count : List Step → ℕ) (steps : List Step) (path : ℕ) → Lists table listed count → IsPathAt listed steps path
    → (row : PathRow) × (row_at table path ≡ Some row) × (row.count ≡ count steps)
path-row table listed count steps path lists at = (
  row_by (number_of listed) count steps,
  (λ i. row_at (lists.rows_are i) (at.is i)) ∙ row-listed count listed steps at.there,
  own-count (number_of listed) count steps,
)

not-elsewhere : (listed : List (List Step)) (steps other : List Step) → has_path listed steps ≡ true → has_path listed other ≡ false → same_path other steps ≡ false
not-elsewhere listed steps other there none = by (same_path other steps) refl
  where
    by : (b : Bool) → same_path other steps ≡ b → b ≡ false
    by true e = sym there ∙ ap (has_path listed) (sym (same_path-same other steps e)) ∙ none
    by false e = refl

module _ (path : ℕ) (old : List PathRow) where
  pub counted-in : (new : List PathRow) → new ≡ recount (λ n. n + 1) (path - 1) old → IsCountedIn path old new
  unfolding IsCountedIn
  counted-in new is listed count steps lists at = record {
    are = lists.are;
    few = lists.few;
    elsewhere = λ other none. omega (arith, lists.elsewhere other none, count-cons (same_path other) steps [], ap count_one (not-elsewhere listed steps other at.there none));
    rows_are = is ∙ (λ i. recount (λ n. n + 1) (at.is i - 1) (lists.rows_are i)) ∙ rows-counted count (λ n. n + 1) listed steps lists.are at.there
        ∙ ap (λ c. rows_of_paths c listed) (counted-more steps count);
  }

  pub in-absent : row_at old path ≡ None → CannotCountIn path old
  unfolding CannotCountIn
  in-absent none listed count steps lists at room = let row = path-row old listed count steps path lists at in absurd (let e : None ≡ Some row.0 = sym none ∙ row.1 in cc)

  pub in-full : (row : PathRow) → row_at old path ≡ Some row → 2 ^ 32 ≤ row.count + 1 → CannotCountIn path old
  unfolding CannotCountIn
  in-full row there full listed count steps lists at room =
      let known = path-row old listed count steps path lists at in
      let same : row ≡ known.0 = let e : Some row ≡ Some known.0 = sym there ∙ known.1 in cc in
      absurd (omega (arith, room, full, ap (λ (r : PathRow). r.count) same, known.2))

  pub counted-out : (new : List PathRow) → new ≡ recount (λ n. n - 1) (path - 1) old → IsCountedOut path old (Some new)
  unfolding IsCountedOut
  counted-out new is listed count steps lists at = record {
    are = lists.are;
    few = lists.few;
    elsewhere = λ other none. omega (arith, lists.elsewhere other none);
    rows_are = is ∙ (λ i. recount (λ n. n - 1) (at.is i - 1) (lists.rows_are i)) ∙ rows-counted (more_on (steps ∷ []) count) (λ n. n - 1) listed steps lists.are at.there
        ∙ ap (λ c. rows_of_paths c listed) (counted-less steps count);
  }

  pub out-absent : row_at old path ≡ None → IsCountedOut path old None
  unfolding IsCountedOut
  out-absent none listed count steps lists at =
      let row = path-row old listed (more_on (steps ∷ []) count) steps path lists at in absurd (let e : None ≡ Some row.0 = sym none ∙ row.1 in cc)

  pub out-none : (row : PathRow) → row_at old path ≡ Some row → row.count ≡ 0 → IsCountedOut path old None
  unfolding IsCountedOut
  out-none row there none listed count steps lists at =
      let known = path-row old listed (more_on (steps ∷ []) count) steps path lists at in
      let same : row ≡ known.0 = let e : Some row ≡ Some known.0 = sym there ∙ known.1 in cc in
      absurd (omega (arith, none, ap (λ (r : PathRow). r.count) same, known.2, count-cons (same_path steps) steps [], ap count_one (same_path-equal steps steps refl)))

  -- a node is counted out where it is a value
  pub node-out : (kind : Kind) (new : Option (List PathRow)) → is_value kind ≡ true → IsCountedOut path old new → IsNodeOut kind path old new
  unfolding IsCountedOut IsNodeOut
  node-out kind new value out listed count steps at lists =
      let own : own_of kind steps ≡ steps ∷ [] = ap (λ b. cond b (steps ∷ []) []) value in
      out listed count steps (subst (λ ps. Lists old listed (more_on ps count)) own lists) (at value)

  pub node-stays : (kind : Kind) → is_value kind ≡ false → IsNodeOut kind path old (Some old)
  unfolding IsNodeOut
  node-stays kind other listed count steps at lists =
      let own : own_of kind steps ≡ [] = ap (λ b. cond b (steps ∷ []) []) other in
      lists-as old listed _ count (ap (λ ps. more_on ps count) own ∙ more-none count) lists

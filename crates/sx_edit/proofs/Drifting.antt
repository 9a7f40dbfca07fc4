-- The table of paths on its way from that before the edit, and what is damaged in it.
use Rattle.std.proofs.Common.{◌≡◌, ℕ, zero, suc, ◌+◌, ◌-◌, ◌≤◌, ◌<◌, ◌⊎◌, Bool, true, false, cond, List, [], ◌∷◌, ◌++◌, length, Option, Some, None, inl, inr, refl, sym, ap, subst, ◌∙◌, arith, append-nil}
use Rattle.std.specs.Prelude.{◌^◌, ◌&&◌, IfSome, nat_eq, slice_get}
use Rattle.std.specs.List.{position_from}
use Rattle.std.specs.Option.{option_to_list}
use Rattle.std.proofs.lemmas.Bool.{eq-eqb, eqb-true}
use Rattle.std.proofs.lemmas.List.Sums.{sum_by-append, sum_by-cons}
use Rattle.std.proofs.lemmas.Option.{slice_get_past}
use Rattle.sx_bytes.specs.declared.damage.Damage.{Damage}
use Rattle.sx_tree.specs.declared.record.NodeRecord.{NodeRecord}
use Rattle.sx_tree.specs.declared.record.Step.{Step}
use Rattle.sx_view.specs.Records.{RecordMap}
use Rattle.sx_model.specs.Edit.{path_limit}
use Rattle.sx_model.specs.Paths.{same_step}
use Rattle.sx_model.specs.Records.{PathRow}
use Rattle.sx_model.specs.Tree.{is_value}
use Rattle.sx_paths.specs.Table.{goes_on, number_in, recount, row_at}
use Rattle.sx_edit.specs.declared.trees.Move.{Move}
use Rattle.sx_edit.proofs.Answering.{value-below}
use Rattle.sx_edit.specs.Damage.{HasBefore, IsBreach, IsNew, NeedsPath, NeedsPathOf, NeedsRecord, Reach, misplaced, standing_on}
use Rattle.sx_edit.specs.Drift.{Drifts, DriftsAt, IsBase, IsKnown, IsKnownOn, IsThere}
use Rattle.sx_edit.specs.Links.{ComesTo, IsRecord, paths_left, times}
use Rattle.sx_edit.specs.Repath.{AllThere}

pub times-append : (path : ℕ) (xs ys : List ℕ) → times path (xs ++ ys) ≡ times path xs + times path ys
times-append path xs ys = sum_by-append (λ x. cond (nat_eq path x) 1 0) xs ys

times_one : (path : ℕ) → times path (path ∷ []) ≡ 1
times_one path = sum_by-cons (λ x. cond (nat_eq path x) 1 0) path [] ∙ ap (λ b. cond b 1 0 + 0) (eq-eqb path path refl)

stays_at : (plus : ℕ) (minus : List ℕ) (number : ℕ) (row : Option PathRow) → DriftsAt plus minus number row row
stays_at plus minus number None = tt
stays_at plus minus number (Some row) = (refl, omega arith, omega arith)

pub drifts-itself : (plus : ℕ) (minus : List ℕ) (table : List PathRow) → Drifts plus minus table table
unfolding Drifts
drifts-itself plus minus table number = stays_at plus minus number (row_at table number)

module _ (plus_first plus_then plus : ℕ) (minus_first minus_then : List ℕ) (more : plus_first + plus_then ≤ plus) where
  then_at : (number : ℕ) (a b c : Option PathRow) → DriftsAt plus_first minus_first number a b → DriftsAt plus_then minus_then number b c → DriftsAt plus (minus_first ++ minus_then) number a c
  then_at number None None None first second = tt
  then_at number None None (Some c) first second = (second.0, second.1, omega (arith, more, second.2))
  then_at number None (Some b) None first second = absurd second
  then_at number None (Some b) (Some c) first second = (omega (arith, first.0, second.0), first.1, omega (arith, more, first.2, second.1))
  then_at number (Some a) None c first second = absurd first
  then_at number (Some a) (Some b) None first second = absurd second
  then_at number (Some a) (Some b) (Some c) first second =
      (second.0 ∙ first.0, omega (arith, more, first.1, second.1), omega (arith, times-append number minus_first minus_then, first.2, second.2))

  -- one change after the other
  pub drifts-then : (a b c : List PathRow) → Drifts plus_first minus_first a b → Drifts plus_then minus_then b c → Drifts plus (minus_first ++ minus_then) a c
  unfolding Drifts
  drifts-then a b c first second number = then_at number (row_at a number) (row_at b number) (row_at c number) (first number) (second number)

-- one change more, by which no path was left
pub drifts-on : (plus_first plus_then plus : ℕ) (minus : List ℕ) (a b c : List PathRow) → plus_first + plus_then ≤ plus → Drifts plus_first minus a b → Drifts plus_then [] b c → Drifts plus minus a c
drifts-on plus_first plus_then plus minus a b c more first second =
    subst (λ m. Drifts plus m a c) (append-nil minus) (drifts-then plus_first plus_then plus minus [] more a b c first second)

pub drifts-within : (plus_first plus : ℕ) (minus : List ℕ) (a b : List PathRow) → plus_first ≤ plus → Drifts plus_first minus a b → Drifts plus minus a b
drifts-within plus_first plus minus a b more first = drifts-on plus_first 0 plus minus a b b (omega arith) first (drifts-itself 0 [] b)

-- ---- one change of the table

module _ (plus : ℕ) (minus : List ℕ) (number path : ℕ) (change : ℕ → ℕ) (more : (n : ℕ) → change n ≤ n + plus) (fewer : number ≡ path → (n : ℕ) → n ≤ change n + times number minus) where
  recount_at : (place q before : ℕ) (rows : List PathRow) → number ≡ before + q + 1 → path ≡ before + place + 1 → DriftsAt plus minus number (slice_get rows q) (slice_get (recount change place rows) q)
  recount_at place q before [] number_is path_is = tt
  recount_at zero zero before (row ∷ rows) number_is path_is = (refl, more row.count, fewer (omega arith) row.count)
  recount_at zero (suc q) before (row ∷ rows) number_is path_is = stays_at plus minus number (slice_get rows q)
  recount_at (suc place) zero before (row ∷ rows) number_is path_is = stays_at plus minus number (Some row)
  recount_at (suc place) (suc q) before (row ∷ rows) number_is path_is = recount_at place q (before + 1) rows (omega arith) (omega arith)

drifts_recount : (plus : ℕ) (minus : List ℕ) (place : ℕ) (change : ℕ → ℕ) → ((n : ℕ) → change n ≤ n + plus) → ((n : ℕ) → n ≤ change n + times (suc place) minus) → (old : List PathRow) → Drifts plus minus old (recount change place old)
unfolding Drifts
drifts_recount plus minus place change more fewer old zero = tt
drifts_recount plus minus place change more fewer old (suc q) =
    recount_at plus minus (suc q) (suc place) change more (λ same n. subst (λ p. n ≤ change n + times p minus) (sym same) (fewer n)) place q 0 old (omega arith) (omega arith)

pub drifts-in : (place : ℕ) (old new : List PathRow) → new ≡ recount (λ n. n + 1) place old → Drifts 1 [] old new
drifts-in place old new is = subst (Drifts 1 [] old) (sym is) (drifts_recount 1 [] place (λ n. n + 1) (λ n. omega arith) (λ n. omega arith) old)

out_less : (path n : ℕ) → n ≤ (n - 1) + times path (path ∷ [])
out_less path n = omega (arith, times_one path)

-- a value less on a path that is there
pub drifts-out : (path : ℕ) (row : PathRow) (old new : List PathRow) → row_at old path ≡ Some row → new ≡ recount (λ n. n - 1) (path - 1) old → Drifts 0 (path ∷ []) old new
drifts-out zero row old new there is = absurd (let e : None ≡ Some row = there in cc)
drifts-out (suc place) row old new there is =
    let at : suc place - 1 ≡ place = omega arith in
    subst (Drifts 0 (suc place ∷ []) old) (sym (is ∙ ap (λ p. recount (λ n. n - 1) p old) at))
    (drifts_recount 0 (suc place ∷ []) place (λ n. n - 1) (λ n. omega arith) (out_less (suc place)) old)

module _ (row : PathRow) (last : ℕ) (fits : last ≤ path_limit) (above : row.parent < last) (none : row.count ≡ 0) where
  entered_at : (rows : List PathRow) (q number before : ℕ) → number ≡ before + q + 1 → last ≡ before + length rows + 1 → DriftsAt 0 [] number (slice_get rows q) (slice_get (rows ++ row ∷ []) q)
  entered_at [] zero number before number_is last_is = (omega (arith, above), omega (arith, fits), omega (arith, none))
  entered_at [] (suc q) number before number_is last_is = tt
  entered_at (r ∷ rows) zero number before number_is last_is = stays_at 0 [] number (Some r)
  entered_at (r ∷ rows) (suc q) number before number_is last_is = entered_at rows q number (before + 1) (omega arith) (omega arith)

  drifts_entered : (old : List PathRow) → last ≡ length old + 1 → Drifts 0 [] old (old ++ row ∷ [])
  unfolding Drifts
  drifts_entered old last_is zero = tt
  drifts_entered old last_is (suc q) = entered_at old q (suc q) 0 (omega arith) (omega arith)

last_row : (rows : List PathRow) (row : PathRow) → slice_get (rows ++ row ∷ []) (length rows) ≡ Some row
last_row [] row = refl
last_row (r ∷ rows) row = last_row rows row

pub there-low : (table : List PathRow) (path : ℕ) → IsThere table path → path ≤ length table
there-low table zero there = absurd (there refl)
there-low table (suc q) there = let past : length table ≤ q → ⊥ = λ low. there (slice_get_past table q low) in omega (arith, past)

module _ (parent : ℕ) (step : Step) (old new : List PathRow) (number : ℕ) (number_is : number ≡ length old + 1) (new_is : new ≡ old ++ record { parent = parent; step = step; count = 0 } ∷ []) where
  pub drifts-entered : (parent ≡ 0) ⊎ IsThere old parent → number ≤ path_limit → Drifts 0 [] old new
  drifts-entered base fits =
      subst (Drifts 0 [] old) (sym new_is) (drifts_entered (record { parent = parent; step = step; count = 0 }) number fits (low base) refl old number_is)
    where
      low : (parent ≡ 0) ⊎ IsThere old parent → parent < number
      low (inl top) = omega arith
      low (inr there) = omega (arith, there-low old parent there)

  pub there-entered : IsThere new number
  there-entered none =
      let is : row_at new number ≡ Some (record { parent = parent; step = step; count = 0 }) =
      (λ i. row_at (new_is i) ((let e : number ≡ suc (length old) = omega arith in e) i)) ∙ last_row old (record { parent = parent; step = step; count = 0 }) in
      absurd (let e : None ≡ Some (record { parent = parent; step = step; count = 0 }) = sym none ∙ is in cc)

-- ---- what the table has

drift_none : (plus : ℕ) (minus : List ℕ) (number : ℕ) (was is : Option PathRow) → DriftsAt plus minus number was is → is ≡ None → was ≡ None
drift_none plus minus number None is drift none = refl
drift_none plus minus number (Some was) None drift none = absurd drift
drift_none plus minus number (Some was) (Some is) drift none = absurd (let e : Some is ≡ None = none in cc)

pub drifts-none : (plus : ℕ) (minus : List ℕ) (old new : List PathRow) (path : ℕ) → Drifts plus minus old new → row_at new path ≡ None → row_at old path ≡ None
unfolding Drifts
drifts-none plus minus old new path drifts = drift_none plus minus path (row_at old path) (row_at new path) (drifts path)

-- a path that is there stays
pub there-on : (plus : ℕ) (minus : List ℕ) (old new : List PathRow) (path : ℕ) → Drifts plus minus old new → IsThere old path → IsThere new path
there-on plus minus old new path drifts there none = there (drifts-none plus minus old new path drifts none)

pub there-row : (table : List PathRow) (path : ℕ) (row : PathRow) → row_at table path ≡ Some row → IsThere table path
there-row table path row some none = let e : None ≡ Some row = sym none ∙ some in cc

pub all_there-on : (plus : ℕ) (minus : List ℕ) (old new : List PathRow) (moves : List Move) → Drifts plus minus old new → AllThere old moves → AllThere new moves
all_there-on plus minus old new [] drifts all = tt
all_there-on plus minus old new (move ∷ moves) drifts all = (there-on plus minus old new move.over.path drifts all.0, all_there-on plus minus old new moves drifts all.1)

pub there-push : (table : List PathRow) (moves : List Move) (move : Move) → IsThere table move.over.path → AllThere table moves → AllThere table (moves ++ move ∷ [])
there-push table [] move there all = (there, tt)
there-push table (m ∷ moves) move there all = (all.0, there-push table moves move there all.1)

pub there-pop : (table : List PathRow) (old new : List Move) (popped : Option Move) → old ≡ new ++ option_to_list popped → AllThere table old → AllThere table new × IfSome popped (λ at. IsThere table at.over.path)
there-pop table old new None is all = (subst (AllThere table) (is ∙ append-nil new) all, tt)
there-pop table old new (Some move) is all = last new (subst (AllThere table) is all)
  where
    last : (moves : List Move) → AllThere table (moves ++ move ∷ []) → AllThere table moves × IsThere table move.over.path
    last [] all = (tt, all.0)
    last (m ∷ moves) all = let more = last moves all.1 in ((all.0, more.0), more.1)

-- the row of the path that was found
found_row : (parent : ℕ) (step : Step) (rows : List PathRow) (i k : ℕ) → position_from (goes_on parent step) i rows ≡ Some k
    → (q : ℕ) × ((row : PathRow) × ((k ≡ i + q) × (slice_get rows q ≡ Some row) × (row.parent ≡ parent)))
found_row parent step [] i k is = absurd (let e : None ≡ Some k = is in cc)
found_row parent step (row ∷ rows) i k is = by (goes_on parent step row) refl is (found_row parent step rows (i + 1) k)
  where
    own : (a b : Bool) → nat_eq row.parent parent ≡ a → (a && b) ≡ true → row.parent ≡ parent
    own true b same goes = eqb-true row.parent parent same
    own false b same goes = absurd (let e : false ≡ true = goes in cc)

    by : (b : Bool) → goes_on parent step row ≡ b → cond b (Some i) (position_from (goes_on parent step) (i + 1) rows) ≡ Some k
        → (position_from (goes_on parent step) (i + 1) rows ≡ Some k → (q : ℕ) × ((r : PathRow) × ((k ≡ i + 1 + q) × (slice_get rows q ≡ Some r) × (r.parent ≡ parent))))
        → (q : ℕ) × ((r : PathRow) × ((k ≡ i + q) × (slice_get (row ∷ rows) q ≡ Some r) × (r.parent ≡ parent)))
    by true goes e below = (0, (row, ((let same : i ≡ k = cc in omega arith), refl, own (nat_eq row.parent parent) (same_step row.step step) refl goes)))
    by false goes e below = let more = below e in (suc more.0, (more.1.0, (omega (arith, more.1.1.0), more.1.1.1, more.1.1.2)))

pub row-found : (parent : ℕ) (step : Step) (table : List PathRow) (found : Option ℕ) (number : ℕ) → found ≡ number_in table parent step → found ≡ Some number
    → (row : PathRow) × ((row_at table number ≡ Some row) × (row.parent ≡ parent))
row-found parent step table found number is some =
    let at = found_row parent step table 1 number (sym is ∙ some) in
    let same : number ≡ suc at.0 = omega (arith, at.1.1.0) in
    (at.1.0, (ap (row_at table) same ∙ at.1.1.1, at.1.1.2))

-- ---- damage

-- the path of a value is not the Document's own
pub needs-value : (o : Option (RecordMap NodeRecord)) (reach : Reach) (node k : ℕ) (r : NodeRecord) (path : ℕ) → IsRecord o k r → is_value r.kind ≡ true → r.path ≡ path → NeedsRecord o reach node k → NeedsPathOf o reach node path
needs-value o reach node k r path there value is needs = (k, (r, (there, is, (λ top. value-below r.kind value), needs)))

-- a new node's path, of the node that is named
pub known-on : (o : Option (RecordMap NodeRecord)) (reach : Reach) (node : ℕ) (table : List PathRow) (path : ℕ) → IsNew reach node → IsKnownOn o reach table path → IsKnown o reach node table path
known-on o reach node table path new (inl there) = inl there
known-on o reach node table path new (inr (r, (there, value, is))) = inr (needs-value o reach node reach.node r path there value is (inr (inr (new, inl refl))))

-- the path of a record that a node needs, as another stands on it
pub base-of : (o : Option (RecordMap NodeRecord)) (reach : Reach) (node k : ℕ) (r : NodeRecord) (table : List PathRow) (path : ℕ) → IsRecord o k r → r.path ≡ path → NeedsRecord o reach node k → IsBase o reach node table path
base-of o reach node k r table zero there is needs = inl refl
base-of o reach node k r table (suc path) there is needs = inr (inr (k, (r, (there, is, (λ top. absurd (omega (arith, top))), needs))))

module _ (o : Option (RecordMap NodeRecord)) (table now : List PathRow) (reach : Reach) (plus : ℕ) (minus : List ℕ) (drifts : Drifts plus minus table now) where
  -- the path is not in the table
  pub breach-lost : (node path : ℕ) (damage : Damage) → IsKnown o reach node now path → row_at now path ≡ None → damage ≡ misplaced node path → IsBreach o table reach damage
  unfolding IsBreach
  breach-lost node path damage (inl there) none is = absurd (there none)
  breach-lost node path damage (inr needs) none is = inl (node, (path, (needs, drifts-none plus minus table now path drifts none, is)))

  -- the path of the parent is not
  pub breach-orphan : (node path : ℕ) (damage : Damage) → IsBase o reach node now path → (path ≡ 0 → ⊥) → row_at now path ≡ None → damage ≡ misplaced node path → IsBreach o table reach damage
  breach-orphan node path damage (inl top) not_top none is = absurd (not_top top)
  breach-orphan node path damage (inr known) not_top none is = breach-lost node path damage known none is

  -- the number of the path cannot be
  pub breach-low : (node number : ℕ) (row : PathRow) (damage : Damage) → NeedsPath o reach node → row_at now number ≡ Some row → (number ≤ row.parent) ⊎ (path_limit < number) → damage ≡ misplaced node number
      → IsBreach o table reach damage
  unfolding IsBreach Drifts
  breach-low node number row damage needs there low is = by (row_at table number) refl (subst (DriftsAt plus minus number (row_at table number)) there (drifts number)) low
    where
      by : (was : Option PathRow) → row_at table number ≡ was → DriftsAt plus minus number was (Some row) → (number ≤ row.parent) ⊎ (path_limit < number) → IsBreach o table reach damage
      by None was_is drift (inl low) = absurd (omega (arith, drift.0, low))
      by None was_is drift (inr high) = absurd (omega (arith, drift.1, high))
      by (Some was) was_is drift (inl low) = inr (inl (node, (number, (was, (needs, was_is, inl (omega (arith, drift.0, low)), is)))))
      by (Some was) was_is drift (inr high) = inr (inl (node, (number, (was, (needs, was_is, inr high, is)))))

  -- no more values can stand on the path
  pub breach-full : (node came path : ℕ) (row : PathRow) (damage : Damage) → HasBefore o reach node came → plus ≤ came → came + 1 ≤ 2 ^ 30 → row_at now path ≡ Some row → 2 ^ 32 ≤ row.count + 1 → damage ≡ misplaced node (2 ^ 32)
      → IsBreach o table reach damage
  unfolding IsBreach Drifts
  breach-full node came path row damage before most few there full is = by (row_at table path) refl (subst (DriftsAt plus minus path (row_at table path)) there (drifts path))
    where
      by : (was : Option PathRow) → row_at table path ≡ was → DriftsAt plus minus path was (Some row) → IsBreach o table reach damage
      by None was_is drift = absurd (omega (arith, drift.2, most, few, full))
      by (Some was) was_is drift = inr (inr (inr (node, (came, (path, (was, (before, was_is, omega (arith, drift.1, most, full), is)))))))

-- a value on a path on which none is left
module _ (o : Option (RecordMap NodeRecord)) (table now : List PathRow) (reach : Reach) (plus : ℕ) (visited : List NodeRecord) (drifts : Drifts plus (paths_left visited) table now) where
  pub breach-spent : (node path : ℕ) (own : NodeRecord) (row : PathRow) (damage : Damage) → IsRecord o node own → is_value own.kind ≡ true → own.path ≡ path → ComesTo o reach.node visited node → row_at now path ≡ Some row → row.count ≡ 0
      → damage ≡ misplaced node 0 → IsBreach o table reach damage
  unfolding IsBreach Drifts
  breach-spent node path own row damage known value path_is comes there none is =
      inr (inr (inl (
        visited,
        (
          node,
          (
            own,
            (
              comes,
              known,
              value,
              subst (λ p. standing_on (row_at table p) ≤ times p (paths_left visited)) (sym path_is) (by (row_at table path) (subst (DriftsAt plus (paths_left visited) path (row_at table path)) there (drifts path))),
              is,
            ),
          ),
        ),
      )))
    where
      by : (was : Option PathRow) → DriftsAt plus (paths_left visited) path was (Some row) → standing_on was ≤ times path (paths_left visited)
      by None drift = omega arith
      by (Some was) drift = omega (arith, drift.2, none)

-- The records of the paths of a state: none of them is broken, and the table of them.
use Rattle.std.proofs.Common.{◌≡◌, ℕ, zero, suc, ◌+◌, ◌-◌, ◌≤◌, ◌<◌, Bool, true, false, cond, List, [], ◌∷◌, ◌++◌, map, take, drop, length, Option, Some, None, refl, sym, ap, ◌∙◌, subst, arith, inl, inr, take-append-drop}
use Rattle.std.specs.Prelude.{slice_get, Result, Ok, Err, IfErr, IfSome, IsErrAnd, option_and_then}
use Rattle.std.specs.Option.{option_map}
use Rattle.std.specs.FinMap as fin
use Rattle.std.specs.List.{position_from}
use Rattle.std.proofs.lemmas.List.{append_assoc, append-nil, length-take}
use Rattle.std.proofs.lemmas.Option.{slice_get_within, slice_get-get_or}
use Rattle.sx_bytes.specs.declared.damage.Damage.{Damage}
use Rattle.sx_tree.specs.declared.record.PathRecord.{PathRecord}
use Rattle.sx_tree.specs.declared.record.Step.{Step}
use Rattle.sx_model.specs.Paths.{count_on, number_of, same_path}
use Rattle.sx_model.specs.Records.{PathRow, entry, path_row}
use Rattle.sx_model.specs.State.{State}
use Rattle.sx_view.specs.Records.{Explains, IsDamaged, RecordMap}
use Rattle.sx_view.proofs.Failing.{err-damaged, undamaged, wider-rules}
use Rattle.sx_view.specs.declared.fault.Fault.{Fault}
use Rattle.sx_view.specs.declared.fault.Fault.TheVariants.{Failed, Damaged, OutOfMemory}
use Rattle.sx_paths.specs.Listed.{AreListed, Extend, GoesOnFrom, IsBase, has_path, row_by}
use Rattle.sx_paths.specs.Load.{HasBrokenPath, IsBrokenPath, TellsFrom}
use Rattle.sx_paths.specs.OfState.{AreNoPaths, AreRows, ShowsPaths, path_at}
use Rattle.sx_paths.specs.Table.{row_of}
use Rattle.sx_paths.proofs.Listing.{GoesOnFrom-more, empty-unlisted, number-kept, number-none, number-some, same_path-same}

-- ---- places in a list of paths

-- the path at a place goes on from those before it
goes-on-at : (listed paths : List (List Step)) (k : ℕ) (path : List Step) → Extend listed paths → slice_get paths k ≡ Some path → GoesOnFrom (listed ++ take k paths) path
goes-on-at listed [] k path is at = absurd cc
goes-on-at listed (p ∷ ps) zero path is at =
    let same : p ≡ path = cc in
    subst (λ l. GoesOnFrom l path) (sym (append-nil listed)) (subst (GoesOnFrom listed) same is.1)
goes-on-at listed (p ∷ ps) (suc k) path is at =
    subst (λ l. GoesOnFrom l path) (append_assoc listed (p ∷ []) (take k ps)) (goes-on-at (listed ++ p ∷ []) ps k path is.2 at)

-- a path stands at its number
pub found-at : (path : List Step) (i k : ℕ) (listed : List (List Step)) → position_from (same_path path) i listed ≡ Some k
    → (i ≤ k) × (k < i + length listed) × (slice_get listed (k - i) ≡ Some path)
found-at path i k [] e = absurd cc
found-at path i k (p ∷ ps) e = by (same_path path p) refl e (found-at path (i + 1) k ps)
  where
    by : (b : Bool) → same_path path p ≡ b → cond b (Some i) (position_from (same_path path) (i + 1) ps) ≡ Some k
        → (position_from (same_path path) (i + 1) ps ≡ Some k → (i + 1 ≤ k) × (k < i + 1 + length ps) × (slice_get ps (k - (i + 1)) ≡ Some path))
        → (i ≤ k) × (k < i + suc (length ps)) × (slice_get (p ∷ ps) (k - i) ≡ Some path)
    by true same e f =
        let is : i ≡ k = cc in
        let here : k - i ≡ 0 = omega (arith, is) in
        (omega (arith, is), omega (arith, is), rw here (ap Some (sym (same_path-same path p same))))
    by false same e f =
        let at = f e in
        let later : k - i ≡ suc (k - (i + 1)) = omega (arith, at.0) in
        (omega (arith, at.0), omega (arith, at.1), rw later at.2)

pub listed-at : (listed : List (List Step)) (path : List Step) → has_path listed path ≡ true
    → (1 ≤ number_of listed path) × (number_of listed path ≤ length listed) × (path_at listed (number_of listed path) ≡ Some path)
listed-at listed path has =
    let some = number-some listed path has in
    let at = found-at path 1 (number_of listed path) listed some.0 in
    let place : number_of listed path ≡ suc (number_of listed path - 1) = omega (arith, at.0) in
    (at.0, omega (arith, at.1), rw place at.2)

-- the path without its last step comes before
pub parent-before : (listed : List (List Step)) (k : ℕ) (step : Step) (steps : List Step) → AreListed listed → slice_get listed k ≡ Some (step ∷ steps) → number_of listed steps ≤ k
parent-before listed k step [] all at = rw (number-none listed [] (empty-unlisted listed all)) (omega arith)
parent-before listed k step (s ∷ ss) all at =
    let has = goes-on-at [] listed k (step ∷ s ∷ ss) all at in
    let parts : take k listed ++ drop k listed ≡ listed = take-append-drop k listed in
    let same : number_of listed (s ∷ ss) ≡ number_of (take k listed) (s ∷ ss) =
    ap (λ l. number_of l (s ∷ ss)) (sym parts) ∙ number-kept (take k listed) (drop k listed) (s ∷ ss) has in
    let within = (listed-at (take k listed) (s ∷ ss) has).1 in
    omega (arith, same, within, length-take k listed)

-- ---- the entries of a state

-- the entry at a place
pub entry-at : (state : State) (k : ℕ) (path : List Step) → AreListed state.paths → slice_get state.paths k ≡ Some path
    → (entry state (suc k) ≡ Some (row_by (number_of state.paths) (λ p. count_on p state.trees) path)) × ((row_by (number_of state.paths) (λ p. count_on p state.trees) path).parent ≤ k)
entry-at state k [] all at = absurd (goes-on-at [] state.paths k [] all at)
entry-at state k (step ∷ steps) all at = (ap (option_and_then (path_row state)) at, parent-before state.paths k step steps all at)

-- what an entry tells of its path
pub record Entry (state : State) (p : ℕ) (row : PathRow) : Type 0 where
  pub steps : List Step
  pub path : path_at state.paths p ≡ Some (row.step ∷ steps)
  pub base : IsBase state.paths steps
  pub parent_is : row.parent ≡ number_of state.paths steps
  pub parent_zero : steps ≡ [] → row.parent ≡ 0
  pub before : row.parent < p
  pub within : p ≤ length state.paths

pub entry-is : (state : State) (p : ℕ) (row : PathRow) → AreListed state.paths → entry state p ≡ Some row → Entry state p row
entry-is state zero row all is = absurd cc
entry-is state (suc k) row all is = by (slice_get state.paths k) refl is
  where
    by : (at : Option (List Step)) → slice_get state.paths k ≡ at → option_and_then (path_row state) (slice_get state.paths k) ≡ Some row → Entry state (suc k) row
    by None e is = let none = ap (option_and_then (path_row state)) e in absurd (cc (none, is))
    by (Some []) e is = absurd (goes-on-at [] state.paths k [] all e)
    by (Some (step ∷ steps)) e is =
        let there = entry-at state k (step ∷ steps) all e in
        let same : row ≡ record { parent = number_of state.paths steps; step = step; count = count_on (step ∷ steps) state.trees } = cc (is, there.0) in
        let own = ap (λ (w : PathRow). w.step) same in
        let above = ap (λ (w : PathRow). w.parent) same in
        let parts = take-append-drop k state.paths in
        record {
          steps = steps;
          path = e ∙ ap (λ s. Some (s ∷ steps)) (sym own);
          base = subst (λ l. GoesOnFrom l (step ∷ steps)) parts (GoesOnFrom-more (take k state.paths) (drop k state.paths) (step ∷ steps) (goes-on-at [] state.paths k (step ∷ steps) all e));
          parent_is = above;
          parent_zero = λ none. above ∙ ap (number_of state.paths) none ∙ number-none state.paths [] (empty-unlisted state.paths all);
          before = omega (arith, above, there.1);
          within = omega (arith, slice_get_within state.paths k (step ∷ steps) e);
        }

none-broken : (records : RecordMap PathRecord) (state : State) (k : ℕ) (found : Option PathRecord) → AreListed state.paths → k < length state.paths
    → option_map row_of found ≡ entry state (suc k) → IfSome found (λ r. suc k ≤ r.parent) → ⊥
none-broken records state k found all within is broken = by (slice_get state.paths k) found refl is broken
  where
    by : (at : Option (List Step)) (found : Option PathRecord) → slice_get state.paths k ≡ at → option_map row_of found ≡ entry state (suc k) → IfSome found (λ r. suc k ≤ r.parent) → ⊥
    by None found e is broken = let some = slice_get-get_or state.paths k [] within in absurd cc
    by (Some path) None e is broken = let there = (entry-at state k path all e).0 in absurd (cc (is, there))
    by (Some path) (Some r) e is broken =
        let there = entry-at state k path all e in
        let same : row_of r ≡ row_by (number_of state.paths) (λ p. count_on p state.trees) path = cc (is, there.0) in
        let parent : r.parent ≡ (row_by (number_of state.paths) (λ p. count_on p state.trees) path).parent = ap (λ (w : PathRow). w.parent) same in
        omega (arith, parent, there.1, broken)

-- over the records of a state no path is broken
pub unbroken : (o : Option (RecordMap PathRecord)) (state : State) (path : ℕ) (damage : Damage) → ShowsPaths state o → 1 ≤ path → path ≤ length state.paths → IsBrokenPath o path damage → ⊥
unbroken None state path damage shows some within broken = shows.holds
unbroken (Some records) state zero damage shows some within broken = omega (arith, some)
unbroken (Some records) state (suc k) damage shows some within broken =
    none-broken records state k (fin.get records (suc k)) shows.listed (omega (arith, within)) (shows.holds (suc k)) broken.0

pub untold : (state : State) (o : Option (RecordMap PathRecord)) → ShowsPaths state o → o ≡ None → ⊥
untold state None shows is = shows.holds
untold state (Some records) shows is = cc

pub sound-fault : (o : Option (RecordMap PathRecord)) (below : Damage → Type 0) (rose : Type 0) (count : ℕ) (fault : Fault) → ((d : Damage) → below d → o ≡ None)
    → Explains below rose (HasBrokenPath o count) fault → IsDamaged fault → AreNoPaths o count
unfolding AreNoPaths
sound-fault o below rose count fault none why is = undamaged below (HasBrokenPath o count) rose (AreNoPaths o count) fault
    (λ d told state shows few. untold state o shows (none d told))
    (λ d broken state shows few. let within = broken.1.1 in unbroken o state broken.0 d shows broken.1.0 (omega (arith, within, few)) broken.1.2) why is

-- a fault of one path
pub sound-after : {T : Type 0} (r : Result T Fault) (o mid : Option (RecordMap PathRecord)) (below : Damage → Type 0) (rose : Type 0) (path count : ℕ) (fault : Fault) → IsErrAnd r (λ e. e ≡ fault)
    → mid ≡ o → ((d : Damage) → below d → mid ≡ None) → 1 ≤ path → path ≤ count → Explains below rose (IsBrokenPath mid path) fault → IfErr r (λ e. IsDamaged e → AreNoPaths o count)
sound-after r o mid below rose path count fault is same none some few why =
    err-damaged r (AreNoPaths o count) fault is
    (λ damaged. sound-fault o below rose count fault (λ d told. sym same ∙ none d told)
    (wider-rules below (λ d. IsBrokenPath mid path d) (HasBrokenPath o count) rose fault (λ d broken. (path, (some, few, subst (λ x. IsBrokenPath x path d) same broken))) why) damaged)

-- ---- the table

told-rows : (records : RecordMap PathRecord) (state : State) → AreListed state.paths → ((p : ℕ) → option_map row_of (fin.get records p) ≡ entry state p)
    → (front rest : List (List Step)) (rows : List PathRow) → state.paths ≡ front ++ rest → length rows ≡ length rest → TellsFrom records (length front + 1) rows
    → rows ≡ map (row_by (number_of state.paths) (λ p. count_on p state.trees)) rest
told-rows records state all holds front [] [] is len tells = refl
told-rows records state all holds front [] (row ∷ rows) is len tells = absurd (omega (arith, len))
told-rows records state all holds front (path ∷ rest) [] is len tells = absurd (omega (arith, len))
told-rows records state all holds front (path ∷ rest) (row ∷ rows) is len tells =
    let at : slice_get state.paths (length front) ≡ Some path = ap (λ l. slice_get l (length front)) is ∙ behind front in
    let there : option_map row_of (fin.get records (length front + 1)) ≡ Some (row_by (number_of state.paths) (λ p. count_on p state.trees) path) =
    rw (add-suc (length front)) (holds (suc (length front)) ∙ (entry-at state (length front) path all at).0) in
    let first : row ≡ row_by (number_of state.paths) (λ p. count_on p state.trees) path = cc (tells.0, there) in
    let next : length (front ++ path ∷ []) ≡ length front + 1 = longer front in
    λ i. first i ∷ told-rows records state all holds (front ++ path ∷ []) rest rows (is ∙ sym (append_assoc front (path ∷ []) rest)) (omega (arith, len))
    (subst (λ (n : ℕ). TellsFrom records (n + 1) rows) (sym next) tells.1) i
  where
    behind : (front : List (List Step)) → slice_get (front ++ path ∷ rest) (length front) ≡ Some path
    behind [] = refl
    behind (p ∷ ps) = behind ps

    add-suc : (n : ℕ) → n + 1 ≡ suc n
    add-suc n = omega arith

    longer : (front : List (List Step)) → length (front ++ path ∷ []) ≡ length front + 1
    longer [] = refl
    longer (p ∷ ps) = omega (arith, longer ps)

pub are-rows : (o : Option (RecordMap PathRecord)) (count : ℕ) (rows : List PathRow) → length rows ≡ count → IfSome o (λ told. TellsFrom told 1 rows) → AreRows o count rows
unfolding AreRows
are-rows None count rows len tells = λ state shows all. absurd shows.holds
are-rows (Some records) count rows len tells =
    λ state shows all. told-rows records state shows.listed shows.holds [] state.paths rows refl (len ∙ all) tells

-- The way from a path up to the document.
use Rattle.std.proofs.Common.{◌≡◌, ℕ, zero, suc, ◌+◌, ◌≤◌, ◌⊎◌, inl, inr, Bool, true, false, List, [], ◌∷◌, ◌++◌, length, Option, Some, None, refl, sym, ap, ◌∙◌, subst, arith}
use Rattle.std.specs.Prelude.{slice_get, is_some, option_and_then, Result, Ok, Err, IfErr, IfSome, IsErrAnd}
use Rattle.std.specs.Option.{option_map}
use Rattle.std.specs.FinMap as fin
use Rattle.std.proofs.lemmas.List.{append_assoc, append-nil}
use Rattle.sx_outside.specs.Faults.{Rose}
use Rattle.sx_bytes.specs.declared.damage.Damage.{Damage}
use Rattle.sx_tree.specs.declared.record.PathRecord.{PathRecord}
use Rattle.sx_tree.specs.declared.record.Step.{Step}
use Rattle.sx_model.specs.Paths.{number_of}
use Rattle.sx_model.specs.Records.{PathRow, entry, path_row}
use Rattle.sx_model.specs.State.{State}
use Rattle.sx_model.specs.WrittenPath.{path_text_of, step_text, steps_text}
use Rattle.sx_view.specs.Records.{Explains, ExplainsFault, IsDamaged, RecordMap}
use Rattle.sx_view.proofs.Failing.{err-damaged, got, undamaged, wider}
use Rattle.sx_view.specs.declared.fault.Fault.{Fault}
use Rattle.sx_view.specs.declared.fault.Fault.TheVariants.{Failed, Damaged, OutOfMemory}
use Rattle.sx_paths.specs.Listed.{IsBase}
use Rattle.sx_paths.specs.Load.{IsBrokenPath, broken_path}
use Rattle.sx_paths.specs.OfState.{AreNoPaths, ShowsPaths, path_at}
use Rattle.sx_paths.specs.Table.{row_of}
use Rattle.sx_paths.proofs.StateLemmas.{Entry, entry-at, entry-is, listed-at, unbroken, untold}
use Rattle.sx_select.specs.Climb.{Answers, Climbs, ClimbsFrom, HasBrokenAbove, IsPathText, IsWritten, ReadsOnce}

-- ---- one step more

climbs-push : (m : RecordMap PathRecord) (from at : ℕ) (steps : List Step) (row : PathRow) → Climbs m from steps at → option_map row_of (fin.get m at) ≡ Some row
    → Climbs m from (steps ++ row.step ∷ []) row.parent
climbs-push m from at [] row is there = (row, (subst (λ (k : ℕ). option_map row_of (fin.get m k) ≡ Some row) (sym is) there, refl, refl))
climbs-push m from at (step ∷ steps) row is there = (is.0, (is.1.0, is.1.1, climbs-push m is.0.parent at steps row is.1.2 there))

pub climbs-on : (o mid : Option (RecordMap PathRecord)) (from at : ℕ) (steps : List Step) (found : PathRecord) → mid ≡ o → ClimbsFrom o from steps at
    → IfSome mid (λ told. option_map row_of (fin.get told at) ≡ Some (row_of found)) → ClimbsFrom o from (steps ++ found.step ∷ []) found.parent
climbs-on o mid from at steps found same climbs there = by o climbs (subst (λ x. IfSome x (λ told. option_map row_of (fin.get told at) ≡ Some (row_of found))) same there)
  where
    by : (o : Option (RecordMap PathRecord)) → ClimbsFrom o from steps at → IfSome o (λ told. option_map row_of (fin.get told at) ≡ Some (row_of found))
        → ClimbsFrom o from (steps ++ found.step ∷ []) found.parent
    by None climbs there = tt
    by (Some m) climbs there = (climbs.0, climbs-push m from at steps (row_of found) climbs.1 there)

some-of : {A B : Type 0} (f : A → B) (o : Option A) (b : B) → option_map f o ≡ Some b → is_some o ≡ true
some-of f None b e = absurd cc
some-of f (Some a) b e = refl

pub climbs-first : (o : Option (RecordMap PathRecord)) (p : ℕ) (found : PathRecord) → IfSome o (λ told. option_map row_of (fin.get told p) ≡ Some (row_of found))
    → ClimbsFrom o p (found.step ∷ []) found.parent
climbs-first None p found there = tt
climbs-first (Some m) p found there = (some-of row_of (fin.get m p) (row_of found) there, climbs-push m p p [] (row_of found) refl there)

-- ---- faults

pub broken-above : (o mid : Option (RecordMap PathRecord)) (below later : Damage → Type 0) (a b c p at : ℕ) (steps : List Step) (fault : Fault) → mid ≡ o → ((d : Damage) → later d → below d)
    → a ≤ b → ClimbsFrom o p steps at → 1 ≤ at → Explains later (Rose b c) (IsBrokenPath mid at) fault → Explains below (Rose a c) (HasBrokenAbove o p) fault
broken-above o mid below later a b c p at steps fault same damages less climbs some why =
    wider below later (HasBrokenAbove o p) (IsBrokenPath mid at) a b c fault damages
    (λ d broken. (at, (steps, (climbs, some, subst (λ x. IsBrokenPath x at d) same broken)))) less why

-- ---- over the records of a state

module _ (m : RecordMap PathRecord) (state : State) (shows : ShowsPaths state (Some m)) where
  row-is : (p : ℕ) (row : PathRow) → option_map row_of (fin.get m p) ≡ Some row → Entry state p row
  row-is p row there = entry-is state p row shows.listed (sym (shows.holds p) ∙ there)

  -- the steps up to the document are those of the path
  climbed : (p : ℕ) (steps : List Step) → Climbs m p steps 0 → ((steps ≡ []) × (p ≡ 0)) ⊎ (path_at state.paths p ≡ Some steps)
  climbed p [] is = inl (refl, is)
  climbed p (step ∷ steps) is =
      let entry = row-is p is.0 is.1.0 in
      inr (by entry entry.steps refl (climbed is.0.parent steps is.1.2))
    where
      by : (e : Entry state p is.0) (ss : List Step) → e.steps ≡ ss → ((steps ≡ []) × (is.0.parent ≡ 0)) ⊎ (path_at state.paths is.0.parent ≡ Some steps)
          → path_at state.paths p ≡ Some (step ∷ steps)
      by e [] same (inl none) =
          let here = e.path in
          let own : is.0.step ≡ step = is.1.1 in
          cc
      by e (s ∷ ss) same (inl none) =
          let has = subst (IsBase state.paths) same e.base in
          let at = listed-at state.paths (s ∷ ss) has in
          let number : is.0.parent ≡ number_of state.paths (s ∷ ss) = e.parent_is ∙ ap (number_of state.paths) same in
          absurd (omega (arith, none.1, number, at.0))
      by e [] same (inr there) = absurd (nowhere (e.parent_zero same) there)
        where
          nowhere : is.0.parent ≡ 0 → path_at state.paths is.0.parent ≡ Some steps → ⊥
          nowhere none at = let none_there : path_at state.paths 0 ≡ Some steps = subst (λ (k : ℕ). path_at state.paths k ≡ Some steps) none at in cc
      by e (s ∷ ss) same (inr there) =
          let has = subst (IsBase state.paths) same e.base in
          let at = (listed-at state.paths (s ∷ ss) has).2 in
          let number : is.0.parent ≡ number_of state.paths (s ∷ ss) = e.parent_is ∙ ap (number_of state.paths) same in
          let there_too : path_at state.paths (number_of state.paths (s ∷ ss)) ≡ Some steps = subst (λ (k : ℕ). path_at state.paths k ≡ Some steps) number there in
          let here = e.path in
          let own : is.0.step ≡ step = is.1.1 in
          let rest : Some (s ∷ ss) ≡ Some steps = sym at ∙ there_too in
          cc

  -- the way up leads to paths that are there
  climb-within : (p : ℕ) (steps : List Step) (at : ℕ) → p ≤ length state.paths → Climbs m p steps at → at ≤ length state.paths
  climb-within p [] at within is = omega (arith, is)
  climb-within p (step ∷ steps) at within is =
      let before = (row-is p is.0 is.1.0).before in
      climb-within is.0.parent steps at (omega (arith, before)) is.1.2

  there-within : (p : ℕ) → is_some (fin.get m p) ≡ true → p ≤ length state.paths
  there-within p is = by (fin.get m p) refl is
    where
      by : (found : Option PathRecord) → fin.get m p ≡ found → is_some found ≡ true → p ≤ length state.paths
      by None e some = absurd cc
      by (Some r) e some = (row-is p (row_of r) (ap (option_map row_of) e)).within

  answers : (p : ℕ) (before after : List ℕ) (there : Bool) → IsWritten m p before after there → Answers state.paths p before after there
  answers p before after true is = elim (climbed p is.0 is.1.1) [
    | inl none ↦ absurd (let some = is.1.0 in let zero_is = none.1 in omega (arith, some, zero_is))
    | inr at ↦ (is.0, (at, is.1.2))
  ]
  answers p before after false is = (
    elim is.0 [
      | inl none ↦ ap (path_at state.paths) none
      | inr none ↦ absent p (sym (shows.holds p) ∙ ap (option_map row_of) none)
    ],
    is.1,
  )
    where
      absent : (p : ℕ) → entry state p ≡ None → path_at state.paths p ≡ None
      absent zero e = refl
      absent (suc k) e = by (slice_get state.paths k) refl e
        where
          by : (at : Option (List Step)) → slice_get state.paths k ≡ at → option_and_then (path_row state) (slice_get state.paths k) ≡ None → slice_get state.paths k ≡ None
          by None e none = e
          by (Some path) e none = let there = (entry-at state k path shows.listed e).0 in absurd (cc (there, none))

pub written-text : (o : Option (RecordMap PathRecord)) (p : ℕ) (before after : List ℕ) (there : Bool) → IfSome o (λ m. IsWritten m p before after there) → IsPathText o p before after there
unfolding IsPathText
written-text None p before after there is = λ state shows. absurd shows.holds
written-text (Some m) p before after there is = λ state shows. answers m state shows p before after there is

broken-none : (o : Option (RecordMap PathRecord)) (p : ℕ) (damage : Damage) → HasBrokenAbove o p damage → AreNoPaths o 0
unfolding AreNoPaths
broken-none None p damage broken = λ state shows few. absurd shows.holds
broken-none (Some m) p damage broken =
    λ state shows few.
    let within = climb-within m state shows p broken.1.0 broken.0 (there-within m state shows p broken.1.1.0.0) broken.1.1.0.1 in
    unbroken (Some m) state broken.0 damage shows broken.1.1.1 within broken.1.1.2

untold-none : (o : Option (RecordMap PathRecord)) → o ≡ None → AreNoPaths o 0
unfolding AreNoPaths
untold-none o none = λ state shows few. untold state o shows none

pub none-above : (o : Option (RecordMap PathRecord)) (below : Damage → Type 0) (rose : Type 0) (p : ℕ) (fault : Fault) → ((d : Damage) → below d → o ≡ None)
    → Explains below rose (HasBrokenAbove o p) fault → IsDamaged fault → AreNoPaths o 0
none-above o below rose p fault none why is =
    undamaged below (HasBrokenAbove o p) rose (AreNoPaths o 0) fault (λ d told. untold-none o (none d told)) (λ d broken. broken-none o p d broken) why is

-- ---- what the call answers

pub text-of-none : (o : Option (RecordMap PathRecord)) (p : ℕ) (before : List ℕ) → IfSome o (λ m. (p ≡ 0) ⊎ (fin.get m p ≡ None)) → IsPathText o p before before false
text-of-none None p before none = written-text None p before before false tt
text-of-none (Some m) p before none = written-text (Some m) p before before false (none, refl)

pub text-of-zero : (o : Option (RecordMap PathRecord)) (p : ℕ) (before : List ℕ) → p ≡ 0 → IsPathText o p before before false
text-of-zero None p before is = text-of-none None p before tt
text-of-zero (Some m) p before is = text-of-none (Some m) p before (inl is)

pub text-of-absent : (o : Option (RecordMap PathRecord)) (p : ℕ) (before : List ℕ) (found : Option PathRecord) → found ≡ None → IfSome o (λ m. found ≡ fin.get m p)
    → IsPathText o p before before false
text-of-absent None p before found none is = text-of-none None p before tt
text-of-absent (Some m) p before found none is = text-of-none (Some m) p before (inr (sym is ∙ none))

pub text-of-steps : (o mid : Option (RecordMap PathRecord)) (p : ℕ) (before after : List ℕ) (path : List Step) → mid ≡ o → 1 ≤ p → IfSome mid (λ m. Climbs m p path 0)
    → after ≡ before ++ path_text_of path → IsPathText o p before after true
text-of-steps o mid p before after path same some climbs is = by o (subst (λ x. IfSome x (λ m. Climbs m p path 0)) same climbs)
  where
    by : (o : Option (RecordMap PathRecord)) → IfSome o (λ m. Climbs m p path 0) → IsPathText o p before after true
    by None climbs = written-text None p before after true tt
    by (Some m) climbs = written-text (Some m) p before after true (path, (some, climbs, is))

pub broken-here : (o : Option (RecordMap PathRecord)) (p : ℕ) (found : PathRecord) (answer : Option PathRecord) (damage : Damage) → 1 ≤ p → answer ≡ Some found
    → IfSome o (λ m. answer ≡ fin.get m p) → p ≤ found.parent → damage ≡ broken_path p → HasBrokenAbove o p damage
broken-here None p found answer damage some is told late named = (p, ([], (tt, some, (tt, named))))
broken-here (Some m) p found answer damage some is told late named =
    let there : fin.get m p ≡ Some found = sym told ∙ is in
    (p, ([], ((ap is_some there, refl), some, (subst (λ f. IfSome f (λ r. p ≤ r.parent)) (sym there) late, named))))

pub get-sound : {T : Type 0} (r : Result T Fault) (o : Option (RecordMap PathRecord)) (below : Damage → Type 0) (rose : Type 0) (fault : Fault) → IsErrAnd r (λ e. e ≡ fault)
    → ((d : Damage) → below d → o ≡ None) → ExplainsFault below rose fault → IfErr r (λ e. IsDamaged e → AreNoPaths o 0)
get-sound r o below rose fault is none why =
    err-damaged r (AreNoPaths o 0) fault is (none-above o below rose 0 fault none (got below (HasBrokenAbove o 0) rose fault why))

pub steps-sound : {T : Type 0} (r : Result T Fault) (o mid : Option (RecordMap PathRecord)) (below : Damage → Type 0) (rose : Type 0) (p : ℕ) (fault : Fault) → IsErrAnd r (λ e. e ≡ fault) → mid ≡ o
    → ((d : Damage) → below d → mid ≡ None) → Explains below rose (HasBrokenAbove mid p) fault → IfErr r (λ e. IsDamaged e → AreNoPaths o 0)
steps-sound r o mid below rose p fault is same none why =
    err-damaged r (AreNoPaths o 0) fault is (λ damaged. subst (λ x. AreNoPaths x 0) same (none-above mid below rose p fault none why damaged))

-- ---- how often records were read

pub once-none : (o : Option (RecordMap PathRecord)) (p : ℕ) (before : List ℕ) (old new : ℕ) → IsPathText o p before before false → ReadsOnce o p old new
unfolding IsPathText ReadsOnce
once-none o p before old new text = λ state shows path is. let none = (text state shows).0 in absurd (cc (none, is))

pub once-steps : (o mid : Option (RecordMap PathRecord)) (p : ℕ) (steps : List Step) (old between new : ℕ) → mid ≡ o → 1 ≤ p → IfSome mid (λ m. Climbs m p steps 0)
    → between ≤ old + 1 → new + 1 ≤ between + length steps → ReadsOnce o p old new
unfolding ReadsOnce
once-steps o mid p steps old between new same some climbs first rest =
    λ state shows path is. by o state shows (subst (λ x. IfSome x (λ m. Climbs m p steps 0)) same climbs) path is
  where
    by : (o : Option (RecordMap PathRecord)) (state : State) → ShowsPaths state o → IfSome o (λ m. Climbs m p steps 0) → (path : List Step) → path_at state.paths p ≡ Some path
        → new ≤ old + length path
    by None state shows climbs path is = absurd shows.holds
    by (Some m) state shows climbs path is = elim (climbed m state shows p steps climbs) [
      | inl none ↦ absurd (let zero_is = none.1 in omega (arith, some, zero_is))
      | inr at ↦ let same_path_is : path ≡ steps = cc (at, is) in let long = ap (λ (l : List Step). length l) same_path_is in omega (arith, long, first, rest)
    ]

-- ---- the steps, as they are written

steps_text-push : (path : List Step) (step : Step) → steps_text (path ++ step ∷ []) ≡ step_text step ++ steps_text path
steps_text-push [] step = sym (append-nil (step_text step))
steps_text-push (s ∷ path) step = ap (λ l. l ++ step_text s) (steps_text-push path step) ∙ append_assoc (step_text step) (steps_text path) (step_text s)

pub written-on : (all text new : List ℕ) (rest left : List Step) (step : Step) → all ≡ text ++ steps_text rest → rest ≡ left ++ step ∷ [] → new ≡ text ++ step_text step
    → all ≡ new ++ steps_text left
written-on all text new rest left step all_is rest_is new_is =
    all_is ∙ ap (λ r. text ++ steps_text r) rest_is ∙ ap (λ l. text ++ l) (steps_text-push left step) ∙ sym (append_assoc text (step_text step) (steps_text left))
    ∙ ap (λ l. l ++ steps_text left) (sym new_is)

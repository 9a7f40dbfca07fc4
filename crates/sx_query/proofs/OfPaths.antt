-- What is answered of paths.
use Rattle.std.proofs.Common.{◌≡◌, ◌∙◌, ◌≤◌, ◌<◌, ℕ, zero, suc, List, [], ◌∷◌, length, Option, None, Some, refl, sym, ap, subst, arith, inl, inr}
use Rattle.std.specs.Prelude.{◌⊎◌, Bool, true, false, Result, Ok, Err, IfErr, IfSome, IsErrAnd, option_and_then, slice_get}
use Rattle.std.specs.Option.{option_map}
use Rattle.std.specs.FinMap as fin
use Rattle.sx_outside.specs.Faults.{Rose}
use Rattle.sx_bytes.specs.declared.damage.Damage.{Damage}
use Rattle.sx_tree.specs.declared.query.Answer.{Answer}
use Rattle.sx_tree.specs.declared.query.Answer.TheVariants as answers
use Rattle.sx_tree.specs.declared.query.Query.{Query}
use Rattle.sx_tree.specs.declared.query.Query.TheVariants as queries
use Rattle.sx_tree.specs.declared.record.NodeRecord.{NodeRecord}
use Rattle.sx_tree.specs.declared.record.PathRecord.{PathRecord}
use Rattle.sx_tree.specs.declared.record.Step.{Step}
use Rattle.sx_view.specs.QueryFault.{query_fault}
use Rattle.sx_view.specs.Records.{Explains, IsDamaged, RecordMap}
use Rattle.sx_view.proofs.Failing.{undamaged}
use Rattle.sx_view.specs.declared.fault.Fault.{Fault}
use Rattle.sx_view.specs.declared.fault.Fault.TheVariants.{Failed, Damaged, OutOfMemory}
use Rattle.sx_view.specs.declared.fault.QueryFault.{QueryFault}
use Rattle.sx_view.specs.declared.fault.QueryFault.TheVariants.{NoPath}
use Rattle.sx_model.specs.Records.{PathRow, entry, path_row}
use Rattle.sx_model.specs.State.{State}
use Rattle.sx_model.specs.WrittenPath.{path_text_of}
use Rattle.sx_run.specs.Answers.{path_said, text_of, text_of_path}
use Rattle.sx_run.specs.declared.reply.Said.TheVariants as said
use Rattle.sx_paths.specs.Load.{IsBrokenPath}
use Rattle.sx_paths.specs.OfState.{AreNoPaths, ShowsPaths, path_at}
use Rattle.sx_paths.specs.Table.{row_of}
use Rattle.sx_paths.proofs.StateLemmas.{unbroken, untold}
use Rattle.sx_select.specs.Climb.{IsPathText}
use Rattle.sx_query.specs.Gives.{Gives, GivesEach, GivesOfPaths, names_of}
use Rattle.sx_query.specs.declared.about.About.{About}

tells_path : (o : Option (RecordMap PathRecord)) (state : State) (p : ℕ) (row : PathRow) → ShowsPaths state o → IfSome o (λ told. option_map row_of (fin.get told p) ≡ Some row)
    → entry state p ≡ Some row
tells_path None state p row shows there = absurd shows.holds
tells_path (Some m) state p row shows there = sym (shows.holds p) ∙ there

text_is : (state : State) (p : ℕ) (path : List Step) → path_at state.paths p ≡ Some path → text_of_path state p ≡ path_text_of path
text_is state zero path is = absurd cc
text_is state (suc place) path is = ap text_of is

pub gives_path : (o : Option (RecordMap PathRecord)) (p count : ℕ) (found : PathRecord) (text : List ℕ) → IfSome o (λ told. option_map row_of (fin.get told p) ≡ Some (row_of found))
    → IsPathText o p [] text true → GivesOfPaths o count p (Ok (answers.Path found.count text))
unfolding GivesOfPaths IsPathText
gives_path o p count found text there is = λ names state shows all.
    let at = is state shows in
    let same : text ≡ text_of_path state p = at.1.1 ∙ sym (text_is state p at.0 at.1.0) in
    ap (λ t. said.Answer (answers.Path found.count t)) same
    ∙ ap (λ row. path_said p row (text_of_path state p)) (sym (tells_path o state p (row_of found) shows there))

none_at : {A : Type 0} (xs : List A) (k : ℕ) → length xs ≤ k → slice_get xs k ≡ None
none_at [] k few = refl
none_at (x ∷ xs) zero few = absurd (omega (arith, few))
none_at (x ∷ xs) (suc k) few = none_at xs k (omega (arith, few))

no_entry : (state : State) (p : ℕ) → (p ≡ 0) ⊎ (length state.paths < p) → entry state p ≡ None
no_entry state p (inl none) = ap (entry state) none
no_entry state zero (inr above) = refl
no_entry state (suc place) (inr above) = ap (option_and_then (path_row state)) (none_at state.paths place (omega (arith, above)))

pub gives_no_path : (o : Option (RecordMap PathRecord)) (p count : ℕ) → (p ≡ 0) ⊎ (count < p) → GivesOfPaths o count p (Err (NoPath p))
unfolding GivesOfPaths
gives_no_path o p count none = λ names state shows all.
    ap (λ row. path_said p row (text_of_path state p)) (sym (no_entry state p (subst (λ (n : ℕ). (p ≡ 0) ⊎ (n < p)) all none)))

-- ---- faults

fault_gives : (o : Option (RecordMap PathRecord)) (count p : ℕ) (fault : Fault) → p ≤ count → (IsDamaged fault → AreNoPaths o p) → GivesOfPaths o count p (Err (query_fault fault))
unfolding GivesOfPaths AreNoPaths
fault_gives o count p Failed few sound = λ names state shows all. tt
fault_gives o count p (Damaged damage) few sound = λ names state shows all. sound tt state shows (omega (arith, all, few))
fault_gives o count p OutOfMemory few sound = λ names state shows all. tt

pub gives_path_fault : (r : Result Answer QueryFault) (o mid : Option (RecordMap PathRecord)) (count p : ℕ) (fault : Fault) → mid ≡ o
    → IsErrAnd r (λ e. e ≡ query_fault fault) → p ≤ count → (IsDamaged fault → AreNoPaths mid p) → GivesOfPaths o count p r
gives_path_fault (Ok x) o mid count p fault same is few sound = absurd is
gives_path_fault (Err e) o mid count p fault same is few sound =
    subst (λ f. GivesOfPaths o count p (Err f)) (sym is) (fault_gives o count p fault few (λ damage. subst (λ x. AreNoPaths x p) same (sound damage)))

-- one path that is broken
pub broken_sound : (o : Option (RecordMap PathRecord)) (below : Damage → Type 0) (rose : Type 0) (p : ℕ) (fault : Fault) → 1 ≤ p → ((d : Damage) → below d → o ≡ None)
    → Explains below rose (IsBrokenPath o p) fault → IsDamaged fault → AreNoPaths o p
unfolding AreNoPaths
broken_sound o below rose p fault some none why is = undamaged below (IsBrokenPath o p) rose (AreNoPaths o p) fault
    (λ d told state shows few. untold state o shows (none d told)) (λ d broken state shows few. unbroken o state p d shows some few broken) why is

-- a way up that is broken
pub above_sound : {A : Type 0} (r : Result A Fault) (o : Option (RecordMap PathRecord)) (p : ℕ) (fault : Fault) → IsErrAnd r (λ e. e ≡ fault) → (IsDamaged fault → AreNoPaths o 0)
    → IfErr r (λ e. IsDamaged e → AreNoPaths o p)
unfolding AreNoPaths
above_sound (Ok x) o p fault is sound = absurd is
above_sound (Err e) o p fault is sound = λ damage state shows few. sound (subst IsDamaged is damage) state shows (omega arith)

-- a path that is not there
pub absent_sound : (o : Option (RecordMap PathRecord)) (p : ℕ) (before text : List ℕ) (there : Bool) → there ≡ false → 1 ≤ p → IsPathText o p before text there → AreNoPaths o p
unfolding AreNoPaths IsPathText
absent_sound o p before text true is some absent = absurd cc
absent_sound o p before text false is some absent = λ state shows few. by state.paths p some few (absent state shows).0
  where
    not_there : {A : Type 0} (xs : List A) (k : ℕ) → k < length xs → slice_get xs k ≡ None → ⊥
    not_there [] k less none = omega (arith, less)
    not_there (x ∷ xs) zero less none = cc
    not_there (x ∷ xs) (suc k) less none = not_there xs k (omega (arith, less)) none

    by : (listed : List (List Step)) (p : ℕ) → 1 ≤ p → p ≤ length listed → path_at listed p ≡ None → ⊥
    by listed zero some few none = omega (arith, some)
    by listed (suc place) some few none = not_there listed place (omega (arith, few)) none

-- ---- over the records of nodes and paths

pub over_paths : (nodes : Option (RecordMap NodeRecord)) (paths : Option (RecordMap PathRecord)) (about : About) (query : Query) (p : ℕ) (r : Result Answer QueryFault)
    → query ≡ queries.Path p → GivesOfPaths paths about.paths p r → GivesEach nodes paths about query r
unfolding GivesOfPaths GivesEach
over_paths nodes paths about query p r is gives = λ state are.
    subst (λ q. Gives (names_of about) state q r) (sym is) (gives (names_of about) state are.shows_paths are.paths_are)

pub over_none : (nodes : Option (RecordMap NodeRecord)) (paths : Option (RecordMap PathRecord)) (about : About) (query : Query) → query ≡ queries.Paths
    → GivesEach nodes paths about query (Ok (answers.Total about.paths))
unfolding GivesEach
over_none nodes paths about query is = λ state are.
    subst (λ q. Gives (names_of about) state q (Ok (answers.Total about.paths))) (sym is) (ap (λ (n : ℕ). said.Answer (answers.Total n)) are.paths_are)

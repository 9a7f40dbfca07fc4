-- Trees that come to stand on other paths, one node after the other.
use Rattle.std.proofs.Common.{◌≡◌, ℕ, suc, ◌+◌, ◌-◌, ◌≤◌, true, false, cond, List, [], ◌∷◌, ◌++◌, length, Option, Some, None, refl, sym, ap, subst, ◌∙◌, arith, append_assoc, append-nil}
use Rattle.std.specs.Prelude.{Result, Ok, Err, IfErr, IfSome, IsErrAnd, IsTrue, map, option_map}
use Rattle.std.specs.Option.{ForSome, option_or, option_to_list}
use Rattle.std.specs.FinMap as fin
use Rattle.std.proofs.lemmas.List.{length-append, reverse-append}
use Rattle.std.proofs.lemmas.List.Sums.{count_by-le-length}
use Rattle.sx_tree.specs.declared.record.Kind.{Kind}
use Rattle.sx_tree.specs.declared.record.Kind.TheVariants.{Document, Object, Array, Key, Str, Number, Bool as Truth, Null}
use Rattle.sx_tree.specs.declared.record.NodeRecord.{NodeRecord}
use Rattle.sx_tree.specs.declared.record.Step.{Step}
use Rattle.sx_tree.specs.declared.record.Step.TheVariants.{Top}
use Rattle.sx_view.specs.declared.fault.Fault.{Fault}
use Rattle.sx_view.specs.declared.fault.Fault.TheVariants as faults
use Rattle.sx_edit.specs.Damage.{IsDamaged}
use Rattle.sx_edit.specs.Links.{LeadsTo, first_tops, with_top}
use Rattle.sx_edit.specs.Seen.{entries_of, entry_of}
use Rattle.sx_edit.specs.declared.trees.Seen.{Seen}
use Rattle.sx_edit.specs.EditFault.{edit_fault}
use Rattle.sx_edit.proofs.Results.{err_again}
use Rattle.sx_view.specs.Records.{RecordMap}
use Rattle.sx_view.specs.Rows.{row_of}
use Rattle.sx_model.specs.Paths.{path_below, path_of, paths_below, same_path, with_paths}
use Rattle.sx_model.specs.Records.{Around, NodeRow, PathRow, around_children, first_of, row, rows}
use Rattle.sx_model.specs.Tree.{Node, Forest, no_trees, tree_then, is_value, may_stand_below, tops, FitBelow, HasChildren, size}
use Rattle.sx_model.proofs.Holes.{or_none}
use Rattle.sx_edit.specs.declared.fault.EditFault.{EditFault}
use Rattle.sx_edit.specs.declared.fault.EditFault.TheVariants.{Failed, Damaged, OutOfMemory}
use Rattle.sx_edit.specs.declared.trees.Move.{Move}
use Rattle.sx_edit.specs.Pathways.{CannotCountIn, IsCountedIn, IsCountedOut, IsOnto, IsPathAt, Kept, Lists, Numbers, Stops, StopsOnto, kept, more_on, own_of, own_path, paths_under}
use Rattle.sx_edit.specs.Repath.{Agree, AllLead, BeginAll, Branch, CannotExchange, Goal, IsExchanged, IsRepathed, IsUnder, ShowsBranches, StopsRepathing, StopsUnder, branch_sizes, first_goals, goal_of, goals_of, new_paths, new_rows, old_paths, old_rows, with_goal}
use Rattle.sx_edit.specs.Told.{IsWalked, Shows, numbers_of}
use Rattle.sx_edit.proofs.Climbing.{map-append, some_is}
use Rattle.sx_edit.proofs.Pathing.{lists-as, more-append, more-swap, own-numbers, path-with, start-at, with-one, with-twice}
use Rattle.sx_edit.proofs.Showing.{shows-get}
use Rattle.sx_edit.proofs.Stopping.{stops-among, stops-same}
use Rattle.sx_edit.proofs.Swapping.{no_document}
use Rattle.sx_edit.proofs.TreePaths.{own-few, paths-few}

-- ---- the links

pub goals-pop : (old new : List Move) (popped : Option Move) → old ≡ new ++ option_to_list popped → IfSome popped (λ at. goals_of old ≡ goal_of at.over.kind at.over.path at.to ∷ goals_of new)
goals-pop old new None is = tt
goals-pop old new (Some at) is = ap goals_of is ∙ ap (map (λ (m : Move). goal_of m.over.kind m.over.path m.to)) (reverse-append new (at ∷ []))

-- ---- the path of one node

module _ (parent : ℕ) (label : List ℕ) where
  pub under-step : (kind : Kind) (step : Step) (number : ℕ) (old new : List PathRow) → ((steps : List Step) → path_below kind steps label ≡ step ∷ steps) → IsOnto parent step number old new → IsUnder kind parent label number old new
  unfolding IsOnto IsUnder
  under-step kind step number old new is onto listed count steps lists at =
      subst (λ p. Lists new (with_paths listed (p ∷ [])) count × IsPathAt (with_paths listed (p ∷ [])) p number) (sym (is steps)) (onto listed count steps lists (start-at listed steps parent at))

  pub under-top : (number : ℕ) (old new : List PathRow) → IsOnto 0 Top number old new → IsUnder Document parent label number old new
  unfolding IsOnto IsUnder
  under-top number old new onto listed count steps lists at = onto listed count [] lists (record { base = tt; is = sym (own-numbers old listed count lists).top_is })

  pub under-same : (kind : Kind) (old : List PathRow) → ((steps : List Step) → path_below kind steps label ≡ steps) → IsUnder kind parent label parent old old
  unfolding IsUnder
  under-same kind old is listed count steps lists at =
      subst (λ p. Lists old (with_paths listed (p ∷ [])) count × IsPathAt (with_paths listed (p ∷ [])) p parent) (sym (is steps))
      (subst (λ l. Lists old l count) (sym (with-one listed steps at.there)) lists, path-with listed (steps ∷ []) steps parent at)

  pub stops-step : (kind : Kind) (step : Step) (had : ℕ) (old : List PathRow) (e : EditFault) → ((steps : List Step) → path_below kind steps label ≡ step ∷ steps) → StopsOnto parent step had old e → StopsUnder kind parent label had old e
  unfolding StopsOnto StopsUnder
  stops-step kind step had old e is stops listed count steps lists at = subst (λ p. Stops had listed (p ∷ []) e) (sym (is steps)) (stops listed count steps lists (start-at listed steps parent at))

  pub stops-top : (had : ℕ) (old : List PathRow) (e : EditFault) → StopsOnto 0 Top had old e → StopsUnder Document parent label had old e
  unfolding StopsOnto StopsUnder
  stops-top had old e stops listed count steps lists at = stops listed count [] lists (record { base = tt; is = sym (own-numbers old listed count lists).top_is })

  pub memory-stops_under : {A : Type 0} (kind : Kind) (had : ℕ) (old : List PathRow) (r : Result A EditFault) → IsErrAnd r (λ e. e ≡ OutOfMemory) → IfErr r (StopsUnder kind parent label had old)
  unfolding StopsUnder
  memory-stops_under kind had old (Ok x) is = absurd is
  memory-stops_under kind had old (Err e) is = λ listed count steps lists at. subst (Stops had listed (path_below kind steps label ∷ [])) (sym is) tt

module _ (kind : Kind) (was is : ℕ) (old : List PathRow) where
  own-value : (steps : List Step) → is_value kind ≡ true → own_of kind steps ≡ steps ∷ []
  own-value steps value = ap (λ b. cond b (steps ∷ []) []) value

  pub exchanged : (mid new : List PathRow) → is_value kind ≡ true → IsCountedOut was old (Some mid) → IsCountedIn is mid new → IsExchanged kind was is old new
  unfolding IsCountedOut IsCountedIn IsExchanged
  exchanged mid new value out counted listed count before after at_before at_after lists =
      subst (λ ps. Lists new listed (more_on ps count)) (sym (own-value after value))
      (counted listed count after (out listed count before (subst (λ ps. Lists old listed (more_on ps count)) (own-value before value) lists) (at_before value)) at_after)

  pub unexchanged : is_value kind ≡ false → IsExchanged kind was is old old
  unfolding IsExchanged
  unexchanged other listed count before after at_before at_after lists =
      let own : (steps : List Step) → own_of kind steps ≡ [] = λ steps. ap (λ b. cond b (steps ∷ []) []) other in
      subst (λ ps. Lists old listed (more_on ps count)) (own before ∙ sym (own after)) lists

  pub cannot-out : is_value kind ≡ true → IsCountedOut was old None → CannotExchange kind was is old
  unfolding IsCountedOut CannotExchange
  cannot-out value out listed count before after at_before at_after lists room = out listed count before (subst (λ ps. Lists old listed (more_on ps count)) (own-value before value) lists) (at_before value)

  pub cannot-in : (mid : List PathRow) → is_value kind ≡ true → IsCountedOut was old (Some mid) → CannotCountIn is mid → CannotExchange kind was is old
  unfolding IsCountedOut CannotCountIn CannotExchange
  cannot-in mid value out cannot listed count before after at_before at_after lists room =
      cannot listed count after (out listed count before (subst (λ ps. Lists old listed (more_on ps count)) (own-value before value) lists) (at_before value)) at_after room

-- below all other kinds the path is the same
pub under-other : (kind : Kind) (steps : List Step) (label : List ℕ) → (kind ≡ Document → ⊥) → (kind ≡ Object → ⊥) → (kind ≡ Array → ⊥) → path_below kind steps label ≡ steps
under-other Document steps label document object array = absurd (document refl)
under-other Object steps label document object array = absurd (object refl)
under-other Array steps label document object array = absurd (array refl)
under-other Key steps label document object array = refl
under-other Str steps label document object array = refl
under-other Number steps label document object array = refl
under-other Truth steps label document object array = refl
under-other Null steps label document object array = refl

-- ---- branches

abbrev pub with_branch : Around → Forest → List Step → List Branch → List Branch
with_branch around no_trees steps branches = branches
with_branch around (tree_then n below rest) steps branches = record { around = around; trees = tree_then n below rest; steps = steps } ∷ branches

-- what is known of the trees in a branch with its child
pub record IsReady (listed : List (List Step)) (around : Around) (trees : Forest) (steps : List Step) (kind : Kind) (path : ℕ) : Type 0 where
  pub last : around.right ≡ None
  pub kind_is : option_map (λ n. n.kind) around.above ≡ Some kind
  pub at : IsPathAt listed steps path
  pub fit : FitBelow (Some kind) trees

pub begin-branch : (listed : List (List Step)) (around : Around) (trees : Forest) (steps : List Step) (branches : List Branch) (kind : Kind) (path : ℕ) (goals : List Goal) → IsReady listed around trees steps kind path
    → BeginAll listed branches goals → BeginAll listed (with_branch around trees steps branches) (with_goal kind path (first_of trees) goals)
begin-branch listed around no_trees steps branches kind path goals ready others = others
begin-branch listed around (tree_then n below rest) steps branches kind path goals ready others = (record { first = refl; last = ready.last; kind = ready.kind_is; path = ready.at; fit = ready.fit }, others)

pub sizes-branch : (around : Around) (trees : Forest) (steps : List Step) (branches : List Branch) → branch_sizes (with_branch around trees steps branches) ≡ size trees + branch_sizes branches
sizes-branch around no_trees steps branches = omega arith
sizes-branch around (tree_then n below rest) steps branches = refl

pub old-paths : (around : Around) (trees : Forest) (steps : List Step) (branches : List Branch) → old_paths (with_branch around trees steps branches) ≡ paths_under around trees ++ old_paths branches
old-paths around no_trees steps branches = refl
old-paths around (tree_then n below rest) steps branches = refl

pub new-paths : (around : Around) (trees : Forest) (steps : List Step) (branches : List Branch) → new_paths (with_branch around trees steps branches) ≡ paths_under (record around { path = steps }) trees ++ new_paths branches
new-paths around no_trees steps branches = refl
new-paths around (tree_then n below rest) steps branches = refl

module _ (local : Kind → List ℕ → ℕ) (number : List Step → ℕ) where
  pub old-rows : (around : Around) (trees : Forest) (steps : List Step) (branches : List Branch) → old_rows local number (with_branch around trees steps branches) ≡ rows local number around trees ++ old_rows local number branches
  old-rows around no_trees steps branches = refl
  old-rows around (tree_then n below rest) steps branches = refl

  pub new-rows : (around : Around) (trees : Forest) (steps : List Step) (branches : List Branch)
      → new_rows local number (with_branch around trees steps branches) ≡ rows local number (record around { path = steps }) trees ++ new_rows local number branches
  new-rows around no_trees steps branches = refl
  new-rows around (tree_then n below rest) steps branches = refl

begin-later : (listed more : List (List Step)) (branches : List Branch) (goals : List Goal) → BeginAll listed branches goals → BeginAll (with_paths listed more) branches goals
begin-later listed more [] [] begin = tt
begin-later listed more [] (goal ∷ goals) begin = absurd begin
begin-later listed more (branch ∷ branches) [] begin = absurd begin
begin-later listed more (branch ∷ branches) (goal ∷ goals) begin =
    (record { first = begin.0.first; last = begin.0.last; kind = begin.0.kind; path = path-with listed more branch.steps goal.path begin.0.path; fit = begin.0.fit }, begin-later listed more branches goals begin.1)

agree-later : (number : List Step → ℕ) (listed more paths : List (List Step)) → Agree number listed paths → Agree number (with_paths listed more) paths
agree-later number listed more [] agree = tt
agree-later number listed more (path ∷ paths) agree = (path-with listed more path (number path) agree.0, agree-later number listed more paths agree.1)

agree-front : (number : List Step → ℕ) (listed xs ys : List (List Step)) → Agree number listed (xs ++ ys) → Agree number listed xs
agree-front number listed [] ys agree = tt
agree-front number listed (x ∷ xs) ys agree = (agree.0, agree-front number listed xs ys agree.1)

agree-back : (number : List Step → ℕ) (listed xs ys : List (List Step)) → Agree number listed (xs ++ ys) → Agree number listed ys
agree-back number listed [] ys agree = agree
agree-back number listed (x ∷ xs) ys agree = agree-back number listed xs ys agree.1

path-kind : (above : Option Node) (kind : Kind) (steps : List Step) (label : List ℕ) → option_map (λ n. n.kind) above ≡ Some kind → path_of above steps label ≡ path_below kind steps label
path-kind None kind steps label is = absurd cc
path-kind (Some n) kind steps label is = let same : n.kind ≡ kind = cc in ap (λ q. path_below q steps label) same

-- a value that stands first below a Key has the Key's path
first-value : (kind : Kind) (path : List Step) (others : List (List Step)) → IsTrue (is_value kind) → (rest : List (List Step)) × (own_of kind path ++ others ≡ path ∷ rest)
first-value Document path others value = absurd cc
first-value Object path others value = (others, refl)
first-value Array path others value = (others, refl)
first-value Key path others value = absurd cc
first-value Str path others value = (others, refl)
first-value Number path others value = (others, refl)
first-value Truth path others value = (others, refl)
first-value Null path others value = (others, refl)

-- the paths below a Key begin with its own
pub key-first : (k : ℕ) (label : List ℕ) (path : List Step) (below : Forest) (others : List (List Step)) → HasChildren (Some Key) (tops below) → FitBelow (Some Key) below
    → (rest : List (List Step)) × (paths_below (Some (record { number = k; kind = Key; label = label })) path below ++ others ≡ path ∷ rest)
key-first k label path no_trees others one fit = absurd (omega arith)
key-first k label path (tree_then v inner beyond) others one fit =
    let key : Node = record { number = k; kind = Key; label = label } in
    let first = first-value v.kind path ((paths_below (Some v) path inner ++ paths_below (Some key) path beyond) ++ others) fit.0 in
    (first.0, append_assoc (own_of v.kind path) (paths_below (Some v) path inner ++ paths_below (Some key) path beyond) others ∙ first.1)

-- the path of a node is listed before those below it
with-own : (listed : List (List Step)) (above : Kind) (k : ℕ) (kind : Kind) (label : List ℕ) (path : List Step) (below : Forest) (others : List (List Step)) → IsTrue (may_stand_below above kind) → HasChildren (Some kind) (tops below) → FitBelow (Some kind) below
    → with_paths (with_paths listed (path ∷ [])) (paths_below (Some (record { number = k; kind = kind; label = label })) path below ++ others)
    ≡ with_paths listed (own_of kind path ++ (paths_below (Some (record { number = k; kind = kind; label = label })) path below ++ others))
with-own listed above k Document label path below others stands children fit = absurd (no_document above stands)
with-own listed above k Object label path below others stands children fit = refl
with-own listed above k Array label path below others stands children fit = refl
with-own listed above k Key label path below others stands children fit =
    let first = key-first k label path below others children fit in
    ap (with_paths (with_paths listed (path ∷ []))) first.1 ∙ with-twice listed path first.0 ∙ ap (with_paths listed) (sym first.1)
with-own listed above k Str label path below others stands children fit = refl
with-own listed above k Number label path below others stands children fit = refl
with-own listed above k Truth label path below others stands children fit = refl
with-own listed above k Null label path below others stands children fit = refl

-- The first node of the branches: its paths, what is left behind it, and how the records show that.
record IsFirst (goal : Goal) (goals : List Goal) (limit fewer : ℕ) (r : NodeRecord) (o : Option (RecordMap NodeRecord)) (listed : List (List Step)) (branches : List Branch) (shown : ShowsBranches o (goal ∷ goals) limit listed branches) : Type 0 where
  steps : List Step
  old : List Step
  left : List Branch
  at : IsPathAt listed steps goal.path
  old_at : is_value r.kind ≡ true → IsPathAt listed old r.path
  old_are : old_paths branches ≡ own_of r.kind old ++ old_paths left
  new_are : new_paths branches ≡ own_of r.kind (path_below goal.kind steps r.label) ++ new_paths left
  with_is : with_paths (with_paths listed (path_below goal.kind steps r.label ∷ [])) (new_paths left) ≡ with_paths listed (new_paths branches)
  sizes_are : suc (branch_sizes left) ≡ branch_sizes branches
  begin : (path : ℕ) → IsPathAt (with_paths listed (path_below goal.kind steps r.label ∷ [])) (path_below goal.kind steps r.label) path
      → BeginAll (with_paths listed (path_below goal.kind steps r.label ∷ [])) left (with_goal r.kind path r.first (with_goal goal.kind goal.path r.right goals))
  few : branch_sizes left ≤ fewer
  shows : Shows o ((shown.front ++ (goal.to, row_of r) ∷ []) ++ (old_rows shown.local shown.number left ++ shown.back))
  agree : Agree shown.number listed (old_paths left)
  rows_are : (path : ℕ) (number : List Step → ℕ) → path ≡ number (path_below goal.kind steps r.label)
      → (goal.to, record (row_of r) { path = path }) ∷ new_rows shown.local number left ≡ new_rows shown.local number branches

first-node : (goal : Goal) (goals : List Goal) (limit fewer : ℕ) (r : NodeRecord) (o : Option (RecordMap NodeRecord)) → ForSome o (λ m. fin.get m goal.to ≡ Some r) → limit - 1 ≡ fewer
    → (listed : List (List Step)) (branches : List Branch) (shown : ShowsBranches o (goal ∷ goals) limit listed branches) → IsFirst goal goals limit fewer r o listed branches shown
first-node goal goals limit fewer r o found one_less listed [] shown = absurd shown.begin
first-node goal goals limit fewer r o found one_less listed (branch ∷ branches) shown = go branch.around branch.trees branch.steps shown
  where
    go : (around : Around) (trees : Forest) (steps : List Step) (shown : ShowsBranches o (goal ∷ goals) limit listed (record { around = around; trees = trees; steps = steps } ∷ branches))
        → IsFirst goal goals limit fewer r o listed (record { around = around; trees = trees; steps = steps } ∷ branches) shown
    go around no_trees steps shown = absurd (let e : None ≡ Some goal.to = shown.begin.0.first in cc)
    go around (tree_then n below rest) steps shown =
        let local : Kind → List ℕ → ℕ = shown.local in
        let number : List Step → ℕ = shown.number in
        let begins = shown.begin.0 in
        let e : Some n.number ≡ Some goal.to = begins.first in
        let same : n.number ≡ goal.to = cc in
        let inner : Around = around_children around n in
        let beyond : Around = record around { left = Some n.number } in
        let path : List Step = own_path around n in
        let rows_below : List (ℕ × NodeRow) = rows local number inner below in
        let rows_rest : List (ℕ × NodeRow) = rows local number beyond rest in
        let others : List (ℕ × NodeRow) = old_rows local number branches in
        let here : NodeRow = row local number (record around { right = option_or (first_of rest) around.right }) n below in
        let regrouped : ((n.number, here) ∷ (rows_below ++ rows_rest)) ++ others ++ shown.back ≡ (n.number, here) ∷ ((rows_below ++ (rows_rest ++ others)) ++ shown.back) = simp append_assoc in
        let shows_here : Shows o (shown.front ++ (n.number, here) ∷ ((rows_below ++ (rows_rest ++ others)) ++ shown.back)) = subst (λ l. Shows o (shown.front ++ l)) regrouped shown.shows in
        let shows_to : Shows o (shown.front ++ (goal.to, here) ∷ ((rows_below ++ (rows_rest ++ others)) ++ shown.back)) = subst (λ q. Shows o (shown.front ++ (q, here) ∷ ((rows_below ++ (rows_rest ++ others)) ++ shown.back))) same shows_here in
        let known = some_is _ _ (shows-get o (Some r) shown.front _ goal.to here shows_to (λ m e. sym (found m e))) in
        let kind : r.kind ≡ n.kind = ap (λ (w : NodeRow). w.kind) known in
        let label : r.label ≡ n.label = ap (λ (w : NodeRow). w.label) known in
        let right : first_of rest ≡ r.right = sym (ap (λ (w : NodeRow). w.right) known ∙ ap (option_or (first_of rest)) begins.last ∙ or_none _) in
        let first : first_of below ≡ r.first = sym (ap (λ (w : NodeRow). w.first) known) in
        let new : List Step = path_below goal.kind steps r.label in
        let new_is : path_of around.above steps n.label ≡ new = path-kind around.above goal.kind steps n.label begins.kind ∙ ap (path_below goal.kind steps) (sym label) in
        let ahead : List Branch = with_branch beyond rest steps branches in
        let left : List Branch = with_branch inner below new ahead in
        let old_left : old_paths left ≡ paths_under inner below ++ (paths_under beyond rest ++ old_paths branches) = old-paths inner below new ahead ∙ ap (λ l. paths_under inner below ++ l) (old-paths beyond rest steps branches) in
        let moved_rest : List (List Step) = paths_below around.above steps rest in
        let new_left : new_paths left ≡ paths_below (Some n) new below ++ (moved_rest ++ new_paths branches) = new-paths inner below new ahead ∙ ap (λ l. paths_below (Some n) new below ++ l) (new-paths beyond rest steps branches) in
        let rows_left : old_rows local number left ≡ rows_below ++ (rows_rest ++ others) = old-rows local number inner below new ahead ∙ ap (λ l. rows_below ++ l) (old-rows local number beyond rest steps branches) in
        let old_all : (own_of n.kind path ++ (paths_under inner below ++ paths_under beyond rest)) ++ old_paths branches ≡ own_of n.kind path ++ (paths_under inner below ++ (paths_under beyond rest ++ old_paths branches)) = simp append_assoc in
        let old_are : (own_of n.kind path ++ (paths_under inner below ++ paths_under beyond rest)) ++ old_paths branches ≡ own_of r.kind path ++ old_paths left =
        old_all ∙ (λ i. own_of (sym kind i) path ++ sym old_left i) in
        let new_here : List Step = path_of around.above steps n.label in
        let new_group : (own_of n.kind new_here ++ (paths_below (Some n) new_here below ++ moved_rest)) ++ new_paths branches ≡ own_of n.kind new_here ++ (paths_below (Some n) new_here below ++ (moved_rest ++ new_paths branches)) = simp append_assoc in
        let new_are : (own_of n.kind new_here ++ (paths_below (Some n) new_here below ++ moved_rest)) ++ new_paths branches ≡ own_of n.kind new ++ new_paths left =
        new_group ∙ (λ i. own_of n.kind (new_is i) ++ (paths_below (Some n) (new_is i) below ++ (moved_rest ++ new_paths branches))) ∙ ap (λ l. own_of n.kind new ++ l) (sym new_left) in
        let many : branch_sizes left ≡ size below + (size rest + branch_sizes branches) = sizes-branch inner below new ahead ∙ ap (λ z. size below + z) (sizes-branch beyond rest steps branches) in
        let agree_all = subst (Agree number listed) old_are shown.numbers_are in
        let listed_new : List (List Step) = with_paths listed (new ∷ []) in
        let row_now : (path_now : ℕ) (by : List Step → ℕ) → path_now ≡ by new
        → (goal.to, record (row_of r) { path = path_now }) ≡ (n.number, row local by (record around { path = steps; right = option_or (first_of rest) around.right }) n below) =
        λ path_now by is. (λ i. (sym same i, record (known i) { path = path_now })) ∙ (λ i. (n.number, record here { path = (is ∙ ap by (sym new_is)) i })) in
        record {
          steps = steps;
          old = path;
          left = left;
          at = begins.path;
          old_at = λ value.
              let own : own_of r.kind path ≡ path ∷ [] = ap (λ b. cond b (path ∷ []) []) value in
              let there = (subst (Agree number listed) own (agree-front number listed (own_of r.kind path) (old_paths left) agree_all)).0 in
              record { there = there.there; is = ap (λ (w : NodeRow). w.path) known ∙ there.is };
          old_are = old_are;
          new_are = new_are ∙ (λ i. own_of (sym kind i) new ++ new_paths left);
          with_is = ap (with_paths listed_new) new_left ∙ with-own listed goal.kind n.number n.kind n.label new below (moved_rest ++ new_paths branches) begins.fit.0 begins.fit.2 begins.fit.3
              ∙ ap (with_paths listed) (ap (λ l. own_of n.kind new ++ l) (sym new_left) ∙ sym new_are);
          sizes_are = omega (arith, many);
          begin = λ path_now at_now.
              subst (λ f. BeginAll listed_new left (with_goal r.kind path_now f (with_goal goal.kind goal.path r.right goals))) first
              (begin-branch listed_new inner below new ahead r.kind path_now (with_goal goal.kind goal.path r.right goals)
              (record { last = refl; kind_is = ap (λ q. Some q) (sym kind); at = at_now; fit = subst (λ q. FitBelow (Some q) below) (sym kind) begins.fit.3 })
              (subst (λ f. BeginAll listed_new ahead (with_goal goal.kind goal.path f goals)) right
              (begin-branch listed_new beyond rest steps branches goal.kind goal.path goals
              (record { last = begins.last; kind_is = begins.kind; at = path-with listed (new ∷ []) steps goal.path begins.path; fit = begins.fit.4 })
              (begin-later listed (new ∷ []) branches goals shown.begin.1))));
          few = omega (arith, many, one_less, shown.few);
          shows =
              let group : shown.front ++ (goal.to, row_of r) ∷ ((rows_below ++ (rows_rest ++ others)) ++ shown.back)
              ≡ (shown.front ++ (goal.to, row_of r) ∷ []) ++ ((rows_below ++ (rows_rest ++ others)) ++ shown.back) = simp append_assoc in
              let own = subst (λ w. Shows o (shown.front ++ (goal.to, w) ∷ ((rows_below ++ (rows_rest ++ others)) ++ shown.back))) (sym known) shows_to in
              subst (λ l. Shows o ((shown.front ++ (goal.to, row_of r) ∷ []) ++ (l ++ shown.back))) (sym rows_left) (subst (Shows o) group own);
          agree = agree-back number listed (own_of r.kind path) (old_paths left) agree_all;
          rows_are = λ path_now by is.
              let moved_below : Around = record inner { path = new } in
              let moved_beyond : Around = record beyond { path = steps } in
              let here_now : ℕ × NodeRow = (n.number, row local by (record around { path = steps; right = option_or (first_of rest) around.right }) n below) in
              let left_is : new_rows local by left ≡ rows local by moved_below below ++ (rows local by moved_beyond rest ++ new_rows local by branches) =
              new-rows local by inner below new ahead ∙ ap (λ l. rows local by moved_below below ++ l) (new-rows local by beyond rest steps branches) in
              (λ i. row_now path_now by is i ∷ left_is i)
              ∙ ap (λ l. here_now ∷ l) (sym (append_assoc (rows local by moved_below below) (rows local by moved_beyond rest) (new_rows local by branches)))
              ∙ (λ i. (here_now ∷ (rows local by (record inner { path = sym new_is i }) below ++ rows local by moved_beyond rest)) ++ new_rows local by branches);
        }

-- ---- what stops the walk

own-most : (kind : Kind) (path other : List Step) → more_on (own_of kind path) (λ q. 0) other ≤ 1
own-most kind path other = omega (arith, count_by-le-length (same_path other) (own_of kind path), own-few (is_value kind) path)

old-most : (branches : List Branch) (other : List Step) → more_on (old_paths branches) (λ q. 0) other ≤ branch_sizes branches
old-most branches other = omega (arith, count_by-le-length (same_path other) (old_paths branches), old-few branches)
  where
    old-few : (branches : List Branch) → length (old_paths branches) ≤ branch_sizes branches
    old-few [] = omega arith
    old-few (branch ∷ branches) = omega (arith, length-append (paths_under branch.around branch.trees) (old_paths branches), paths-few branch.around.above branch.around.path branch.trees, old-few branches)

-- where the first path stops it, or the others behind it, all of them do
stops-first : (had : ℕ) (listed : List (List Step)) (step : List Step) (others all : List (List Step)) (e : EditFault) → with_paths (with_paths listed (step ∷ [])) others ≡ with_paths listed all → Stops had listed (step ∷ []) e → Stops had listed all e
stops-first had listed step others all e is stops =
    stops-same had listed listed (step ∷ others) all e (ap length is) (stops-among had listed [] (step ∷ []) others (step ∷ others) e refl stops)

stops-after : (had : ℕ) (listed : List (List Step)) (step : List Step) (others all : List (List Step)) (e : EditFault) → with_paths (with_paths listed (step ∷ [])) others ≡ with_paths listed all → Stops had (with_paths listed (step ∷ [])) others e → Stops had listed all e
stops-after had listed step others all e is = stops-same had (with_paths listed (step ∷ [])) listed others all e (ap length is)

-- ---- the walk

-- after the first node has moved
module _ (goal : Goal) (goals : List Goal) (limit fewer : ℕ) (r : NodeRecord) (path : ℕ) (o : Option (RecordMap NodeRecord)) (old mid new : List PathRow)
    (found : ForSome o (λ m. fin.get m goal.to ≡ Some r)) (one_less : limit - 1 ≡ fewer)
    (under : IsUnder goal.kind goal.path r.label path old mid) (exchange : IsExchanged r.kind r.path path mid new) where
  -- the table and the records then
  record IsOn (listed : List (List Step)) (count : List Step → ℕ) (branches : List Branch) (shown : ShowsBranches o (goal ∷ goals) limit listed branches) : Type 0 where
    first : IsFirst goal goals limit fewer r o listed branches shown
    at : IsPathAt (with_paths listed (path_below goal.kind first.steps r.label ∷ [])) (path_below goal.kind first.steps r.label) path
    lists : Lists new (with_paths listed (path_below goal.kind first.steps r.label ∷ [])) (more_on (old_paths first.left) (more_on (own_of r.kind (path_below goal.kind first.steps r.label)) count))

  goes-on : (listed : List (List Step)) (count : List Step → ℕ) (branches : List Branch) (shown : ShowsBranches o (goal ∷ goals) limit listed branches) → Lists old listed (more_on (old_paths branches) count) → IsOn listed count branches shown
  unfolding IsUnder IsExchanged
  goes-on listed count branches shown lists =
      let first = first-node goal goals limit fewer r o found one_less listed branches shown in
      let step : List Step = path_below goal.kind first.steps r.label in
      let own_old : List (List Step) = own_of r.kind first.old in
      let own_new : List (List Step) = own_of r.kind step in
      let entered = under listed (more_on (old_paths branches) count) first.steps lists first.at in
      let parts : more_on (old_paths branches) count ≡ more_on own_old (more_on (old_paths first.left) count) =
      ap (λ ps. more_on ps count) first.old_are ∙ more-append own_old (old_paths first.left) count ∙ more-swap (old_paths first.left) own_old count in
      record {
        first = first;
        at = entered.1;
        lists = lists-as new _ _ _ (more-swap own_new (old_paths first.left) count)
            (exchange (with_paths listed (step ∷ [])) (more_on (old_paths first.left) count) first.old step (λ value. path-with listed (step ∷ []) first.old r.path (first.old_at value)) entered.1
            (lists-as mid _ _ _ parts entered.0));
      }

  on-shown : (listed : List (List Step)) (count : List Step → ℕ) (branches : List Branch) (shown : ShowsBranches o (goal ∷ goals) limit listed branches) (on : IsOn listed count branches shown)
      → ShowsBranches o (with_goal r.kind path r.first (with_goal goal.kind goal.path r.right goals)) fewer (with_paths listed (path_below goal.kind on.first.steps r.label ∷ [])) on.first.left
  on-shown listed count branches shown on = record {
    local = shown.local;
    number = shown.number;
    front = shown.front ++ (goal.to, row_of r) ∷ [];
    back = shown.back;
    begin = on.first.begin path on.at;
    few = on.first.few;
    shows = on.first.shows;
    numbers_are = agree-later shown.number listed (path_below goal.kind on.first.steps r.label ∷ []) (old_paths on.first.left) on.first.agree;
  }

  pub repathed-more : (last : List PathRow) (rest : List (ℕ × NodeRow)) → IsRepathed (with_goal r.kind path r.first (with_goal goal.kind goal.path r.right goals)) fewer (kept o new) last rest
      → IsRepathed (goal ∷ goals) limit (kept o old) last ((goal.to, record (row_of r) { path = path }) ∷ rest)
  unfolding IsRepathed on-shown
  repathed-more last rest more listed count branches shown lists =
      let on = goes-on listed count branches shown lists in
      let step : List Step = path_below goal.kind on.first.steps r.label in
      let own_new : List (List Step) = own_of r.kind step in
      let left : List Branch = on.first.left in
      let done = more (with_paths listed (step ∷ [])) (more_on own_new count) left (on-shown listed count branches shown on) on.lists in
      let counts : more_on (new_paths left) (more_on own_new count) ≡ more_on (new_paths branches) count = sym (ap (λ ps. more_on ps count) on.first.new_are ∙ more-append own_new (new_paths left) count) in (
        lists-as last _ _ _ counts (subst (λ l. Lists last l (more_on (new_paths left) (more_on own_new count))) on.first.with_is done.0),
        λ number numbers.
            let before : Numbers number (with_paths (with_paths listed (step ∷ [])) (new_paths left)) = subst (Numbers number) (sym on.first.with_is) numbers in
            let at_last = path-with (with_paths listed (step ∷ [])) (new_paths left) step path on.at in
            ap (λ l. (goal.to, record (row_of r) { path = path }) ∷ l) (done.1 number before) ∙ on.first.rows_are path number (at_last.is ∙ sym (before.listed_are step at_last.there)),
      )

  pub stops-more : (had : ℕ) (e : EditFault) → StopsRepathing (with_goal r.kind path r.first (with_goal goal.kind goal.path r.right goals)) fewer had (kept o new) e
      → StopsRepathing (goal ∷ goals) limit had (kept o old) e
  unfolding StopsRepathing
  stops-more had e stops listed count branches shown lists room =
      let on = goes-on listed count branches shown lists in
      let step : List Step = path_below goal.kind on.first.steps r.label in
      let left : List Branch = on.first.left in
      stops-after had listed step (new_paths left) (new_paths branches) e on.first.with_is
      (stops (with_paths listed (step ∷ [])) (more_on (own_of r.kind step) count) left (on-shown listed count branches shown on) on.lists
      (λ other. omega (arith, room other, on.first.sizes_are, own-most r.kind step other)))

module _ (goal : Goal) (goals : List Goal) (limit : ℕ) (had : ℕ) (o : Option (RecordMap NodeRecord)) (old : List PathRow) where
  module _ (fewer : ℕ) (r : NodeRecord) (found : ForSome o (λ m. fin.get m goal.to ≡ Some r)) (one_less : limit - 1 ≡ fewer) where
    pub under-stops : (e : EditFault) → StopsUnder goal.kind goal.path r.label had old e → StopsRepathing (goal ∷ goals) limit had (kept o old) e
    unfolding StopsUnder StopsRepathing
    under-stops e stops listed count branches shown lists room =
        let first = first-node goal goals limit fewer r o found one_less listed branches shown in
        stops-first had listed (path_below goal.kind first.steps r.label) (new_paths first.left) (new_paths branches) e first.with_is (stops listed (more_on (old_paths branches) count) first.steps lists first.at)

    pub exchange-stops : (path : ℕ) (mid : List PathRow) (e : EditFault) → IsUnder goal.kind goal.path r.label path old mid → CannotExchange r.kind r.path path mid → StopsRepathing (goal ∷ goals) limit had (kept o old) e
    unfolding IsUnder CannotExchange StopsRepathing
    exchange-stops path mid e under cannot listed count branches shown lists room =
        let first = first-node goal goals limit fewer r o found one_less listed branches shown in
        let step : List Step = path_below goal.kind first.steps r.label in
        let own_old : List (List Step) = own_of r.kind first.old in
        let entered = under listed (more_on (old_paths branches) count) first.steps lists first.at in
        let parts : more_on (old_paths branches) count ≡ more_on own_old (more_on (old_paths first.left) count) =
        ap (λ ps. more_on ps count) first.old_are ∙ more-append own_old (old_paths first.left) count ∙ more-swap (old_paths first.left) own_old count in
        absurd (cannot (with_paths listed (step ∷ [])) (more_on (old_paths first.left) count) first.old step (λ value. path-with listed (step ∷ []) first.old r.path (first.old_at value)) entered.1
        (lists-as mid _ _ _ parts entered.0) (omega (arith, room step, first.sizes_are, old-most first.left step)))

  pub absent-stops : (e : EditFault) → ForSome o (λ m. fin.get m goal.to ≡ None) → StopsRepathing (goal ∷ goals) limit had (kept o old) e
  unfolding StopsRepathing
  absent-stops e none listed count [] shown lists room = absurd shown.begin
  absent-stops e none listed count (branch ∷ branches) shown lists room = go branch.around branch.trees branch.steps shown
    where
      go : (around : Around) (trees : Forest) (steps : List Step) → ShowsBranches o (goal ∷ goals) limit listed (record { around = around; trees = trees; steps = steps } ∷ branches)
          → Stops had listed (new_paths (record { around = around; trees = trees; steps = steps } ∷ branches)) e
      go around no_trees steps shown = absurd (let e : None ≡ Some goal.to = shown.begin.0.first in cc)
      go around (tree_then n below rest) steps shown =
          let e : Some n.number ≡ Some goal.to = shown.begin.0.first in
          let same : goal.to ≡ n.number = cc in
          let there : ForSome o (λ m. None ≡ fin.get m n.number) = rw same at (λ (m : RecordMap NodeRecord) (e : o ≡ Some m). sym (none m e)) in
          let both = shows-get o None shown.front _ n.number _ (subst (λ l. Shows o (shown.front ++ l))
          (refl {a = old_rows shown.local shown.number (record { around = around; trees = tree_then n below rest; steps = steps } ∷ branches) ++ shown.back}) shown.shows) there in
          absurd cc

  pub endless-stops : (e : EditFault) → limit ≡ 0 → StopsRepathing (goal ∷ goals) limit had (kept o old) e
  unfolding StopsRepathing
  endless-stops e none listed count [] shown lists room = absurd shown.begin
  endless-stops e none listed count (branch ∷ branches) shown lists room = go branch.around branch.trees branch.steps shown
    where
      go : (around : Around) (trees : Forest) (steps : List Step) → ShowsBranches o (goal ∷ goals) limit listed (record { around = around; trees = trees; steps = steps } ∷ branches)
          → Stops had listed (new_paths (record { around = around; trees = trees; steps = steps } ∷ branches)) e
      go around no_trees steps shown = absurd (let e : None ≡ Some goal.to = shown.begin.0.first in cc)
      go around (tree_then n below rest) steps shown = absurd (omega (arith, none, shown.few))

pub repathed-none : (limit : ℕ) (o : Kept) → IsRepathed [] limit o o.table []
unfolding IsRepathed
repathed-none limit o listed count [] shown lists = (lists, λ number numbers. refl)
repathed-none limit o listed count (branch ∷ branches) shown lists = absurd shown.begin

pub memory-stops_repathing : (goals : List Goal) (limit had : ℕ) (o : Kept) → StopsRepathing goals limit had o OutOfMemory
unfolding StopsRepathing
memory-stops_repathing goals limit had o listed count branches shown lists room = tt

pub failed-stops : (goals : List Goal) (limit had : ℕ) (o : Kept) → StopsRepathing goals limit had o Failed
unfolding StopsRepathing
failed-stops goals limit had o listed count branches shown lists room = tt

fault_stops : (goal : Goal) (goals : List Goal) (limit had : ℕ) (o : Option (RecordMap NodeRecord)) (old : List PathRow) (fault : Fault) → (IsDamaged fault → ForSome o (λ m. fin.get m goal.to ≡ None))
    → StopsRepathing (goal ∷ goals) limit had (kept o old) (edit_fault fault)
fault_stops goal goals limit had o old faults.Failed none = failed-stops (goal ∷ goals) limit had (kept o old)
fault_stops goal goals limit had o old (faults.Damaged d) none = absent-stops goal goals limit had o old (Damaged d) (none tt)
fault_stops goal goals limit had o old faults.OutOfMemory none = memory-stops_repathing (goal ∷ goals) limit had (kept o old)

-- the same at the loop's turn
pub repathed-step : (all left : List Goal) (goal : Goal) (goals : List Goal) (limit fewer : ℕ) (r : NodeRecord) (path : ℕ) (w : NodeRow) (o now : Option (RecordMap NodeRecord)) (old mid new last : List PathRow) (rest : List (ℕ × NodeRow)) → all ≡ goal ∷ goals
    → ForSome o (λ m. fin.get m goal.to ≡ Some r) → limit - 1 ≡ fewer → w ≡ record (row_of r) { path = path } → IsUnder goal.kind goal.path r.label path old mid → IsExchanged r.kind r.path path mid new
    → left ≡ with_goal r.kind path r.first (with_goal goal.kind goal.path r.right goals) → now ≡ o
    → IsRepathed left fewer (kept now new) last rest → IsRepathed all limit (kept o old) last ((goal.to, w) ∷ rest)
repathed-step all left goal goals limit fewer r path w o now old mid new last rest is there one_less row_is under exchange left_is same more =
    rw (is, row_is) (repathed-more goal goals limit fewer r path o old mid new there one_less under exchange last rest (rw (left_is, same) at more))

-- what moved so far, with what is left
pub repathed-on : (goals : List Goal) (limit : ℕ) (before : Kept) (last : List PathRow) (moved all : List Seen) (seen : Seen) (rest : List (ℕ × NodeRow)) → all ≡ moved ++ seen ∷ []
    → IsRepathed goals limit before last (entries_of moved ++ entry_of seen ∷ rest) → IsRepathed goals limit before last (entries_of all ++ rest)
repathed-on goals limit before last moved all seen rest is =
    subst (IsRepathed goals limit before last) (sym (ap (λ l. entries_of l ++ rest) is ∙ ap (λ l. l ++ rest) (map-append entry_of moved (seen ∷ [])) ∙ append_assoc (entries_of moved) (entry_of seen ∷ []) rest))

pub repathed-end : (goals now_goals : List Goal) (limit now_limit : ℕ) (before now : Kept) (moved : List Seen)
    → ((last : List PathRow) (rest : List (ℕ × NodeRow)) → IsRepathed now_goals now_limit now last rest → IsRepathed goals limit before last (entries_of moved ++ rest)) → now_goals ≡ [] → IsRepathed goals limit before now.table (entries_of moved)
repathed-end goals now_goals limit now_limit before now moved moves is =
    subst (IsRepathed goals limit before now.table) (append-nil (entries_of moved)) (moves now.table [] (rw is (repathed-none now_limit now)))

pub stops-step_on : (all left : List Goal) (goal : Goal) (goals : List Goal) (limit fewer : ℕ) (r : NodeRecord) (path : ℕ) (o now : Option (RecordMap NodeRecord)) (old mid new : List PathRow) (had : ℕ) (e : EditFault) → all ≡ goal ∷ goals
    → ForSome o (λ m. fin.get m goal.to ≡ Some r) → limit - 1 ≡ fewer → IsUnder goal.kind goal.path r.label path old mid → IsExchanged r.kind r.path path mid new
    → left ≡ with_goal r.kind path r.first (with_goal goal.kind goal.path r.right goals) → now ≡ o
    → StopsRepathing left fewer had (kept now new) e → StopsRepathing all limit had (kept o old) e
stops-step_on all left goal goals limit fewer r path o now old mid new had e is there one_less under exchange left_is same more =
    rw is (stops-more goal goals limit fewer r path o old mid new there one_less under exchange had e (rw (left_is, same) at more))

-- the links that are told
pub lead-push : (o : Option (RecordMap NodeRecord)) (moves : List Move) (move : Move) → LeadsTo o move.from move.to → AllLead o moves → AllLead o (moves ++ move ∷ [])
lead-push o [] move leads all = (leads, tt)
lead-push o (m ∷ moves) move leads all = (all.0, lead-push o moves move leads all.1)

pub lead-pop : (o : Option (RecordMap NodeRecord)) (old new : List Move) (popped : Option Move) → old ≡ new ++ option_to_list popped → AllLead o old → AllLead o new × IfSome popped (λ at. LeadsTo o at.from at.to)
lead-pop o old new None is all = (subst (AllLead o) (is ∙ append-nil new) all, tt)
lead-pop o old new (Some move) is all = last new (subst (AllLead o) is all)
  where
    last : (moves : List Move) → AllLead o (moves ++ move ∷ []) → AllLead o moves × LeadsTo o move.from move.to
    last [] all = (tt, all.0)
    last (m ∷ moves) all = let more = last moves all.1 in ((all.0, more.0), more.1)

-- what stops a turn stops all of it
module _ (first all : List Goal) (next limit had : ℕ) (start now : Kept) (goes : (e : EditFault) → StopsRepathing all limit had now e → StopsRepathing first next had start e) where
  pub turn-fault : {A : Type 0} (goal : Goal) (goals : List Goal) (r : Result A EditFault) (fault : Fault) → all ≡ goal ∷ goals → IsErrAnd r (λ e. e ≡ edit_fault fault) → (IsDamaged fault → ForSome now.told (λ m. fin.get m goal.to ≡ None))
      → IfErr r (StopsRepathing first next had start)
  turn-fault goal goals r fault is err none = err_again r (edit_fault fault) _ err (goes (edit_fault fault) (rw is (fault_stops goal goals limit had now.told now.table fault none)))

  pub turn-memory : {A : Type 0} (r : Result A EditFault) → IsErrAnd r (λ e. e ≡ OutOfMemory) → IfErr r (StopsRepathing first next had start)
  turn-memory r err = err_again r OutOfMemory _ err (goes OutOfMemory (memory-stops_repathing all limit had now))

  pub turn-under : {A : Type 0} (goal : Goal) (goals : List Goal) (fewer : ℕ) (entry : NodeRecord) (r : Result A EditFault) (e : EditFault) → all ≡ goal ∷ goals → IsErrAnd r (λ x. x ≡ e) → ForSome now.told (λ m. fin.get m goal.to ≡ Some entry)
      → limit - 1 ≡ fewer → StopsUnder goal.kind goal.path entry.label had now.table e → IfErr r (StopsRepathing first next had start)
  turn-under goal goals fewer entry r e is err there one_less stops = err_again r e _ err (goes e (rw is (under-stops goal goals limit had now.told now.table fewer entry there one_less e stops)))

  pub turn-exchange : {A : Type 0} (goal : Goal) (goals : List Goal) (fewer : ℕ) (entry : NodeRecord) (path : ℕ) (mid : List PathRow) (r : Result A EditFault) (fault : Fault) → all ≡ goal ∷ goals → IsErrAnd r (λ e. e ≡ edit_fault fault)
      → ForSome now.told (λ m. fin.get m goal.to ≡ Some entry) → limit - 1 ≡ fewer → IsUnder goal.kind goal.path entry.label path now.table mid → CannotExchange entry.kind entry.path path mid → IfErr r (StopsRepathing first next had start)
  turn-exchange goal goals fewer entry path mid r fault is err there one_less under cannot =
      err_again r (edit_fault fault) _ err (goes (edit_fault fault) (rw is (exchange-stops goal goals limit had now.told now.table fewer entry there one_less path mid (edit_fault fault) under cannot)))

  pub turn-endless : (goal : Goal) (goals : List Goal) (e : EditFault) → all ≡ goal ∷ goals → limit ≡ 0 → StopsRepathing first next had start e
  turn-endless goal goals e is none = goes e (rw is (endless-stops goal goals limit had now.told now.table e none))

-- over the same records
pub stops-there : (goals : List Goal) (limit had : ℕ) (o now : Option (RecordMap NodeRecord)) (table : List PathRow) (e : EditFault) → now ≡ o → StopsRepathing goals limit had (kept now table) e → StopsRepathing goals limit had (kept o table) e
stops-there goals limit had o now table e same = subst (λ q. StopsRepathing goals limit had (kept q table) e) same

pub repathed-there : (goals : List Goal) (limit : ℕ) (o now : Option (RecordMap NodeRecord)) (table last : List PathRow) (moved : List (ℕ × NodeRow)) → now ≡ o → IsRepathed goals limit (kept now table) last moved → IsRepathed goals limit (kept o table) last moved
repathed-there goals limit o now table last moved same = subst (λ q. IsRepathed goals limit (kept q table) last moved) same

-- ---- the nodes that move

abbrev pub goal_tops : List Goal → List ℕ
goal_tops goals = map (λ goal. goal.to) goals

pub tops-goal : (kind : Kind) (path : ℕ) (to : Option ℕ) (goals : List Goal) → goal_tops (with_goal kind path to goals) ≡ with_top to (goal_tops goals)
tops-goal kind path None goals = refl
tops-goal kind path (Some k) goals = refl

pub moved-on : (tops : List ℕ) (limit : ℕ) (o : Option (RecordMap NodeRecord)) (moved all : List Seen) (seen : Seen) (rest : List ℕ) → all ≡ moved ++ seen ∷ []
    → IsWalked tops limit o (numbers_of (entries_of moved) ++ seen.node ∷ rest) → IsWalked tops limit o (numbers_of (entries_of all) ++ rest)
moved-on tops limit o moved all seen rest is =
    subst (IsWalked tops limit o) (sym (ap (λ l. numbers_of (entries_of l) ++ rest) is ∙ ap (λ l. numbers_of l ++ rest) (map-append entry_of moved (seen ∷ []))
    ∙ ap (λ l. l ++ rest) (map-append (λ (e : ℕ × NodeRow). e.0) (entries_of moved) (entry_of seen ∷ [])) ∙ append_assoc (numbers_of (entries_of moved)) (seen.node ∷ []) rest))

-- nothing has moved at first
pub start-moves : (kind : Kind) (path : ℕ) (first : Option ℕ) (limit less : ℕ) (before : Kept) (last : List PathRow) (all : List Goal) (empty : List Move) (none : List Seen) (rest : List (ℕ × NodeRow)) → all ≡ with_goal kind path first (goals_of empty)
    → empty ≡ [] → none ≡ [] → less ≡ limit → IsRepathed all less before last rest → IsRepathed (first_goals kind path first) limit before last (entries_of none ++ rest)
start-moves kind path first limit less before last all empty none rest is empty_is none_is less_is more =
    rw none_is
    (subst (λ gs. IsRepathed gs limit before last rest) (is ∙ ap (λ e. with_goal kind path first (goals_of e)) empty_is) (subst (λ l. IsRepathed all l before last rest) less_is more))

pub start-stops : (kind : Kind) (path : ℕ) (first : Option ℕ) (limit less had : ℕ) (before : Kept) (e : EditFault) (all : List Goal) (empty : List Move) → all ≡ with_goal kind path first (goals_of empty)
    → empty ≡ [] → less ≡ limit → StopsRepathing all less had before e → StopsRepathing (first_goals kind path first) limit had before e
start-stops kind path first limit less had before e all empty is empty_is less_is more =
    subst (λ gs. StopsRepathing gs limit had before e) (is ∙ ap (λ m. with_goal kind path first (goals_of m)) empty_is) (subst (λ l. StopsRepathing all l had before e) less_is more)

pub start-walks : (kind : Kind) (path : ℕ) (first : Option ℕ) (limit less : ℕ) (o : Option (RecordMap NodeRecord)) (all : List Goal) (empty : List Move) (none : List Seen) (rest : List ℕ) → all ≡ with_goal kind path first (goals_of empty)
    → empty ≡ [] → none ≡ [] → less ≡ limit → IsWalked (goal_tops all) less o rest → IsWalked (first_tops first) limit o (numbers_of (entries_of none) ++ rest)
start-walks kind path first limit less o all empty none rest is empty_is none_is less_is more =
    rw none_is
    (subst (λ ks. IsWalked ks limit o rest) (ap goal_tops (is ∙ ap (λ m. with_goal kind path first (goals_of m)) empty_is) ∙ tops-goal kind path first []) (subst (λ l. IsWalked (goal_tops all) l o rest) less_is more))

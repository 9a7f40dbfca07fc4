-- Where the trees of values stop to grow.
use Rattle.std.proofs.Common.{◌≡◌, ℕ, zero, suc, ◌+◌, ◌≤◌, ◌<◌, List, [], ◌∷◌, ◌++◌, length, take, get_or, Option, Some, refl, sym, ap, subst, ◌∙◌, arith, append_assoc, append-nil, inr}
use Rattle.std.specs.Prelude.{◌^◌, Result, Ok, Err, IfErr, IsErrAnd}
use Rattle.std.proofs.lemmas.List.Sums.{count_by-le-length}
use Rattle.std.proofs.lemmas.List.{length-append}
use Rattle.sx_bytes.specs.declared.damage.Damage.{Damage}
use Rattle.sx_tree.specs.declared.json.Json.{Json}
use Rattle.sx_tree.specs.declared.record.Step.{Step}
use Rattle.sx_tree.specs.declared.record.Step.TheVariants.{Item, Name}
use Rattle.sx_tree.specs.declared.record.Kind.TheVariants.{Key}
use Rattle.sx_tree.specs.Value.{Value, Values, Fields, array, object, value_of, values_of, fields_of, nodes, nodes_of_values, nodes_of_fields, field_then, no_fields}
use Rattle.sx_tree.specs.declared.record.NodeRecord.{NodeRecord}
use Rattle.sx_view.specs.Records.{RecordMap}
use Rattle.sx_view.specs.declared.fault.Fault.{Fault}
use Rattle.sx_view.specs.declared.fault.Fault.TheVariants as faults
use Rattle.sx_model.specs.Numbered.{numbered, numbered_values, numbered_fields}
use Rattle.sx_model.specs.Paths.{paths_below, same_path, with_paths}
use Rattle.sx_model.specs.Records.{PathRow}
use Rattle.sx_model.specs.Tree.{Node, Forest, no_trees, size}
use Rattle.sx_paths.proofs.Listing.{with_paths-append, with_paths-behind}
use Rattle.sx_edit.specs.declared.fault.EditFault.{EditFault}
use Rattle.sx_edit.specs.declared.fault.EditFault.TheVariants.{Refused, Failed, Damaged, OutOfMemory}
use Rattle.sx_edit.specs.declared.trees.Children.{Children}
use Rattle.sx_model.specs.Edit.{Edit}
use Rattle.sx_edit.specs.Damage.{IsBreachFault, Reach, reach_of}
use Rattle.sx_edit.specs.EditFault.{ExplainsEdit, IsBreachEdit, edit_fault}
use Rattle.sx_edit.specs.Grow.{IsGrown, StopsGrowing, array_node, object_node, paths_under_node, top_of, trees_below, value_paths}
use Rattle.sx_edit.specs.Pathways.{CannotCountIn, IsCountedIn, IsOnto, Kept, Stops, StopsOnto, more_on}
use Rattle.sx_edit.specs.Drift.{Drifts}
use Rattle.sx_edit.proofs.Drifting.{drifts-on}
use Rattle.sx_edit.proofs.Growing.{IsHung, IsMember, beside-numbered, size-numbered_fields, size-numbered_values}
use Rattle.sx_edit.proofs.Pathing.{path-with, start-at, with-one, with-twice}
use Rattle.sx_edit.proofs.TreePaths.{paths-beside, paths-few, paths-value}

longer : (listed xs ys : List (List Step)) → length (with_paths listed xs) ≤ length (with_paths listed (xs ++ ys))
longer listed xs ys =
    let more = with_paths-behind (with_paths listed xs) ys in
    omega (arith, ap length (with_paths-append listed xs ys ∙ more.1), length-append (with_paths listed xs) more.0)

-- where some paths stop it among others, all of them do
pub stops-among : (had : ℕ) (listed xs ys zs all : List (List Step)) (e : EditFault) → all ≡ xs ++ (ys ++ zs) → Stops had (with_paths listed xs) ys e → Stops had listed all e
stops-among had listed xs ys zs all (Refused refusal) is stops =
    let parts : length (with_paths (with_paths listed xs) ys) ≡ length (with_paths listed (xs ++ ys)) = ap length (sym (with_paths-append listed xs ys)) in
    let whole : length (with_paths listed all) ≡ length (with_paths listed ((xs ++ ys) ++ zs)) = ap (λ ps. length (with_paths listed ps)) (is ∙ sym (append_assoc xs ys zs)) in
    (stops.0, omega (arith, stops.1, parts, whole, longer listed (xs ++ ys) zs))
stops-among had listed xs ys zs all Failed is stops = tt
stops-among had listed xs ys zs all (Damaged damage) is stops = stops
stops-among had listed xs ys zs all OutOfMemory is stops = tt

pub stops-same : (had : ℕ) (listed other ps qs : List (List Step)) (e : EditFault) → length (with_paths listed ps) ≡ length (with_paths other qs) → Stops had listed ps e → Stops had other qs e
stops-same had listed other ps qs (Refused refusal) is stops = (stops.0, omega (arith, stops.1, is))
stops-same had listed other ps qs Failed is stops = tt
stops-same had listed other ps qs (Damaged damage) is stops = stops
stops-same had listed other ps qs OutOfMemory is stops = tt

-- the counts have room for the others too
pub room-after : (paths : List (List Step)) (count : List Step → ℕ) (some more all : ℕ) → length paths ≤ some → some + more ≤ all → ((other : List Step) → count other + all < 2 ^ 32)
    → (other : List Step) → more_on paths count other + more < 2 ^ 32
room-after paths count some more all few within room other = omega (arith, room other, few, within, count_by-le-length (same_path other) paths)

-- want of memory
pub memory-stops_growing : {A : Type 0} (paths : List Step → List (List Step)) (path more had : ℕ) (table : List PathRow) (r : Result A EditFault) → IsErrAnd r (λ e. e ≡ OutOfMemory) → IfErr r (StopsGrowing paths path more had table)
unfolding StopsGrowing
memory-stops_growing paths path more had table (Ok x) is = absurd is
memory-stops_growing paths path more had table (Err e) is = λ listed count steps lists at room. subst (Stops had listed (paths steps)) (sym is) tt

pub fault-breach : {A : Type 0} (o : Option (RecordMap NodeRecord)) (table : List PathRow) (reach : Reach) (r : Result A EditFault) (fault : Fault) → IsErrAnd r (λ e. e ≡ edit_fault fault) → IsBreachFault o table reach fault → IfErr r (IsBreachEdit o table reach)
fault-breach o table reach (Ok x) fault is breach = absurd is
fault-breach o table reach (Err e) faults.Failed is breach = absurd breach
fault-breach o table reach (Err e) (faults.Damaged d) is breach = subst (IsBreachEdit o table reach) (sym is) breach
fault-breach o table reach (Err e) faults.OutOfMemory is breach = absurd breach

pub breach-edit_explains : (edit : Edit) (next : ℕ) (told : Option (RecordMap NodeRecord)) (table : List PathRow) (below : Damage → Type 0) (rose : Type 0) (e : EditFault) → IsBreachEdit told table (reach_of edit next told) e → ExplainsEdit edit next told table below rose e
breach-edit_explains edit next told table below rose (Refused refusal) is = tt
breach-edit_explains edit next told table below rose Failed is = absurd is
breach-edit_explains edit next told table below rose (Damaged d) is = inr (inr (inr is))
breach-edit_explains edit next told table below rose OutOfMemory is = tt

-- the value's path is not as it must be
pub uncounted-stops : {A : Type 0} (v : Value) (n path more had : ℕ) (table : List PathRow) (r : Result A EditFault) (e : EditFault) → 1 ≤ more → IsErrAnd r (λ x. x ≡ e) → CannotCountIn path table
    → IfErr r (StopsGrowing (value_paths v n) path more had table)
unfolding StopsGrowing CannotCountIn
uncounted-stops v n path more had table (Ok x) e some is cannot = absurd is
uncounted-stops v n path more had table (Err x) e some is cannot = λ listed count steps lists at room. absurd (cannot listed count steps lists at (omega (arith, room steps)))

-- what is below a value stops
pub below-stops : (m : Node) (trees : Forest) (path more all had : ℕ) (old mid : List PathRow) (e : EditFault) → suc more ≡ all → IsCountedIn path old mid → StopsGrowing (paths_under_node m trees) path more had mid e
    → StopsGrowing (λ steps. steps ∷ paths_below (Some m) steps trees) path all had old e
unfolding StopsGrowing IsCountedIn
below-stops m trees path more all had old mid e is counted stops listed count steps lists at room =
    let p : List (List Step) = paths_below (Some m) steps trees in
    stops-among had listed (steps ∷ []) p [] (steps ∷ p) e (ap (λ ps. steps ∷ ps) (sym (append-nil p)))
    (subst (λ l. Stops had l p e) (sym (with-one listed steps at.there))
    (stops listed (more_on (steps ∷ []) count) steps (counted listed count steps lists at) at (room-after (steps ∷ []) count 1 more all (omega arith) (omega arith) room)))

-- an array, and an object
pub array-stops : (w : Value) (vs : Values) (n path had : ℕ) (old mid : List PathRow) (e : EditFault) → w ≡ array vs → IsCountedIn path old mid
    → StopsGrowing (paths_under_node (array_node n) (numbered_values vs (suc n))) path (nodes_of_values vs) had mid e → StopsGrowing (value_paths w n) path (nodes w) had old e
array-stops w vs n path had old mid e is counted stops =
    subst (λ v. StopsGrowing (value_paths v n) path (nodes v) had old e) (sym is) (below-stops (array_node n) (numbered_values vs (suc n)) path (nodes_of_values vs) (suc (nodes_of_values vs)) had old mid e refl counted stops)

pub object-stops : (w : Value) (fs : Fields) (n path had : ℕ) (old mid : List PathRow) (e : EditFault) → w ≡ object fs → IsCountedIn path old mid
    → StopsGrowing (paths_under_node (object_node n) (numbered_fields fs (suc n))) path (nodes_of_fields fs) had mid e → StopsGrowing (value_paths w n) path (nodes w) had old e
object-stops w fs n path had old mid e is counted stops =
    subst (λ v. StopsGrowing (value_paths v n) path (nodes v) had old e) (sym is) (below-stops (object_node n) (numbered_fields fs (suc n)) path (nodes_of_fields fs) (suc (nodes_of_fields fs)) had old mid e refl counted stops)

-- the nodes of an array, and of an object
pub array-fits : (number last : ℕ) (w : Value) (vs : Values) → number + nodes w ≤ last → w ≡ array vs → number + 1 + nodes_of_values vs ≤ last
array-fits number last w vs few is = omega (arith, few, ap nodes is)

pub object-fits : (number last : ℕ) (w : Value) (fs : Fields) → number + nodes w ≤ last → w ≡ object fs → number + 1 + nodes_of_fields fs ≤ last
object-fits number last w fs few is = omega (arith, few, ap nodes is)

pub array-drifts : (w : Value) (vs : Values) (old mid new : List PathRow) → Drifts 1 [] old mid → Drifts (nodes_of_values vs) [] mid new → w ≡ array vs → Drifts (nodes w) [] old new
array-drifts w vs old mid new first rest is = drifts-on 1 (nodes_of_values vs) (nodes w) [] old mid new (omega (arith, ap nodes is)) first rest

pub object-drifts : (w : Value) (fs : Fields) (old mid new : List PathRow) → Drifts 1 [] old mid → Drifts (nodes_of_fields fs) [] mid new → w ≡ object fs → Drifts (nodes w) [] old new
object-drifts w fs old mid new first rest is = drifts-on 1 (nodes_of_fields fs) (nodes w) [] old mid new (omega (arith, ap nodes is)) first rest

-- ---- child by child

-- The paths of a child's tree stand behind those of the children so far, among all. So many nodes are so far, and so many the child.
pub record IsAmong (m : Node) (so_far all : Forest) (child : List Step → List (List Step)) : Type 0 where
  pub rest : List Step → List (List Step)
  pub is : (steps : List Step) → paths_below (Some m) steps all ≡ paths_below (Some m) steps so_far ++ (child steps ++ rest steps)

module _ (m : Node) (path : ℕ) (right : Option ℕ) (old : Children) (so_far all : Forest) (had : ℕ) (a b : Kept) (hung : IsHung m path right old so_far a b) where
  -- the path of the child stops it
  pub onto-stops : (v : Value) (n more : ℕ) (step : Step) (e : EditFault) → IsAmong m so_far all (λ steps. value_paths v n (step ∷ steps)) → StopsOnto path step had b.table e
      → StopsGrowing (paths_under_node m all) path more had a.table e
  unfolding StopsGrowing StopsOnto IsGrown
  onto-stops v n more step e among stops listed count steps lists at room =
      let p : List (List Step) = paths_below (Some m) steps so_far in
      let here : List Step = step ∷ steps in
      let first = hung.grown listed count steps lists at in
      let inner : List (List Step) = paths_below (Some (top_of v n)) here (trees_below v n) in
      stops-among had listed p (here ∷ []) (inner ++ among.rest steps) (paths_below (Some m) steps all) e (among.is steps)
      (stops (with_paths listed p) (more_on p count) steps first.0 (start-at (with_paths listed p) steps path (path-with listed p steps path at)))

  -- the child's value stops it
  pub child-stops : (v : Value) (n on more : ℕ) (step : Step) (mid : List PathRow) (e : EditFault) → IsAmong m so_far all (λ steps. value_paths v n (step ∷ steps)) → size so_far + nodes v ≤ more
      → IsOnto path step on b.table mid → StopsGrowing (value_paths v n) on (nodes v) had mid e → StopsGrowing (paths_under_node m all) path more had a.table e
  unfolding StopsGrowing IsOnto IsGrown
  child-stops v n on more step mid e among within onto stops listed count steps lists at room =
      let p : List (List Step) = paths_below (Some m) steps so_far in
      let here : List Step = step ∷ steps in
      let first = hung.grown listed count steps lists at in
      let second = onto (with_paths listed p) (more_on p count) steps first.0 (start-at (with_paths listed p) steps path (path-with listed p steps path at)) in
      let done = stops (with_paths (with_paths listed p) (here ∷ [])) (more_on p count) here second.0 second.1 (room-after p count (size so_far) (nodes v) more (paths-few (Some m) steps so_far) within room) in
      let inner : List (List Step) = paths_below (Some (top_of v n)) here (trees_below v n) in
      stops-among had listed p (value_paths v n here) (among.rest steps) (paths_below (Some m) steps all) e (among.is steps)
      (stops-same had (with_paths (with_paths listed p) (here ∷ [])) (with_paths listed p) (here ∷ inner) (here ∷ inner) e (ap length (with-twice (with_paths listed p) here inner)) done)

pub named-stops : (path : ℕ) (name : List ℕ) (step : Step) (had : ℕ) (old : List PathRow) (e : EditFault) → step ≡ Name name → StopsOnto path step had old e → StopsOnto path (Name name) had old e
named-stops path name step had old e is = subst (λ s. StopsOnto path s had old e) is

-- ---- values and members among others

split-tree : (v : Value) (n : ℕ) (rest : Forest) (m : Node) (steps : List Step)
    → paths_below (Some m) steps (numbered v n rest) ≡ paths_below (Some m) steps (numbered v n no_trees) ++ paths_below (Some m) steps rest
split-tree v n rest m steps = ap (paths_below (Some m) steps) (sym (beside-numbered v n no_trees rest)) ∙ paths-beside (Some m) steps (numbered v n no_trees) rest

values-among : (m : Node) (xs : List Json) (i : ℕ) (x : Json) (n : ℕ) → i < length xs → x ≡ get_or xs i x
    → IsAmong m (numbered_values (values_of (take i xs)) n) (numbered_values (values_of xs) n)
    (λ steps. paths_below (Some m) steps (numbered (value_of x) (n + nodes_of_values (values_of (take i xs))) no_trees))
values-among m [] i x n below is = absurd (omega arith)
values-among m (y ∷ ys) zero x n below is =
    let start : n ≡ n + 0 = omega arith in
    record {
      rest = λ steps. paths_below (Some m) steps (numbered_values (values_of ys) (n + nodes (value_of y)));
      is = λ steps. split-tree (value_of y) n (numbered_values (values_of ys) (n + nodes (value_of y))) m steps
          ∙ (λ j. paths_below (Some m) steps (numbered (value_of (sym is j)) (start j) no_trees) ++ paths_below (Some m) steps (numbered_values (values_of ys) (n + nodes (value_of y))));
    }
values-among m (y ∷ ys) (suc i) x n below is =
    let next : ℕ = n + nodes (value_of y) in
    let inner = values-among m ys i x next (omega arith) is in
    let start : next + nodes_of_values (values_of (take i ys)) ≡ n + (nodes (value_of y) + nodes_of_values (values_of (take i ys))) = omega arith in
    record {
      rest = inner.rest;
      is = λ steps. split-tree (value_of y) n (numbered_values (values_of ys) next) m steps ∙ ap (λ ps. paths_below (Some m) steps (numbered (value_of y) n no_trees) ++ ps) (inner.is steps)
          ∙ sym (append_assoc (paths_below (Some m) steps (numbered (value_of y) n no_trees)) _ _)
          ∙ (λ j. sym (split-tree (value_of y) n (numbered_values (values_of (take i ys)) next) m steps) j ++ (paths_below (Some m) steps (numbered (value_of x) (start j) no_trees) ++ inner.rest steps));
    }

members-among : (m : Node) (ms : List (List ℕ × Json)) (i : ℕ) (l : List ℕ × Json) (n : ℕ) → i < length ms → l ≡ get_or ms i l
    → IsAmong m (numbered_fields (fields_of (take i ms)) n) (numbered_fields (fields_of ms) n)
    (λ steps. paths_below (Some m) steps (numbered_fields (field_then l.0 (value_of l.1) no_fields) (n + nodes_of_fields (fields_of (take i ms)))))
members-among m [] i l n below is = absurd (omega arith)
members-among m (k ∷ ks) zero l n below is =
    let start : n ≡ n + 0 = omega arith in
    let next : ℕ = suc n + nodes (value_of k.1) in
    record {
      rest = λ steps. paths_below (Some m) steps (numbered_fields (fields_of ks) next);
      is = λ steps. paths-beside (Some m) steps (numbered_fields (field_then k.0 (value_of k.1) no_fields) n) (numbered_fields (fields_of ks) next)
          ∙ (λ j. paths_below (Some m) steps (numbered_fields (field_then (sym is j).0 (value_of (sym is j).1) no_fields) (start j)) ++ paths_below (Some m) steps (numbered_fields (fields_of ks) next));
    }
members-among m (k ∷ ks) (suc i) l n below is =
    let next : ℕ = suc n + nodes (value_of k.1) in
    let one : Forest = numbered_fields (field_then k.0 (value_of k.1) no_fields) n in
    let inner = members-among m ks i l next (omega arith) is in
    let start : next + nodes_of_fields (fields_of (take i ks)) ≡ n + (suc (nodes (value_of k.1)) + nodes_of_fields (fields_of (take i ks))) = omega arith in
    record {
      rest = inner.rest;
      is = λ steps. paths-beside (Some m) steps one (numbered_fields (fields_of ks) next) ∙ ap (λ ps. paths_below (Some m) steps one ++ ps) (inner.is steps)
          ∙ sym (append_assoc (paths_below (Some m) steps one) _ _)
          ∙ (λ j. sym (paths-beside (Some m) steps one (numbered_fields (fields_of (take i ks)) next)) j
          ++ (paths_below (Some m) steps (numbered_fields (field_then l.0 (value_of l.1) no_fields) (start j)) ++ inner.rest steps));
    }

pub items-among : (parent path : ℕ) (right : Option ℕ) (xs : List Json) (i : ℕ) (x : Json) (old : Children) (a b : Kept) → i < length xs → x ≡ get_or xs i x
    → IsHung (array_node parent) path right old (numbered_values (values_of (take i xs)) (suc parent)) a b
    → IsAmong (array_node parent) (numbered_values (values_of (take i xs)) (suc parent)) (numbered_values (values_of xs) (suc parent)) (λ steps. value_paths (value_of x) (parent + 1 + old.nodes) (Item ∷ steps))
items-among parent path right xs i x old a b here is hung =
    let among = values-among (array_node parent) xs i x (suc parent) here is in
    let start : suc parent + nodes_of_values (values_of (take i xs)) ≡ parent + 1 + old.nodes = omega (arith, hung.kept_is.nodes, size-numbered_values (values_of (take i xs)) (suc parent)) in
    record {
      rest = among.rest;
      is = λ steps. among.is steps ∙ ap (λ ps. paths_below (Some (array_node parent)) steps (numbered_values (values_of (take i xs)) (suc parent)) ++ (ps ++ among.rest steps))
          ((λ j. paths_below (Some (array_node parent)) steps (numbered (value_of x) (start j) no_trees)) ∙ paths-value (value_of x) (parent + 1 + old.nodes) (array_node parent) steps);
    }

pub names-among : (parent path : ℕ) (right : Option ℕ) (ms : List (List ℕ × Json)) (i : ℕ) (l : List ℕ × Json) (old : Children) (at : ℕ) (a b : Kept) → IsMember ms i l → at ≡ suc (parent + 1 + old.nodes)
    → IsHung (object_node parent) path right old (numbered_fields (fields_of (take i ms)) (suc parent)) a b
    → IsAmong (object_node parent) (numbered_fields (fields_of (take i ms)) (suc parent)) (numbered_fields (fields_of ms) (suc parent)) (λ steps. value_paths (value_of l.1) at (Name l.0 ∷ steps))
names-among parent path right ms i l old at a b there at_is hung =
    let among = members-among (object_node parent) ms i l (suc parent) there.here there.is in
    let number : ℕ = parent + 1 + old.nodes in
    let start : suc parent + nodes_of_fields (fields_of (take i ms)) ≡ number = omega (arith, hung.kept_is.nodes, size-numbered_fields (fields_of (take i ms)) (suc parent)) in
    let key : Node = record { number = number; kind = Key; label = l.0 } in
    record {
      rest = among.rest;
      is = λ steps. among.is steps ∙ ap (λ ps. paths_below (Some (object_node parent)) steps (numbered_fields (fields_of (take i ms)) (suc parent)) ++ (ps ++ among.rest steps))
          ((λ j. paths_below (Some (object_node parent)) steps (numbered_fields (field_then l.0 (value_of l.1) no_fields) (start j)))
          ∙ append-nil (paths_below (Some key) (Name l.0 ∷ steps) (numbered (value_of l.1) (suc number) no_trees))
          ∙ (λ j. paths_below (Some key) (Name l.0 ∷ steps) (numbered (value_of l.1) (sym at_is j) no_trees)) ∙ paths-value (value_of l.1) at key (Name l.0 ∷ steps));
    }

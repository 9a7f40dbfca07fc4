-- What holds of each revision of legal commits.
use Rattle.std.proofs.Common.{◌≡◌, ◌∙◌, ℕ, zero, suc, ◌+◌, ◌<◌, ◌≤◌, Bool, true, false, if◌then◌else◌, List, [], ◌∷◌, ◌++◌, length, take, Option, Some, None, Result, Ok, Err, refl, ap, arith, length-append}
use Rattle.std.specs.Prelude.{ℤ, ◌==◌, ◌&&◌, ◌||◌, cond, is_none, is_some, not, option_and_then, slice_get}
use Rattle.std.specs.List.{AllByRecursion, IsDistinct, list_any}
use lib.Dec.{eqb}
use Rattle.std.proofs.lemmas.Map.Steps.{length-le_from_distinct_below}
use Rattle.std.specs.Result.{result_unwrap_or}
use Rattle.std.specs.Option.{option_or}
use Rattle.std.specs.Ordering.{eq_by_cmp, nat_cmp}
use Rattle.std.specs.FinMap.{find}
use Rattle.std.proofs.lemmas.Bool.Decides.{nat_tests}
use Rattle.std.proofs.lemmas.Option.{slice_get_past}
use Rattle.sx_tree.specs.Value.{Value, nodes}
use Rattle.sx_tree.specs.declared.edit.EditRefusal.{EditRefusal}
use Rattle.sx_tree.specs.declared.edit.EditRefusal.TheVariants.{NameMissing, NameUnasked}
use Rattle.sx_tree.specs.declared.edit.Place.{Place}
use Rattle.sx_tree.specs.declared.edit.Place.TheVariants.{Last}
use Rattle.sx_tree.specs.declared.record.Step.{Step}
use Rattle.sx_model.specs.Commit.{AreLegal, Commit, IsLegal, first_time, replay, state_of}
use Rattle.sx_model.specs.Edit.{Edit, Target, after, apply, child_of, document_full, edited, entering, if_place, if_there, insert, insert_at, insert_below, inserted, load, load_over, must_stay, name_taken, named_by, numbers_spent, other_keys, paths_spent, remove, rename, replace, replace_at, set_scalar, target, too_deep, unless, when, with_trees, wrong_kind}
use Rattle.sx_model.specs.Hash.{local_hash}
use Rattle.sx_model.specs.Numbered.{numbered, scalar_node}
use Rattle.sx_model.specs.Paths.{number_of, paths_in, same_path, with_paths}
use Rattle.sx_model.specs.Records.{Around, NodeRow, around_children, at_top, entry, first_of, node, path_row, row, rows}
use Rattle.sx_model.specs.Sound.{AreBelow, IsSound}
use Rattle.sx_model.specs.State.{State, empty_document}
use Rattle.sx_model.specs.Tree.{AreApart, Forest, Node, Spot, change_at, is_key, is_object, is_scalar, is_value, no_trees, numbers, size, spot, tops, tree_then}
use Rattle.sx_model.proofs.Sound.{legal-sound}

legal_take_from : (r : ℕ) (commits : List Commit) (time : ℤ) (state : State) → AreLegal time state commits → AreLegal time state (take r commits)
legal_take_from zero commits time state legal = tt
legal_take_from (suc r) [] time state legal = tt
legal_take_from (suc r) (commit ∷ commits) time state legal =
    (legal.0, legal.1, legal.2, legal_take_from r commits commit.time (after commit.edits state) legal.3)

-- The first of legal commits are legal.
pub legal_take : (r : ℕ) (commits : List Commit) → IsLegal commits → IsLegal (take r commits)
legal_take r commits legal = legal_take_from r commits first_time empty_document legal

pub revision-sound : (commits : List Commit) (r : ℕ) → IsLegal commits → IsSound (state_of commits r)
revision-sound commits r legal = legal-sound (take r commits) (legal_take r commits legal)

-- ---- which nodes there are

some_eq : {X : Type 0} (a b : X) → Some a ≡ Some b → a ≡ b
some_eq a b is = cc

at_front : (trees : Forest) (number : List Step → ℕ) (around : Around) → slice_get (numbers trees) 0 ≡ Some 0
    → (first : NodeRow) × (find nat_cmp 0 (rows local_hash number around trees) ≡ Some first)
at_front no_trees number around zero_is = cc zero_is
at_front (tree_then n below rest) number around zero_is =
    let is : n.number ≡ 0 = some_eq n.number 0 zero_is in
    let here = row local_hash number (record around { right = option_or (first_of rest) around.right }) n below in
    (here, ap (λ (k : ℕ). find nat_cmp 0 ((k, here) ∷ (rows local_hash number (around_children around n) below ++ rows local_hash number (record around { left = Some n.number }) rest))) is)

-- the Document is in each state
pub document_there : (state : State) → IsSound state → (first : NodeRow) × (node state 0 ≡ Some first)
document_there state sound = at_front state.trees (number_of state.paths) at_top sound.well_formed.zero

none_append : (k : ℕ) (xs ys : List (ℕ × NodeRow)) → find nat_cmp k xs ≡ None → find nat_cmp k ys ≡ None → find nat_cmp k (xs ++ ys) ≡ None
none_append k [] ys left right = right
none_append k (x ∷ xs) ys left right = by (eq_by_cmp nat_cmp k x.0) (none_append k xs ys) left
  where
    by : (b : Bool) → (find nat_cmp k xs ≡ None → find nat_cmp k ys ≡ None → find nat_cmp k (xs ++ ys) ≡ None) → cond b (Some x.1) (find nat_cmp k xs) ≡ None
        → cond b (Some x.1) (find nat_cmp k (xs ++ ys)) ≡ None
    by true rest none = cc none
    by false rest none = rest none right

below_parts : (limit : ℕ) (xs ys : List ℕ) → AreBelow limit (xs ++ ys) → AreBelow limit xs × AreBelow limit ys
below_parts limit [] ys all = (tt, all)
below_parts limit (x ∷ xs) ys all = let rest = below_parts limit xs ys all.1 in ((all.0, rest.0), rest.1)

not_same : (k n limit : ℕ) → n < limit → limit ≤ k → eq_by_cmp nat_cmp k n ≡ false
not_same k n limit below le = grind (arith, nat_tests)

no_row : (limit k : ℕ) (number : List Step → ℕ) (around : Around) (trees : Forest) → limit ≤ k → AreBelow limit (numbers trees) → find nat_cmp k (rows local_hash number around trees) ≡ None
no_row limit k number around no_trees le below = refl
no_row limit k number around (tree_then n under rest) le below =
    let parts = below_parts limit (numbers under) (numbers rest) below.1 in
    let more = rows local_hash number (around_children around n) under ++ rows local_hash number (record around { left = Some n.number }) rest in
    let others : find nat_cmp k more ≡ None =
    none_append k (rows local_hash number (around_children around n) under) (rows local_hash number (record around { left = Some n.number }) rest)
    (no_row limit k number (around_children around n) under le parts.0) (no_row limit k number (record around { left = Some n.number }) rest le parts.1) in
    ap (λ (b : Bool). cond b (Some (row local_hash number (record around { right = option_or (first_of rest) around.right }) n under)) (find nat_cmp k more)) (not_same k n.number limit below.0 le) ∙ others

-- no node has the next number or one above it
pub node_beyond : (state : State) (k : ℕ) → IsSound state → state.next ≤ k → node state k ≡ None
node_beyond state k sound le = no_row state.next k (number_of state.paths) at_top state.trees le sound.given

pub entry_beyond : (state : State) (p : ℕ) → length state.paths < p → entry state p ≡ None
entry_beyond state zero beyond = absurd (omega arith)
entry_beyond state (suc place) beyond = ap (λ (o : Option (List Step)). option_and_then (path_row state) o) (slice_get_past state.paths place (omega arith))

-- ---- what never falls

-- the next number and the number of paths are not below those of the old state
pub record Grows (old new : State) : Type 0 where
  pub next : old.next ≤ new.next
  pub paths : length old.paths ≤ length new.paths

abbrev IfGrows : State → Result State EditRefusal → Type 0
IfGrows old (Ok new) = Grows old new
IfGrows old (Err refusal) = Unit {0}

more_paths : (listed more : List (List Step)) → length listed ≤ length (with_paths listed more)
more_paths listed [] = omega arith
more_paths listed (path ∷ paths) = let rest = more_paths (if list_any (same_path path) listed then listed else listed ++ path ∷ []) paths in omega (arith, added (list_any (same_path path) listed), rest)
  where
    added : (b : Bool) → length listed ≤ length (if b then listed else listed ++ path ∷ [])
    added true = omega arith
    added false = omega (arith, length-append listed (path ∷ []))

unless_grows : (refusals : List (Option EditRefusal)) (old : State) (more : ℕ) (trees : Forest) → IfGrows old (unless refusals (with_trees old more trees))
unless_grows [] old more trees = record { next = omega arith; paths = more_paths old.paths (paths_in trees) }
unless_grows (None ∷ refusals) old more trees = unless_grows refusals old more trees
unless_grows (Some refusal ∷ refusals) old more trees = tt

there_grows : (old : State) (k : ℕ) (make : Spot → Result State EditRefusal) (o : Option Spot) → ((s : Spot) → IfGrows old (make s)) → IfGrows old (if_there k make o)
there_grows old k make None each = tt
there_grows old k make (Some s) each = each s

place_grows : (old : State) (n : Node) (make : Target → Result State EditRefusal) (o : Option Target) → ((into : Target) → IfGrows old (make into)) → IfGrows old (if_place n make o)
place_grows old n make None each = tt
place_grows old n make (Some into) each = each into

insert_grows : (place : Place) (name : Option (List ℕ)) (v : Value) (old : State) → IfGrows old (insert_at place name v old)
insert_grows place name v old =
    there_grows old (named_by place) (λ s. if_place s.node (insert_below place name v old) (target place s)) (spot (named_by place) old.trees)
    (λ s. place_grows old s.node (insert_below place name v old) (target place s) (λ into. below into))
  where
    below : (into : Target) → IfGrows old (insert_below place name v old into)
    below into =
        let more : ℕ = if is_object into.parent.kind then 1 + nodes v else nodes v in
        let trees : Forest = inserted place (entering name v old.next) old.trees in
        unless_grows (
        option_and_then (λ asked. name_taken asked (tops into.children)) name
        ∷ document_full into.parent (tops into.children)
        ∷ too_deep (into.parent ∷ into.above) v
        ∷ numbers_spent old more
        ∷ when (is_object into.parent.kind && is_none name) NameMissing
        ∷ when (not (is_object into.parent.kind) && is_some name) NameUnasked
        ∷ paths_spent old (with_trees old more trees)
        ∷ []
        ) old more trees

replace_grows : (k : ℕ) (v : Value) (old : State) → IfGrows old (replace_at k v old)
replace_grows k v old =
    let trees : Forest = change_at k (λ n below rest. numbered v old.next rest) old.trees in
    let refusals = λ (t : Spot). wrong_kind (not (is_value t.node.kind)) t.node ∷ too_deep t.above v ∷ numbers_spent old (nodes v) ∷ paths_spent old (with_trees old (nodes v) trees) ∷ [] in
    there_grows old k (λ t. unless (refusals t) (with_trees old (nodes v) trees)) (spot k old.trees) (λ t. unless_grows (refusals t) old (nodes v) trees)

-- an edit that makes no node
kept_grows : (k : ℕ) (trees : Forest) (refusals : Spot → List (Option EditRefusal)) (old : State) → IfGrows old (if_there k (λ t. unless (refusals t) (with_trees old 0 trees)) (spot k old.trees))
kept_grows k trees refusals old = there_grows old k (λ t. unless (refusals t) (with_trees old 0 trees)) (spot k old.trees) (λ t. unless_grows (refusals t) old 0 trees)

load_grows : (child : Option Node) (v : Value) (old : State) → IfGrows old (load_over child v old)
load_grows None v old = insert_grows (Last 0) None v old
load_grows (Some n) v old = replace_grows n.number v old

apply_grows : (edit : Edit) (old : State) → IfGrows old (apply edit old)
apply_grows (load v) old = load_grows (child_of old.trees) v old
apply_grows (insert place name v) old = insert_grows place name v old
apply_grows (set_scalar k s) old =
    let trees : Forest = change_at k (λ n below rest. tree_then (scalar_node k s) below rest) old.trees in
    kept_grows k trees (λ t. wrong_kind (not (is_scalar t.node.kind)) t.node ∷ paths_spent old (with_trees old 0 trees) ∷ []) old
apply_grows (replace k v) old = replace_grows k v old
apply_grows (rename k name) old =
    let trees : Forest = change_at k (λ n below rest. tree_then (record n { label = name }) below rest) old.trees in
    kept_grows k trees (λ t. wrong_kind (not (is_key t.node.kind)) t.node ∷ name_taken name (other_keys t) ∷ paths_spent old (with_trees old 0 trees) ∷ []) old
apply_grows (remove k) old =
    let trees : Forest = change_at k (λ n below rest. rest) old.trees in
    kept_grows k trees (λ t. wrong_kind (must_stay t.above) t.node ∷ paths_spent old (with_trees old 0 trees) ∷ []) old

grows_on : (a b c : State) → Grows a b → Grows b c → Grows a c
grows_on a b c first second = let p = first.next in let q = first.paths in let r = second.next in let s = second.paths in record { next = omega arith; paths = omega arith }

still : (state : State) → Grows state state
still state = record { next = omega arith; paths = omega arith }

edited_grows : (old : State) (r : Result State EditRefusal) → IfGrows old r → Grows old (result_unwrap_or r old)
edited_grows old (Ok new) is = is
edited_grows old (Err refusal) is = still old

after_grows : (edits : List Edit) (state : State) → Grows state (after edits state)
after_grows [] state = still state
after_grows (edit ∷ edits) state =
    grows_on state (edited edit state) (after edits (edited edit state)) (edited_grows state (apply edit state) (apply_grows edit state)) (after_grows edits (edited edit state))

replay_grows : (r : ℕ) (commits : List Commit) (state : State) → Grows (replay (take r commits) state) (replay (take (suc r) commits) state)
replay_grows zero [] state = still state
replay_grows zero (commit ∷ commits) state = after_grows commit.edits state
replay_grows (suc r) [] state = still state
replay_grows (suc r) (commit ∷ commits) state = replay_grows r commits (after commit.edits state)

-- from one revision to the next
pub revision_grows : (commits : List Commit) (r : ℕ) → Grows (state_of commits r) (state_of commits (suc r))
revision_grows commits r = replay_grows r commits empty_document

-- ---- there are no more nodes than numbers

length_numbers : (trees : Forest) → length (numbers trees) ≡ size trees
length_numbers no_trees = refl
length_numbers (tree_then n under rest) = omega (arith, length-append (numbers under) (numbers rest), length_numbers under, length_numbers rest)

neither : (a b : Bool) → (a || b) ≡ false → (a ≡ false) × (b ≡ false)
neither true b is = cc is
neither false b is = (refl, is)

none_same : (k : ℕ) (ks : List ℕ) → list_any (λ m. k == m) ks ≡ false → AllByRecursion (λ m. eqb k m ≡ false) ks
none_same k [] none = tt
none_same k (m ∷ ks) none = let parts = neither (k == m) (list_any (λ m. k == m) ks) none in (parts.0, none_same k ks parts.1)

distinct : (ks : List ℕ) → AreApart (λ k m. k == m) ks → IsDistinct eqb ks
unfolding IsDistinct
distinct [] apart = tt
distinct (k ∷ ks) apart = (none_same k ks apart.0, distinct ks apart.1)

below_head : (limit q k : ℕ) (rest b : Bool) → k < limit → (rest ≡ true → q < limit) → eqb q k ≡ b → (b || rest) ≡ true → q < limit
below_head limit q k rest true here later same is = let e : q ≡ k = grind (arith, nat_tests) in omega (arith, e, here)
below_head limit q k rest false here later same is = later is

below_one : (limit : ℕ) (ks : List ℕ) (q : ℕ) → AreBelow limit ks → list_any (eqb q) ks ≡ true → q < limit
below_one limit [] q below is = cc is
below_one limit (k ∷ ks) q below is = below_head limit q k (list_any (eqb q) ks) (eqb q k) below.0 (below_one limit ks q below.1) refl is

-- a sound state has at most as many nodes as its next number says
pub few_nodes : (state : State) → IsSound state → size state.trees ≤ state.next
few_nodes state sound =
    let long = length_numbers state.trees in
    let le = length-le_from_distinct_below (numbers state.trees) state.next (distinct (numbers state.trees) sound.well_formed.distinct) (λ q. below_one state.next (numbers state.trees) q sound.given) in
    omega (arith, long, le)

-- and one node at least
pub some_node : (state : State) → IsSound state → 1 ≤ size state.trees
some_node state sound = by state.trees sound.well_formed.zero
  where
    by : (trees : Forest) → slice_get (numbers trees) 0 ≡ Some 0 → 1 ≤ size trees
    by no_trees is = cc is
    by (tree_then n under rest) is = omega arith

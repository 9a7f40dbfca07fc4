-- How many bytes the body of a state has.
use Rattle.std.proofs.Common.{◌≡◌, ◌∙◌, ℕ, ◌+◌, ◌<◌, ◌≤◌, Bool, true, false, cond, List, [], ◌∷◌, ◌++◌, length, map, refl, ap, sym, subst, arith, length-append, Option, Some, None}
use Rattle.std.specs.Prelude.{T, flat_map, sum, ◌&&◌, is_some}
use Rattle.std.specs.Int.{w32, w128, to_be_bytes}
use Rattle.std.specs.List.{AllByRecursion, list_any}
use Rattle.std.specs.Option.{option_map}
use Rattle.std.specs.Cmp.{nat_cmp_is}
use Rattle.std.specs.Ordering.{nat_cmp, eq_by_cmp, is_lt, is_eq}
use Rattle.std.specs.FinMap as fin
use Rattle.std.specs.FinMap.{find, is_sorted, get-entries, entries_sorted}
use Rattle.std.specs.FinMap.Entries.{below_all, is_some-find}
use Rattle.std.specs.declared.cmp.Ordering.{Ordering}
use Rattle.std.specs.declared.cmp.Ordering.TheVariants.{Less, Equal, Greater}
use Rattle.std.proofs.lemmas.Grind.{common_steps}
use Rattle.std.proofs.lemmas.List.Sums.{sum_by-cons}
use Rattle.sx_tree.specs.declared.record.Kind.{Kind}
use Rattle.sx_tree.specs.declared.record.NodeRecord.{NodeRecord}
use Rattle.sx_tree.specs.declared.record.Step.{Step}
use Rattle.sx_model.specs.Paths.{count_on, number_of}
use Rattle.sx_model.specs.Hash.{local_hash}
use Rattle.sx_model.specs.Records.{Around, NodeRow, around_children, at_top, rows}
use Rattle.sx_model.specs.Sound.{AreBelow}
use Rattle.sx_model.specs.State.{State}
use Rattle.sx_model.specs.Tree.{Forest, no_trees, tree_then, numbers}
use Rattle.sx_paths.specs.Listed.{row_by}
use Rattle.sx_paths.specs.OfState.{path_rows}
use Rattle.sx_record.specs.Spelling.{NodeFields, PathFields, node_bytes, path_bytes, node_fields, text_bytes}
use Rattle.sx_view.specs.Records.{RecordMap}
use Rattle.sx_view.specs.Rows.{row_of}
use Rattle.sx_edit.specs.Edited.{rows_in}
use Rattle.sx_edit.specs.Told.{AreDistinct, Shows, numbers_of}
use Rattle.sx_edit.proofs.Climbing.{map-append, numbers-rows}
use Rattle.sx_edit.proofs.Showing.{apart-entry}
use Rattle.sx_whole.specs.Body.{body_bytes, node_entry, path_entry, row_fields}
use Rattle.sx_whole.specs.Stands.{body_size, nodes_size, path_size}

-- ---- the weight of entries

-- the sum over the values
abbrev pub weight : {R : Type 0} → (R → ℕ) → List (ℕ × R) → ℕ
weight f [] = 0
weight f (e ∷ es) = f e.1 + weight f es

weight-append : {R : Type 0} (f : R → ℕ) (xs ys : List (ℕ × R)) → weight f (xs ++ ys) ≡ weight f xs + weight f ys
weight-append f [] ys = omega arith
weight-append f (x ∷ xs) ys = let rest = weight-append f xs ys in omega (arith, rest)

weight-middle : {R : Type 0} (f : R → ℕ) (xs ys : List (ℕ × R)) (k : ℕ) (w : R) → weight f (xs ++ (k, w) ∷ ys) ≡ f w + weight f (xs ++ ys)
weight-middle f [] ys k w = refl
weight-middle f (x ∷ xs) ys k w = let rest = weight-middle f xs ys k w in omega (arith, rest)

first : (a b : Bool) → T (a && b) → T a
first true b both = tt
first false b both = both

second : (a b : Bool) → T (a && b) → T b
second true b both = both
second false b both = absurd both

unlike : (o : Ordering) → T (is_lt o) → is_eq o ≡ false
unlike Less lt = refl
unlike Equal lt = absurd lt
unlike Greater lt = absurd lt

same : (q k : ℕ) → eq_by_cmp nat_cmp q k ≡ true → q ≡ k
same q k is = grind (arith, common_steps)

alike : (k : ℕ) → eq_by_cmp nat_cmp k k ≡ true
alike k = ap is_eq (sym (nat_cmp_is k k Equal refl))

find-below : {R : Type 0} (k : ℕ) (es : List (ℕ × R)) → T (below_all nat_cmp k es) → find nat_cmp k es ≡ None
find-below k [] below = refl
find-below k (e ∷ es) below =
    ap (λ (b : Bool). cond b (Some e.1) (find nat_cmp k es)) (unlike (nat_cmp k e.0) (first _ _ below)) ∙ find-below k es (second _ _ below)

find-head : {R : Type 0} (k : ℕ) (v : R) (es : List (ℕ × R)) → find nat_cmp k ((k, v) ∷ es) ≡ Some v
find-head k v es = ap (λ (b : Bool). cond b (Some v) (find nat_cmp k es)) (alike k)

find-new : {X : Type 0} (es : List (ℕ × X)) (k : ℕ) → list_any (eq_by_cmp nat_cmp k) (map (λ e. e.0) es) ≡ false → find nat_cmp k es ≡ None
find-new es k new = grind (arith, common_steps, is_some-find nat_cmp k es)

-- where an entry that is found stands
record Place {R : Type 0} (xs : List (ℕ × R)) (k : ℕ) (w : R) : Type 0 where
  before : List (ℕ × R)
  behind : List (ℕ × R)
  parts : xs ≡ before ++ (k, w) ∷ behind

some-is : {R : Type 0} (a b : R) → Some a ≡ Some b → a ≡ b
some-is a b is = cc is

place : {R : Type 0} (xs : List (ℕ × R)) (k : ℕ) (w : R) → find nat_cmp k xs ≡ Some w → Place xs k w
place {R} [] k w found = absurd (cc found)
place {R} (x ∷ xs) k w found = at (eq_by_cmp nat_cmp k x.0) refl (place xs k w)
  where
    at : (b : Bool) → eq_by_cmp nat_cmp k x.0 ≡ b → (find nat_cmp k xs ≡ Some w → Place xs k w) → Place (x ∷ xs) k w
    at true is later =
        let value : x.1 ≡ w = some-is x.1 w (sym (ap (λ (b : Bool). cond b (Some x.1) (find nat_cmp k xs)) is) ∙ found) in
        record { before = []; behind = xs; parts = ap (λ (n : ℕ). (n, x.1) ∷ xs) (sym (same k x.0 is)) ∙ ap (λ (v : R). (k, v) ∷ xs) value }
    at false is later =
        let rest = later (sym (ap (λ (b : Bool). cond b (Some x.1) (find nat_cmp k xs)) is) ∙ found) in
        record { before = x ∷ rest.before; behind = rest.behind; parts = ap (λ (l : List (ℕ × R)). x ∷ l) rest.parts }

skipped : {X : Type 0} (xs : List (ℕ × X)) (x : ℕ × X) (k : ℕ) → find nat_cmp k (x ∷ xs) ≡ None → find nat_cmp k xs ≡ None
skipped xs x k none = grind (arith, common_steps)

find-gone : {X : Type 0} (xs ys : List (ℕ × X)) (k : ℕ) (v : X) (q : ℕ) → find nat_cmp k xs ≡ None → find nat_cmp k ys ≡ None
    → cond (eq_by_cmp nat_cmp q k) None (find nat_cmp q (xs ++ (k, v) ∷ ys)) ≡ find nat_cmp q (xs ++ ys)
find-gone [] ys k v q before behind = gone (eq_by_cmp nat_cmp q k) refl
  where
    gone : (b : Bool) → eq_by_cmp nat_cmp q k ≡ b → cond b None (cond b (Some v) (find nat_cmp q ys)) ≡ find nat_cmp q ys
    gone true is = sym (ap (λ z. find nat_cmp z ys) (same q k is) ∙ behind)
    gone false is = refl
find-gone (x ∷ xs) ys k v q before behind = grind (arith, common_steps, find-gone xs ys k v q (skipped xs x k before) behind)

-- the records show the rows
abbrev AreAlike : List (ℕ × NodeRecord) → List (ℕ × NodeRow) → Type 0
AreAlike es xs = (q : ℕ) → option_map row_of (find nat_cmp q es) ≡ find nat_cmp q xs

find-rest : (e : ℕ × NodeRecord) (es : List (ℕ × NodeRecord)) (q : ℕ) → find nat_cmp e.0 es ≡ None
    → option_map row_of (find nat_cmp q es) ≡ cond (eq_by_cmp nat_cmp q e.0) None (option_map row_of (find nat_cmp q (e ∷ es)))
find-rest e es q none = rest (eq_by_cmp nat_cmp q e.0) refl
  where
    rest : (b : Bool) → eq_by_cmp nat_cmp q e.0 ≡ b → option_map row_of (find nat_cmp q es) ≡ cond b None (option_map row_of (cond b (Some e.1) (find nat_cmp q es)))
    rest true is = ap (λ (z : ℕ). option_map row_of (find nat_cmp z es)) (same q e.0 is) ∙ ap (option_map row_of) none
    rest false is = refl

-- Records that show rows with distinct numbers have the same weight.
weight-same : (f : NodeRow → ℕ) (es : List (ℕ × NodeRecord)) (xs : List (ℕ × NodeRow)) → T (is_sorted nat_cmp es) → AreDistinct (numbers_of xs) → AreAlike es xs
    → weight (λ r. f (row_of r)) es ≡ weight f xs
weight-same f [] [] sorted distinct are = refl
weight-same f [] (x ∷ xs) sorted distinct are = absurd (cc (are x.0 ∙ find-head x.0 x.1 xs))
weight-same f (e ∷ es) xs sorted distinct are =
    let w : NodeRow = row_of e.1 in
    let at = place xs e.0 w (sym (are e.0) ∙ ap (option_map row_of) (find-head e.0 e.1 es)) in
    let apart = apart-entry at.before at.behind e.0 w (subst (λ l. AreDistinct (numbers_of l)) at.parts distinct) in
    let none = find-below e.0 es (first _ _ sorted) in
    let others : AreDistinct (numbers_of (at.before ++ at.behind)) = subst AreDistinct (sym (map-append _ at.before at.behind)) apart.others in
    let rest = weight-same f es (at.before ++ at.behind) (second _ _ sorted) others (λ q.
    find-rest e es q none ∙ ap (cond (eq_by_cmp nat_cmp q e.0) None) (are q ∙ ap (find nat_cmp q) at.parts)
    ∙ find-gone at.before at.behind e.0 w q (find-new at.before e.0 apart.before) (find-new at.behind e.0 apart.behind)) in
    ap (λ (n : ℕ). f w + n) rest ∙ sym (weight-middle f at.before at.behind e.0 w) ∙ ap (weight f) (sym at.parts)

-- ---- bytes of records

-- the number and the record of a node
abbrev row_size : NodeRow → ℕ
row_size w = 57 + length w.label

rows-size : (local : Kind → List ℕ → ℕ) (number : List Step → ℕ) (around : Around) (trees : Forest) → weight row_size (rows local number around trees) ≡ nodes_size trees
rows-size local number around no_trees = refl
rows-size local number around (tree_then n below rest) =
    let inner = rows-size local number (around_children around n) below in
    let later = rows-size local number (record around { left = Some n.number }) rest in
    let both = weight-append row_size (rows local number (around_children around n) below) (rows local number (record around { left = Some n.number }) rest) in
    omega (arith, inner, later, both)

length-four : (n : ℕ) → length (to_be_bytes w32 n) ≡ 4
length-four n = refl

length-sixteen : (n : ℕ) → length (to_be_bytes w128 n) ≡ 16
length-sixteen n = refl

length-behind : (n : ℕ) (bytes : List ℕ) → length (to_be_bytes w32 n ++ bytes) ≡ 4 + length bytes
length-behind n bytes = omega (arith, length-append (to_be_bytes w32 n) bytes, length-four n)

length-node : (f : NodeFields) → length (node_bytes f) ≡ 53 + length f.label
unfolding node_bytes
length-node f =
    let text = text_bytes f.label in
    let path = to_be_bytes w32 f.path ++ text in
    let hash = to_be_bytes w128 f.hash ++ path in
    let descendants = to_be_bytes w32 f.descendants ++ hash in
    let children = to_be_bytes w32 f.children ++ descendants in
    let last = to_be_bytes w32 f.last ++ children in
    let begin = to_be_bytes w32 f.first ++ last in
    let right = to_be_bytes w32 f.right ++ begin in
    let left = to_be_bytes w32 f.left ++ right in
    let parent = to_be_bytes w32 f.parent ++ left in
    omega (
      arith,
      length-append (f.kind ∷ []) parent,
      length-behind f.parent left,
      length-behind f.left right,
      length-behind f.right begin,
      length-behind f.first last,
      length-behind f.last children,
      length-behind f.children descendants,
      length-behind f.descendants hash,
      length-append (to_be_bytes w128 f.hash) path,
      length-sixteen f.hash,
      length-behind f.path text,
      length-behind (length f.label) f.label,
    )

length-path : (f : PathFields) → length (path_bytes f) ≡ 13 + length f.name
unfolding path_bytes
length-path f =
    let text = text_bytes f.name in
    let count = to_be_bytes w32 f.count ++ text in
    omega (arith, length-behind f.parent ((f.step ∷ []) ++ count), length-append (f.step ∷ []) count, length-behind f.count text, length-behind (length f.name) f.name)

length-entries : (es : List (ℕ × NodeRecord)) → length (flat_map node_entry es) ≡ weight (λ r. row_size (row_of r)) es
length-entries [] = refl
length-entries (e ∷ es) =
    let own = length-node (node_fields e.1) in
    let head = length-append (to_be_bytes w32 e.0) (node_bytes (node_fields e.1)) in
    let all = length-append (node_entry e) (flat_map node_entry es) in
    let rest = length-entries es in
    omega (arith, own, head, all, rest, length-four e.0)

row-size : (number count : List Step → ℕ) (path : List Step) → length (path_entry (row_by number count path)) ≡ path_size path
row-size number count [] = length-path (row_fields (row_by number count []))
row-size number count (step ∷ steps) = length-path (row_fields (row_by number count (step ∷ steps)))

length-rows : (number count : List Step → ℕ) (paths : List (List Step)) → length (flat_map path_entry (map (row_by number count) paths)) ≡ sum (map path_size paths)
length-rows number count [] = refl
length-rows number count (path ∷ paths) =
    let own = row-size number count path in
    let all = length-append (path_entry (row_by number count path)) (flat_map path_entry (map (row_by number count) paths)) in
    let rest = length-rows number count paths in
    let total = sum_by-cons (λ (x : ℕ). x) (path_size path) (map path_size paths) in
    omega (arith, own, all, rest, total)

length-parts : (nodes : List (ℕ × NodeRecord)) (state : State)
    → length (body_bytes nodes (path_rows state)) ≡ 8 + (weight (λ r. row_size (row_of r)) nodes + sum (map path_size state.paths))
unfolding body_bytes
length-parts nodes state =
    let table = length-rows (number_of state.paths) (λ path. count_on path state.trees) state.paths in
    let entries = length-entries nodes in
    let behind = length-append (to_be_bytes w32 (length (path_rows state))) (flat_map path_entry (path_rows state)) in
    let middle = length-append (flat_map node_entry nodes) (to_be_bytes w32 (length (path_rows state)) ++ flat_map path_entry (path_rows state)) in
    let all = length-append (to_be_bytes w32 (length nodes)) (flat_map node_entry nodes ++ (to_be_bytes w32 (length (path_rows state)) ++ flat_map path_entry (path_rows state))) in
    omega (arith, table, entries, behind, middle, all, length-four (length nodes), length-four (length (path_rows state)))

-- The body of records that show a state's rows has as many bytes as the state's body.
pub length-body : (state : State) (records : RecordMap NodeRecord) → Shows (Some records) (rows_in (number_of state.paths) state.trees)
    → length (body_bytes (fin.entries records) (path_rows state)) ≡ body_size state
length-body state records shows =
    let are : AreAlike (fin.entries records) (rows_in (number_of state.paths) state.trees) = λ q. ap (option_map row_of) (sym (get-entries records q)) ∙ shows.holds q in
    let weights = weight-same row_size (fin.entries records) (rows_in (number_of state.paths) state.trees) (entries_sorted records) shows.distinct are in
    let nodes = rows-size local_hash (number_of state.paths) at_top state.trees in
    omega (arith, length-parts (fin.entries records) state, weights, nodes)

-- ---- the numbers of records

find-known : {R : Type 0} (limit q : ℕ) (xs : List (ℕ × R)) → AreBelow limit (map (λ e. e.0) xs) → is_some (find nat_cmp q xs) ≡ true → q < limit
find-known limit q [] below found = absurd (cc found)
find-known limit q (x ∷ xs) below found = known (eq_by_cmp nat_cmp q x.0) refl (find-known limit q xs below.1) found
  where
    known : (b : Bool) → eq_by_cmp nat_cmp q x.0 ≡ b → (is_some (find nat_cmp q xs) ≡ true → q < limit) → is_some (cond b (Some x.1) (find nat_cmp q xs)) ≡ true → q < limit
    known true is later found = subst (λ (n : ℕ). n < limit) (sym (same q x.0 is)) below.0
    known false is later found = later found

some-mapped : (o : Option NodeRecord) (w : Option NodeRow) → option_map row_of o ≡ w → is_some o ≡ true → is_some w ≡ true
some-mapped None w is some = absurd (cc some)
some-mapped (Some r) w is some = ap is_some (sym is)

keys-below : (limit : ℕ) (es : List (ℕ × NodeRecord)) → ((q : ℕ) → is_some (find nat_cmp q es) ≡ true → q < limit) → AllByRecursion (λ (e : ℕ × NodeRecord). e.0 < limit) es
keys-below limit [] below = tt
keys-below limit (e ∷ es) below =
    (below e.0 (ap is_some (find-head e.0 e.1 es)), keys-below limit es (λ q found. below q (later (eq_by_cmp nat_cmp q e.0) q found)))
  where
    later : (b : Bool) (q : ℕ) → is_some (find nat_cmp q es) ≡ true → is_some (cond b (Some e.1) (find nat_cmp q es)) ≡ true
    later true q found = refl
    later false q found = found

-- The numbers of records that show a state's rows are below a number above all of the state's.
pub records-below : (state : State) (records : RecordMap NodeRecord) (limit most : ℕ) → Shows (Some records) (rows_in (number_of state.paths) state.trees)
    → AreBelow limit (numbers state.trees) → limit ≤ most → AllByRecursion (λ (e : ℕ × NodeRecord). e.0 < most) (fin.entries records)
records-below state records limit most shows below within =
    let known : AreBelow limit (map (λ e. e.0) (rows_in (number_of state.paths) state.trees)) = subst (AreBelow limit) (sym (numbers-rows local_hash (number_of state.paths) at_top state.trees)) below in
    keys-below most (fin.entries records) (λ q found.
    let there = find-known limit q (rows_in (number_of state.paths) state.trees) known
    (some-mapped (fin.get records q) _ (shows.holds q) (ap is_some (get-entries records q) ∙ found)) in
    omega (arith, there, within))

-- A value's tree, child by child.
use Rattle.std.proofs.Common.{◌≡◌, ℕ, zero, suc, ◌+◌, ◌-◌, ◌≤◌, ◌<◌, Bool, true, nat_lt, List, [], ◌∷◌, ◌++◌, length, map, take, get_or, Option, Some, None, refl, sym, ap, subst, ◌∙◌, arith, append-nil, rules}
use Rattle.std.specs.Prelude.{◌%◌, ◌^◌}
use Rattle.std.specs.Option.{option_or}
use Rattle.std.proofs.Math.ListN.{length-map}
use Rattle.std.proofs.Math.Nat.{mod-add-mod}
use Rattle.std.proofs.lemmas.Bool.Decides.{nat_tests}
use Rattle.std.proofs.lemmas.List.{take_more}
use Rattle.sx_tree.specs.declared.json.Json as json
use Rattle.sx_tree.specs.declared.json.Json.{Json, the_lemmas}
use Rattle.sx_tree.specs.declared.json.Scalar.{Scalar}
use Rattle.sx_tree.specs.declared.record.NodeRecord.{NodeRecord}
use Rattle.sx_tree.specs.Value.{Value, Values, Fields, scalar, array, object, no_values, value_then, no_fields, field_then, value_of, values_of, fields_of, nodes, nodes_of_values, nodes_of_fields}
use Rattle.sx_tree.specs.declared.record.Kind.TheVariants.{Key}
use Rattle.sx_tree.specs.declared.record.Step.{Step}
use Rattle.sx_tree.specs.declared.record.Step.TheVariants.{Item, Name}
use Rattle.sx_view.specs.Records.{RecordMap}
use Rattle.sx_view.specs.Rows.{row_of}
use Rattle.sx_model.specs.Hash.{local_hash, hash_of}
use Rattle.sx_model.specs.Numbered.{numbered, numbered_values, numbered_fields}
use Rattle.sx_model.specs.Tree.{Node, Forest, no_trees, tree_then, beside, size}
use Rattle.sx_model.specs.Paths.{path_below, paths_below, with_paths}
use Rattle.sx_model.specs.Records.{NodeRow, PathRow, Around, last_of, row}
use Rattle.sx_paths.proofs.Listing.{with_paths-append}
use Rattle.sx_model.specs.Holes.{join, shown}
use Rattle.sx_tree.proofs.ValueTrees.{nodes_of_values-more}
use Rattle.sx_model.proofs.NumberedTrees.{scalar_number}
use Rattle.sx_model.proofs.Holes.{or_none, rows-beside, shown-beside}
use Rattle.sx_edit.specs.declared.trees.Children.{Children}
use Rattle.sx_edit.specs.Grow.{IsAdded, IsGrown, IsKept, IsKeyOver, IsOneMore, array_node, child_rows, linked, object_node, only_if, paths_under_node, rows_under_node, top_of, top_row, trees_below, value_paths}
use Rattle.sx_edit.specs.Pathways.{IsCountedIn, IsOnto, IsPathAt, Kept, Lists, Numbers, kept, more_on}
use Rattle.sx_edit.proofs.Adding.{added-none, added-before, added-behind}
use Rattle.sx_edit.proofs.Mending.{count-size}
use Rattle.sx_edit.proofs.Pathing.{lists-as, lists-here, more-append, more-none, numbers-back, path-with, start-at, with-one, with-twice}
use Rattle.sx_edit.proofs.TreePaths.{paths-beside, paths-value}

-- ---- one more child

-- a child's row and those below it came behind those of the children so far
pub hung : (number : List Step → ℕ) (m : Node) (steps : List Step) (before : Forest) (n : Node) (below : Forest) (right : Option ℕ) (path : ℕ) (a b c d : Option (RecordMap NodeRecord))
    → path ≡ number (path_below m.kind steps n.label)
    → IsAdded (child_rows number m steps (Some n.number) before) a b → IsAdded (child_rows number n (path_below m.kind steps n.label) None below) b c
    → IsAdded ((n.number, linked m.number (last_of before) right (top_row path n below)) ∷ []) c d
    → IsAdded (child_rows number m steps right (beside before (tree_then n below no_trees))) a d
hung number m steps before n below right path a b c d path_is first second third =
    let around : Around = record { above = Some m; path = steps; left = option_or (last_of before) None; right = right } in
    let here : row local_hash number around n below ≡ linked m.number (last_of before) right (top_row path n below) =
    λ i. record (row local_hash number around n below) { left = or_none (last_of before) i; path = sym path_is i } in
    let split = rows-beside local_hash number (record { above = Some m; path = steps; left = None; right = right }) before (tree_then n below no_trees)
    ∙ (λ i. child_rows number m steps (Some n.number) before ++ (n.number, here i) ∷ append-nil (child_rows number n (path_below m.kind steps n.label) None below) i) in
    subst (λ l. IsAdded l a d) (sym split)
    (added-behind (child_rows number m steps (Some n.number) before) _ a b d first
    (added-before ((n.number, linked m.number (last_of before) right (top_row path n below)) ∷ []) (child_rows number n (path_below m.kind steps n.label) None below) b c d second third))

-- and is kept with them
pub kept-more : (old new : Children) (before : Forest) (n : Node) (below : Forest) (descendants hash : ℕ) → IsKept old (shown local_hash before)
    → IsOneMore old new n.number descendants hash → descendants ≡ size below → hash ≡ hash_of local_hash n below
    → IsKept new (shown local_hash (beside before (tree_then n below no_trees)))
kept-more old new before n below descendants hash kept more down hash_is =
    let all : shown local_hash (beside before (tree_then n below no_trees)) ≡ join (shown local_hash before) (shown local_hash (tree_then n below no_trees)) =
    shown-beside local_hash before (tree_then n below no_trees) in
    let sum : (shown local_hash before).hashes + hash ≡ (shown local_hash before).hashes + (hash_of local_hash n below + 0) = omega (arith, hash_is) in
    subst (IsKept new) (sym all)
    (record {
      first = more.first ∙ ap (λ o. option_or o (Some n.number)) kept.first;
      last = more.last;
      count = omega (arith, more.count, kept.count);
      nodes = omega (arith, more.nodes, kept.nodes, down);
      hash = more.hash ∙ ap (λ z. (z + hash) % 2 ^ 128) kept.hash ∙ mod-add-mod (shown local_hash before).hashes (2 ^ 128) hash ∙ ap (λ z. z % 2 ^ 128) sum;
    })

-- ---- values

pub numbered-tree : (v : Value) (n : ℕ) (rest : Forest) → numbered v n rest ≡ tree_then (top_of v n) (trees_below v n) rest
numbered-tree (scalar s) n rest = refl
numbered-tree (array vs) n rest = refl
numbered-tree (object fs) n rest = refl

mutual
  pub size-numbered : (v : Value) (n : ℕ) (rest : Forest) → size (numbered v n rest) ≡ nodes v + size rest
  size-numbered (scalar s) n rest = omega arith
  size-numbered (array vs) n rest = omega (arith, size-numbered_values vs (suc n))
  size-numbered (object fs) n rest = omega (arith, size-numbered_fields fs (suc n))

  pub size-numbered_values : (vs : Values) (n : ℕ) → size (numbered_values vs n) ≡ nodes_of_values vs
  size-numbered_values no_values n = refl
  size-numbered_values (value_then v vs) n = omega (arith, size-numbered v n (numbered_values vs (n + nodes v)), size-numbered_values vs (n + nodes v))

  pub size-numbered_fields : (fs : Fields) (n : ℕ) → size (numbered_fields fs n) ≡ nodes_of_fields fs
  size-numbered_fields no_fields n = refl
  size-numbered_fields (field_then name v fs) n = omega (arith, size-numbered v (suc n) no_trees, size-numbered_fields fs (suc n + nodes v))

pub beside-numbered : (v : Value) (n : ℕ) (rest more : Forest) → beside (numbered v n rest) more ≡ numbered v n (beside rest more)
beside-numbered (scalar s) n rest more = refl
beside-numbered (array vs) n rest more = refl
beside-numbered (object fs) n rest more = refl

-- the trees of the values so far, and of one more behind them
numbered_values-push : (xs : List Json) (x : Json) (n : ℕ)
    → numbered_values (values_of (xs ++ x ∷ [])) n ≡ beside (numbered_values (values_of xs) n) (numbered (value_of x) (n + nodes_of_values (values_of xs)) no_trees)
numbered_values-push [] x n = let start : n ≡ n + 0 = omega arith in ap (λ k. numbered (value_of x) k no_trees) start
numbered_values-push (y ∷ ys) x n =
    let n_next : ℕ = n + nodes (value_of y) in
    let start : n_next + nodes_of_values (values_of ys) ≡ n + (nodes (value_of y) + nodes_of_values (values_of ys)) = omega arith in
    ap (numbered (value_of y) n) (numbered_values-push ys x n_next)
    ∙ sym (beside-numbered (value_of y) n (numbered_values (values_of ys) n_next) (numbered (value_of x) (n_next + nodes_of_values (values_of ys)) no_trees))
    ∙ ap (λ k. beside (numbered (value_of y) n (numbered_values (values_of ys) n_next)) (numbered (value_of x) k no_trees)) start

numbered_fields-push : (ms : List (List ℕ × Json)) (m : List ℕ × Json) (n : ℕ)
    → numbered_fields (fields_of (ms ++ m ∷ [])) n
    ≡ beside (numbered_fields (fields_of ms) n) (numbered_fields (field_then m.0 (value_of m.1) no_fields) (n + nodes_of_fields (fields_of ms)))
numbered_fields-push [] m n = let start : n ≡ n + 0 = omega arith in ap (numbered_fields (field_then m.0 (value_of m.1) no_fields)) start
numbered_fields-push (l ∷ ls) m n =
    let v : Value = value_of l.1 in
    let key : Node = record { number = n; kind = Key; label = l.0 } in
    let start : suc n + nodes v + nodes_of_fields (fields_of ls) ≡ n + (suc (nodes v) + nodes_of_fields (fields_of ls)) = omega arith in
    ap (tree_then key (numbered v (suc n) no_trees)) (numbered_fields-push ls m (suc n + nodes v))
    ∙ ap (λ k. tree_then key (numbered v (suc n) no_trees) (beside (numbered_fields (fields_of ls) (suc n + nodes v)) (numbered_fields (field_then m.0 (value_of m.1) no_fields) k))) start

taken : {A : Type 0} (xs : List A) (i : ℕ) (x : A) → i < length xs → x ≡ get_or xs i x → take (i + 1) xs ≡ take i xs ++ x ∷ []
taken xs i x below is = take_more xs i x below ∙ ap (λ y. take i xs ++ y ∷ []) (sym is)

-- where each one has a node at least, so many nodes are in those so far, and one in each of the others
nodes-so_far : {A : Type 0} (total : List A → ℕ) (one : A → ℕ) → total [] ≡ 0 → ((x : A) (xs : List A) → total (x ∷ xs) ≡ one x + total xs) → ((x : A) → 1 ≤ one x)
    → (xs : List A) (i : ℕ) → total (take i xs) + (length xs - i) ≤ total xs
nodes-so_far total one none more some [] zero = omega (arith, none)
nodes-so_far total one none more some [] (suc i) = omega (arith, none)
nodes-so_far total one none more some (x ∷ xs) zero = omega (arith, none, more x xs, some x, nodes-so_far total one none more some xs zero)
nodes-so_far total one none more some (x ∷ xs) (suc i) = omega (arith, more x xs, more x (take i xs), nodes-so_far total one none more some xs i)

pub nodes-top : (v : Value) (n : ℕ) → nodes v ≡ suc (size (trees_below v n))
nodes-top (scalar s) n = refl
nodes-top (array vs) n = omega (arith, size-numbered_values vs (suc n))
nodes-top (object fs) n = omega (arith, size-numbered_fields fs (suc n))

pub values-so_far : (xs : List Json) (i : ℕ) → nodes_of_values (values_of (take i xs)) + (length xs - i) ≤ nodes_of_values (values_of xs)
values-so_far = nodes-so_far (λ xs. nodes_of_values (values_of xs)) (λ x. nodes (value_of x)) refl (λ x xs. refl) (λ x. omega (arith, nodes-top (value_of x) 0))

pub members-so_far : (ms : List (List ℕ × Json)) (i : ℕ) → nodes_of_fields (fields_of (take i ms)) + (length ms - i) ≤ nodes_of_fields (fields_of ms)
members-so_far = nodes-so_far (λ ms. nodes_of_fields (fields_of ms)) (λ m. suc (nodes (value_of m.1))) refl (λ m ms. refl) (λ m. omega arith)

pub top-number : (v : Value) (n : ℕ) → (top_of v n).number ≡ n
top-number (scalar s) n = scalar_number s n
top-number (array vs) n = refl
top-number (object fs) n = refl

-- ---- one turn

-- what is there once one more child is, below a node whose path has this number
pub record IsHung (m : Node) (path : ℕ) (right : Option ℕ) (kept : Children) (trees : Forest) (before after : Kept) : Type 0 where
  pub kept_is : IsKept kept (shown local_hash trees)
  pub grown : IsGrown (paths_under_node m trees) (λ number steps. child_rows number m steps right trees) path before after

-- the paths of a child's tree were counted, and the rows below it came
unfoldable pub IsChildGrown : Node → Node → Forest → ℕ → ℕ → Kept → Kept → Type 0
IsChildGrown m n below path on before after =
    (listed : List (List Step)) (count : List Step → ℕ) (steps : List Step) → Lists before.table listed count → IsPathAt listed steps path
    → Lists after.table (with_paths listed (paths_below (Some m) steps (tree_then n below no_trees))) (more_on (paths_below (Some m) steps (tree_then n below no_trees)) count)
    × ((number : List Step → ℕ) → Numbers number (with_paths listed (paths_below (Some m) steps (tree_then n below no_trees)))
    → (on ≡ number (path_below m.kind steps n.label)) × IsAdded (child_rows number n (path_below m.kind steps n.label) None below) before.told after.told)

turn : (m : Node) (path on : ℕ) (right : Option ℕ) (so_far : Forest) (n : Node) (below : Forest) (old new : Children) (w : NodeRow) (a b c : Kept) (d : Option (RecordMap NodeRecord))
    → IsHung m path (Some n.number) old so_far a b → IsChildGrown m n below path on b c → w ≡ top_row on n below
    → IsOneMore old new n.number w.descendants w.hash → IsAdded ((n.number, linked m.number old.last right w) ∷ []) c.told d
    → IsHung m path right new (beside so_far (tree_then n below no_trees)) a (kept d c.table)
unfolding IsGrown IsChildGrown
turn m path on right so_far n below old new w a b c d hung_so_far child w_is more put =
    let down : w.descendants ≡ size below = ap (λ (r : NodeRow). r.descendants) w_is in
    let hash : w.hash ≡ hash_of local_hash n below = ap (λ (r : NodeRow). r.hash) w_is in
    let row_is : linked m.number old.last right w ≡ linked m.number (last_of so_far) right (top_row on n below) = λ i. linked m.number (hung_so_far.kept_is.last i) right (w_is i) in
    record {
      kept_is = kept-more old new so_far n below w.descendants w.hash hung_so_far.kept_is more down hash;
      grown = λ listed count steps lists at.
          let p : List (List Step) = paths_below (Some m) steps so_far in
          let q : List (List Step) = paths_below (Some m) steps (tree_then n below no_trees) in
          let all : paths_below (Some m) steps (beside so_far (tree_then n below no_trees)) ≡ p ++ q = paths-beside (Some m) steps so_far (tree_then n below no_trees) in
          let first = hung_so_far.grown listed count steps lists at in
          let second = child (with_paths listed p) (more_on p count) steps first.0 (path-with listed p steps path at) in
          let with_is : with_paths (with_paths listed p) q ≡ with_paths listed (paths_below (Some m) steps (beside so_far (tree_then n below no_trees))) = sym (ap (with_paths listed) all ∙ with_paths-append listed p q) in
          let more_is : more_on q (more_on p count) ≡ more_on (paths_below (Some m) steps (beside so_far (tree_then n below no_trees))) count = sym (ap (λ ps. more_on ps count) all ∙ more-append p q count) in (
            lists-here c.table _ _ _ _ with_is more_is second.0,
            λ number numbers.
                let then_numbers : Numbers number (with_paths (with_paths listed p) q) = subst (Numbers number) (sym with_is) numbers in
                let inner = second.1 number then_numbers in
                hung number m steps so_far n below right on a.told b.told c.told d inner.0 (first.1 number (numbers-back number (with_paths listed p) q then_numbers)) inner.1
                (subst (λ r. IsAdded ((n.number, r) ∷ []) c.told d) row_is put),
          );
    }

-- the path of a value came, and then its tree
pub stepped : (v : Value) (n path on : ℕ) (step : Step) (entries : (List Step → ℕ) → List Step → List (ℕ × NodeRow)) (o : Option (RecordMap NodeRecord)) (old mid : List PathRow) (after : Kept)
    → IsOnto path step on old mid → IsGrown (value_paths v n) entries on (kept o mid) after
    → (listed : List (List Step)) (count : List Step → ℕ) (steps : List Step) → Lists old listed count → IsPathAt listed steps path
    → Lists after.table (with_paths listed (value_paths v n (step ∷ steps))) (more_on (value_paths v n (step ∷ steps)) count)
    × ((number : List Step → ℕ) → Numbers number (with_paths listed (value_paths v n (step ∷ steps))) → (on ≡ number (step ∷ steps)) × IsAdded (entries number (step ∷ steps)) o after.told)
unfolding IsGrown IsOnto
stepped v n path on step entries o old mid after onto grown listed count steps lists at =
    let here : List Step = step ∷ steps in
    let first = onto listed count steps lists (start-at listed steps path at) in
    let second = grown (with_paths listed (here ∷ [])) count here first.0 first.1 in
    let same : with_paths (with_paths listed (here ∷ [])) (value_paths v n here) ≡ with_paths listed (value_paths v n here) = with-twice listed here (paths_below (Some (top_of v n)) here (trees_below v n)) in (
      subst (λ l. Lists after.table l (more_on (value_paths v n here) count)) same second.0,
      λ number numbers.
          let then_numbers : Numbers number (with_paths (with_paths listed (here ∷ [])) (value_paths v n here)) = subst (Numbers number) (sym same) numbers in
          let is_on : IsPathAt (with_paths (with_paths listed (here ∷ [])) (value_paths v n here)) here on = path-with (with_paths listed (here ∷ [])) (value_paths v n here) here on first.1 in
          (is_on.is ∙ sym (then_numbers.listed_are here is_on.there), second.1 number then_numbers),
    )

pub item-grown : (parent : ℕ) (v : Value) (n path on : ℕ) (o : Option (RecordMap NodeRecord)) (old mid : List PathRow) (after : Kept) → IsOnto path Item on old mid
    → IsGrown (value_paths v n) (rows_under_node (top_of v n) (trees_below v n)) on (kept o mid) after → IsChildGrown (array_node parent) (top_of v n) (trees_below v n) path on (kept o old) after
unfolding IsChildGrown
item-grown parent v n path on o old mid after onto grown listed count steps lists at =
    let all : paths_below (Some (array_node parent)) steps (tree_then (top_of v n) (trees_below v n) no_trees) ≡ value_paths v n (Item ∷ steps) =
    ap (paths_below (Some (array_node parent)) steps) (sym (numbered-tree v n no_trees)) ∙ paths-value v n (array_node parent) steps in
    let done = stepped v n path on Item (rows_under_node (top_of v n) (trees_below v n)) o old mid after onto grown listed count steps lists at in (
      lists-here after.table _ _ _ _ (ap (with_paths listed) (sym all)) (ap (λ ps. more_on ps count) (sym all)) done.0,
      λ number numbers. done.1 number (subst (λ ps. Numbers number (with_paths listed ps)) all numbers),
    )

pub items-turn : (parent path on : ℕ) (right : Option ℕ) (xs : List Json) (i : ℕ) (x : Json) (old new : Children) (w : NodeRow) (a b c : Kept) (mid : List PathRow) (d : Option (RecordMap NodeRecord))
    → i < length xs → x ≡ get_or xs i x → IsHung (array_node parent) path (Some (parent + 1 + old.nodes)) old (numbered_values (values_of (take i xs)) (suc parent)) a b
    → IsOnto path Item on b.table mid
    → w ≡ top_row on (top_of (value_of x) (parent + 1 + old.nodes)) (trees_below (value_of x) (parent + 1 + old.nodes))
    → IsGrown (value_paths (value_of x) (parent + 1 + old.nodes)) (rows_under_node (top_of (value_of x) (parent + 1 + old.nodes)) (trees_below (value_of x) (parent + 1 + old.nodes))) on (kept b.told mid) c
    → IsOneMore old new (parent + 1 + old.nodes) w.descendants w.hash → IsAdded ((parent + 1 + old.nodes, linked parent old.last right w) ∷ []) c.told d
    → IsHung (array_node parent) path right new (numbered_values (values_of (take (i + 1) xs)) (suc parent)) a (kept d c.table)
items-turn parent path on right xs i x old new w a b c mid d here is hung_so_far onto w_is grown more put =
    let number : ℕ = parent + 1 + old.nodes in
    let v : Value = value_of x in
    let n : Node = top_of v number in
    let same : n.number ≡ number = top-number v number in
    let so_far : Forest = numbered_values (values_of (take i xs)) (suc parent) in
    let start : suc parent + nodes_of_values (values_of (take i xs)) ≡ number = omega (arith, hung_so_far.kept_is.nodes, size-numbered_values (values_of (take i xs)) (suc parent)) in
    let one_more : numbered_values (values_of (take (i + 1) xs)) (suc parent) ≡ beside so_far (tree_then n (trees_below v number) no_trees) =
    ap (λ l. numbered_values (values_of l) (suc parent)) (taken xs i x here is) ∙ numbered_values-push (take i xs) x (suc parent)
    ∙ ap (λ k. beside so_far (numbered v k no_trees)) start ∙ ap (beside so_far) (numbered-tree v number no_trees) in
    subst (λ t. IsHung (array_node parent) path right new t a (kept d c.table)) (sym one_more)
    (turn (array_node parent) path on right so_far n (trees_below v number) old new w a b c d
    (subst (λ k. IsHung (array_node parent) path (Some k) old so_far a b) (sym same) hung_so_far)
    (item-grown parent v number path on b.told b.table mid c onto grown) w_is
    (subst (λ k. IsOneMore old new k w.descendants w.hash) (sym same) more) (subst (λ k. IsAdded ((k, linked parent old.last right w) ∷ []) c.told d) (sym same) put))

-- the numbers do not run out with one more child of so many nodes, and with so many more behind it
pub record IsRoom (parent more others : ℕ) (kept : Children) : Type 0 where
  pub few : kept.count ≤ kept.nodes
  pub room : parent + 1 + kept.nodes + more + others ≤ 2 ^ 30

pub items-room : (parent path : ℕ) (right : Option ℕ) (xs : List Json) (i : ℕ) (x : Json) (kept : Children) (a b : Kept)
    → i < length xs → x ≡ get_or xs i x → parent + 1 + nodes_of_values (values_of xs) ≤ 2 ^ 30
    → IsHung (array_node parent) path right kept (numbered_values (values_of (take i xs)) (suc parent)) a b → IsRoom parent (nodes (value_of x)) (length xs - (i + 1)) kept
items-room parent path right xs i x kept a b here is fits hung_so_far =
    let so_far : Forest = numbered_values (values_of (take i xs)) (suc parent) in
    let down = hung_so_far.kept_is.nodes ∙ size-numbered_values (values_of (take i xs)) (suc parent) in
    record {
      few = omega (arith, hung_so_far.kept_is.count, hung_so_far.kept_is.nodes, count-size so_far);
      room = omega (arith, down, values-so_far xs (i + 1), nodes_of_values-more xs i x here is, fits);
    }

-- a member, by its name and its value
pub record IsMember (ms : List (List ℕ × Json)) (i : ℕ) (m : List ℕ × Json) : Type 0 where
  pub here : i < length ms
  pub is : m ≡ get_or ms i m

pub member-there : (ms : List (List ℕ × Json)) (names : List (List ℕ)) (values : List Json) (i : ℕ) (name : List ℕ) (value : Json) → names ≡ map (λ m. m.0) ms → values ≡ map (λ m. m.1) ms
    → i < length values → name ≡ get_or names i name → value ≡ get_or values i value → IsMember ms i (name, value)
member-there ms names values i name value names_are values_are here name_is value_is =
    let below : i < length ms = omega (arith, ap length values_are, length-map ms (λ m. m.1), here) in
    record { here = below; is = at ms i below (name_is ∙ ap (λ l. get_or l i name) names_are) (value_is ∙ ap (λ l. get_or l i value) values_are) }
  where
    at : (ms : List (List ℕ × Json)) (i : ℕ) → i < length ms → name ≡ get_or (map (λ m. m.0) ms) i name → value ≡ get_or (map (λ m. m.1) ms) i value → (name, value) ≡ get_or ms i (name, value)
    at [] i below n v = absurd (omega arith)
    at (m ∷ ms) zero below n v = λ k. (n k, v k)
    at (m ∷ ms) (suc i) below n v = at ms i (omega arith) n v

fields-more : (ms : List (List ℕ × Json)) (i : ℕ) (m : List ℕ × Json) → IsMember ms i m
    → nodes_of_fields (fields_of (take (i + 1) ms)) ≡ nodes_of_fields (fields_of (take i ms)) + suc (nodes (value_of m.1))
fields-more ms i m there = ap (λ l. nodes_of_fields (fields_of l)) (taken ms i m there.here there.is) ∙ push (take i ms)
  where
    push : (ls : List (List ℕ × Json)) → nodes_of_fields (fields_of (ls ++ m ∷ [])) ≡ nodes_of_fields (fields_of ls) + suc (nodes (value_of m.1))
    push [] = omega arith
    push (l ∷ ls) = omega (arith, push ls)

pub members-room : (parent path : ℕ) (right : Option ℕ) (ms : List (List ℕ × Json)) (i : ℕ) (m : List ℕ × Json) (kept : Children) (a b : Kept)
    → IsMember ms i m → parent + 1 + nodes_of_fields (fields_of ms) ≤ 2 ^ 30
    → IsHung (object_node parent) path right kept (numbered_fields (fields_of (take i ms)) (suc parent)) a b → IsRoom parent (suc (nodes (value_of m.1))) (length ms - (i + 1)) kept
members-room parent path right ms i m kept a b there fits hung_so_far =
    let so_far : Forest = numbered_fields (fields_of (take i ms)) (suc parent) in
    let down = hung_so_far.kept_is.nodes ∙ size-numbered_fields (fields_of (take i ms)) (suc parent) in
    record {
      few = omega (arith, hung_so_far.kept_is.count, hung_so_far.kept_is.nodes, count-size so_far);
      room = omega (arith, down, there.here, members-so_far ms (i + 1), fields-more ms i m there, fits);
    }

-- a value has a node
pub some-nodes : (v : Value) → 1 ≤ nodes v
some-nodes v = omega (arith, nodes-top v 0)

-- the nodes below a top
pub down-top : (v : Value) (n path : ℕ) (w : NodeRow) → w ≡ top_row path (top_of v n) (trees_below v n) → w.descendants + 1 ≡ nodes v
down-top v n path w is = omega (arith, ap (λ (r : NodeRow). r.descendants) is, nodes-top v n)

pub key-entered : (number at path : ℕ) (name : List ℕ) (v : Value) (w : NodeRow) (key : NodeRecord) → at ≡ suc number → IsKeyOver number name w key → w ≡ top_row path (top_of v at) (trees_below v at)
    → row_of key ≡ top_row path (record { number = number; kind = Key; label = name }) (numbered v at no_trees)
key-entered number at path name v w key at_is over is =
    over path (top_of v at) (trees_below v at) (top-number v at ∙ at_is) is ∙ ap (top_row path (record { number = number; kind = Key; label = name })) (sym (numbered-tree v at no_trees))

pub down-key : (number at path : ℕ) (name : List ℕ) (v : Value) (w : NodeRow) (key : NodeRecord) → at ≡ suc number → IsKeyOver number name w key → w ≡ top_row path (top_of v at) (trees_below v at)
    → key.descendants ≡ nodes v
down-key number at path name v w key at_is over is = ap (λ (r : NodeRow). r.descendants) (key-entered number at path name v w key at_is over is) ∙ omega (arith, size-numbered v at no_trees)

pub left_over : (i n : ℕ) → nat_lt i n ≡ true → 1 ≤ n - i
left_over i n is = grind (arith, nat_tests)

-- the first turn, and the last one
pub none-hung : (m : Node) (path : ℕ) (right : Option ℕ) (children : Children) (o : Kept) → children.first ≡ None → children.last ≡ None → children.count ≡ 0 → children.nodes ≡ 0 → children.hash ≡ 0
    → IsHung m path right children no_trees o o
unfolding IsGrown
none-hung m path right children o first last count_is nodes hash = record {
  kept_is = record { first = first; last = last; count = count_is; nodes = nodes; hash = hash };
  grown = λ listed count steps lists at. (lists-as o.table listed count _ (sym (more-none count)) lists, λ number numbers. added-none o.told);
}

pub hung-right : (m : Node) (path i n number : ℕ) (kept : Children) (trees : Forest) (a b : Kept) → i < n → IsHung m path (only_if (nat_lt i n) number) kept trees a b → IsHung m path (Some number) kept trees a b
hung-right m path i n number kept trees a b here is =
    let more : nat_lt i n ≡ true = grind (arith, nat_tests) in
    subst (λ t. IsHung m path (only_if t number) kept trees a b) more is

-- a value was put below its Key
pub under_key : (number at path : ℕ) (name : List ℕ) (v : Value) (w : NodeRow) (b c : Kept) (d : Option (RecordMap NodeRecord)) → at ≡ suc number → w ≡ top_row path (top_of v at) (trees_below v at)
    → IsGrown (value_paths v at) (rows_under_node (top_of v at) (trees_below v at)) path b c → IsAdded ((at, linked number None None w) ∷ []) c.told d
    → IsGrown (value_paths v at) (rows_under_node (record { number = number; kind = Key; label = name }) (numbered v at no_trees)) path b (kept d c.table)
unfolding IsGrown
under_key number at path name v w b c d at_is w_is grown put listed count steps lists is_at =
    let n : Node = top_of v at in
    let key : Node = record { number = number; kind = Key; label = name } in
    let same = top-number v at in
    let done = grown listed count steps lists is_at in
    let row_is : (at, linked number None None w) ≡ (n.number, linked number None None (top_row path n (trees_below v at))) = λ i. (sym same i, linked number None None (w_is i)) in (
      done.0,
      λ number_of_path numbers.
          let here = path-with listed (value_paths v at steps) steps path is_at in
          let path_is : path ≡ number_of_path steps = here.is ∙ sym (numbers.listed_are steps here.there) in
          subst (λ t. IsAdded (child_rows number_of_path key steps None t) b.told d) (sym (numbered-tree v at no_trees))
          (hung number_of_path key steps no_trees n (trees_below v at) None path b.told b.told c.told d path_is (added-none b.told) (done.1 number_of_path numbers) (subst (λ e. IsAdded (e ∷ []) c.told d) row_is put)),
    )

pub named-onto : (path : ℕ) (name : List ℕ) (step : Step) (on : ℕ) (old new : List PathRow) → step ≡ Name name → IsOnto path step on old new → IsOnto path (Name name) on old new
named-onto path name step on old new is = subst (λ s. IsOnto path s on old new) is

member-grown : (parent number at path on : ℕ) (name : List ℕ) (v : Value) (o : Option (RecordMap NodeRecord)) (old mid : List PathRow) (after : Kept) → at ≡ suc number → IsOnto path (Name name) on old mid
    → IsGrown (value_paths v at) (rows_under_node (record { number = number; kind = Key; label = name }) (numbered v at no_trees)) on (kept o mid) after
    → IsChildGrown (object_node parent) (record { number = number; kind = Key; label = name }) (numbered v at no_trees) path on (kept o old) after
unfolding IsChildGrown
member-grown parent number at path on name v o old mid after at_is onto grown listed count steps lists is_at =
    let key : Node = record { number = number; kind = Key; label = name } in
    let all : paths_below (Some (object_node parent)) steps (tree_then key (numbered v at no_trees) no_trees) ≡ value_paths v at (Name name ∷ steps) =
    append-nil (paths_below (Some key) (Name name ∷ steps) (numbered v at no_trees)) ∙ paths-value v at key (Name name ∷ steps) in
    let done = stepped v at path on (Name name) (rows_under_node key (numbered v at no_trees)) o old mid after onto grown listed count steps lists is_at in (
      lists-here after.table _ _ _ _ (ap (with_paths listed) (sym all)) (ap (λ ps. more_on ps count) (sym all)) done.0,
      λ number_of_path numbers. done.1 number_of_path (subst (λ ps. Numbers number_of_path (with_paths listed ps)) all numbers),
    )

pub members-turn : (parent path on : ℕ) (right : Option ℕ) (ms : List (List ℕ × Json)) (i : ℕ) (m : List ℕ × Json) (old new : Children) (w : NodeRow) (key : NodeRecord) (at : ℕ) (a b c : Kept) (mid : List PathRow) (d e : Option (RecordMap NodeRecord))
    → IsMember ms i m → IsHung (object_node parent) path (Some (parent + 1 + old.nodes)) old (numbered_fields (fields_of (take i ms)) (suc parent)) a b
    → at ≡ suc (parent + 1 + old.nodes) → IsOnto path (Name m.0) on b.table mid
    → w ≡ top_row on (top_of (value_of m.1) at) (trees_below (value_of m.1) at)
    → IsGrown (value_paths (value_of m.1) at) (rows_under_node (top_of (value_of m.1) at) (trees_below (value_of m.1) at)) on (kept b.told mid) c
    → IsAdded ((at, linked (parent + 1 + old.nodes) None None w) ∷ []) c.told d → IsKeyOver (parent + 1 + old.nodes) m.0 w key
    → IsOneMore old new (parent + 1 + old.nodes) key.descendants key.hash → IsAdded ((parent + 1 + old.nodes, linked parent old.last right (row_of key)) ∷ []) d e
    → IsHung (object_node parent) path right new (numbered_fields (fields_of (take (i + 1) ms)) (suc parent)) a (kept e c.table)
members-turn parent path on right ms i m old new w key at a b c mid d e there hung_so_far at_is onto w_is grown put over more put_key =
    let number : ℕ = parent + 1 + old.nodes in
    let so_far : Forest = numbered_fields (fields_of (take i ms)) (suc parent) in
    let v : Value = value_of m.1 in
    let n : Node = record { number = number; kind = Key; label = m.0 } in
    let start : suc parent + nodes_of_fields (fields_of (take i ms)) ≡ number = omega (arith, hung_so_far.kept_is.nodes, size-numbered_fields (fields_of (take i ms)) (suc parent)) in
    let one_more : numbered_fields (fields_of (take (i + 1) ms)) (suc parent) ≡ beside so_far (tree_then n (numbered v at no_trees) no_trees) =
    ap (λ l. numbered_fields (fields_of l) (suc parent)) (taken ms i m there.here there.is) ∙ numbered_fields-push (take i ms) m (suc parent)
    ∙ ap (λ k. beside so_far (numbered_fields (field_then m.0 v no_fields) k)) start ∙ ap (λ k. beside so_far (tree_then n (numbered v k no_trees) no_trees)) (sym at_is) in
    let under = under_key number at on m.0 v w (kept b.told mid) c d at_is w_is grown put in
    subst (λ t. IsHung (object_node parent) path right new t a (kept e c.table)) (sym one_more)
    (turn (object_node parent) path on right so_far n (numbered v at no_trees) old new (row_of key) a b (kept d c.table) e hung_so_far
    (member-grown parent number at path on m.0 v b.told b.table mid (kept d c.table) at_is onto under) (key-entered number at on m.0 v w key at_is over w_is) more put_key)

-- what a Key keeps of its value
pub kept-value : (number : ℕ) (n : Node) (below : Forest) (w : NodeRow) (path : ℕ) (none children : Children) → n.number ≡ suc number → w ≡ top_row path n below
    → IsKept none (shown local_hash no_trees) → IsOneMore none children (number + 1 + none.nodes) w.descendants w.hash → IsKept children (shown local_hash (tree_then n below no_trees))
kept-value number n below w path none children same is kept_none more =
    let at : number + 1 + none.nodes ≡ n.number = omega (arith, same, kept_none.nodes) in
    kept-more none children no_trees n below w.descendants w.hash kept_none (subst (λ k. IsOneMore none children k w.descendants w.hash) at more)
    (ap (λ (r : NodeRow). r.descendants) is) (ap (λ (r : NodeRow). r.hash) is)

-- the number of the next child, once this one is kept
pub hung-as : (parent : ℕ) (m : Node) (path : ℕ) (more : Bool) (old new : Children) (number down own : ℕ) (trees : Forest) (a b : Kept) → IsOneMore old new number down own
    → IsHung m path (only_if more (parent + 1 + old.nodes + (down + 1))) new trees a b → IsHung m path (only_if more (parent + 1 + new.nodes)) new trees a b
hung-as parent m path more old new number down own trees a b one_more is =
    let next : parent + 1 + old.nodes + (down + 1) ≡ parent + 1 + new.nodes = omega (arith, one_more.nodes) in
    subst (λ k. IsHung m path (only_if more k) new trees a b) next is

pub members-long : (ms : List (List ℕ × Json)) (values : List Json) → values ≡ map (λ m. m.1) ms → length values ≡ length ms
members-long ms values is = ap length is ∙ length-map ms (λ m. m.1)

pub hung-long : (m : Node) (path i x y number : ℕ) (kept : Children) (trees : Forest) (a b : Kept) → x ≡ y
    → IsHung m path (only_if (nat_lt i x) number) kept trees a b → IsHung m path (only_if (nat_lt i y) number) kept trees a b
hung-long m path i x y number kept trees a b is = subst (λ l. IsHung m path (only_if (nat_lt i l) number) kept trees a b) is

-- ---- a value

-- a value was counted, and then what is below it came
pub counted-top : (m : Node) (trees : Forest) (path : ℕ) (o : Option (RecordMap NodeRecord)) (old mid : List PathRow) (after : Kept) → IsCountedIn path old mid
    → IsGrown (paths_under_node m trees) (rows_under_node m trees) path (kept o mid) after
    → IsGrown (λ steps. steps ∷ paths_below (Some m) steps trees) (rows_under_node m trees) path (kept o old) after
unfolding IsGrown IsCountedIn
counted-top m trees path o old mid after counted grown listed count steps lists at =
    let p : List (List Step) = paths_below (Some m) steps trees in
    let done = grown listed (more_on (steps ∷ []) count) steps (counted listed count steps lists at) at in
    let with_is : with_paths listed p ≡ with_paths listed (steps ∷ p) = ap (λ l. with_paths l p) (sym (with-one listed steps at.there)) in
    (lists-here after.table _ _ _ _ with_is (sym (more-append (steps ∷ []) p count)) done.0, λ number numbers. done.1 number (subst (Numbers number) (sym with_is) numbers))

pub none-grown : (m : Node) (path : ℕ) (o : Kept) → IsGrown (paths_under_node m no_trees) (rows_under_node m no_trees) path o o
unfolding IsGrown
none-grown m path o listed count steps lists at = (lists-as o.table listed count _ (sym (more-none count)) lists, λ number numbers. added-none o.told)

value_of-Scalar : (s : Scalar) → value_of (json.Scalar s) ≡ scalar s
value_of-Scalar s = search (rules, the_lemmas)

-- a scalar has nothing below it
pub scalar-grown : (s : Scalar) (n path : ℕ) (o : Option (RecordMap NodeRecord)) (old mid : List PathRow) → IsCountedIn path old mid
    → IsGrown (value_paths (value_of (json.Scalar s)) n) (rows_under_node (top_of (value_of (json.Scalar s)) n) (trees_below (value_of (json.Scalar s)) n)) path (kept o old) (kept o mid)
scalar-grown s n path o old mid counted =
    subst (λ v. IsGrown (value_paths v n) (rows_under_node (top_of v n) (trees_below v n)) path (kept o old) (kept o mid)) (sym (value_of-Scalar s))
    (counted-top (top_of (scalar s) n) no_trees path o old mid (kept o mid) counted (none-grown (top_of (scalar s) n) path (kept o mid)))

pub array-grown : (w : Value) (vs : Values) (n path : ℕ) (o : Option (RecordMap NodeRecord)) (old mid : List PathRow) (after : Kept) → w ≡ array vs → IsCountedIn path old mid
    → IsGrown (paths_under_node (array_node n) (numbered_values vs (suc n))) (rows_under_node (array_node n) (numbered_values vs (suc n))) path (kept o mid) after
    → IsGrown (value_paths w n) (rows_under_node (top_of w n) (trees_below w n)) path (kept o old) after
array-grown w vs n path o old mid after is counted grown =
    subst (λ v. IsGrown (value_paths v n) (rows_under_node (top_of v n) (trees_below v n)) path (kept o old) after) (sym is) (counted-top (array_node n) (numbered_values vs (suc n)) path o old mid after counted grown)

pub object-grown : (w : Value) (fs : Fields) (n path : ℕ) (o : Option (RecordMap NodeRecord)) (old mid : List PathRow) (after : Kept) → w ≡ object fs → IsCountedIn path old mid
    → IsGrown (paths_under_node (object_node n) (numbered_fields fs (suc n))) (rows_under_node (object_node n) (numbered_fields fs (suc n))) path (kept o mid) after
    → IsGrown (value_paths w n) (rows_under_node (top_of w n) (trees_below w n)) path (kept o old) after
object-grown w fs n path o old mid after is counted grown =
    subst (λ v. IsGrown (value_paths v n) (rows_under_node (top_of v n) (trees_below v n)) path (kept o old) after) (sym is) (counted-top (object_node n) (numbered_fields fs (suc n)) path o old mid after counted grown)

pub members-more : (ms : List (List ℕ × Json)) (i : ℕ) (m : List ℕ × Json) → IsMember ms i m → nodes_of_fields (fields_of (take i ms)) + suc (nodes (value_of m.1)) ≤ nodes_of_fields (fields_of ms)
members-more ms i m there = omega (arith, members-so_far ms (i + 1), fields-more ms i m there)

pub values-more : (xs : List Json) (i : ℕ) (x : Json) → i < length xs → x ≡ get_or xs i x → nodes_of_values (values_of (take i xs)) + nodes (value_of x) ≤ nodes_of_values (values_of xs)
values-more xs i x here is = omega (arith, values-so_far xs (i + 1), nodes_of_values-more xs i x here is)

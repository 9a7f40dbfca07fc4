-- What loading a value does to a document that loads alone made.
use Rattle.std.proofs.Common.{◌≡◌, ℕ, zero, suc, ◌+◌, ◌<◌, ◌≤◌, Bool, true, false, cond, List, [], ◌∷◌, ◌++◌, length, min, Option, None, Some, Result, Ok, Err, refl, ap, subst, ◌∙◌, arith, nat_lt, IsOk, IfSome, inl, inr, append-nil, length-append}
use Rattle.std.specs.Prelude.{◌==◌, ◌^◌, ◌-◌}
use Rattle.std.specs.List.{list_any}
use Rattle.std.specs.Result.{result_unwrap_or}
use Rattle.std.proofs.lemmas.Bool.{false≢true, cases_lt}
use Rattle.std.proofs.lemmas.Bool.Decides.{nat_tests}
use Rattle.std.proofs.lemmas.Grind.{common_steps}
use Rattle.sx_tree.specs.declared.edit.EditRefusal.{EditRefusal}
use Rattle.sx_tree.specs.declared.edit.EditRefusal.TheVariants.{NumbersSpent, TooDeep, PathsSpent}
use Rattle.sx_tree.specs.declared.json.Scalar.TheVariants as scalars
use Rattle.sx_tree.specs.declared.record.Step.{Step}
use Rattle.sx_tree.specs.Value.{Value, scalar, array, object, depth, nodes}
use Rattle.sx_model.specs.Canonical.{text}
use Rattle.sx_model.specs.Edit.{load, when, unless, apply, edited, told_of, with_trees, number_limit, path_limit, nesting_limit}
use Rattle.sx_model.specs.Limits.{KeepsLimits}
use Rattle.sx_model.specs.Numbered.{numbered}
use Rattle.sx_model.specs.Paths.{path_of, paths_below, paths_in, same_path, with_paths}
use Rattle.sx_model.specs.State.{State, empty_document}
use Rattle.sx_model.specs.Tree.{Node, Forest, no_trees, tree_then, numbers, document_with, document_node, is_value}
use Rattle.sx_model.specs.TreeText.{document_text}
use Rattle.sx_model.proofs.Apart.{up_from}
use Rattle.sx_model.proofs.NumberedTrees.{numbers-numbered}
use Rattle.sx_model.proofs.TreeTexts.{text-numbered}

-- ---- the states that loads alone make

-- the Document alone, or with the trees of a value, numbered from a number on
abbrev pub loaded_trees : Option (Value × ℕ) → Forest
loaded_trees None = document_with no_trees
loaded_trees (Some child) = document_with (numbered child.0 child.1 no_trees)

-- The Document has no child, or a value within the limits, which is numbered from a number above 0. There were never more paths
-- than nodes.
pub record IsLoaded (state : State) : Type 0 where
  pub child : Option (Value × ℕ)
  pub trees : state.trees ≡ loaded_trees child
  pub value : IfSome child (λ c. KeepsLimits c.0 × (depth c.0 ≤ nesting_limit) × (0 < c.1))
  pub paths : length state.paths < state.next

pub empty-loaded : IsLoaded empty_document
empty-loaded = record { child = None; trees = refl; value = tt; paths = omega arith }

-- the next number is above 0
pub loaded_begun : (state : State) → IsLoaded state → 0 < state.next
loaded_begun state is = omega (arith, is.paths)

-- the state with the value as the Document's child
abbrev pub with_value : Value → State → State
with_value v state = with_trees state (nodes v) (document_with (numbered v state.next no_trees))

-- ---- paths

length-with_paths : (listed paths : List (List Step)) → length (with_paths listed paths) ≤ length listed + length paths
length-with_paths listed [] = omega arith
length-with_paths listed (path ∷ paths) =
    by (list_any (same_path path) listed) (length-with_paths listed paths) (length-with_paths (listed ++ path ∷ []) paths) (length-append listed (path ∷ []))
  where
    by : (there : Bool) → length (with_paths listed paths) ≤ length listed + length paths → length (with_paths (listed ++ path ∷ []) paths) ≤ length (listed ++ path ∷ []) + length paths
        → length (listed ++ path ∷ []) ≡ length listed + length (path ∷ []) → length (with_paths (cond there listed (listed ++ path ∷ [])) paths) ≤ length listed + suc (length paths)
    by true same longer one = omega (arith, same)
    by false same longer one = omega (arith, longer, one)

-- each node is at most one value
length-paths_below : (above : Option Node) (path : List Step) (trees : Forest) → length (paths_below above path trees) ≤ length (numbers trees)
length-paths_below above path no_trees = omega arith
length-paths_below above path (tree_then n below rest) =
    let here = path_of above path n.label in
    let inside = length-paths_below (Some n) here below in
    let beside = length-paths_below above path rest in
    let paths = length-append (paths_below (Some n) here below) (paths_below above path rest) in
    let nodes = length-append (numbers below) (numbers rest) in
    by (is_value n.kind) inside beside paths nodes
  where
    by : (b : Bool) → length (paths_below (Some n) (path_of above path n.label) below) ≤ length (numbers below) → length (paths_below above path rest) ≤ length (numbers rest)
        → length (paths_below (Some n) (path_of above path n.label) below ++ paths_below above path rest) ≡ length (paths_below (Some n) (path_of above path n.label) below) + length (paths_below above path rest)
        → length (numbers below ++ numbers rest) ≡ length (numbers below) + length (numbers rest)
        → length ((cond b (path_of above path n.label ∷ []) []) ++ (paths_below (Some n) (path_of above path n.label) below ++ paths_below above path rest)) ≤ suc (length (numbers below ++ numbers rest))
    by true inside beside paths nodes = omega (arith, inside, beside, paths, nodes)
    by false inside beside paths nodes = omega (arith, inside, beside, paths, nodes)

length-up_from : (n count : ℕ) → length (up_from n count) ≡ count
length-up_from n zero = refl
length-up_from n (suc count) = ap suc (length-up_from (suc n) count)

length-value_paths : (v : Value) (n : ℕ) → length (paths_in (document_with (numbered v n no_trees))) ≤ nodes v
length-value_paths v n =
    let below = paths_below (Some document_node) [] (numbered v n no_trees) in
    let all : length (below ++ []) ≡ length below = ap (λ (ps : List (List Step)). length ps) (append-nil below) in
    let few = length-paths_below (Some document_node) [] (numbered v n no_trees) in
    let count = ap (λ (ks : List ℕ). length ks) (numbers-numbered v n no_trees ∙ append-nil (up_from n (nodes v))) ∙ length-up_from n (nodes v) in
    omega (arith, all, few, count)

-- the paths of a value's tree lengthen the list by at most one a node
length-more_paths : (paths : List (List Step)) (v : Value) (n : ℕ) → length (with_paths paths (paths_in (document_with (numbered v n no_trees)))) ≤ length paths + nodes v
length-more_paths paths v n = omega (arith, length-with_paths paths (paths_in (document_with (numbered v n no_trees))), length-value_paths v n)

-- ---- a load

abbrev deep : Value → Option EditRefusal
deep v = when (nat_lt nesting_limit (depth v)) (TooDeep (min (depth v) (2 ^ 32 - 1)))

abbrev spent : Value → ℕ → Option EditRefusal
spent v next = when (nat_lt number_limit (next + nodes v)) (NumbersSpent next)

-- the refusals of a load, in their order
abbrev refusals : Value → State → List (Option EditRefusal)
refusals v state =
    deep v ∷ spent v state.next ∷ when (nat_lt path_limit (length (with_value v state).paths)) (PathsSpent (length state.paths)) ∷ []

-- refusals that do not stand, between others
without : (deep spent full : Option EditRefusal) (new : State) → unless (deep ∷ spent ∷ None ∷ None ∷ full ∷ []) new ≡ unless (deep ∷ spent ∷ full ∷ []) new
without (Some d) spent full new = refl
without None (Some s) full new = refl
without None None full new = refl

zero_not : (n : ℕ) → 0 < n → (n == 0) ≡ false
zero_not n above = grind (arith, common_steps)

self_eq : (n : ℕ) → (n == n) ≡ true
self_eq n = grind (arith, common_steps)

-- a load of the value over the trees of this child has these refusals, and else leaves the state with it
abbrev Loads : Value → Option (Value × ℕ) → ℕ → List (List Step) → Type 0
Loads v child next paths =
    let state : State = record { trees = loaded_trees child; next = next; paths = paths } in
    apply (load v) state ≡ unless (refusals v state) (with_value v state)

module _ (v : Value) (next : ℕ) (paths : List (List Step)) where
  flat : 0 + depth v ≡ depth v
  flat = omega arith

  over_child : (child : Value) (n : ℕ) → (n == 0) ≡ false → (n == n) ≡ true → Loads v (Some (child, n)) next paths
  over_child (scalar (scalars.Str content)) n apart there = rw (apart, there, flat) refl
  over_child (scalar (scalars.Number literal)) n apart there = rw (apart, there, flat) refl
  over_child (scalar (scalars.Bool true)) n apart there = rw (apart, there, flat) refl
  over_child (scalar (scalars.Bool false)) n apart there = rw (apart, there, flat) refl
  over_child (scalar scalars.Null) n apart there = rw (apart, there, flat) refl
  over_child (array vs) n apart there = rw (apart, there, flat) refl
  over_child (object fs) n apart there = rw (apart, there, flat) refl

  over : (child : Option (Value × ℕ)) → IfSome child (λ c. 0 < c.1) → Loads v child next paths
  over None above = rw flat (without _ _ _ _)
  over (Some c) above = over_child c.0 c.1 (zero_not c.1 above) (self_eq c.1)

module _ (v : Value) (state : State) (is : IsLoaded state) where
  begun : IfSome is.child (λ c. 0 < c.1)
  begun = by is.child is.value
    where
      by : (child : Option (Value × ℕ)) → IfSome child (λ c. KeepsLimits c.0 × (depth c.0 ≤ nesting_limit) × (0 < c.1)) → IfSome child (λ c. 0 < c.1)
      by None all = tt
      by (Some c) all = all.2

  apply-load : apply (load v) state ≡ unless (refusals v state) (with_value v state)
  apply-load = let same = is.trees in rw same (over v state.next state.paths is.child begun)

  few_paths : length (with_value v state).paths ≤ length state.paths + nodes v
  few_paths = length-more_paths state.paths v state.next

  -- a value that nests too deep is refused
  pub too_deep : nesting_limit < depth v → apply (load v) state ≡ Err (TooDeep (min (depth v) (2 ^ 32 - 1)))
  too_deep past =
      let test : nat_lt nesting_limit (depth v) ≡ true = grind (arith, nat_tests) in
      apply-load ∙ rw test refl

  -- then one whose nodes need numbers past the last one
  pub numbers_spent : depth v ≤ nesting_limit → number_limit < state.next + nodes v → apply (load v) state ≡ Err (NumbersSpent state.next)
  numbers_spent fits past =
      let shallow : nat_lt nesting_limit (depth v) ≡ false = grind (arith, nat_tests) in
      let test : nat_lt number_limit (state.next + nodes v) ≡ true = grind (arith, nat_tests) in
      apply-load ∙ rw (shallow, test) refl

  -- and no other
  pub loads : depth v ≤ nesting_limit → state.next + nodes v ≤ number_limit → apply (load v) state ≡ Ok (with_value v state)
  loads fits room =
      let shallow : nat_lt nesting_limit (depth v) ≡ false = grind (arith, nat_tests) in
      let enough : nat_lt number_limit (state.next + nodes v) ≡ false = grind (arith, nat_tests) in
      let few : length (with_value v state).paths ≤ path_limit = omega (arith, few_paths, is.paths, room) in
      let free : nat_lt path_limit (length (with_value v state).paths) ≡ false = grind (arith, nat_tests) in
      apply-load ∙ rw (shallow, enough, free) refl

  -- what a load leaves
  pub loaded-with : KeepsLimits v → depth v ≤ nesting_limit → IsLoaded (with_value v state)
  loaded-with keeps fits = record {
    child = Some (v, state.next);
    trees = refl;
    value = (keeps, fits, loaded_begun state is);
    paths = omega (arith, few_paths, is.paths);
  }

  -- what an accepted load leaves
  pub edited_is : IsOk (apply (load v) state) → (depth v ≤ nesting_limit) × (state.next + nodes v ≤ number_limit) × (edited (load v) state ≡ with_value v state)
  edited_is ok = elim (cases_lt nesting_limit (depth v)) [
    | inl past ↦ absurd (false≢true (subst IsOk (too_deep past) ok))
    | inr fits ↦ elim (cases_lt number_limit (state.next + nodes v)) [
      | inl past ↦ absurd (false≢true (subst IsOk (numbers_spent fits past) ok))
      | inr room ↦ (fits, room, ap (λ (r : Result State EditRefusal). result_unwrap_or r state) (loads fits room))
    ]
  ]

  -- what is told of an accepted load
  pub told_is : told_of (load v) state (with_value v state) ≡ record { first = Some state.next; next = state.next + nodes v }
  told_is = refl

-- ---- their text

pub text_of_value : (v : Value) (n : ℕ) → document_text (document_with (numbered v n no_trees)) ≡ text v
text_of_value v n = simp (append-nil, text-numbered v n)

-- the text of a document: nothing where it has no child
abbrev pub child_text : Option (Value × ℕ) → List ℕ
child_text None = []
child_text (Some child) = text child.0

pub document_text-of : (child : Option (Value × ℕ)) → document_text (loaded_trees child) ≡ child_text child
document_text-of None = refl
document_text-of (Some child) = text_of_value child.0 child.1

pub loaded_text : (state : State) (is : IsLoaded state) → document_text state.trees ≡ child_text is.child
loaded_text state is = ap document_text is.trees ∙ document_text-of is.child

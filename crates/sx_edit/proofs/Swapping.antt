-- Trees of a state in which some take the place of others: its paths, and the numbers in its rows.
use Rattle.std.proofs.Common.{◌≡◌, ℕ, ◌+◌, ◌≤◌, ◌<◌, true, false, List, [], ◌∷◌, ◌++◌, length, Option, Some, None, refl, sym, ap, subst, ◌∙◌, arith}
use Rattle.std.specs.Prelude.{◌^◌, IsTrue, count_by, nat_lt, option_map, Ok, Err}
use Rattle.std.specs.Option.{option_or}
use Rattle.std.proofs.lemmas.Bool.Decides.{nat_tests}
use Rattle.std.proofs.lemmas.List.{length-append}
use Rattle.std.proofs.lemmas.List.Sums.{count_by-le-length}
use Rattle.sx_tree.specs.declared.edit.EditRefusal.TheVariants.{PathsSpent}
use Rattle.sx_tree.specs.declared.record.Kind.{Kind}
use Rattle.sx_tree.specs.declared.record.Kind.TheVariants.{Document, Object, Array, Key, Str, Number, Bool as Truth, Null}
use Rattle.sx_tree.specs.declared.record.Step.{Step}
use Rattle.sx_tree.specs.declared.record.NodeRecord.{NodeRecord}
use Rattle.sx_view.specs.Records.{RecordMap}
use Rattle.sx_model.specs.Edit.{path_limit, paths_spent, unless, when, with_trees}
use Rattle.sx_model.specs.Hash.{local_hash}
use Rattle.sx_model.specs.Paths.{count_on, number_of, path_of, paths_below, paths_in, same_path, with_paths}
use Rattle.sx_model.specs.Records.{Around, PathRow, around_children, at_top, first_of, row, rows}
use Rattle.sx_model.specs.State.{State}
use Rattle.sx_model.specs.Tree.{Node, Forest, no_trees, tree_then, is_value, may_stand, may_stand_below, tops, FitBelow, HasChildren, size}
use Rattle.sx_paths.proofs.Listing.{with_paths-append}
use Rattle.sx_edit.specs.Answers.{IsTableOf}
use Rattle.sx_edit.specs.Edited.{rows_in}
use Rattle.sx_edit.specs.Pathways.{HasAll, Lists, Numbers, more_on, own_of}
use Rattle.sx_edit.specs.Told.{Shows}
use Rattle.sx_edit.proofs.Pathing.{all-both, all-come, all-with, count-append, lists-as, lists-here, own-numbers, with-all}
use Rattle.sx_edit.proofs.TreePaths.{paths-few}

-- ---- rows by other numbers of paths

-- two numberings agree on these paths
abbrev pub SameOn : (List Step → ℕ) → (List Step → ℕ) → List (List Step) → Type 0
SameOn f g [] = Unit {0}
SameOn f g (path ∷ paths) = (f path ≡ g path) × SameOn f g paths

same-front : (f g : List Step → ℕ) (xs ys : List (List Step)) → SameOn f g (xs ++ ys) → SameOn f g xs
same-front f g [] ys is = tt
same-front f g (x ∷ xs) ys is = (is.0, same-front f g xs ys is.1)

same-back : (f g : List Step → ℕ) (xs ys : List (List Step)) → SameOn f g (xs ++ ys) → SameOn f g ys
same-back f g [] ys is = is
same-back f g (x ∷ xs) ys is = same-back f g xs ys is.1

pub no_document : (kind : Kind) → IsTrue (may_stand_below kind Document) → ⊥
no_document Document is = absurd cc
no_document Object is = absurd cc
no_document Array is = absurd cc
no_document Key is = absurd cc
no_document Str is = absurd cc
no_document Number is = absurd cc
no_document Truth is = absurd cc
no_document Null is = absurd cc

-- a value that stands first below a Key has the Key's path
key-same : (f g : List Step → ℕ) (key : Node) (path : List Step) (kind : Kind) (others : List (List Step)) → IsTrue (is_value kind) → SameOn f g (own_of kind path ++ others) → f path ≡ g path
key-same f g key path Document others value same = absurd cc
key-same f g key path Object others value same = same.0
key-same f g key path Array others value same = same.0
key-same f g key path Key others value same = absurd cc
key-same f g key path Str others value same = same.0
key-same f g key path Number others value same = same.0
key-same f g key path Truth others value same = same.0
key-same f g key path Null others value same = same.0

module _ (f g : List Step → ℕ) (top : f [] ≡ g []) where
  -- the numbers of a node's own path
  own-same : (above : Option Node) (steps : List Step) (k : ℕ) (kind : Kind) (label : List ℕ) (below : Forest) → IsTrue (may_stand (option_map (λ m. m.kind) above) kind)
      → HasChildren (Some kind) (tops below) → FitBelow (Some kind) below
      → SameOn f g (own_of kind (path_of above steps label) ++ paths_below (Some (record { number = k; kind = kind; label = label })) (path_of above steps label) below)
      → f (path_of above steps label) ≡ g (path_of above steps label)
  own-same None steps k Document label below stands children fit same = top
  own-same (Some m) steps k Document label below stands children fit same = absurd (no_document m.kind stands)
  own-same above steps k Object label below stands children fit same = same.0
  own-same above steps k Array label below stands children fit same = same.0
  own-same above steps k Key label no_trees stands children fit same = absurd (omega arith)
  own-same above steps k Key label (tree_then v inner rest) stands children fit same =
      key-same f g (record { number = k; kind = Key; label = label }) (path_of above steps label) v.kind _ fit.0 same
  own-same above steps k Str label below stands children fit same = same.0
  own-same above steps k Number label below stands children fit same = same.0
  own-same above steps k Truth label below stands children fit same = same.0
  own-same above steps k Null label below stands children fit same = same.0

  pub rows-same : (around : Around) (trees : Forest) → FitBelow (option_map (λ m. m.kind) around.above) trees → SameOn f g (paths_below around.above around.path trees)
      → rows local_hash f around trees ≡ rows local_hash g around trees
  rows-same around no_trees fit same = refl
  rows-same around (tree_then n below rest) fit same =
      let path : List Step = path_of around.above around.path n.label in
      let own : List (List Step) = own_of n.kind path in
      let inner : List (List Step) = paths_below (Some n) path below in
      let others : List (List Step) = paths_below around.above around.path rest in
      let behind = same-back f g own (inner ++ others) same in
      let here = own-same around.above around.path n.number n.kind n.label below fit.0 fit.2 fit.3 (subst (SameOn f g) (refl {a = own ++ inner}) (same-both own inner (same-front f g own (inner ++ others) same) (same-front f g inner others behind))) in
      let below_same = rows-same (around_children around n) below fit.3 (same-front f g inner others behind) in
      let rest_same = rows-same (record around { left = Some n.number }) rest fit.4 (same-back f g inner others behind) in
      λ i. (n.number, record (row local_hash f (record around { right = option_or (first_of rest) around.right }) n below) { path = here i }) ∷ (below_same i ++ rest_same i)
    where
      same-both : (xs ys : List (List Step)) → SameOn f g xs → SameOn f g ys → SameOn f g (xs ++ ys)
      same-both [] ys one other = other
      same-both (x ∷ xs) ys one other = (one.0, same-both xs ys one.1 other)

same-listed : (number : List Step → ℕ) (listed paths : List (List Step)) → Numbers number listed → HasAll listed paths → SameOn (number_of listed) number paths
same-listed number listed [] numbers all = tt
same-listed number listed (path ∷ paths) numbers all = (sym (numbers.listed_are path all.0), same-listed number listed paths numbers all.1)

-- the rows of all trees, by other numbers
pub renumbered : (number : List Step → ℕ) (table : List PathRow) (listed : List (List Step)) (count : List Step → ℕ) (trees : Forest) (o : Option (RecordMap NodeRecord)) → Lists table listed count → Numbers number listed
    → FitBelow None trees → HasAll listed (paths_in trees) → Shows o (rows_in (number_of listed) trees) → Shows o (rows_in number trees)
renumbered number table listed count trees o lists numbers fit all =
    let own = own-numbers table listed count lists in
    subst (Shows o) (rows-same (number_of listed) number (own.top_is ∙ sym numbers.top_is) at_top trees fit (same-listed number listed (paths_in trees) numbers all))

-- ---- some paths in the place of others

-- how many stand on each path, without those in the middle
abbrev pub counts_around : List (List Step) → List (List Step) → List Step → ℕ
counts_around xs ys path = count_by (same_path path) (xs ++ ys)

pub lists-around : (table : List PathRow) (listed xs mid ys : List (List Step)) (trees : Forest) → paths_in trees ≡ xs ++ (mid ++ ys) → Lists table listed (λ path. count_on path trees)
    → Lists table listed (more_on mid (counts_around xs ys))
lists-around table listed xs mid ys trees is = lists-as table listed _ _ (λ i path. each path i)
  where
    each : (path : List Step) → count_on path trees ≡ more_on mid (counts_around xs ys) path
    each path = ap (count_by (same_path path)) is
        ∙ (let e : count_by (same_path path) (xs ++ (mid ++ ys)) ≡ count_by (same_path path) (xs ++ ys) + count_by (same_path path) mid =
        omega (arith, count-append (same_path path) xs (mid ++ ys), count-append (same_path path) mid ys, count-append (same_path path) xs ys) in e)

with-around : (listed xs mid ys : List (List Step)) → HasAll listed xs → HasAll listed ys → with_paths listed (xs ++ (mid ++ ys)) ≡ with_paths listed mid
with-around listed xs mid ys before behind =
    with_paths-append listed xs (mid ++ ys) ∙ ap (λ l. with_paths l (mid ++ ys)) (with-all listed xs before) ∙ with_paths-append listed mid ys
    ∙ with-all (with_paths listed mid) ys (all-with listed mid ys behind)

module _ (state : State) (more : ℕ) (trees : Forest) (xs mid ys : List (List Step)) (is : paths_in trees ≡ xs ++ (mid ++ ys)) (before : HasAll state.paths xs) (behind : HasAll state.paths ys) where
  -- the paths of the new state
  pub state-paths : (with_trees state more trees).paths ≡ with_paths state.paths mid
  state-paths = ap (with_paths state.paths) is ∙ with-around state.paths xs mid ys before behind

  pub table-around : (table : List PathRow) → Lists table (with_paths state.paths mid) (more_on mid (counts_around xs ys)) → IsTableOf (with_trees state more trees) table
  table-around table lists =
      let listed : List (List Step) = with_paths state.paths mid in
      let count_is : more_on mid (counts_around xs ys) ≡ (λ path. count_on path trees) = λ i path. sym (each path) i in
      record {
        lists = lists-here table listed (with_trees state more trees).paths _ _ (sym state-paths) count_is lists;
        listed = subst (λ l. HasAll l (paths_in trees)) (sym state-paths) (subst (HasAll listed) (sym is) (all-both listed xs (mid ++ ys) (all-with state.paths mid xs before)
            (all-both listed mid ys (all-come state.paths mid) (all-with state.paths mid ys behind))));
      }
    where
      each : (path : List Step) → count_on path trees ≡ more_on mid (counts_around xs ys) path
      each path = ap (count_by (same_path path)) is
          ∙ (let e : count_by (same_path path) (xs ++ (mid ++ ys)) ≡ count_by (same_path path) (xs ++ ys) + count_by (same_path path) mid =
          omega (arith, count-append (same_path path) xs (mid ++ ys), count-append (same_path path) mid ys, count-append (same_path path) xs ys) in e)

  -- there is room for them, or not
  pub paths-room : length (with_paths state.paths mid) ≤ path_limit → unless (paths_spent state (with_trees state more trees) ∷ []) (with_trees state more trees) ≡ Ok (with_trees state more trees)
  paths-room few =
      let no : nat_lt path_limit (length (with_trees state more trees).paths) ≡ false = ap (λ (l : List (List Step)). nat_lt path_limit (length l)) state-paths ∙ not-below path_limit (length (with_paths state.paths mid)) few in
      ap (λ b. unless (when b (PathsSpent (length state.paths)) ∷ []) (with_trees state more trees)) no
    where
      not-below : (a b : ℕ) → b ≤ a → nat_lt a b ≡ false
      not-below a b is = grind (arith, nat_tests)

  pub paths-full : path_limit < length (with_paths state.paths mid) → unless (paths_spent state (with_trees state more trees) ∷ []) (with_trees state more trees) ≡ Err (PathsSpent (length state.paths))
  paths-full many =
      let yes : nat_lt path_limit (length (with_trees state more trees).paths) ≡ true = ap (λ (l : List (List Step)). nat_lt path_limit (length l)) state-paths ∙ below path_limit (length (with_paths state.paths mid)) many in
      ap (λ b. unless (when b (PathsSpent (length state.paths)) ∷ []) (with_trees state more trees)) yes
    where
      below : (a b : ℕ) → a < b → nat_lt a b ≡ true
      below a b is = grind (arith, nat_tests)

-- the counts have room for so many more
pub counts-room : (xs mid ys : List (List Step)) (trees : Forest) (more next : ℕ) → paths_in trees ≡ xs ++ (mid ++ ys) → size trees ≤ next → next + more ≤ 2 ^ 31
    → (other : List Step) → counts_around xs ys other + more < 2 ^ 32
counts-room xs mid ys trees more next is few fits other =
    omega (arith, few, fits, ap length is, paths-few None [] trees, length-append xs (mid ++ ys), length-append mid ys, length-append xs ys, count_by-le-length (same_path other) (xs ++ ys))

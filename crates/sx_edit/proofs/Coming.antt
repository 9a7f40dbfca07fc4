-- A value that comes among the trees of a state: its paths, and what the edit answers.
use Rattle.std.proofs.Common.{◌≡◌, ℕ, ◌+◌, ◌<◌, List, [], ◌∷◌, ◌++◌, length, Option, Some, None, sym, ap, subst, ◌∙◌, append-nil}
use Rattle.std.specs.Prelude.{◌^◌, Ok, Err}
use Rattle.sx_tree.specs.declared.record.Step.{Step}
use Rattle.sx_tree.specs.Value.{Value, nodes}
use Rattle.sx_model.specs.Edit.{Edit, apply, entering, paths_spent, unless, with_trees}
use Rattle.sx_model.specs.Holes.{around_hole, plug}
use Rattle.sx_model.specs.Numbered.{numbered}
use Rattle.sx_model.specs.Paths.{number_of, path_of, paths_below, paths_in, with_paths}
use Rattle.sx_model.specs.Sound.{AreBelow}
use Rattle.sx_model.specs.State.{State}
use Rattle.sx_model.specs.Tree.{Node, Forest, no_trees, beside}
use Rattle.sx_edit.specs.declared.fault.EditFault.{EditFault}
use Rattle.sx_edit.specs.declared.trees.Gap.{Gap}
use Rattle.sx_edit.specs.declared.trees.Rim.{Rim}
use Rattle.sx_edit.specs.declared.trees.Tree.{Tree}
use Rattle.sx_edit.specs.Answers.{Answers, IsTableOf}
use Rattle.sx_edit.specs.Edited.{rows_in}
use Rattle.sx_edit.specs.Fill.{IsFilled, IsGap, IsOpen, Opening, StandsOn, StopsFilling, entering_paths, entering_top, enters, left_open}
use Rattle.sx_edit.specs.Pathways.{HasAll, IsPathAt, Kept, Lists, Numbers, Stops, more_on}
use Rattle.sx_edit.specs.Told.{Holds, Shows, numbers_of}
use Rattle.sx_edit.proofs.Answering.{stops-answers}
use Rattle.sx_edit.proofs.Pathing.{numbers-back, own-numbers}
use Rattle.sx_edit.proofs.Stopping.{stops-among, stops-same}
use Rattle.sx_edit.proofs.Swapping.{counts_around, state-paths, paths-full, paths-room, table-around}
use Rattle.sx_edit.proofs.TreePaths.{paths-among, paths-value, paths_left, paths_right}

-- the paths of what enters
pub entering-tree : (name : Option (List ℕ)) (v : Value) (n : ℕ) (m : Node) (steps : List Step)
    → paths_below (Some m) steps (entering name v n no_trees) ≡ entering_paths name v n (path_of (Some m) steps (entering_top name v n).label)
entering-tree None v n m steps = paths-value v n m steps
entering-tree (Some name) v n m steps =
    let key : Node = entering_top (Some name) v n in
    append-nil (paths_below (Some key) (path_of (Some m) steps name) (numbered v (n + 1) no_trees)) ∙ paths-value v (n + 1) key (path_of (Some m) steps name)

-- The gap stands open, and the trees with what comes are these. The paths of all others are listed, and their values counted.
pub record IsComing (state : State) (next : ℕ) (gap : Gap) (rim : Rim) (old : Option Tree) (name : Option (List ℕ)) (v : Value) (path : ℕ) (before : Kept) (trees : Forest) : Type 0 where
  pub at : Opening
  pub steps : List Step
  -- the paths that are listed by then
  pub listed : List (List Step)
  pub listed_is : with_paths listed (entering_paths name v next steps) ≡ with_paths state.paths (entering_paths name v next steps)
  pub gap_is : IsGap next gap old at
  pub at_path : IsPathAt listed steps path
  pub stands : StandsOn at name v next steps
  pub lists : Lists before.table listed (counts_around (paths_left (at.frame ∷ at.frames) at.left) (paths_right (at.frame ∷ at.frames) at.right))
  pub trees_are : plug (at.frame ∷ at.frames) (beside at.left (beside (entering name v next no_trees) at.right)) ≡ trees
  pub front : HasAll state.paths (paths_left (at.frame ∷ at.frames) at.left)
  pub back : HasAll state.paths (paths_right (at.frame ∷ at.frames) at.right)
  pub room : (other : List Step) → counts_around (paths_left (at.frame ∷ at.frames) at.left) (paths_right (at.frame ∷ at.frames) at.right) other + nodes v < 2 ^ 32
  pub shows : (number : List Step → ℕ) → Numbers number listed → AreBelow next (numbers_of (left_open number at)) × IsOpen number rim at before.told

module _ (state : State) (next more had : ℕ) (gap : Gap) (rim : Rim) (old : Option Tree) (name : Option (List ℕ)) (v : Value) (path : ℕ) (before : Kept) (trees : Forest) (is : IsComing state next gap rim old name v path before trees) where
  coming-paths : paths_in trees ≡ paths_left (is.at.frame ∷ is.at.frames) is.at.left ++ (entering_paths name v next is.steps ++ paths_right (is.at.frame ∷ is.at.frames) is.at.right)
  coming-paths =
      ap paths_in (sym is.trees_are) ∙ paths-among (is.at.frame ∷ is.at.frames) is.at.left (entering name v next no_trees) is.at.right
      ∙ ap (λ ps. paths_left (is.at.frame ∷ is.at.frames) is.at.left ++ (ps ++ paths_right (is.at.frame ∷ is.at.frames) is.at.right))
      (entering-tree name v next is.at.frame.node (around_hole (is.at.frame ∷ is.at.frames)).path ∙ ap (entering_paths name v next) is.stands)

  -- the records and the table of the new state
  pub coming-done : (after : Kept) → IsFilled next gap rim old (enters name v path had) before after
      → (unless (paths_spent state (with_trees state more trees) ∷ []) (with_trees state more trees) ≡ Ok (with_trees state more trees))
      × Holds after.told (rows_in (number_of (with_trees state more trees).paths) trees) × IsTableOf (with_trees state more trees) after.table
  unfolding IsFilled
  coming-done after fills =
      let xs : List (List Step) = paths_left (is.at.frame ∷ is.at.frames) is.at.left in
      let ys : List (List Step) = paths_right (is.at.frame ∷ is.at.frames) is.at.right in
      let mid : List (List Step) = entering_paths name v next is.steps in
      let listed : List (List Step) = with_paths is.listed mid in
      let done = fills is.at is.listed (counts_around xs ys) is.steps is.gap_is is.lists is.at_path is.stands in
      let numbers = own-numbers after.table listed _ done.0 in
      let known = is.shows (number_of listed) (numbers-back (number_of listed) is.listed mid numbers) in
      let shows = done.1 (number_of listed) numbers known.0 known.1 in
      let new_is : listed ≡ (with_trees state more trees).paths = is.listed_is ∙ sym (state-paths state more trees xs mid ys coming-paths is.front is.back) in
      let lists : Lists after.table (with_paths state.paths mid) (more_on mid (counts_around xs ys)) = subst (λ (l : List (List Step)). Lists after.table l (more_on mid (counts_around xs ys))) is.listed_is done.0 in (
        paths-room state more trees xs mid ys coming-paths is.front is.back lists.few,
        (subst (λ (l : List (List Step)). Shows after.told (rows_in (number_of l) trees)) new_is (subst (λ t. Shows after.told (rows_in (number_of listed) t)) is.trees_are shows)).holds,
        table-around state more trees xs mid ys coming-paths is.front is.back after.table lists,
      )

  -- what stops it is answered
  pub coming-stops : (edit : Edit) (after : Kept) (e : EditFault) → had ≡ length state.paths
      → apply edit state ≡ unless (paths_spent state (with_trees state more trees) ∷ []) (with_trees state more trees) → StopsFilling next gap rim old (enters name v path had) before e
      → Answers edit state after (Err e)
  unfolding StopsFilling
  coming-stops edit after e had_is is_apply stops =
      let xs : List (List Step) = paths_left (is.at.frame ∷ is.at.frames) is.at.left in
      let ys : List (List Step) = paths_right (is.at.frame ∷ is.at.frames) is.at.right in
      let mid : List (List Step) = entering_paths name v next is.steps in
      stops-answers edit state after had mid e had_is (λ many. is_apply ∙ paths-full state more trees xs mid ys coming-paths is.front is.back many)
      (stops-same had is.listed state.paths mid mid e (ap length is.listed_is) (stops is.at is.listed (counts_around xs ys) is.steps is.gap_is is.lists is.at_path is.stands is.room is.shows))

-- where the path of what comes stops it
pub onto-answers : (edit : Edit) (state : State) (more had : ℕ) (trees : Forest) (xs mid ys : List (List Step)) (path : List Step) (rest : List (List Step)) (after : Kept) (e : EditFault) → paths_in trees ≡ xs ++ (mid ++ ys)
    → mid ≡ path ∷ rest → HasAll state.paths xs → HasAll state.paths ys → had ≡ length state.paths → apply edit state ≡ unless (paths_spent state (with_trees state more trees) ∷ []) (with_trees state more trees)
    → Stops had state.paths (path ∷ []) e → Answers edit state after (Err e)
onto-answers edit state more had trees xs mid ys path rest after e paths_are mid_is front back had_is is_apply stops =
    stops-answers edit state after had mid e had_is (λ many. is_apply ∙ paths-full state more trees xs mid ys paths_are front back many)
    (stops-among had state.paths [] (path ∷ []) rest mid e mid_is stops)

-- Groups that show legal commits keep the rules on their counts and on the lengths of their frames.
use Rattle.std.proofs.Common.{◌≡◌, ◌∙◌, ℕ, ℤ, ◌+◌, ◌≤◌, Bool, true, false, not, List, [], ◌∷◌, ◌++◌, length, Some, None, refl, sym, ap, subst, arith, length-append, nat_lt}
use Rattle.std.specs.Prelude.{IsOk, Result, Ok, Err, ◌==◌, slice_get, if◌then◌else◌}
use Rattle.std.specs.Int.{to_be_bytes, w32}
use Rattle.std.specs.List.{AllByRecursion, list_any}
use Rattle.std.specs.Result.{result_unwrap_or}
use Rattle.std.proofs.lemmas.Bool.{false≢true}
use Rattle.std.proofs.lemmas.Bool.Decides.{nat_tests}
use Rattle.sx_frame.specs.Violation.{Violation}
use Rattle.sx_layout.proofs.Broken.{unbroken}
use Rattle.sx_layout.specs.FrameGroup.{FrameGroup, first_root, row_of}
use Rattle.sx_layout.specs.Rule.{first_broken}
use Rattle.sx_layout.specs.Rules.{KeepCounts, count_rules, least_frame, path_limit, table_rules}
use Rattle.sx_model.specs.Commit.{Commit, AreLegal, first_time}
use Rattle.sx_model.specs.Edit.{Edit, AreAccepted, IsEdit, after, apply, edited, number_limit}
use Rattle.sx_model.specs.Paths.{paths_in, same_path, with_paths}
use Rattle.sx_model.specs.Sound.{IsSound}
use Rattle.sx_model.specs.State.{State, empty_document}
use Rattle.sx_model.specs.Tree.{Forest, no_trees, tree_then, numbers, size}
use Rattle.sx_model.proofs.Sound.{apply-sound, empty-sound}
use Rattle.sx_root.specs.declared.root.RevisionRoot.{RevisionRoot}
use Rattle.sx_store.proofs.Adding.{apply-adds}
use Rattle.sx_store.proofs.States.{few}
use Rattle.sx_tree.specs.declared.edit.EditRefusal.{EditRefusal}
use Rattle.sx_tree.specs.declared.record.Step.{Step}
use Rattle.sx_whole.specs.Stands.{ShowCommits, ShowFrom, ShowsState, root_of, whole_frame}

-- ---- numbers and paths never fall

longer-if : (b : Bool) (listed paths : List (List Step)) (path : List Step) → length listed ≤ length (with_paths listed paths)
    → length (listed ++ path ∷ []) ≤ length (with_paths (listed ++ path ∷ []) paths) → length listed ≤ length (with_paths (if b then listed else listed ++ path ∷ []) paths)
longer-if true listed paths path same more = same
longer-if false listed paths path same more = omega (arith, more, length-append listed (path ∷ []))

with-more : (listed paths : List (List Step)) → length listed ≤ length (with_paths listed paths)
with-more listed [] = omega arith
with-more listed (path ∷ paths) = longer-if (list_any (same_path path) listed) listed paths path (with-more listed paths) (with-more (listed ++ path ∷ []) paths)

-- the new state is sound, and has as many numbers and paths as the old one, or more
record Goes (old new : State) : Type 0 where
  sound : IsSound new
  next : old.next ≤ new.next
  paths : length old.paths ≤ length new.paths

goes-edit : (edit : Edit) (state : State) → IsSound state → IsEdit edit → IsOk (apply edit state) → Goes state (edited edit state)
goes-edit edit state sound keeps ok = by (apply edit state) refl ok
  where
    by : (r : Result State EditRefusal) → apply edit state ≡ r → IsOk r → Goes state (result_unwrap_or r state)
    by (Ok new) made ok =
        let follows = apply-sound edit state new sound keeps made in
        let more = with-more state.paths (paths_in new.trees) in
        record { sound = follows.0; next = follows.1; paths = subst (λ paths. length state.paths ≤ length paths) (sym (apply-adds edit state new made)) more }
    by (Err refusal) made ok = absurd (false≢true ok)

goes-edits : (edits : List Edit) (state : State) → IsSound state → AreAccepted edits state → Goes state (after edits state)
goes-edits [] state sound all = record { sound = sound; next = omega arith; paths = omega arith }
goes-edits (edit ∷ edits) state sound all =
    let one = goes-edit edit state sound all.0 all.1 in
    let more = goes-edits edits (edited edit state) one.sound all.2 in
    record { sound = more.sound; next = omega (arith, one.next, more.next); paths = omega (arith, one.paths, more.paths) }

-- ---- the rules

-- the Document is there
some-node : (trees : Forest) → slice_get (numbers trees) 0 ≡ Some 0 → 1 ≤ size trees
some-node no_trees is = absurd cc
some-node (tree_then n below rest) is = omega arith

at-least : (a b : ℕ) → b ≤ a → nat_lt a b ≡ false
at-least a b is = grind (arith, nat_tests)

same-count : (a b : ℕ) → a ≡ b → not (a == b) ≡ false
same-count a b is = grind (arith, nat_tests)

pub none-of : (rules : List (Bool × Violation)) → AllByRecursion (λ (rule : Bool × Violation). rule.0 ≡ false) rules → first_broken rules ≡ None
none-of [] all = refl
none-of (rule ∷ rules) all = unbroken rule.0 rule.1 rules all.0 ∙ none-of rules all.1

counts-kept : (last : RevisionRoot) (old new : State) (r bytes : ℕ) (time : ℤ) → last.next ≡ old.next → last.paths ≡ length old.paths → Goes old new
    → first_broken (count_rules last (root_of r time new bytes)) ≡ None
counts-kept last old new r bytes time next paths goes =
    let some = some-node new.trees goes.sound.well_formed.zero in
    let most = few new goes.sound in
    none-of (count_rules last (root_of r time new bytes)) (
      at-least new.next last.next (omega (arith, next, goes.next)),
      (
        at-least number_limit new.next goes.sound.next,
        (
          at-least (size new.trees) 1 some,
          (
            at-least new.next (size new.trees) most,
            (at-least (length new.paths) last.paths (omega (arith, paths, goes.paths)), (at-least path_limit (length new.paths) goes.sound.paths, tt)),
          ),
        ),
      ),
    )

frame-long : (body : List ℕ) → 5 ≤ length (whole_frame body)
frame-long body = let long = length-append (to_be_bytes w32 (length body)) body in omega (arith, long)

lengths-kept : (r : ℕ) (time : ℤ) (state : State) (body : List ℕ) → first_broken (table_rules (root_of r time state (length (whole_frame body))) (row_of (whole_frame body) ∷ [])) ≡ None
lengths-kept r time state body =
    let n : ℕ = length (whole_frame body) in
    none-of (table_rules (root_of r time state n) (row_of (whole_frame body) ∷ [])) (at-least n least_frame (frame-long body), (same-count n (n + 0) (omega arith), tt))

-- ---- all groups

keep-from : (r : ℕ) (last : RevisionRoot) (time : ℤ) (state : State) (commits : List Commit) (groups : List FrameGroup) → last.next ≡ state.next → last.paths ≡ length state.paths
    → IsSound state → AreLegal time state commits → ShowFrom r state commits groups → KeepCounts last groups
keep-from r last time state commits [] next paths sound legal shows = tt
keep-from r last time state [] (group ∷ groups) next paths sound legal shows = absurd shows
keep-from r last time state (commit ∷ commits) (group ∷ groups) next paths sound legal shows =
    let new : State = after commit.edits state in
    let goes = goes-edits commit.edits state sound legal.2 in
    let shown : ShowsState r commit.time new group = shows.0 in
    let root : group.root ≡ root_of r commit.time new (length (whole_frame shown.body)) = ap (λ (g : FrameGroup). g.root) shown.group_is in (
      subst (λ (root : RevisionRoot). first_broken (count_rules last root) ≡ None) (sym root) (counts-kept last state new r (length (whole_frame shown.body)) commit.time next paths goes),
      subst (λ (g : FrameGroup). first_broken (table_rules g.root g.table) ≡ None) (sym shown.group_is) (lengths-kept r commit.time new shown.body),
      keep-from (r + 1) group.root commit.time new commits groups (ap (λ (root : RevisionRoot). root.next) root) (ap (λ (root : RevisionRoot). root.paths) root) goes.sound legal.3 shows.1,
    )

-- Groups that show legal commits keep the rules on counts.
pub shown-keep : (commits : List Commit) (groups : List FrameGroup) → ShowCommits groups commits → KeepCounts first_root groups
shown-keep commits groups shows = keep-from 1 first_root first_time empty_document commits groups refl refl empty-sound shows.0 shows.1

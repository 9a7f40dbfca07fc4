-- What renaming answers over the records of a state.
use Rattle.std.proofs.Common.{◌≡◌, ℕ, ◌≤◌, Bool, true, false, List, [], ◌∷◌, Option, Some, None, refl, sym, ap, subst, ◌∙◌, arith}
use Rattle.std.specs.Prelude.{◌==◌, ◌&&◌, IsTrue, Err, not, find, filter, option_map, bytes_eq}
use Rattle.std.specs.Option.{ForSome}
use Rattle.std.specs.FinMap as fin
use Rattle.std.proofs.lemmas.Grind.{common_steps}
use Rattle.sx_tree.specs.declared.edit.EditRefusal.TheVariants.{WrongKind, NameTaken}
use Rattle.sx_tree.specs.declared.record.Kind.{Kind}
use Rattle.sx_tree.specs.declared.record.Kind.TheVariants.{Document, Object, Array, Key, Str, Number, Bool as Truth, Null}
use Rattle.sx_tree.specs.declared.record.NodeRecord.{NodeRecord}
use Rattle.sx_tree.specs.declared.record.Step.{Step}
use Rattle.sx_view.specs.Records.{RecordMap}
use Rattle.sx_view.specs.Rows.{row_of}
use Rattle.sx_model.specs.Hash.{local_hash}
use Rattle.sx_model.specs.Edit.{rename, apply, if_there, unless, wrong_kind, name_taken, other_keys, paths_spent, with_trees}
use Rattle.sx_model.specs.State.{State}
use Rattle.sx_model.specs.Tree.{Node, Forest, tree_then, beside, is_key, change_at, FitBelow, is_document, size, Spot, tops}
use Rattle.sx_model.specs.Records.{NodeRow, PathRow, first_of}
use Rattle.sx_model.specs.Holes.{Frame, plug, shown, around_hole, rows_before, rows_behind}
use Rattle.sx_model.proofs.Holes.{rows-plug}
use Rattle.sx_model.proofs.Plugging.{fit_back}
use Rattle.sx_edit.specs.declared.fault.EditFault.TheVariants.{Refused}
use Rattle.sx_edit.specs.Told.{Shows}
use Rattle.sx_edit.specs.Names.{FindsKey}
use Rattle.sx_edit.specs.Edited.{rows_in}
use Rattle.sx_edit.specs.Answers.{AreOf, AnswersEach}
use Rattle.sx_edit.proofs.Climbing.{some_is}
use Rattle.sx_edit.specs.Holes.{own_row}
use Rattle.sx_edit.proofs.Relabeling.{deep-plug}
use Rattle.sx_edit.specs.Room.{nodes_of}
use Rattle.sx_edit.proofs.Looking.{IsSeen}
use Rattle.sx_edit.proofs.Mending.{count-size}
use Rattle.sx_edit.proofs.Answering.{IsNoState}
use Rattle.sx_edit.specs.Pathways.{Kept, kept}
use Rattle.sx_model.specs.Paths.{number_of}
use Rattle.sx_edit.proofs.SettingScalars.{seen}
use Rattle.sx_edit.proofs.Splicing.{parent-there}

pub kind-key : (kind : Kind) → is_key kind ≡ true → kind ≡ Key
kind-key Document is = absurd cc
kind-key Object is = absurd cc
kind-key Array is = absurd cc
kind-key Key is = refl
kind-key Str is = absurd cc
kind-key Number is = absurd cc
kind-key Truth is = absurd cc
kind-key Null is = absurd cc

find-filter : (p q : Node → Bool) (ns : List Node) → find p (filter q ns) ≡ find (λ n. q n && p n) ns
find-filter p q [] = refl
find-filter p q (n ∷ ns) = grind (arith, common_steps, find-filter p q ns)

-- no Key stands at the top
top-kind : (kind : Kind) → IsTrue (is_document kind) → is_key kind ≡ false
top-kind Document is = refl
top-kind Object is = refl
top-kind Array is = refl
top-kind Key is = absurd cc
top-kind Str is = refl
top-kind Number is = refl
top-kind Truth is = refl
top-kind Null is = refl

pub taken_of : (found : Option Node) → option_map (λ n. NameTaken n.number) found ≡ option_map NameTaken (option_map (λ n. n.number) found)
taken_of None = refl
taken_of (Some n) = refl

module _ (k : ℕ) (name : List ℕ) (next : ℕ) (r : NodeRecord) where
  rename-apply : (state : State) (o : Option (RecordMap NodeRecord)) (s : IsSeen k state o r)
      → let new : State = with_trees state 0 (change_at k (λ n below rest. tree_then (record n { label = name }) below rest) state.trees) in
      let q : Spot = record { above = nodes_of s.at.around; siblings = beside s.at.left (tree_then s.at.node s.at.below s.at.right); node = s.at.node; below = s.at.below } in
      apply (rename k name) state ≡ unless (wrong_kind (not (is_key r.kind)) s.at.node ∷ name_taken name (other_keys q) ∷ paths_spent state new ∷ []) new
  rename-apply state o s =
      let new : State = with_trees state 0 (change_at k (λ n below rest. tree_then (record n { label = name }) below rest) state.trees) in
      let q : Spot = record { above = nodes_of s.at.around; siblings = beside s.at.left (tree_then s.at.node s.at.below s.at.right); node = s.at.node; below = s.at.below } in
      let kind : r.kind ≡ s.at.node.kind = ap (λ (w : NodeRow). w.kind) s.row in
      ap (if_there k (λ q. unless (wrong_kind (not (is_key q.node.kind)) q.node ∷ name_taken name (other_keys q) ∷ paths_spent state new ∷ []) new)) s.at.spot
      ∙ ap (λ (kind : Kind). unless (wrong_kind (not (is_key kind)) s.at.node ∷ name_taken name (other_keys q) ∷ paths_spent state new ∷ []) new) (sym kind)

  pub rename-wrong : (before after : Kept) → ForSome before.told (λ m. fin.get m k ≡ Some r) → is_key r.kind ≡ false
      → AnswersEach (rename k name) next before after (Err (Refused (WrongKind k r.kind)))
  unfolding AnswersEach
  rename-wrong before after there wrong state are of_state =
      let s = seen k state next before.told r are there in
      let new : State = with_trees state 0 (change_at k (λ n below rest. tree_then (record n { label = name }) below rest) state.trees) in
      let q : Spot = record { above = nodes_of s.at.around; siblings = beside s.at.left (tree_then s.at.node s.at.below s.at.right); node = s.at.node; below = s.at.below } in
      rename-apply state before.told s ∙ ap (λ (b : Bool). unless (wrong_kind (not b) s.at.node ∷ name_taken name (other_keys q) ∷ paths_spent state new ∷ []) new) wrong
      ∙ (λ i. Err (WrongKind (s.at.number i) (sym (ap (λ (w : NodeRow). w.kind) s.row) i)))

  -- a Key does not stand at the top
  pub rename-top : (before : Option (RecordMap NodeRecord)) → ForSome before (λ m. fin.get m k ≡ Some r) → is_key r.kind ≡ true → r.parent ≡ None → IsNoState next before
  unfolding IsNoState
  rename-top before there key none state are =
      let s = seen k state next before r are there in
      top (number_of state.paths) s.at.around s.at.left s.at.node s.at.below s.at.right s.row (subst (FitBelow None) s.at.stands are.well_formed.fit)
    where
      top : (number : List Step → ℕ) (frames : List Frame) (left : Forest) (n : Node) (below right : Forest) → row_of r ≡ own_row local_hash number frames left n below right
          → FitBelow None (plug frames (beside left (tree_then n below right))) → ⊥
      top number [] left n below right row fit =
          let kind : r.kind ≡ n.kind = ap (λ (w : NodeRow). w.kind) row in
          let no_key : is_key r.kind ≡ false = ap is_key kind ∙ top-kind n.kind (fit_back None left (tree_then n below right) fit).0 in
          cc
      top number (frame ∷ frames) left n below right row fit =
          let up : r.parent ≡ Some frame.node.number = ap (λ (w : NodeRow). w.parent) row in
          cc

  -- what was found is what the state says
  sought : (number : List Step → ℕ) (before : Option (RecordMap NodeRecord)) (p : NodeRecord) (parent : ℕ) (answer : Option (Option ℕ)) (frames : List Frame) (left : Forest) (n : Node) (below right : Forest)
      → n.number ≡ k → row_of r ≡ own_row local_hash number frames left n below right → r.parent ≡ Some parent → ForSome before (λ m. fin.get m parent ≡ Some p)
      → size (plug frames (beside left (tree_then n below right))) ≤ next → FindsKey (Some k) name p.first next before answer
      → Shows before (rows_in number (plug frames (beside left (tree_then n below right))))
      → answer ≡ Some (option_map (λ m. m.number) (find (λ m. is_key m.kind && bytes_eq m.label name) (filter (λ m. not (m.number == n.number)) (tops (beside left (tree_then n below right))))))
  unfolding FindsKey
  sought number before p parent answer [] left n below right same row up there few finds shows = absurd (let top : r.parent ≡ None = ap (λ (w : NodeRow). w.parent) row in cc)
  sought number before p parent answer (frame ∷ frames) left n below right same row up there few finds shows =
      let inside : Forest = beside left (tree_then n below right) in
      let above_is : r.parent ≡ Some frame.node.number = ap (λ (w : NodeRow). w.parent) row in
      let parent_is : parent ≡ frame.node.number = cc in
      let p_row = some_is _ _ (parent-there number frames frame inside (Some p) before shows (rw parent_is at there)) in
      let first : first_of inside ≡ p.first = sym (ap (λ (w : NodeRow). w.first) p_row) in
      let deep = deep-plug (frame ∷ frames) inside in
      let all = subst (Shows before) (rows-plug local_hash number (frame ∷ frames) inside) shows in
      finds local_hash number (around_hole (frame ∷ frames)) inside (rows_before local_hash number (frame ∷ frames) (shown local_hash inside)) (rows_behind local_hash number (frame ∷ frames) (shown local_hash inside))
      first refl (omega (arith, count-size inside)) all
      ∙ (λ i. Some (option_map (λ m. m.number) (find (λ m. not (m.number == sym same i) && (is_key m.kind && bytes_eq m.label name)) (tops inside))))
      ∙ ap (λ f. Some (option_map (λ m. m.number) f)) (sym (find-filter (λ m. is_key m.kind && bytes_eq m.label name) (λ m. not (m.number == n.number)) (tops inside)))

  -- the refusal for the name, by what was found
  taken_is : (state : State) (before now : Option (RecordMap NodeRecord)) (p : NodeRecord) (parent : ℕ) (taken : Option ℕ) → AreOf state next before → (s : IsSeen k state before r)
      → r.parent ≡ Some parent → ForSome before (λ m. fin.get m parent ≡ Some p) → now ≡ before → FindsKey (Some k) name p.first next now (Some taken)
      → let q : Spot = record { above = nodes_of s.at.around; siblings = beside s.at.left (tree_then s.at.node s.at.below s.at.right); node = s.at.node; below = s.at.below } in
      name_taken name (other_keys q) ≡ option_map NameTaken taken
  taken_is state before now p parent taken are s up there same finds =
      let few : size (plug s.at.around (beside s.at.left (tree_then s.at.node s.at.below s.at.right))) ≤ next = subst (λ t. size t ≤ next) s.at.stands are.few in
      let finds_before : FindsKey (Some k) name p.first next before (Some taken) = subst (λ o. FindsKey (Some k) name p.first next o (Some taken)) same finds in
      let found = sought (number_of state.paths) before p parent (Some taken) s.at.around s.at.left s.at.node s.at.below s.at.right s.at.number s.row up there few finds_before s.shows in
      let taken_found : taken ≡ option_map (λ m. m.number) (find (λ m. is_key m.kind && bytes_eq m.label name) (filter (λ m. not (m.number == s.at.node.number)) (tops (beside s.at.left (tree_then s.at.node s.at.below s.at.right))))) = cc in
      taken_of _ ∙ ap (option_map NameTaken) (sym taken_found)

  pub rename-taken : (before now : Option (RecordMap NodeRecord)) (table : List PathRow) (after : Kept) (p : NodeRecord) (parent taken : ℕ) → ForSome before (λ m. fin.get m k ≡ Some r) → is_key r.kind ≡ true → r.parent ≡ Some parent
      → ForSome before (λ m. fin.get m parent ≡ Some p) → now ≡ before → FindsKey (Some k) name p.first next now (Some (Some taken)) → AnswersEach (rename k name) next (kept before table) after (Err (Refused (NameTaken taken)))
  unfolding AnswersEach
  rename-taken before now table after p parent taken there key up there_p same finds state are of_state =
      let s = seen k state next before r are there in
      let new : State = with_trees state 0 (change_at k (λ n below rest. tree_then (record n { label = name }) below rest) state.trees) in
      let is = taken_is state before now p parent (Some taken) are s up there_p same finds in
      rename-apply state before s
      ∙ (λ i. unless (wrong_kind (not (key i)) s.at.node ∷ is i ∷ paths_spent state new ∷ []) new)

  pub rename-cannot_find : (before now : Option (RecordMap NodeRecord)) (p : NodeRecord) (parent : ℕ) → ForSome before (λ m. fin.get m k ≡ Some r) → r.parent ≡ Some parent
      → ForSome before (λ m. fin.get m parent ≡ Some p) → now ≡ before → FindsKey (Some k) name p.first next now None → IsNoState next before
  unfolding IsNoState
  rename-cannot_find before now p parent there up there_p same finds state are =
      let s = seen k state next before r are there in
      let few : size (plug s.at.around (beside s.at.left (tree_then s.at.node s.at.below s.at.right))) ≤ next = subst (λ t. size t ≤ next) s.at.stands are.few in
      let finds_before : FindsKey (Some k) name p.first next before None = subst (λ o. FindsKey (Some k) name p.first next o None) same finds in
      let found = sought (number_of state.paths) before p parent None s.at.around s.at.left s.at.node s.at.below s.at.right s.at.number s.row up there_p few finds_before s.shows in
      cc

  -- nothing but the paths can refuse it
  pub rename-free : (before now : Option (RecordMap NodeRecord)) (p : NodeRecord) (parent : ℕ) → ForSome before (λ m. fin.get m k ≡ Some r) → is_key r.kind ≡ true → r.parent ≡ Some parent
      → ForSome before (λ m. fin.get m parent ≡ Some p) → now ≡ before → FindsKey (Some k) name p.first next now (Some None) → (state : State) → AreOf state next before
      → let new : State = with_trees state 0 (change_at k (λ n below rest. tree_then (record n { label = name }) below rest) state.trees) in
      apply (rename k name) state ≡ unless (paths_spent state new ∷ []) new
  rename-free before now p parent there key up there_p same finds state are =
      let s = seen k state next before r are there in
      let new : State = with_trees state 0 (change_at k (λ n below rest. tree_then (record n { label = name }) below rest) state.trees) in
      let is = taken_is state before now p parent None are s up there_p same finds in
      rename-apply state before s ∙ (λ i. unless (wrong_kind (not (key i)) s.at.node ∷ is i ∷ paths_spent state new ∷ []) new)

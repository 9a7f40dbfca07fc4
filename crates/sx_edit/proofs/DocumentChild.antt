-- The Document's child in the trees of a state.
use Rattle.std.proofs.Common.{◌≡◌, ℕ, List, [], Option, Some, None, Result, Ok, Err, inl, inr, refl, sym, ap, subst, ◌∙◌}
use Rattle.std.specs.Prelude.{◌^◌, ◌⊎◌, option_and_then, option_map}
use Rattle.std.specs.Option.{unwrap_or}
use Rattle.std.specs.Option.{ForSome}
use Rattle.std.specs.FinMap as fin
use Rattle.sx_bytes.specs.declared.damage.Damage.{Damage}
use Rattle.sx_tree.specs.declared.edit.Edited.{Edited}
use Rattle.sx_tree.specs.declared.edit.Place.TheVariants.{Last}
use Rattle.sx_tree.specs.declared.record.NodeRecord.{NodeRecord}
use Rattle.sx_tree.specs.declared.record.Step.{Step}
use Rattle.sx_tree.specs.Value.{Value, nodes}
use Rattle.sx_view.specs.Records.{RecordMap}
use Rattle.sx_view.specs.Rows.{row_of}
use Rattle.sx_model.specs.Edit.{Edit, apply, child_of, first_new, insert, load, load_over, replace}
use Rattle.sx_model.specs.Paths.{number_of}
use Rattle.sx_model.specs.Records.{NodeRow, PathRow, first_of}
use Rattle.sx_model.specs.State.{State}
use Rattle.sx_model.specs.Tree.{Node, Forest, no_trees, tree_then, IsWellFormed}
use Rattle.sx_edit.specs.declared.fault.EditFault.{EditFault}
use Rattle.sx_edit.specs.declared.fault.EditFault.TheVariants.{Refused, Failed, Damaged, OutOfMemory}
use Rattle.sx_edit.specs.Answers.{AreOf, Answers, AnswersEach}
use Rattle.sx_edit.specs.Damage.{IsBreach, IsBroken, IsDamageOver, IsMiscounted, IsOwnDamage, Reach, child_of_document, reach_of}
use Rattle.sx_edit.specs.EditFault.{ExplainsEdit}
use Rattle.sx_edit.specs.Edited.{rows_in}
use Rattle.sx_edit.specs.Pathways.{Kept, kept}
use Rattle.sx_edit.specs.Told.{Holds, Shows}
use Rattle.sx_edit.proofs.Looking.{shows-state}
use Rattle.sx_edit.proofs.Showing.{shows-get}

-- the first child of the Document is what its record tells
child-there : (number : List Step → ℕ) (trees : Forest) (o : Option (RecordMap NodeRecord)) (there : Option NodeRecord) → IsWellFormed trees → Shows o (rows_in number trees) → ForSome o (λ m. there ≡ fin.get m 0)
    → option_map (λ w. w.first) (option_map row_of there) ≡ Some (option_map (λ n. n.number) (child_of trees))
child-there number no_trees o there well shows is = absurd cc
child-there number (tree_then document below rest) o there well shows is =
    let zero : document.number ≡ 0 = let some : Some document.number ≡ Some 0 = well.zero in cc in
    let there_d : ForSome o (λ m. there ≡ fin.get m document.number) = rw zero is in
    ap (option_map (λ (w : NodeRow). w.first)) (shows-get o there [] _ document.number _ shows there_d) ∙ ap (λ f. Some f) (first below)
  where
    first : (below : Forest) → first_of below ≡ option_map (λ (n : Node). n.number) (child_of (tree_then document below rest))
    first no_trees = refl
    first (tree_then n inner more) = refl

answers-as : (edit other : Edit) (state : State) (after : Kept) (result : Result Edited EditFault) → apply edit state ≡ apply other state → first_new edit state ≡ first_new other state
    → Answers edit state after result → Answers other state after result
answers-as edit other state after (Ok edited) same first answers = (answers.0, sym same ∙ answers.1, answers.2 ∙ (λ i. record { first = first i; next = answers.0.next }), answers.3, answers.4)
answers-as edit other state after (Err (Refused refusal)) same first answers = sym same ∙ answers
answers-as edit other state after (Err Failed) same first answers = tt
answers-as edit other state after (Err (Damaged damage)) same first answers = answers
answers-as edit other state after (Err OutOfMemory) same first answers = tt

number_is : (child : Option Node) (k : ℕ) → option_map (λ n. n.number) child ≡ Some k → (n : Node) × (child ≡ Some n) × (n.number ≡ k)
number_is None k is = absurd cc
number_is (Some n) k is = (n, refl, cc)

none_is : (child : Option Node) → option_map (λ n. n.number) child ≡ None → child ≡ None
none_is None is = refl
none_is (Some n) is = absurd cc

from-row : (there : Option NodeRecord) (child : Option ℕ) → option_map (λ (w : NodeRow). w.first) (option_map row_of there) ≡ Some child → option_and_then (λ r. r.first) there ≡ child
from-row None child is = absurd cc
from-row (Some r) child is = cc

module _ (v : Value) (next : ℕ) (o : Option (RecordMap NodeRecord)) (found : Option ℕ) (found_is : ForSome o (λ m. found ≡ option_and_then (λ r. r.first) (fin.get m 0))) where
  child-is : (state : State) → AreOf state next o → found ≡ option_map (λ n. n.number) (child_of state.trees)
  child-is state are = by o refl are
    where
      by : (q : Option (RecordMap NodeRecord)) → o ≡ q → AreOf state next o → found ≡ option_map (λ n. n.number) (child_of state.trees)
      by None none are = absurd (subst (λ q. Holds q (rows_in (number_of state.paths) state.trees)) none are.holds)
      by (Some m) some are =
          found_is m some
          ∙ from-row (fin.get m 0) _ (child-there (number_of state.paths) state.trees o (fin.get m 0) are.well_formed (shows-state state next o are) (λ l e. let same : m ≡ l = cc in ap (λ r. fin.get r 0) same))

  pub load-replaces : (now : Option (RecordMap NodeRecord)) (table : List PathRow) (after : Kept) (k : ℕ) (result : Result Edited EditFault) → now ≡ o → found ≡ Some k → AnswersEach (replace k v) next (kept now table) after result → AnswersEach (load v) next (kept o table) after result
  unfolding AnswersEach
  load-replaces now table after k result same child answers state are of_state =
      let there = number_is (child_of state.trees) k (sym (child-is state are) ∙ child) in
      let is_load : apply (replace k v) state ≡ apply (load v) state =
      ap (λ m. apply (replace m v) state) (sym there.2) ∙ ap (λ c. load_over c v state) (sym there.1) in
      answers-as (replace k v) (load v) state after result is_load refl (answers state (subst (AreOf state next) (sym same) are) of_state)

  pub load-inserts : (now : Option (RecordMap NodeRecord)) (table : List PathRow) (after : Kept) (result : Result Edited EditFault) → now ≡ o → found ≡ None → AnswersEach (insert (Last 0) None v) next (kept now table) after result → AnswersEach (load v) next (kept o table) after result
  unfolding AnswersEach
  load-inserts now table after result same child answers state are of_state =
      let there = none_is (child_of state.trees) (sym (child-is state are) ∙ child) in
      let is_load : apply (insert (Last 0) None v) state ≡ apply (load v) state = ap (λ c. load_over c v state) (sym there) in
      answers-as (insert (Last 0) None v) (load v) state after result is_load refl (answers state (subst (AreOf state next) (sym same) are) of_state)

-- ---- damage

-- whatever rule is broken, the damage is one that an edit tells
own-damage : (reach : Reach) (o : Option (RecordMap NodeRecord)) (table : List PathRow) (d : Damage) → IsBroken o reach.next d ⊎ (IsMiscounted o reach d ⊎ IsBreach o table reach d) → IsOwnDamage reach.next d
unfolding IsBreach
own-damage reach o table d (inl (inl (from, (to, is)))) = (from, (to, inl is.2))
own-damage reach o table d (inl (inr (inl is))) = (0, (0, inr (inl is.1)))
own-damage reach o table d (inl (inr (inr (k, (r, is))))) = (k, (_, inr (inr is.3)))
own-damage reach o table d (inr (inl (inl (k, (r, is))))) = (k, (_, inr (inr is.2)))
own-damage reach o table d (inr (inl (inr (inl (r, is))))) = (reach.node, (_, inr (inr is.2)))
own-damage reach o table d (inr (inl (inr (inr (k, (r, (plus, is))))))) = (k, (_, inr (inr is.3)))
own-damage reach o table d (inr (inr (inl (node, (path, is))))) = (node, (path, inr (inr is.2)))
own-damage reach o table d (inr (inr (inr (inl (node, (number, (row, is))))))) = (node, (number, inr (inr is.3)))
own-damage reach o table d (inr (inr (inr (inr (inl (visited, (node, (own, is)))))))) = (node, (0, inr (inr is.4)))
own-damage reach o table d (inr (inr (inr (inr (inr (node, (came, (path, (row, is))))))))) = (node, (2 ^ 32, inr (inr is.3)))

-- an edit with the same reach
same_reach : (edit other : Edit) (next : ℕ) (o : Option (RecordMap NodeRecord)) (table : List PathRow) (below : Damage → Type 0) (rose : Type 0) (e : EditFault) → (ForSome o (λ m. reach_of edit next o ≡ reach_of other next o)) → ExplainsEdit edit next o table below rose e → ExplainsEdit other next o table below rose e
same_reach edit other next o table below rose (Refused refusal) same is = tt
same_reach edit other next o table below rose Failed same is = is
same_reach edit other next None table below rose (Damaged d) same (inl is) = inl is
same_reach edit other next None table below rose (Damaged d) same (inr broken) = inl (inr (refl, own-damage (reach_of edit next None) None table d broken))
same_reach edit other next (Some m) table below rose (Damaged d) same is = subst (λ reach. IsDamageOver reach (Some m) table below d) (same m refl) is
same_reach edit other next o table below rose OutOfMemory same is = tt

-- a load that replaces the child, and one that inserts one
pub load-as_replace : (v : Value) (next child : ℕ) (found : Option ℕ) (o : Option (RecordMap NodeRecord)) (table : List PathRow) (below : Damage → Type 0) (rose : Type 0) (e : EditFault) → ForSome o (λ m. found ≡ option_and_then (λ r. r.first) (fin.get m 0)) → found ≡ Some child
    → ExplainsEdit (replace child v) next o table below rose e → ExplainsEdit (load v) next o table below rose e
load-as_replace v next child found None table below rose e child_is some = same_reach (replace child v) (load v) next None table below rose e (λ m none. absurd (let x : None ≡ Some m = none in cc))
load-as_replace v next child found (Some m) table below rose e child_is some =
    let same : child ≡ child_of_document (Some m) = sym (ap (λ c. unwrap_or c 0) (sym (child_is m refl) ∙ some)) in
    same_reach (replace child v) (load v) next (Some m) table below rose e (λ x is i. record { next = next; more = nodes v; node = same i })

pub load-as_insert : (v : Value) (next : ℕ) (found : Option ℕ) (o : Option (RecordMap NodeRecord)) (table : List PathRow) (below : Damage → Type 0) (rose : Type 0) (e : EditFault) → ForSome o (λ m. found ≡ option_and_then (λ r. r.first) (fin.get m 0)) → found ≡ None
    → ExplainsEdit (insert (Last 0) None v) next o table below rose e → ExplainsEdit (load v) next o table below rose e
load-as_insert v next found None table below rose e child_is none = same_reach (insert (Last 0) None v) (load v) next None table below rose e (λ m some. absurd (let x : None ≡ Some m = some in cc))
load-as_insert v next found (Some m) table below rose e child_is none =
    let same : 0 ≡ child_of_document (Some m) = sym (ap (λ c. unwrap_or c 0) (sym (child_is m refl) ∙ none)) in
    same_reach (insert (Last 0) None v) (load v) next (Some m) table below rose e (λ x is i. record { next = next; more = nodes v; node = same i })

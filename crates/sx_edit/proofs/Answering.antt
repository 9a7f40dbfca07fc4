-- What each answer of an edit says of a state.
use Rattle.std.proofs.Common.{◌≡◌, ℕ, ◌-◌, ◌<◌, ◌≤◌, Bool, true, false, List, length, Option, None, refl, sym, ap, subst, ◌∙◌, arith, inl, inr}
use Rattle.std.specs.Prelude.{◌^◌, min, Result, Ok, Err, IfErr, IsErrAnd, OnOk}
use Rattle.std.specs.Option.{ForSome}
use Rattle.std.specs.FinMap as fin
use Rattle.sx_outside.specs.Faults.{Rose}
use Rattle.sx_bytes.specs.declared.damage.Damage.{Damage}
use Rattle.sx_tree.specs.declared.edit.Edited.{Edited}
use Rattle.sx_tree.specs.declared.edit.EditRefusal.{EditRefusal}
use Rattle.sx_tree.specs.declared.edit.EditRefusal.TheVariants.{NoNode, PathsSpent}
use Rattle.sx_tree.specs.declared.record.Kind.{Kind}
use Rattle.sx_tree.specs.declared.record.Kind.TheVariants.{Document}
use Rattle.sx_tree.specs.declared.record.NodeRecord.{NodeRecord}
use Rattle.sx_view.specs.declared.fault.Fault.{Fault}
use Rattle.sx_view.specs.declared.fault.Fault.TheVariants as reading
use Rattle.sx_view.specs.Records.{RecordMap}
use Rattle.sx_model.specs.Edit.{Edit, apply, if_there, path_limit}
use Rattle.sx_model.specs.State.{State}
use Rattle.sx_model.specs.Tree.{Spot, is_key, is_value, spot}
use Rattle.sx_edit.specs.declared.fault.EditFault.{EditFault}
use Rattle.sx_edit.specs.declared.fault.EditFault.TheVariants.{Refused, Failed, Damaged, OutOfMemory}
use Rattle.sx_edit.specs.Damage.{Explains, ExplainsBoth, IsBrokenFault, IsDamage, IsDamaged, IsMiscountedAtMost, IsMiscountedFault, Reach, reach_of}
use Rattle.sx_edit.specs.EditFault.{edit_fault, ExplainsEdit, IsBreachEdit, IsBrokenEdit, IsRefused}
use Rattle.sx_edit.specs.Steps.{GoesOn}
use Rattle.sx_model.specs.Paths.{with_paths}
use Rattle.sx_model.specs.Records.{PathRow}
use Rattle.sx_tree.specs.declared.record.Step.{Step}
use Rattle.sx_edit.specs.Answers.{AreOf, Answers, AnswersEach, IsTableOf}
use Rattle.sx_edit.specs.Pathways.{Kept, Stops}
use Rattle.sx_edit.proofs.Pathing.{length-table}
use Rattle.sx_edit.proofs.Going.{damage_before, explains_later, node-damage}
use Rattle.sx_edit.proofs.Looking.{Looked, nowhere, somewhere, look}

-- no state has these records
unfoldable pub IsNoState : ℕ → Option (RecordMap NodeRecord) → Type 0
IsNoState next o = (state : State) → AreOf state next o → ⊥

pub untold-no_state : (next : ℕ) (o : Option (RecordMap NodeRecord)) → o ≡ None → IsNoState next o
unfolding IsNoState
untold-no_state next o is state are = rw is at are.holds

-- no state has these records with this table
unfoldable pub IsNoKept : ℕ → Kept → Type 0
IsNoKept next before = (state : State) → AreOf state next before.told → IsTableOf state before.table → ⊥

fault_answers : (edit : Edit) (next : ℕ) (before after : Kept) (fault : Fault) → (IsDamaged fault → IsNoKept next before) → AnswersEach edit next before after (Err (edit_fault fault))
unfolding AnswersEach IsNoKept
fault_answers edit next before after reading.Failed damaged state are table = tt
fault_answers edit next before after (reading.Damaged d) damaged state are table = damaged tt state are table
fault_answers edit next before after reading.OutOfMemory damaged state are table = tt

-- a fault that goes on
pub err-answers_kept : (edit : Edit) (next : ℕ) (before after : Kept) (r : Result Edited EditFault) (fault : Fault) → IsErrAnd r (λ e. e ≡ edit_fault fault)
    → (IsDamaged fault → IsNoKept next before) → AnswersEach edit next before after r
err-answers_kept edit next before after (Ok x) fault is damaged = absurd is
err-answers_kept edit next before after (Err e) fault is damaged = subst (λ x. AnswersEach edit next before after (Err x)) (sym is) (fault_answers edit next before after fault damaged)

pub err-answers : (edit : Edit) (next : ℕ) (before after : Kept) (r : Result Edited EditFault) (fault : Fault) → IsErrAnd r (λ e. e ≡ edit_fault fault)
    → (IsDamaged fault → IsNoState next before.told) → AnswersEach edit next before after r
unfolding IsNoState IsNoKept
err-answers edit next before after r fault is damaged = err-answers_kept edit next before after r fault is (λ d state are table. damaged d state are)

-- a fault of an edit that goes on, and answers
pub again-answers : (edit : Edit) (next : ℕ) (before after : Kept) (r : Result Edited EditFault) (e : EditFault) → IsErrAnd r (λ x. x ≡ e) → AnswersEach edit next before after (Err e) → AnswersEach edit next before after r
again-answers edit next before after (Ok x) e is answers = absurd is
again-answers edit next before after (Err x) e is answers = subst (λ y. AnswersEach edit next before after (Err y)) (sym is) answers

-- want of memory
pub memory-answers : (edit : Edit) (next : ℕ) (before after : Kept) (r : Result Edited EditFault) → IsErrAnd r (λ e. e ≡ OutOfMemory) → AnswersEach edit next before after r
unfolding AnswersEach
memory-answers edit next before after (Ok x) is = absurd is
memory-answers edit next before after (Err e) is = λ state are table. subst (λ x. Answers edit state after (Err x)) (sym is) tt

-- where paths come to the state's, an edit stops as the state's does, or answers nothing of it
pub stops-answers : (edit : Edit) (state : State) (after : Kept) (had : ℕ) (paths : List (List Step)) (e : EditFault) → had ≡ length state.paths
    → (path_limit < length (with_paths state.paths paths) → apply edit state ≡ Err (PathsSpent (length state.paths))) → Stops had state.paths paths e → Answers edit state after (Err e)
stops-answers edit state after had paths (Refused refusal) had_is spent stops = spent stops.1 ∙ ap (λ x. Err x) (ap PathsSpent (sym had_is) ∙ sym stops.0)
stops-answers edit state after had paths Failed had_is spent stops = tt
stops-answers edit state after had paths (Damaged damage) had_is spent stops = absurd stops
stops-answers edit state after had paths OutOfMemory had_is spent stops = tt

-- the paths before the edit
pub had-paths : (had : ℕ) (table : List PathRow) (state : State) → had ≡ min (length table) (2 ^ 32 - 1) → IsTableOf state table → had ≡ length state.paths
had-paths had table state is of_state = omega (arith, is, of_state.lists.few, length-table table state.paths _ of_state.lists)

pub broken-explains_edit : {A : Type 0} (edit : Edit) (next : ℕ) (told : Option (RecordMap NodeRecord)) (table : List PathRow) (below : Damage → Type 0) (rose : Type 0) (r : Result A EditFault) (fault : Fault) → IsErrAnd r (λ e. e ≡ edit_fault fault)
    → IsBrokenFault told next fault → IfErr r (ExplainsEdit edit next told table below rose)
broken-explains_edit edit next told table below rose (Ok x) fault is broken = absurd is
broken-explains_edit edit next told table below rose (Err e) reading.Failed is broken = absurd broken
broken-explains_edit edit next told table below rose (Err e) (reading.Damaged d) is broken = subst (ExplainsEdit edit next told table below rose) (sym is) (inr (inl broken))
broken-explains_edit edit next told table below rose (Err e) reading.OutOfMemory is broken = absurd broken

pub miscounted-explains_edit : {A : Type 0} (edit : Edit) (next : ℕ) (told : Option (RecordMap NodeRecord)) (table : List PathRow) (below : Damage → Type 0) (rose : Type 0) (r : Result A EditFault) (fault : Fault) → IsErrAnd r (λ e. e ≡ edit_fault fault)
    → IsMiscountedAtMost told (reach_of edit next told) fault → IfErr r (ExplainsEdit edit next told table below rose)
miscounted-explains_edit edit next told table below rose (Ok x) fault is broken = absurd is
miscounted-explains_edit edit next told table below rose (Err e) reading.Failed is broken = absurd broken
miscounted-explains_edit edit next told table below rose (Err e) (reading.Damaged d) is broken = subst (ExplainsEdit edit next told table below rose) (sym is) (inr (inr (inl broken)))
miscounted-explains_edit edit next told table below rose (Err e) reading.OutOfMemory is broken = subst (ExplainsEdit edit next told table below rose) (sym is) tt

pub memory-explains_edit : {A : Type 0} (edit : Edit) (next : ℕ) (told : Option (RecordMap NodeRecord)) (table : List PathRow) (below : Damage → Type 0) (rose : Type 0) (r : Result A EditFault) (fault : Fault) → IsErrAnd r (λ e. e ≡ edit_fault fault)
    → fault ≡ reading.OutOfMemory → IfErr r (ExplainsEdit edit next told table below rose)
memory-explains_edit edit next told table below rose (Ok x) fault is memory = absurd is
memory-explains_edit edit next told table below rose (Err e) fault is memory = subst (ExplainsEdit edit next told table below rose) (sym (is ∙ ap edit_fault memory)) tt

-- a key, and a value, are not the document
pub key-below : (kind : Kind) → is_key kind ≡ true → kind ≡ Document → ⊥
key-below kind key is = let e : false ≡ true = sym (ap is_key is) ∙ key in cc

pub value-below : (kind : Kind) → is_value kind ≡ true → kind ≡ Document → ⊥
value-below kind value is = let e : false ≡ true = sym (ap is_value is) ∙ value in cc

pub at-most_miscounted : (told : Option (RecordMap NodeRecord)) (reach : Reach) (fault : Fault) → IsMiscountedFault told reach fault → IsMiscountedAtMost told reach fault
at-most_miscounted told reach reading.Failed is = is
at-most_miscounted told reach (reading.Damaged d) is = is
at-most_miscounted told reach reading.OutOfMemory is = absurd is

pub refused-explains : (edit : Edit) (next : ℕ) (told : Option (RecordMap NodeRecord)) (table : List PathRow) (below : Damage → Type 0) (rose : Type 0) (e : EditFault) → IsRefused e → ExplainsEdit edit next told table below rose e
refused-explains edit next told table below rose (Refused refusal) is = tt
refused-explains edit next told table below rose Failed is = absurd is
refused-explains edit next told table below rose (Damaged d) is = absurd is
refused-explains edit next told table below rose OutOfMemory is = absurd is

pub breach-broken : (told : Option (RecordMap NodeRecord)) (table : List PathRow) (reach : Reach) (e : EditFault) → IsBreachEdit told table reach e → IsBrokenEdit told table reach e
breach-broken told table reach (Refused refusal) is = tt
breach-broken told table reach Failed is = absurd is
breach-broken told table reach (Damaged d) is = inr is
breach-broken told table reach OutOfMemory is = tt

pub broken-edit : (told : Option (RecordMap NodeRecord)) (table : List PathRow) (reach : Reach) (fault : Fault) → IsMiscountedAtMost told reach fault → IsBrokenEdit told table reach (edit_fault fault)
broken-edit told table reach reading.Failed is = absurd is
broken-edit told table reach (reading.Damaged d) is = inl is
broken-edit told table reach reading.OutOfMemory is = tt

pub broken_edit-explains : (edit : Edit) (next : ℕ) (told : Option (RecordMap NodeRecord)) (table : List PathRow) (below : Damage → Type 0) (rose : Type 0) (e : EditFault) → IsBrokenEdit told table (reach_of edit next told) e → ExplainsEdit edit next told table below rose e
broken_edit-explains edit next told table below rose (Refused refusal) is = tt
broken_edit-explains edit next told table below rose Failed is = absurd is
broken_edit-explains edit next told table below rose (Damaged d) is = inr (inr is)
broken_edit-explains edit next told table below rose OutOfMemory is = tt

module _ {V : Type 0} (told : V → Option (RecordMap NodeRecord)) (faults : V → ℕ) (damages : V → Damage → Type 0) (has_mark : V → Bool) (marks : V → V → Type 0) where
  fault_explains : (edit : Edit) (next : ℕ) (table : List PathRow) (a b c : V) (fault : Fault) → GoesOn told faults damages has_mark marks a b → told b ≡ told a
      → Explains next (told b) (damages b) (Rose (faults b) (faults c)) fault → ExplainsEdit edit next (told a) table (damages a) (Rose (faults a) (faults c)) (edit_fault fault)
  fault_explains edit next table a b c reading.Failed first same is = explains_later told faults damages has_mark marks next a b c reading.Failed first same is
  fault_explains edit next table a b c (reading.Damaged d) first same is = node-damage (reach_of edit next (told a)) next (told a) table (damages a) d refl (explains_later told faults damages has_mark marks next a b c (reading.Damaged d) first same is)
  fault_explains edit next table a b c reading.OutOfMemory first same is = tt

  pub err-explains_edit : {A : Type 0} (edit : Edit) (next : ℕ) (table : List PathRow) (a b c : V) (r : Result A EditFault) (fault : Fault) → IsErrAnd r (λ e. e ≡ edit_fault fault) → GoesOn told faults damages has_mark marks a b → told b ≡ told a
      → Explains next (told b) (damages b) (Rose (faults b) (faults c)) fault → IfErr r (ExplainsEdit edit next (told a) table (damages a) (Rose (faults a) (faults c)))
  err-explains_edit edit next table a b c (Ok x) fault is first same holds = absurd is
  err-explains_edit edit next table a b c (Err e) fault is first same holds =
      subst (ExplainsEdit edit next (told a) table (damages a) (Rose (faults a) (faults c))) (sym is) (fault_explains edit next table a b c fault first same holds)

  both_explains : (edit : Edit) (next : ℕ) (table : List PathRow) (a b c : V) (fault : Fault) → GoesOn told faults damages has_mark marks a b → told b ≡ told a
      → ExplainsBoth (reach_of edit next (told b)) (told b) table (damages b) (Rose (faults b) (faults c)) fault → ExplainsEdit edit next (told a) table (damages a) (Rose (faults a) (faults c)) (edit_fault fault)
  both_explains edit next table a b c reading.Failed first same is = omega (arith, is, first.never_falls)
  both_explains edit next table a b c (reading.Damaged d) first same is = damage_before edit next (told b) (told a) table (damages b) (damages a) d same (first.same_damages d) is
  both_explains edit next table a b c reading.OutOfMemory first same is = tt

  -- the same where paths were counted too
  pub both-explains_edit : {A : Type 0} (edit : Edit) (next : ℕ) (table : List PathRow) (a b c : V) (r : Result A EditFault) (fault : Fault) → IsErrAnd r (λ e. e ≡ edit_fault fault) → GoesOn told faults damages has_mark marks a b → told b ≡ told a
      → ExplainsBoth (reach_of edit next (told b)) (told b) table (damages b) (Rose (faults b) (faults c)) fault → IfErr r (ExplainsEdit edit next (told a) table (damages a) (Rose (faults a) (faults c)))
  both-explains_edit edit next table a b c (Ok x) fault is first same holds = absurd is
  both-explains_edit edit next table a b c (Err e) fault is first same holds =
      subst (ExplainsEdit edit next (told a) table (damages a) (Rose (faults a) (faults c))) (sym is) (both_explains edit next table a b c fault first same holds)

  later_explains : (edit : Edit) (next : ℕ) (table : List PathRow) (a b c : V) (e : EditFault) → GoesOn told faults damages has_mark marks a b → told b ≡ told a → ExplainsEdit edit next (told b) table (damages b) (Rose (faults b) (faults c)) e
      → ExplainsEdit edit next (told a) table (damages a) (Rose (faults a) (faults c)) e
  later_explains edit next table a b c (Refused refusal) first same is = tt
  later_explains edit next table a b c Failed first same is = explains_later told faults damages has_mark marks next a b c reading.Failed first same is
  later_explains edit next table a b c (Damaged d) first same is = damage_before edit next (told b) (told a) table (damages b) (damages a) d same (first.same_damages d) is
  later_explains edit next table a b c OutOfMemory first same is = tt

  -- what a later step answers
  pub later-explains_edit : {A : Type 0} (edit : Edit) (next : ℕ) (table : List PathRow) (a b c : V) (r : Result A EditFault) → GoesOn told faults damages has_mark marks a b → told b ≡ told a
      → IfErr r (ExplainsEdit edit next (told b) table (damages b) (Rose (faults b) (faults c))) → IfErr r (ExplainsEdit edit next (told a) table (damages a) (Rose (faults a) (faults c)))
  later-explains_edit edit next table a b c (Ok x) first same is = tt
  later-explains_edit edit next table a b c (Err e) first same is = later_explains edit next table a b c e first same is

  -- a fault of an edit that goes on
  pub again-explains_edit : {A : Type 0} (edit : Edit) (next : ℕ) (table : List PathRow) (a b c : V) (r : Result A EditFault) (e : EditFault) → IsErrAnd r (λ x. x ≡ e) → GoesOn told faults damages has_mark marks a b → told b ≡ told a
      → ExplainsEdit edit next (told b) table (damages b) (Rose (faults b) (faults c)) e → IfErr r (ExplainsEdit edit next (told a) table (damages a) (Rose (faults a) (faults c)))
  again-explains_edit edit next table a b c (Ok x) e is first same holds = absurd is
  again-explains_edit edit next table a b c (Err x) e is first same holds = subst (ExplainsEdit edit next (told a) table (damages a) (Rose (faults a) (faults c))) (sym is) (later_explains edit next table a b c e first same holds)

-- where no record is read, there is no node
pub no-node : (k : ℕ) (make : Spot → Result State EditRefusal) (state : State) (next : ℕ) (o : Option (RecordMap NodeRecord)) (there : Option NodeRecord)
    → ForSome o (λ m. there ≡ fin.get m k) → there ≡ None → AreOf state next o → if_there k make (spot k state.trees) ≡ Err (NoNode k)
no-node k make state next o there is none are = go (look k state next o there are is)
  where
    go : Looked k state o there → if_there k make (spot k state.trees) ≡ Err (NoNode k)
    go (nowhere e no_spot) = ap (if_there k make) no_spot
    go (somewhere r e seen) = absurd cc

err_after : (edit : Edit) (state : State) (worked after : Kept) (fault : EditFault) → Answers edit state worked (Err fault) → Answers edit state after (Err fault)
err_after edit state worked after (Refused refusal) is = is
err_after edit state worked after Failed is = is
err_after edit state worked after (Damaged damage) is = is
err_after edit state worked after OutOfMemory is = is

undone : (edit : Edit) (next : ℕ) (before worked after : Kept) (fault : EditFault) → AnswersEach edit next before worked (Err fault) → AnswersEach edit next before after (Err fault)
unfolding AnswersEach
undone edit next before worked after fault answers = λ state are table. err_after edit state worked after fault (answers state are table)

-- what was done is kept, and what was not is undone
pub settled-answers : (edit : Edit) (next : ℕ) (before begun worked after : Kept) (result outcome : Result Edited EditFault)
    → begun.told ≡ before.told → begun.table ≡ before.table → result ≡ outcome → OnOk result (after.told ≡ worked.told) → OnOk result (after.table ≡ worked.table)
    → AnswersEach edit next begun worked outcome → AnswersEach edit next before after result
settled-answers edit next before begun worked after (Ok edited) outcome told table same kept_told kept_table answers =
    let first : AnswersEach edit next before worked outcome = subst (λ b. AnswersEach edit next b worked outcome) (λ i. record { told = told i; table = table i }) answers in
    let done : AnswersEach edit next before after outcome = subst (λ a. AnswersEach edit next before a outcome) (λ i. record { told = sym kept_told i; table = sym kept_table i }) first in
    subst (λ r. AnswersEach edit next before after r) (sym same) done
settled-answers edit next before begun worked after (Err fault) outcome told table same kept_told kept_table answers =
    let first : AnswersEach edit next before worked outcome = subst (λ b. AnswersEach edit next b worked outcome) (λ i. record { told = told i; table = table i }) answers in
    undone edit next before worked after fault (subst (λ r. AnswersEach edit next before worked r) (sym same) first)

-- what was answered is explained over all of the edit
pub settled-explains : {A : Type 0} (edit : Edit) (next : ℕ) (told begun : Option (RecordMap NodeRecord)) (table marked : List PathRow) (below later : Damage → Type 0) (first start done last : ℕ) (result outcome : Result A EditFault)
    → begun ≡ told → marked ≡ table → ((d : Damage) → later d → below d) → first ≤ start → done ≤ last → result ≡ outcome
    → IfErr outcome (ExplainsEdit edit next begun marked later (Rose start done)) → IfErr result (ExplainsEdit edit next told table below (Rose first last))
settled-explains edit next told begun table marked below later first start done last result outcome same same_table damages low high is explained =
    subst (λ r. IfErr r (ExplainsEdit edit next told table below (Rose first last))) (sym is) (wide outcome explained)
  where
    at : (e : EditFault) → ExplainsEdit edit next begun marked later (Rose start done) e → ExplainsEdit edit next told table below (Rose first last) e
    at (Refused refusal) holds = tt
    at Failed holds = omega (arith, holds, low, high)
    at (Damaged d) holds = damage_before edit next begun told table later below d same (damages d) (subst (λ t. IsDamage edit next begun t later d) same_table holds)
    at OutOfMemory holds = tt

    wide : {A : Type 0} (r : Result A EditFault) → IfErr r (ExplainsEdit edit next begun marked later (Rose start done)) → IfErr r (ExplainsEdit edit next told table below (Rose first last))
    wide (Ok x) holds = tt
    wide (Err e) holds = at e holds

-- What is said of an edit, of a commit and of a question.
use Rattle.std.specs.Prelude.{◌≡◌, Result, Ok, Err}
use Rattle.sx_run.specs.Run.{edited_said}
use Rattle.sx_run.specs.declared.reply.Said.{Said}
use Rattle.sx_run.specs.declared.reply.Said.TheVariants as said
use Rattle.sx_store.specs.declared.fault.CommitFault.{CommitFault}
use Rattle.sx_store.specs.declared.fault.CommitFault.TheVariants as faults
use Rattle.sx_store.specs.declared.fault.Committed.{Committed}
use Rattle.sx_store.specs.declared.fault.WriterFault.{WriterFault}
use Rattle.sx_store.specs.declared.fault.WriterFault.TheVariants as edits
use Rattle.sx_tree.specs.declared.edit.Edited.{Edited}
use Rattle.sx_tree.specs.declared.query.Answer.{Answer}
use Rattle.sx_view.specs.declared.fault.QueryFault.{QueryFault}
use Rattle.sx_view.specs.declared.fault.QueryFault.TheVariants as queries

-- An edit that ended so is told by this reply. Want of memory is told by none.
abbrev pub IsEditOf : {X : Type 0} → Result Edited WriterFault → Result Said X → Type 0
IsEditOf (Ok edited) (Ok reply) = reply ≡ edited_said edited.first
IsEditOf (Ok edited) (Err e) = ⊥
IsEditOf (Err (edits.Stopped stage)) (Ok reply) = reply ≡ said.Stopped stage
IsEditOf (Err (edits.Stopped stage)) (Err e) = ⊥
IsEditOf (Err (edits.Refused refusal)) (Ok reply) = reply ≡ said.Refused refusal
IsEditOf (Err (edits.Refused refusal)) (Err e) = ⊥
IsEditOf (Err edits.Failed) (Ok reply) = reply ≡ said.Failed
IsEditOf (Err edits.Failed) (Err e) = ⊥
IsEditOf (Err (edits.Damaged damage)) (Ok reply) = reply ≡ said.Damaged damage
IsEditOf (Err (edits.Damaged damage)) (Err e) = ⊥
IsEditOf (Err edits.OutOfMemory) (Ok reply) = ⊥
IsEditOf (Err edits.OutOfMemory) (Err e) = Unit {0}

-- A commit that ended so is told by this reply. Want of memory is told by none.
abbrev pub IsSaidOf : {X : Type 0} → Result Committed CommitFault → Result Said X → Type 0
IsSaidOf (Ok done) (Ok reply) = reply ≡ said.Committed done.revision done.time
IsSaidOf (Ok done) (Err e) = ⊥
IsSaidOf (Err (faults.Stopped stage)) (Ok reply) = reply ≡ said.Stopped stage
IsSaidOf (Err (faults.Stopped stage)) (Err e) = ⊥
IsSaidOf (Err faults.ReadFailed) (Ok reply) = reply ≡ said.Failed
IsSaidOf (Err faults.ReadFailed) (Err e) = ⊥
IsSaidOf (Err (faults.Damaged damage)) (Ok reply) = reply ≡ said.Damaged damage
IsSaidOf (Err (faults.Damaged damage)) (Err e) = ⊥
IsSaidOf (Err (faults.LogFull frames revisions)) (Ok reply) = reply ≡ said.LogFull frames revisions
IsSaidOf (Err (faults.LogFull frames revisions)) (Err e) = ⊥
IsSaidOf (Err (faults.CommitTooLarge bytes)) (Ok reply) = reply ≡ said.CommitTooLarge bytes
IsSaidOf (Err (faults.CommitTooLarge bytes)) (Err e) = ⊥
IsSaidOf (Err faults.OutOfMemory) (Ok reply) = ⊥
IsSaidOf (Err faults.OutOfMemory) (Err e) = Unit {0}
IsSaidOf (Err (faults.Failed stage)) (Ok reply) = reply ≡ said.FailedStage stage
IsSaidOf (Err (faults.Failed stage)) (Err e) = ⊥

-- A question that was answered so is told by this reply. Want of memory is told by none.
abbrev pub IsAnswerOf : {X : Type 0} → Result Answer QueryFault → Result Said X → Type 0
IsAnswerOf (Ok answer) (Ok reply) = reply ≡ said.Answer answer
IsAnswerOf (Ok answer) (Err e) = ⊥
IsAnswerOf (Err (queries.Missing asked seen)) (Ok reply) = reply ≡ said.Missing asked seen
IsAnswerOf (Err (queries.Missing asked seen)) (Err e) = ⊥
IsAnswerOf (Err (queries.NoNode node)) (Ok reply) = reply ≡ said.NoNode node
IsAnswerOf (Err (queries.NoNode node)) (Err e) = ⊥
IsAnswerOf (Err (queries.NoPath path)) (Ok reply) = reply ≡ said.NoPath path
IsAnswerOf (Err (queries.NoPath path)) (Err e) = ⊥
IsAnswerOf (Err queries.Failed) (Ok reply) = reply ≡ said.Failed
IsAnswerOf (Err queries.Failed) (Err e) = ⊥
IsAnswerOf (Err (queries.Damaged damage)) (Ok reply) = reply ≡ said.Damaged damage
IsAnswerOf (Err (queries.Damaged damage)) (Err e) = ⊥
IsAnswerOf (Err queries.OutOfMemory) (Ok reply) = ⊥
IsAnswerOf (Err queries.OutOfMemory) (Err e) = Unit {0}

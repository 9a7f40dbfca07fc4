use Rattle.std.proofs.Common.{◌≡◌, arith, refl, sym, subst, Some, ℕ}
use Rattle.sx_edit.specs.Answers.{AreOf}
use Rattle.sx_edit.specs.Pathways.{kept}
use Rattle.sx_view.specs.Slots.{held}
use Rattle.sx_model.specs.Edit.{edit_of}
use Rattle.sx_store.specs.Shows.{records_of}
use Rattle.sx_store.proofs.Editing.{answers-state, refused-draft}
use Rattle.sx_store.proofs.draft.Draft.apply.Goals as goal

pub returns-in_err-edited-clause-answers : goal.returns-in_err-edited-clause-answers
returns-in_err-edited-clause-answers c state within shows =
    let next_is = shows.records.next_is in
    let same : c.min-next.result ≡ c.args.self.now.next = omega (arith, within, next_is, c.min-next.ensures) in
    let are = subst (λ (n : ℕ). AreOf state n (Some (records_of c.args.self.now))) (sym same) shows.records in
    let answers = answers-state (edit_of c.args.edit.now) c.min-next.result _ (kept (Some (held c.apply.new.nodes.slots.entries)) c.apply.new.paths.paths) _ state c.in_err-edited.ensures.answers (are, shows.table) in
    refused-draft (edit_of c.args.edit.now) state (kept (Some (held c.apply.new.nodes.slots.entries)) c.apply.new.paths.paths)
    (record { nodes = c.apply.new.nodes; paths = c.apply.new.paths; next = c.args.self.now.next }) c.from_residual.result c.in_err-edited.field-0.0 c.from_residual.ensures.1 answers

pub returns-clause-answers : goal.returns-clause-answers
returns-clause-answers c state within shows =
    let next_is = shows.records.next_is in
    let same : c.min-next.result ≡ c.args.self.now.next = omega (arith, within, next_is, c.min-next.ensures) in
    let are = subst (λ (n : ℕ). AreOf state n (Some (records_of c.args.self.now))) (sym same) shows.records in
    let answers = answers-state (edit_of c.args.edit.now) c.min-next.result _ _ _ state c.in_ok-edited.ensures.answers (are, shows.table) in
    (answers.0, answers.1, answers.2, refl, answers.3, answers.4)

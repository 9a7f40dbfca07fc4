use Rattle.std.proofs.Common.{◌≡◌, ◌∙◌, [], length, false, ap, arith, rules, subst, sym}
use Rattle.sx_text.specs.Text.{IsText}
use Rattle.sx_query.proofs.OfNodes.{gives_empty, gives_fault, gives_written, no_text, none_in}
use Rattle.sx_query.proofs.nodes.answer_text.Goals as goal

pub returns-in_err-text-clause-gives : goal.returns-in_err-text-clause-gives
returns-in_err-text-clause-gives g c = λ names.
    gives_fault _ _ c.args.count names _ _ c.from_residual.ensures.1 c.in_err-text.ensures.sound

pub returns-then-not-branch-clause-gives : goal.returns-then-not-branch-clause-gives
returns-then-not-branch-clause-gives g c =
    let absent : c.in_ok-text.field-0 ≡ false = search rules in
    no_text _ _ _ _ (subst (IsText (g.N.Records.told c.args.nodes.now) c.args.node c.new-written.result c.text.new.out) absent c.in_ok-text.ensures.text) c.args.count

pub returns-in-empty-clause-gives : goal.returns-in-empty-clause-gives
returns-in-empty-clause-gives g c =
    let text = subst (IsText (g.N.Records.told c.args.nodes.now) c.args.node c.new-written.result c.text.new.out) c.if-not-branch.false c.in_ok-text.ensures.text in
    gives_empty _ _ _ c.text.new.out c.new-written.ensures text (sym c.as_slice.ensures ∙ none_in _ c.in-empty.len_below) c.args.count

pub returns-in_default-clause-gives : goal.returns-in_default-clause-gives
returns-in_default-clause-gives g c =
    let text = subst (IsText (g.N.Records.told c.args.nodes.now) c.args.node c.new-written.result c.text.new.out) c.if-not-branch.false c.in_ok-text.ensures.text in
    let some : c.text.new.out ≡ [] → ⊥ = λ empty. (let none = ap length (c.as_slice.ensures ∙ empty) in omega (arith, none, c.in_default.len_at_least)) in
    gives_written _ _ _ c.text.new.out c.new-written.ensures text some c.args.count

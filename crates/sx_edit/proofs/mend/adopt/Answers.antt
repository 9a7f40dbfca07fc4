use Rattle.std.proofs.Common.{◌≡◌, ◌+◌, ◌-◌, ◌∙◌, ap, arith, subst}
use Rattle.sx_edit.specs.Damage.{IsSpent}
use Rattle.std.specs.Option.{option_or}
use Rattle.sx_view.specs.Rows.{row_of}
use Rattle.sx_model.specs.Records.{NodeRow}
use Rattle.sx_edit.specs.Mend.{end, number_of_tree, trees_of_tree}
use Rattle.sx_edit.proofs.Mending.{one-tree}
use Rattle.sx_edit.proofs.Upward.{spent-children}
use Rattle.sx_edit.proofs.mend.adopt.Goals as goal

pub returns-in_default-clause-cannot : goal.returns-in_default-clause-cannot
returns-in_default-clause-cannot c = λ fits enough. c.in_default.ensures.none (omega arith) (omega arith)

pub returns-in_default-clause-fault : goal.returns-in_default-clause-fault
returns-in_default-clause-fault c = λ o reach there leaving.
    spent-children o reach c.args.parent.node c.args.parent.record (trees_of_tree c.args.new) _ c.args.old _ there (one-tree c.args.new) leaving (omega arith)
    (subst (IsSpent _) c.count_of-2.ensures c.in_default.ensures.spent) c.misplaced.ensures

pub returns-clause-adopted : goal.returns-clause-adopted
returns-clause-adopted c =
    let was : NodeRow = row_of c.args.parent.record in
    let new = c.args.new in
    let gap = c.args.gap in
    let children : c.in-Some.children ≡ was.children + trees_of_tree new - trees_of_tree c.args.old = omega (arith, c.in-Some.ensures.some.0) in
    let first : c.end_of-record.result ≡ end gap.left (option_or (number_of_tree new) gap.right) was.first =
    c.end_of-record.ensures.is ∙ ap (λ x. end gap.left x was.first) c.next_to.ensures.is in
    let last : c.end_of-record-2.result ≡ end gap.right (option_or (number_of_tree new) gap.left) was.last =
    c.end_of-record-2.ensures.is ∙ ap (λ x. end gap.right x was.last) c.next_to-2.ensures.is in
    λ i. (c.args.parent.node, record was { first = first i; last = last i; children = children i })

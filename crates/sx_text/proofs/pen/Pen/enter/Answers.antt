use Rattle.std.proofs.Common.{arith, sym, ap, inr, ◌∙◌, ◌++◌}
use Rattle.sx_model.specs.TreeText.{opening}
use Rattle.sx_view.specs.Rows.{row_of}
use Rattle.sx_cursor.specs.Damage.{misplaced}
use Rattle.sx_text.proofs.Writing.{writes-enter, writes-misplaced, writes-out, read-enter}
use Rattle.sx_text.proofs.Failing.{absent_writes, broken_link_fault, misplaced_fault}
use Rattle.sx_text.proofs.pen.Pen.enter.Goals as goal

pub returns-then-self-eq0-clause-writes : goal.returns-then-self-eq0-clause-writes
returns-then-self-eq0-clause-writes g c = λ _. writes-out _ _ _ _ c.requires.next c.if-self-eq0.true

pub returns-in_err-node-clause-writes : goal.returns-in_err-node-clause-writes
returns-in_err-node-clause-writes g c = absent_writes _ _ _ _ _ _ _ _ _ _ c.requires.next c.from_residual.ensures.1 (g.met.N.Records.untold _) c.in_err-node.ensures.fault

pub returns-in_err-node-clause-fault : goal.returns-in_err-node-clause-fault
returns-in_err-node-clause-fault g c = broken_link_fault _ _ _ _ _ _ _ _ (c.requires.read.linked _ c.requires.next) c.from_residual.ensures.1 c.in_err-node.ensures.fault

pub returns-then-not-may_stand-clause-writes : goal.returns-then-not-may_stand-clause-writes
returns-then-not-may_stand-clause-writes g c = λ _. writes-misplaced _ _ _ (row_of c.in_ok-node.node) _ _ c.requires.next c.in_ok-node.ensures.found (sym c.may_stand.ensures ∙ c.if-not-may_stand.true)

pub returns-then-not-may_stand-clause-fault : goal.returns-then-not-may_stand-clause-fault
returns-then-not-may_stand-clause-fault g c =
    inr (misplaced_fault _ _ _ c.args.count (row_of c.in_ok-node.node) _ c.requires.read c.requires.next c.in_ok-node.ensures.found (sym c.may_stand.ensures ∙ c.if-not-may_stand.true)
    (c.misplaced.ensures ∙ ap (misplaced c.args.number) c.byte_of.ensures))

pub returns-clause-read : goal.returns-clause-read
returns-clause-read g c = read-enter _ _ _ (row_of c.in_ok-node.node) _ c.requires.read c.in_ok-node.ensures.found c.in-Ok.ensures.items

pub returns-clause-writes : goal.returns-clause-writes
returns-clause-writes g c = λ outcome come. writes-enter _ _ _ (row_of c.in_ok-node.node) _ _ _ outcome c.requires.next (omega arith) c.in_ok-node.ensures.found c.in-Ok.ensures.items
    (c.in_ok-append_opening.ensures.written ∙ ap (λ l. l ++ opening c.in_ok-node.node.kind c.in_ok-node.node.label) c.in_ok-append_comma.ensures.written) come

use Rattle.std.proofs.Common.{arith, sym, ◌∙◌}
use Rattle.sx_view.specs.Rows.{row_of}
use Rattle.sx_text.proofs.Writing.{true_false}
use Rattle.sx_select.proofs.Searching.{absent_finds, finds-bare, finds-enter, finds-leaf, finds-out, last_of_level, marks_of, pushed_level, read-enter}
use Rattle.sx_select.proofs.pending.Search.enter.Goals as goal
use Rattle.sx_select.proofs.pending.Search.enter.Goals.{in-Key, in_default-matches}

pub returns-then-self-eq0-clause-finds : goal.returns-then-self-eq0-clause-finds
returns-then-self-eq0-clause-finds g c = λ _. finds-out _ _ _ _ _ c.requires.next c.if-self-eq0.true

pub returns-in_err-node-clause-finds : goal.returns-in_err-node-clause-finds
returns-in_err-node-clause-finds g c = absent_finds _ _ _ _ _ _ _ _ _ _ _ c.requires.next c.from_residual.ensures.1 (g.met.N.Records.untold _) c.in_err-node.ensures.fault

pub returns-then-matches-clause-finds : goal.returns-then-matches-clause-finds
returns-then-matches-clause-finds g c = λ _.
    finds-bare _ _ _ _ _ _ (row_of c.in_ok-node.node) c.requires.next c.in_ok-node.ensures.found
    (elim c.match-matches.branch [ in-Key w ↦ w.in-Key.is | in_default-matches w ↦ absurd (true_false (sym c.if-matches.true ∙ w.matches-is)) ]) c.in_default.is

pub returns-in_default-clause-finds : goal.returns-in_default-clause-finds
returns-in_default-clause-finds g c = λ outcome.
    finds-leaf _ _ _ _ (row_of c.in_ok-node.node) _ _ outcome c.requires.next (omega arith) c.in_ok-node.ensures.found c.in_ok-list.ensures c.in_default.is

pub returns-clause-read : goal.returns-clause-read
returns-clause-read g c =
    read-enter _ _ _ (row_of c.in_ok-node.node) _ _ c.requires.read c.in_ok-node.ensures.found
    (pushed_level _ _ _ _ _ _ c.in-Ok.ensures.items c.replace-level.ensures.value)

pub returns-clause-finds : goal.returns-clause-finds
returns-clause-finds g c = λ outcome.
    finds-enter _ _ _ _ (row_of c.in_ok-node.node) _ _ outcome c.requires.next (omega arith) c.in_ok-node.ensures.found c.in_ok-list.ensures _ _
    (pushed_level _ _ _ _ _ _ c.in-Ok.ensures.items c.replace-level.ensures.value)
    (marks_of _ _ _ c.replace-level.ensures.after c.in_ok-below.ensures.marks)
    (last_of_level _ _ _ c.replace-level.ensures.after c.in_ok-below.ensures.last)

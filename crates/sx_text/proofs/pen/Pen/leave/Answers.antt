use Rattle.std.proofs.Common.{sym, ◌∙◌}
use Rattle.sx_text.proofs.Writing.{writes-leave, writes-end, writes-bare, read-leave, none_left, true_false}
use Rattle.sx_text.proofs.pen.Pen.leave.Goals as goal
use Rattle.sx_text.proofs.pen.Pen.leave.Goals.{in-Key, in_default}

pub returns-then-matches-clause-writes : goal.returns-then-matches-clause-writes
returns-then-matches-clause-writes c = λ o _.
    writes-bare o _ _ _ c.requires.next c.if-not-self.true
    (elim c.match-matches.branch [ in-Key w ↦ w.in-Key.is | in_default w ↦ absurd (true_false (sym c.if-matches.true ∙ w.matches-is)) ])

pub returns-in_default-pop-clause-writes : goal.returns-in_default-pop-clause-writes
returns-in_default-pop-clause-writes c = λ o. writes-end o _ _ _ c.requires.next (none_left _ _ _ c.in_default-pop.ensures.cases.0 c.in_default-pop.ensures.rest c.in_default-pop.ensures.items) c.in_ok-append_closing.ensures.written

pub returns-clause-read : goal.returns-clause-read
returns-clause-read c = λ o read _. read-leave o _ _ _ read c.in-Some.ensures.items

pub returns-clause-writes : goal.returns-clause-writes
returns-clause-writes c = λ o outcome come. writes-leave o _ _ _ _ _ _ outcome c.requires.next c.in-Some.ensures.items c.in_ok-append_closing.ensures.written come

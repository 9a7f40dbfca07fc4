use Rattle.sx_view.specs.Rows.{row_of}
use Rattle.sx_text.proofs.Showing.{finish_damaged, no_document-empty, text_whole, visits_once}
use Rattle.sx_text.proofs.node_text.append_tree.Goals as goal

pub returns-then-count-eq0-clause-writes : goal.returns-then-count-eq0-clause-writes
returns-then-count-eq0-clause-writes g c = λ _. no_document-empty _ _ c.if-count-eq0.true

pub returns-in_err-finish-clause-writes : goal.returns-in_err-finish-clause-writes
returns-in_err-finish-clause-writes g c =
    finish_damaged _ _ _ _ (row_of c.args.node.now) _ _ _ _ c.from_residual-in_err-finish.ensures.1 c.requires.there c.new.ensures.items c.in_err-finish.ensures.writes

pub returns-clause-writes : goal.returns-clause-writes
returns-clause-writes g c = text_whole _ _ (row_of c.args.node.now) _ _ _ _ _ _ c.requires.there c.new.ensures.items c.in_ok-append_opening.ensures.written c.in_ok-finish.ensures.writes

pub returns-clause-once : goal.returns-clause-once
returns-clause-once g c = λ before first. visits_once _ _ (row_of c.args.node.now) _ _ _ _ _ _ _ _ c.requires.there c.new.ensures.items c.in_ok-finish.ensures.writes c.in_ok-finish.ensures.gets first

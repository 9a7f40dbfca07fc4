use Rattle.std.proofs.Common.{◌≡◌, ◌∙◌, Err, ap, refl, rules, sym}
use Rattle.sx_shell.proofs.StillReadings.{shown-damage}
use Rattle.sx_shell.proofs.StillTexts.{line-is, undamaged-text}
use Rattle.sx_shell.specs.declared.status.Status.TheVariants.{Damaged}
use Rattle.sx_store.specs.Shows.{names_in}
use Rattle.sx_shell.proofs.still_show.revision_line.Goals as goal

pub answer_line-requires : goal.answer_line-requires
answer_line-requires g c = c.in-Ok.ensures.texts 0 refl

pub returns-in-Ok-clause-line : goal.returns-in-Ok-clause-line
returns-in-Ok-clause-line g c = λ tells book shows.
    line-is (names_in c.args.ledger.now) book.commits c.args.revision c.in-Ok.answer c.answer_line.result shows.commits.0 (c.in-Ok.ensures.answers tells book shows) c.answer_line.ensures.line

pub returns-in-Err-clause-undamaged : goal.returns-in-Err-clause-undamaged
returns-in-Err-clause-undamaged g c = λ tells book shows damage is.
    undamaged-text (names_in c.args.ledger.now) book.commits c.args.revision c.in-Err.fault damage shows.commits.0 (c.in-Err.ensures.answers tells book shows) (sym c.unanswered_status.ensures ∙ is)

pub returns-in-Err-clause-damaged : goal.returns-in-Err-clause-damaged
returns-in-Err-clause-damaged g c = λ damage is.
    let there = c.in-Err.ensures in
    let same_status : c.unanswered_status.result ≡ Damaged damage = cc is in
    shown-damage g.S.Spot (g.E.ReadEnd.tells c.args.end.now) c.args.ledger.now c.args.revision damage c.in-Err.fault (search rules) (λ d same. there.damaged d (ap Err same))
    (λ node same. (there.no_node node (ap Err same), there.absent node (ap Err same))) (λ path same. cc (there.no_path path (ap Err same))) (sym c.unanswered_status.ensures ∙ same_status)

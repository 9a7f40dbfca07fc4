use Rattle.std.proofs.Common.{◌∙◌, None, Some}
use Rattle.sx_root.proofs.Again.{read_again}
use Rattle.sx_root.proofs.root.RevisionRoot.read.Goals as goal

pub returns-in_err-root-clause-again : goal.returns-in_err-root-clause-again
returns-in_err-root-clause-again c = λ root rest is same.
    absurd (let got = read_again c.new-ahead.result c.args.fields.now None root rest c.in_err-root.ensures.read is (c.new-ahead.ensures ∙ c.rest.ensures ∙ same) in cc got.0)

pub returns-clause-again : goal.returns-clause-again
returns-clause-again c = λ root rest is same.
    read_again c.new-ahead.result c.read_fields.new.fields (Some c.in_ok-root.root) root rest c.in_ok-root.ensures.read is (c.new-ahead.ensures ∙ c.rest.ensures ∙ same)

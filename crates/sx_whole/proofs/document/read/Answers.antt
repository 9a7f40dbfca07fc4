use Rattle.std.proofs.Common.{Some}
use Rattle.sx_view.specs.Slots.{held}
use Rattle.sx_whole.specs.Body.{listed, rows_of}
use Rattle.sx_whole.specs.declared.document.Document.{Document}
use Rattle.sx_whole.proofs.OneBody.{read_again}
use Rattle.sx_whole.proofs.document.read.Goals as goal

pub returns-clause-again : goal.returns-clause-again
returns-clause-again c =
    read_again (λ (d : Document). listed (Some (held d.nodes.slots.entries))) (λ (d : Document). rows_of (Some (held d.paths.slots.entries))) c.args.place c.args.body.now c.read_document.result
    c.read_document.ensures.found c.read_document.ensures.whole c.read_document.ensures.fault

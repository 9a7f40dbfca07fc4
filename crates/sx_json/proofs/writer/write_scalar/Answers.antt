use Rattle.sx_json.proofs.Growing.{on_ok}
use Rattle.sx_tree.proofs.NumberTexts.{number_known}
use Rattle.sx_json.proofs.writer.write_scalar.Goals as goal

pub returns-in-Number-clause-limits : goal.returns-in-Number-clause-limits
returns-in-Number-clause-limits c =
    rw c.in-Number.is (on_ok _ c.extend_from_slice.result (number_known _ c.as_bytes-in-Number.ensures.number, c.as_bytes-in-Number.ensures.short))

use Rattle.sx_model.proofs.Spelled.{text_spelled}
use Rattle.sx_json.proofs.Growing.{on_ok}
use Rattle.sx_json.proofs.writer.write.Goals as goal

pub returns-clause-read_back : goal.returns-clause-read_back
returns-clause-read_back c = on_ok _ c.extend_from_slice.result (text_spelled _ c.in_ok-write_value.ensures.limits)

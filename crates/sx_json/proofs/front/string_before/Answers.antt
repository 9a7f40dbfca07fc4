use Rattle.sx_json.proofs.Fronts.{front_extends}
use Rattle.sx_json.proofs.StringTexts.{cut_known}
use Rattle.sx_json.proofs.front.string_before.Goals as goal

pub returns-in-Ok-clause-ok : goal.returns-in-Ok-clause-ok
returns-in-Ok-clause-ok c = front_extends c.args.text.now c.in-Ok.found.0 c.in-Ok.found.1 c.args.valid c.in-Ok.ensures.ok

pub returns-in-Err-clause-fault : goal.returns-in-Err-clause-fault
returns-in-Err-clause-fault c = rw c.at_cut.ensures (cut_known c.args.text.now c.args.valid c.in-Err.fault c.requires.utf8 c.requires.valid (c.in-Err.ensures.fault c.requires.valid.front))

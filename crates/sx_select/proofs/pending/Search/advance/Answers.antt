use Rattle.sx_select.proofs.pending.Search.advance.Goals as goal

pub returns-in-None-clause-read : goal.returns-in-None-clause-read
returns-in-None-clause-read g c = c.leave.ensures.read _ c.requires.read

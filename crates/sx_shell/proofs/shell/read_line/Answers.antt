use Rattle.std.proofs.Common.{inl}
use Rattle.sx_shell.proofs.EndFaults.{ends_same}
use Rattle.sx_shell.proofs.shell.read_line.Goals as goal

pub returns-in-Ok-clause-read : goal.returns-in-Ok-clause-read
returns-in-Ok-clause-read g c = λ birth course at. inl (c.in-Ok.said, c.in-Ok.ensures.says, c.serve.ensures.served birth course at)

pub returns-in-Err-clause-ends : goal.returns-in-Err-clause-ends
returns-in-Err-clause-ends g c = ends_same g.V.End.ReadEnd c.args.ends.now

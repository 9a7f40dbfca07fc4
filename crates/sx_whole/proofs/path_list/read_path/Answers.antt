use Rattle.std.proofs.Common.{refl}
use Rattle.sx_whole.proofs.PathsRead.{no_path}
use Rattle.sx_whole.proofs.path_list.read_path.Goals as goal

pub returns-in-None-clause-fault : goal.returns-in-None-clause-fault
returns-in-None-clause-fault c = rw c.broken_record.ensures (no_path c.args.fields.now (rw c.in-None.is at c.in_ok-path.ensures.none), refl)

use Rattle.std.proofs.Common.{None, Some, ap}
use Rattle.sx_view.proofs.SlotLemmas.{held-updated}
use Rattle.sx_view.proofs.mem_records.MemRecordsRecordsMut.drop_record.Goals as goal

pub returns-in-None-clause-ok : goal.returns-in-None-clause-ok
returns-in-None-clause-ok g c = ap Some (held-updated c.args.self.now.slots c.remove.new.self c.args.k None c.remove.ensures.updates.0)

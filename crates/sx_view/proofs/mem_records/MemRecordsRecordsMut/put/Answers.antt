use Rattle.std.proofs.Common.{Some, ap}
use Rattle.sx_view.proofs.SlotLemmas.{held-updated}
use Rattle.sx_view.proofs.mem_records.MemRecordsRecordsMut.put.Goals as goal

pub returns-in_ok-insert-in-None-clause-ok : goal.returns-in_ok-insert-in-None-clause-ok
returns-in_ok-insert-in-None-clause-ok g c =
    ap Some (held-updated c.args.self.now.slots c.insert.new.self c.args.k (Some (Some c.args.value)) c.in_ok-insert-in-None.ensures.updates.0)

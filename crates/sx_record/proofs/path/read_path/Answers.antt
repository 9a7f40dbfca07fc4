use Rattle.sx_record.proofs.OneByOne.{read_path}
use Rattle.sx_record.proofs.path.read_path.Goals as goal

pub returns-clause-written : goal.returns-clause-written
returns-clause-written c =
    read_path (record { parent = c.in_ok-parent.parent; step = c.in_ok-step.step; count = c.in_ok-count.count; name = c.in_ok-name.name.now })
    c.args.fields.now c.u32.new.self c.u8.new.self c.u32-2.new.self c.read_text.new.fields c.in_ok-parent.ensures.written c.in_ok-step.ensures.written c.in_ok-count.ensures.written c.in_ok-name.ensures.written

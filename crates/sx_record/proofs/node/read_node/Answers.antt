use Rattle.sx_record.proofs.OneByOne.{read_node}
use Rattle.sx_record.proofs.node.read_node.Goals as goal

pub returns-clause-written : goal.returns-clause-written
returns-clause-written c =
    read_node (record { kind = c.in_ok-kind.kind; parent = c.in_ok-parent.parent; left = c.in_ok-left.left; right = c.in_ok-right.right; first = c.in_ok-first.first; last = c.in_ok-last.last; children = c.in_ok-children.children; descendants = c.in_ok-descendants.descendants; hash = c.in_ok-hash.hash; path = c.in_ok-path.path; label = c.in_ok-label.label.now })
    c.args.fields.now c.u8.new.self c.u32.new.self c.u32-2.new.self c.u32-3.new.self c.u32-4.new.self c.u32-5.new.self c.u32-6.new.self c.u32-7.new.self c.u128.new.self c.u32-8.new.self c.read_text.new.fields
    c.in_ok-kind.ensures.written c.in_ok-parent.ensures.written c.in_ok-left.ensures.written c.in_ok-right.ensures.written c.in_ok-first.ensures.written c.in_ok-last.ensures.written c.in_ok-children.ensures.written c.in_ok-descendants.ensures.written c.in_ok-hash.ensures.written c.in_ok-path.ensures.written c.in_ok-label.ensures.written

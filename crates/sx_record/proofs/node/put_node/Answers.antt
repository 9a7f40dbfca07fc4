use Rattle.sx_record.specs.Given.{given_node}
use Rattle.sx_record.specs.Spelling.{node_bytes}
use Rattle.sx_record.proofs.Extends.{front_append}
use Rattle.sx_record.proofs.OneByOne.{put_node, front_node}
use Rattle.sx_record.proofs.node.put_node.Goals as goal

pub returns-in_err-put_text-clause-front : goal.returns-in_err-put_text-clause-front
returns-in_err-put_text-clause-front c =
    front_node (given_node c.args.given.now) c.args.out.now c.u8.new.self c.u32.new.self c.u32-2.new.self c.u32-3.new.self c.u32-4.new.self c.u32-5.new.self c.u32-6.new.self c.u32-7.new.self c.u128.new.self c.u32-8.new.self c.put_text.new.out
    c.in_ok-u8.ensures.ok c.in_ok-u32.ensures.ok c.in_ok-u32-2.ensures.ok c.in_ok-u32-3.ensures.ok c.in_ok-u32-4.ensures.ok c.in_ok-u32-5.ensures.ok c.in_ok-u32-6.ensures.ok c.in_ok-u32-7.ensures.ok c.in_ok-u128.ensures.ok c.in_ok-u32-8.ensures.ok c.in_err-put_text.ensures.front

pub returns-clause-ok : goal.returns-clause-ok
returns-clause-ok c =
    put_node (given_node c.args.given.now) c.args.out.now c.u8.new.self c.u32.new.self c.u32-2.new.self c.u32-3.new.self c.u32-4.new.self c.u32-5.new.self c.u32-6.new.self c.u32-7.new.self c.u128.new.self c.u32-8.new.self c.put_text.new.out
    c.in_ok-u8.ensures.ok c.in_ok-u32.ensures.ok c.in_ok-u32-2.ensures.ok c.in_ok-u32-3.ensures.ok c.in_ok-u32-4.ensures.ok c.in_ok-u32-5.ensures.ok c.in_ok-u32-6.ensures.ok c.in_ok-u32-7.ensures.ok c.in_ok-u128.ensures.ok c.in_ok-u32-8.ensures.ok c.in_ok-put_text.ensures.ok

pub returns-clause-front : goal.returns-clause-front
returns-clause-front c =
    front_append c.args.out.now (node_bytes (given_node c.args.given.now)) c.put_text.new.out (put_node (given_node c.args.given.now) c.args.out.now c.u8.new.self c.u32.new.self c.u32-2.new.self c.u32-3.new.self c.u32-4.new.self c.u32-5.new.self c.u32-6.new.self c.u32-7.new.self c.u128.new.self c.u32-8.new.self c.put_text.new.out
    c.in_ok-u8.ensures.ok c.in_ok-u32.ensures.ok c.in_ok-u32-2.ensures.ok c.in_ok-u32-3.ensures.ok c.in_ok-u32-4.ensures.ok c.in_ok-u32-5.ensures.ok c.in_ok-u32-6.ensures.ok c.in_ok-u32-7.ensures.ok c.in_ok-u128.ensures.ok c.in_ok-u32-8.ensures.ok c.in_ok-put_text.ensures.ok)

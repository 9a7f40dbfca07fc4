use Rattle.sx_record.specs.Given.{given_path}
use Rattle.sx_record.proofs.OneByOne.{put_path}
use Rattle.sx_record.proofs.path.put_path.Goals as goal

pub returns-clause-ok : goal.returns-clause-ok
returns-clause-ok c =
    put_path (given_path c.args.given.now) c.args.out.now c.u32.new.self c.u8.new.self c.u32-2.new.self c.put_text.new.out c.in_ok-u32.ensures.ok c.in_ok-u8.ensures.ok c.in_ok-u32-2.ensures.ok c.in_ok-put_text.ensures.ok

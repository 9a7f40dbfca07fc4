use Rattle.std.specs.Int.{w32, to_be_bytes}
use Rattle.std.proofs.Common.{length}
use Rattle.sx_paths.specs.Table.{row_of}
use Rattle.sx_whole.specs.Body.{IsRow, path_entry}
use Rattle.sx_whole.proofs.Written.{all_more, put_more, row_there}
use Rattle.sx_whole.proofs.writing.put_paths.Goals as goal

pub loop-before-preserved : goal.loop-before-preserved
loop-before-preserved c =
    let rows = c.args.paths.now.paths in
    let there = row_there rows c.loop-before.before (row_of c.in-Some.path.now) c.in-Some.ensures in
    record {
      out_is = put_more path_entry c.args.out.now (to_be_bytes w32 (length rows)) c.loop-before.out c.encode.new.out rows c.loop-before.before (row_of c.in-Some.path.now) there c.loop-before.invariant.out_is c.in_ok-encode.ensures.ok;
      known = all_more IsRow rows c.loop-before.before (row_of c.in-Some.path.now) there c.loop-before.invariant.known (c.in-Some.path.now.parent_fits, c.in-Some.path.now.count_fits, c.in_ok-encode.ensures.known);
    }

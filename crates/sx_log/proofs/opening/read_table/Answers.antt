use Rattle.sx_log.proofs.GroupRead.{all_rows, row_read, rows-append}
use Rattle.sx_log.proofs.opening.read_table.Goals as goal
use Rattle.std.proofs.Common.{◌∙◌, ◌++◌, List, ap, subst, sym}
use Rattle.sx_frame.specs.declared.table.FrameRow.{FrameRow}
use Rattle.sx_layout.specs.FrameGroup.{AreRows, table_bytes}

pub loop-row-preserved : goal.loop-row-preserved
loop-row-preserved c = record {
  so_far = row_read c.args.bytes.now c.loop-row.fields c.next_row.new.fields c.loop-row.table c.in-Some.row c.loop-row.invariant.so_far c.in-Some.ensures.written.1
      ∙ ap (λ (t : List FrameRow). table_bytes t ++ c.next_row.new.fields) (sym c.in_ok-push.ensures.ok);
  rows = subst AreRows (sym c.in_ok-push.ensures.ok) (rows-append c.loop-row.table c.in-Some.row c.loop-row.invariant.rows c.in-Some.ensures.written.0);
}

pub returns-clause-count : goal.returns-clause-count
returns-clause-count c = all_rows c.args.bytes.now c.loop-row.fields c.loop-row.table c.args.frames c.requires c.loop-row.invariant.so_far c.loop-row.invariant.rows c.in_default.ensures.none

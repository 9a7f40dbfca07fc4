use Rattle.std.proofs.Common.{◌≡◌, length}
use Rattle.std.specs.Prelude.{option_map}
use Rattle.sx_edit.specs.Seen.{with_records}
use Rattle.sx_edit.specs.Steps.{GoesOn}
use Rattle.sx_edit.proofs.reads.write_all.Given as goal

abbrev pub invariant-loop-seen : goal.invariant-loop-seen
invariant-loop-seen g l =
    let told = g.N.Records.told in
    record {
      writes : option_map (with_records l.left.items) (told l.nodes) ≡ option_map (with_records l.fn.left.items) (told l.fn.nodes);
      same_gets : g.N.Records.gets l.nodes ≡ g.N.Records.gets l.fn.nodes;
      goes_on : GoesOn told g.N.Records.faults g.N.Records.damages g.N.RecordsMut.has_mark g.N.RecordsMut.marks l.fn.nodes l.nodes;
    }

abbrev pub decreases-loop-seen : goal.decreases-loop-seen
decreases-loop-seen g l = length l.left.items

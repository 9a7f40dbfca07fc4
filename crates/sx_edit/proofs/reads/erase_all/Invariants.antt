use Rattle.std.proofs.Common.{◌≡◌, length}
use Rattle.std.specs.Prelude.{option_map}
use Rattle.sx_edit.specs.Seen.{without}
use Rattle.sx_edit.specs.Steps.{GoesOn}
use Rattle.sx_edit.proofs.reads.erase_all.Given as goal

abbrev pub invariant-loop-node : goal.invariant-loop-node
invariant-loop-node g l =
    let told = g.N.Records.told in
    record {
      erases : option_map (without l.left.items) (told l.nodes) ≡ option_map (without l.fn.left.items) (told l.fn.nodes);
      same_gets : g.N.Records.gets l.nodes ≡ g.N.Records.gets l.fn.nodes;
      goes_on : GoesOn told g.N.Records.faults g.N.Records.damages g.N.RecordsMut.has_mark g.N.RecordsMut.marks l.fn.nodes l.nodes;
    }

abbrev pub decreases-loop-node : goal.decreases-loop-node
decreases-loop-node g l = length l.left.items

use Rattle.std.proofs.Common.{◌≡◌, Option, length}
use Rattle.sx_tree.specs.declared.record.NodeRecord.{NodeRecord}
use Rattle.sx_view.specs.Records.{RecordMap}
use Rattle.sx_edit.specs.Damage.{Reach}
use Rattle.sx_edit.specs.Seen.{AreCounted, upward}
use Rattle.sx_edit.specs.Steps.{GoesOn}
use Rattle.sx_edit.specs.Told.{CannotLift, IsLifted}
use Rattle.sx_edit.proofs.lift.lift.Given as goal

-- what is left to lift is all that is left to show
abbrev pub invariant-loop-seen : goal.invariant-loop-seen
invariant-loop-seen g l =
    let told = g.N.Records.told in
    let plus = l.fn.shift.plus in
    let minus = l.fn.shift.minus in
    record {
      lifts : (last : Option (RecordMap NodeRecord)) → IsLifted (upward l.left.items) plus minus l.share (told l.nodes) last → IsLifted (upward l.fn.left.items) plus minus l.fn.shift.hash (told l.fn.nodes) last;
      cannot : CannotLift (upward l.left.items) plus minus → CannotLift (upward l.fn.left.items) plus minus;
      counted : (o : Option (RecordMap NodeRecord)) (reach : Reach) → AreCounted o reach minus l.fn.left.items → AreCounted o reach minus l.left.items;
      same_gets : g.N.Records.gets l.nodes ≡ g.N.Records.gets l.fn.nodes;
      goes_on : GoesOn told g.N.Records.faults g.N.Records.damages g.N.RecordsMut.has_mark g.N.RecordsMut.marks l.fn.nodes l.nodes;
    }

abbrev pub decreases-loop-seen : goal.decreases-loop-seen
decreases-loop-seen g l = length l.left.items

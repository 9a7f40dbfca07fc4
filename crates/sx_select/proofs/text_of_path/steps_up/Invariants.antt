use Rattle.std.proofs.Common.{◌≡◌, ◌+◌, ◌≤◌, length}
use Rattle.sx_select.specs.Climb.{ClimbsFrom}
use Rattle.sx_select.proofs.text_of_path.steps_up.Given as goal

abbrev pub invariant-loop-at : goal.invariant-loop-at
invariant-loop-at g l =
    let told = g.P.Records.told l.fn.records in
    record {
      climbs : ClimbsFrom told l.fn.p l.steps.items l.at;
      gets : g.P.Records.gets l.records + l.at ≤ g.P.Records.gets l.fn.records + l.fn.found.parent;
      once : g.P.Records.gets l.records + 1 ≤ g.P.Records.gets l.fn.records + length l.steps.items;
      never_falls : g.P.Records.faults l.fn.records ≤ g.P.Records.faults l.records;
      keeps : g.P.Records.keeps l.fn.records l.records;
      same : g.P.Records.told l.records ≡ told;
    }

abbrev pub decreases-loop-at : goal.decreases-loop-at
decreases-loop-at g l = l.at

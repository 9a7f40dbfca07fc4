use Rattle.std.proofs.Common.{◌≡◌, ◌+◌, ◌≤◌}
use Rattle.sx_valid.specs.Fields.{IsReadOn, Looks, Outcome}
use Rattle.sx_valid.proofs.fields.Look.finish.Given as goal

-- what comes from the place reached comes of the whole
abbrev pub invariant-loop : goal.invariant-loop
invariant-loop g l =
    let told = g.N.Records.told l.fn.records in
    record {
      same : g.N.Records.told l.records ≡ told;
      keeps : g.N.Records.keeps l.fn.records l.records;
      never_falls : g.N.Records.faults l.fn.records ≤ g.N.Records.faults l.records;
      gets : g.N.Records.gets l.records + l.look.left ≤ g.N.Records.gets l.fn.records + l.fn.self.left;
      read : IsReadOn told l.look;
      looks : (outcome : Outcome) → Looks told l.fn.asked l.look outcome → Looks told l.fn.asked l.fn.self outcome;
    }

abbrev pub decreases-loop : goal.decreases-loop
decreases-loop g l = l.look.left

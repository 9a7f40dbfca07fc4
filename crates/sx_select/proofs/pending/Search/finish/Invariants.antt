use Rattle.std.proofs.Common.{◌≡◌, ◌+◌, ◌≤◌, length}
use Rattle.sx_select.specs.Search.{IsRead, Outcome, Finds}
use Rattle.sx_select.proofs.pending.Search.finish.Given as goal

-- what comes from the place reached comes of the whole
abbrev pub invariant-loop-search : goal.invariant-loop-search
invariant-loop-search g l =
    let told = g.N.Records.told l.fn.records in
    record {
      same : g.N.Records.told l.records ≡ told;
      keeps : g.N.Records.keeps l.fn.records l.records;
      never_falls : g.N.Records.faults l.fn.records ≤ g.N.Records.faults l.records;
      gets : g.N.Records.gets l.records + l.search.left ≤ g.N.Records.gets l.fn.records + l.fn.self.left;
      read : IsRead told l.search;
      finds : (outcome : Outcome) → Finds l.steps told l.search l.out outcome → Finds l.steps told l.fn.self l.fn.out outcome;
    }

abbrev pub decreases-loop-search : goal.decreases-loop-search
decreases-loop-search g l = l.search.left + l.search.left + length l.search.outer.items

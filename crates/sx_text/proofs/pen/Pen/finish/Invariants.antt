use Rattle.std.proofs.Common.{◌≡◌, ◌+◌, ◌≤◌, length, take}
use Rattle.sx_text.specs.Pen.{IsRead, Outcome, Writes}
use Rattle.sx_text.proofs.pen.Pen.finish.Given as goal

-- what comes from the place reached comes of the whole
abbrev pub invariant-loop-pen : goal.invariant-loop-pen
invariant-loop-pen g l =
    let told = g.N.Records.told l.fn.records in
    record {
      same : g.N.Records.told l.records ≡ told;
      keeps : g.N.Records.keeps l.fn.records l.records;
      never_falls : g.N.Records.faults l.fn.records ≤ g.N.Records.faults l.records;
      begins : take (length l.fn.out) l.out ≡ l.fn.out;
      gets : g.N.Records.gets l.records + l.pen.left ≤ g.N.Records.gets l.fn.records + l.fn.self.left;
      read : IsRead told l.pen;
      writes : (outcome : Outcome) → Writes told l.pen l.out outcome → Writes told l.fn.self l.fn.out outcome;
    }

abbrev pub decreases-loop-pen : goal.decreases-loop-pen
decreases-loop-pen g l = l.pen.left + l.pen.left + length l.pen.outer.items

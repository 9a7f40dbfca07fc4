use Rattle.std.proofs.Common.{◌≡◌, ◌+◌, ◌≤◌}
use Rattle.sx_valid.specs.Survey.{AreLinked, Outcome, Searches}
use Rattle.sx_valid.proofs.survey.Survey.finish.Given as goal

-- what comes from the place reached comes of the whole
abbrev pub invariant-loop-survey : goal.invariant-loop-survey
invariant-loop-survey g l =
    let told = g.N.Records.told l.fn.records in
    record {
      same : g.N.Records.told l.records ≡ told;
      keeps : g.N.Records.keeps l.fn.records l.records;
      never_falls : g.N.Records.faults l.fn.records ≤ g.N.Records.faults l.records;
      gets : g.N.Records.gets l.records + (l.survey.left + l.survey.looks) ≤ g.N.Records.gets l.fn.records + (l.fn.self.left + l.fn.self.looks);
      linked : AreLinked told l.survey.pending.items;
      goes : (outcome : Outcome) → Searches told l.fn.asked l.survey outcome → Searches told l.fn.asked l.fn.self outcome;
    }

abbrev pub decreases-loop-survey : goal.decreases-loop-survey
decreases-loop-survey g l = l.survey.left

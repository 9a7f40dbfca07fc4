use Rattle.std.proofs.Common.{◌≡◌, ◌+◌, ◌≤◌, []}
use Rattle.sx_axes.specs.Broken.{IsReady}
use Rattle.sx_axes.specs.Course.{HasEnded, reads_left}
use Rattle.sx_axes.specs.Gives.{Passes}
use Rattle.sx_axes.proofs.course.Course.follow.Given as goal

-- what is left of the course reached is left of the whole
abbrev pub invariant-loop-number : goal.invariant-loop-number
invariant-loop-number g l =
    let told = g.N.Records.told l.fn.records in
    record {
      same : g.N.Records.told l.records ≡ told;
      keeps : g.N.Records.keeps l.fn.records l.records;
      never_falls : g.N.Records.faults l.fn.records ≤ g.N.Records.faults l.records;
      reads : g.N.Records.gets l.records + reads_left l.self ≤ g.N.Records.gets l.fn.records + reads_left l.fn.self;
      less : reads_left l.self ≤ reads_left l.fn.self;
      axis : l.self.axis ≡ l.fn.self.axis;
      count : l.self.count ≡ l.fn.self.count;
      ready : IsReady told l.self;
      ended : HasEnded l.fn.self → HasEnded l.self;
      passes : Passes told l.fn.self [] l.self;
    }

abbrev pub decreases-loop-number : goal.decreases-loop-number
decreases-loop-number g l = reads_left l.self

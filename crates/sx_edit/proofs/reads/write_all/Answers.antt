use Rattle.std.proofs.Common.{◌≡◌, ◌∙◌, [], ap, refl, rules, sym}
use Rattle.std.specs.Prelude.{option_map}
use Rattle.sx_edit.specs.Seen.{with_records}
use Rattle.sx_edit.proofs.Going.{goes_itself, goes_then}
use Rattle.sx_edit.proofs.Batching.{with-last, with-none}
use Rattle.sx_edit.proofs.reads.write_all.Goals as goal

pub loop-seen-init : goal.loop-seen-init
loop-seen-init g c = record { writes = refl; same_gets = refl; goes_on = goes_itself g.N.Records.told g.N.Records.faults g.N.Records.damages g.N.RecordsMut.has_mark g.N.RecordsMut.marks c.args.nodes.now }

pub loop-seen-preserved : goal.loop-seen-preserved
loop-seen-preserved g c =
    let inv = c.loop-seen.invariant in
    record {
      writes = ap (option_map (with_records c.pop.new.self.items)) c.in_ok-write.ensures.ok ∙ with-last c.pop.new.self.items c.in-Some.seen (g.N.Records.told c.loop-seen.nodes)
          ∙ ap (λ l. option_map (with_records l) (g.N.Records.told c.loop-seen.nodes)) (sym c.in-Some.ensures.items) ∙ inv.writes;
      same_gets = c.in_ok-write.ensures.same_gets ∙ inv.same_gets;
      goes_on = goes_then g.N.Records.told g.N.Records.faults g.N.Records.damages g.N.RecordsMut.has_mark g.N.RecordsMut.marks _ _ _ inv.goes_on c.in_ok-write.ensures.goes_on;
    }

pub returns-clause-ok : goal.returns-clause-ok
returns-clause-ok g c =
    let none : c.loop-seen.left.items ≡ [] = search rules in
    with-none _ _ none ∙ c.loop-seen.invariant.writes
